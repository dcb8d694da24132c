-- A walk has the constraints of a derivation, and its places are the ends of that.
use Rattle.std.proofs.Common.{◌≡◌, ℕ, zero, suc, ◌+◌, max, Bool, true, false, if◌then◌else◌, ◌&&◌, nat_le, List, [], ◌∷◌, ◌++◌, map, fold, Option, None, Some, option_and_then, refl, sym, ◌∙◌, ap, arith}
use Rattle.lucid_base.specs.declared.array.ArrayName.{ArrayName}
use Rattle.lucid_core.specs.declared.body.Stmt.{Stmt}
use Rattle.lucid_core.specs.declared.defs.FunDef.{FunDef}
use Rattle.lucid_core.proofs.Pairwise.{Pairwise, one_more}
use Rattle.lucid_constraints.specs.Laws.{PairsKeepMeaning, through}
use Rattle.lucid_constraints.specs.Means.{allow_all, greatest, read}
use Rattle.lucid_constraints.specs.Substitution.{pair, needs_from, ends_from}
use Rattle.lucid_constraints.proofs.LawProofs.{pairs_keep_meaning}
use Rattle.lucid_effects_spec.specs.Ends as o
use Rattle.lucid_effects_spec.specs.Ends.{End, FunEnd, Numbering, body_end, ends, ends_of}
use Rattle.lucid_effects_spec.proofs.Walks.{bodies_relate}
use Rattle.lucid_effects_spec.specs.declared.scheme.Scheme.{Scheme}
use Rattle.lucid_effects_spec.specs.Principal.{IsPrincipal}
use Rattle.lucid_effects_spec.specs.Schemes as v
use Rattle.lucid_effects_spec.specs.Schemes.{Advance, Walked, begun, body_found, either, finds, scheme, scheme_of, schemes_of, visit}

abbrev pub place : Numbering → ℕ → Walked → Option ℕ
place N c w = read N c w.needs w.ends

abbrev pub Reads : Scheme → FunEnd → Type 0
Reads s g = (N : Numbering) (c : ℕ) → read N c s.needs s.ends ≡ g N c

stays : (x : Option ℕ) → x ≡ option_and_then (λ c. Some c) x
stays None = refl
stays (Some c) = refl

then_then : (f g : ℕ → Option ℕ) (x : Option ℕ) → option_and_then g (option_and_then f x) ≡ option_and_then (λ c. option_and_then g (f c)) x
then_then f g None = refl
then_then f g (Some c) = refl

-- All places come before the array.
passed : (b l : Bool) (g a : ℕ) → l ≡ nat_le g a → (if b && l then Some (max (a + 1) 0) else None) ≡ option_and_then (λ c. if nat_le c a then Some (a + 1) else None) (if b then Some g else None)
passed true l g a e = let m : max (a + 1) 0 ≡ a + 1 = omega arith in ap (λ (t : Bool). if t then Some (max (a + 1) 0) else None) e ∙ ap (λ k. if nat_le g a then Some k else None) m
passed false l g a e = refl

-- The second branch's needs come after the first's.
larger_of : (a l r : Bool) (gw gl gr : ℕ) (F G : ℕ → Option ℕ) → (if l then Some gl else None) ≡ option_and_then F (if a then Some gw else None) → (if r then Some gr else None) ≡ option_and_then G (if l then Some gw else None) →
    (if r then Some (max gl gr) else None) ≡ option_and_then (λ c. option_and_then (λ d. option_and_then (λ e. Some (max d e)) (G c)) (F c)) (if a then Some gw else None)
larger_of true true true gw gl gr F G h k = rw (sym h) (rw (sym k) refl)
larger_of true true false gw gl gr F G h k = rw (sym h) (rw (sym k) refl)
larger_of true false true gw gl gr F G h k = cc
larger_of true false false gw gl gr F G h k = rw (sym h) refl
larger_of false true r gw gl gr F G h k = cc
larger_of false false true gw gl gr F G h k = cc
larger_of false false false gw gl gr F G h k = refl

-- The callee's numbering is the caller's at the caller's form of its names.
called : (b : Bool) (g : ℕ) (holds : Bool) (end : ℕ) (f : ℕ → Option ℕ) → (if holds then Some end else None) ≡ f g → (if b && holds then Some end else None) ≡ option_and_then f (if b then Some g else None)
called true g holds end f e = e
called false g holds end f e = refl

abbrev pub Carries : List Scheme → List FunEnd → Advance → End → Type 0
Carries fs gs act end = (N : Numbering) (c : ℕ) (w : Walked) → place N c (act fs w) ≡ option_and_then (end gs N) (place N c w)

keep : PairsKeepMeaning
keep = pairs_keep_meaning

module _ (fs : List Scheme) (gs : List FunEnd) where
  in_turn : (f g : Advance) (F G : End) → Carries fs gs f F → Carries fs gs g G → Carries fs gs (finds.in_turn f g) (ends.in_turn F G)
  in_turn f g F G h k N c w = k N c (f fs w) ∙ ap (option_and_then (G gs N)) (h N c w) ∙ then_then (F gs N) (G gs N) (place N c w)

  branches : (f g : Advance) (F G : End) → Carries fs gs f F → Carries fs gs g G → Carries fs gs (either f g) (o.larger F G)
  branches f g F G h k N c w =
      let left : Walked = f fs w in
      let right : Walked = g fs (record left { ends = w.ends }) in
      ap (λ m. if allow_all N c right.needs then Some m else None) (keep.joined_ends N c left.ends right.ends)
      ∙ larger_of (allow_all N c w.needs) (allow_all N c left.needs) (allow_all N c right.needs) (greatest N c w.ends) (greatest N c left.ends) (greatest N c right.ends) (F gs N) (G gs N) (h N c w) (k N c (record left { ends = w.ends }))

  array : (a : ArrayName) → Carries fs gs (v.passes a) (o.passes a)
  array a N c w =
      ap (λ (b : Bool). if b then Some (max (N a + 1) 0) else None) (keep.joined_pairs N c w.needs (map (pair a) w.ends))
      ∙ passed (allow_all N c w.needs) (allow_all N c (map (pair a) w.ends)) (greatest N c w.ends) (N a) (keep.before_array N c a w.ends)

function : (fs : List Scheme) (gs : List FunEnd) → Pairwise Reads fs gs → (k : ℕ) (names : List ArrayName) → Carries fs gs (v.goes_through k names) (o.goes_through k names)
function [] [] h k names N c w = stays (place N c w)
function [] (g ∷ gs) h k names N c w = absurd h
function (f ∷ fs) [] h k names N c w = absurd h
function (f ∷ fs) (g ∷ gs) h (suc k) names N c w = function fs gs h.1 k names N c w
function (f ∷ fs) (g ∷ gs) h zero names N c w =
    let M : Numbering = through names N in
    let at : ℕ = greatest N c w.ends in
    let needs = keep.joined_pairs N c w.needs (needs_from names w.ends [] f.needs) ∙ ap (λ b. allow_all N c w.needs && b) (keep.called_pairs N c names w.ends f.needs) in
    ap (λ (b : Bool). if b then Some (greatest N c (ends_from names w.ends [] f.ends)) else None) needs
    ∙ ap (λ m. if allow_all N c w.needs && allow_all M at f.needs then Some m else None) (keep.called_ends N c names w.ends f.ends)
    ∙ called (allow_all N c w.needs) at (allow_all M at f.needs) (greatest M at f.ends) (g M) (h.0 M at)

pub body_carries : (fs : List Scheme) (gs : List FunEnd) → Pairwise Reads fs gs → (body : List Stmt) → Carries fs gs (body_found body) (body_end body)
body_carries fs gs h = bodies_relate finds ends (Carries fs gs) (λ N c w. stays (place N c w)) (in_turn fs gs) (branches fs gs) (array fs gs) (λ k names. function fs gs h k names) (λ f F carries N c w. carries N c (visit w))

pub body_reads : (fs : List Scheme) (gs : List FunEnd) → Pairwise Reads fs gs → (body : List Stmt) → Reads (scheme_of fs body) (body_end body gs)
body_reads fs gs h body N c = body_carries fs gs h body N c (begun 0) ∙ ap (body_end body gs N) (let m : max c 0 ≡ c = omega arith in m)

-- Of functions, each behind those before it.
funs_read : (fs : List Scheme) (gs : List FunEnd) (funs : List FunDef) → Pairwise Reads fs gs →
    Pairwise Reads (fold (λ before f. before ++ scheme_of before f.body ∷ []) fs funs) (fold (λ before f. before ++ body_end f.body before ∷ []) gs funs)
funs_read fs gs [] h = h
funs_read fs gs (f ∷ funs) h = funs_read (fs ++ scheme_of fs f.body ∷ []) (gs ++ body_end f.body gs ∷ []) funs (one_more Reads fs gs (scheme_of fs f.body) (body_end f.body gs) h (body_reads fs gs h f.body))

pub reads : (funs : List FunDef) (body : List Stmt) → Reads (scheme_of (schemes_of funs) body) (body_end body (ends_of funs))
reads funs body = body_reads (schemes_of funs) (ends_of funs) (funs_read [] [] funs tt) body

split : (b : Bool) (g d : ℕ) → (if b then Some g else None) ≡ Some d → (b ≡ true) × (g ≡ d)
split true g d h = (refl, cc)
split false g d h = cc

pub principal : (funs : List FunDef) (body : List Stmt) → IsPrincipal funs body (scheme_of (schemes_of funs) body)
principal funs body N c d =
    let s = scheme_of (schemes_of funs) body in (
      λ h. split (allow_all N c s.needs) (greatest N c s.ends) d (reads funs body N c ∙ h),
      λ h. sym (reads funs body N c) ∙ ap (λ (t : Bool). if t then Some (greatest N c s.ends) else None) h.0 ∙ ap Some h.1,
    )
