-- A cycle of a typed program has few names: its names are distinct, and each is a declared array or an array parameter.
use Rattle.std.proofs.Common.{◌≡◌, ℕ, zero, suc, ◌+◌, ◌<◌, ◌≤◌, inl, inr, Bool, true, ◌&&◌, nat_le, List, [], ◌∷◌, ◌++◌, length, map, fold, slice_index_or, refl, sym, ◌∙◌, ap, subst, arith}
use Rattle.std.specs.List.{list_all}
use Rattle.std.specs.Prelude.{AllPairs, ◌≢◌}
use Rattle.std.proofs.lemmas.Bool.{and_parts, leb-true, ltb-true}
use Rattle.std.proofs.lemmas.List.{length-map}
use Rattle.lucid_base.specs.Arrays.{name_at}
use Rattle.lucid_base.specs.declared.array.ArrayName.{ArrayName}
use Rattle.lucid_base.specs.declared.array.ArrayName.TheVariants.{Global, Param}
use Rattle.lucid_constraints.specs.Circle.{Distinct, Member}
use Rattle.lucid_constraints.specs.Cycle as constraints
use Rattle.lucid_constraints.specs.declared.pair.Atom.TheVariants.{After}
use Rattle.lucid_constraints.specs.Same.{same_atom}
use Rattle.lucid_core.specs.declared.body.Stmt.{Stmt}
use Rattle.lucid_core.specs.declared.defs.FunDef.{FunDef}
use Rattle.lucid_core.specs.declared.defs.HandlerDef.{HandlerDef}
use Rattle.lucid_core.specs.Names.{is_array, stmt_names}
use Rattle.lucid_core.specs.Parts.{CoreParts}
use Rattle.lucid_core.specs.Scope.{Scope, each, fun_scope, funs_pass, handler_scope}
use Rattle.lucid_core.specs.Valid.{IsSound}
use Rattle.lucid_effects_spec.proofs.Codes.{NameIn, atom_below, atom_code, atom_tells}
use Rattle.lucid_effects_spec.proofs.Few.{Each, apart-few}
use Rattle.lucid_effects_spec.proofs.Within.{body_keeps as within}
use Rattle.lucid_effects_spec.specs.Cycle.{NeededBefore}
use Rattle.lucid_effects_spec.specs.Order.{Body, bodies, fun_bodies, handler_bodies}
use Rattle.lucid_effects_spec.specs.Paths.{Path, Paths, all_paths, body_paths, each_then, goes_through, paths, paths_of}
use Rattle.lucid_types_laws.specs.ValidLaws.{TypedIsValid}
use Rattle.lucid_top_laws.proofs.ThereOrderLemmas.{CyclesFit}

-- ---- facts of each item of a list

each_append : {A : Type 0} (P : A → Type 0) (xs ys : List A) → Each P xs → Each P ys → Each P (xs ++ ys)
each_append P [] ys h k = k
each_append P (x ∷ xs) ys h k = (h.0, each_append P xs ys h.1 k)

each_behind : {A : Type 0} (P : A → Type 0) (xs ys : List A) → Each P (xs ++ ys) → Each P ys
each_behind P [] ys h = h
each_behind P (x ∷ xs) ys h = each_behind P xs ys h.1

each_at : {A : Type 0} (P : A → Type 0) (xs : List A) (k : ℕ) (x : A) → k < length xs → slice_index_or xs k x ≡ x → Each P xs → P x
each_at P [] k x less is h = absurd (omega (arith, less))
each_at P (y ∷ ys) zero x less is h = subst P is h.0
each_at P (y ∷ ys) (suc k) x less is h = each_at P ys k x (omega (arith, less)) is h.1

each_or : {A : Type 0} (P : A → Type 0) (xs : List A) (k : ℕ) (d : A) → P d → Each P xs → P (slice_index_or xs k d)
each_or P [] k d p h = p
each_or P (x ∷ xs) zero d p h = h.0
each_or P (x ∷ xs) (suc k) d p h = each_or P xs k d p h.1

-- ---- names on paths

abbrev PathIn : ℕ → Path → Type 0
PathIn n p = Each (NameIn n) p

abbrev PathsIn : ℕ → List Path → Type 0
PathsIn n ps = Each (PathIn n) ps

before_each : (n : ℕ) (p : Path) (qs : List Path) → PathIn n p → PathsIn n qs → PathsIn n (map (λ q. p ++ q) qs)
before_each n p [] h k = tt
before_each n p (q ∷ qs) h k = (each_append (NameIn n) p q h k.0, before_each n p qs h k.1)

then_in : (n : ℕ) (ps qs : List Path) → PathsIn n ps → PathsIn n qs → PathsIn n (each_then ps qs)
then_in n [] qs h k = tt
then_in n (p ∷ ps) qs h k = each_append (PathIn n) (map (λ q. p ++ q) qs) (each_then ps qs) (before_each n p qs h.0 k) (then_in n ps qs h.1 k)

module _ (n : ℕ) (names : List ArrayName) (named : Each (NameIn n) names) where
  at_in : (x : ArrayName) → NameIn n x → NameIn n (name_at names x)
  at_in (Global a) h = h
  at_in (Param i) h = each_or (NameIn n) names i (Global 0) (omega arith) named

  path_at : (p : Path) → PathIn n p → PathIn n (map (name_at names) p)
  path_at [] h = tt
  path_at (x ∷ p) h = (at_in x h.0, path_at p h.1)

  paths_at : (ps : List Path) → PathsIn n ps → PathsIn n (map (map (name_at names)) ps)
  paths_at [] h = tt
  paths_at (p ∷ ps) h = (path_at p h.0, paths_at ps h.1)

-- ---- a body in its scope

module _ (n : ℕ) (fs : List (List Path)) (known : Each (PathsIn n) fs) (s : Scope) (arrays : length s.arrays ≤ n) (params : length s.params ≤ 8) where
  abbrev Keeps : Paths → Type 0
  Keeps f = PathsIn n (f fs)

  name_in : (x : ArrayName) → is_array s.arrays s.params x ≡ true → NameIn n x
  name_in (Global a) h = let l = ltb-true a (length s.arrays) h in omega (arith, l, arrays)
  name_in (Param i) h = let l = ltb-true i (length s.params) h in omega (arith, l, params)

  names_in : (xs : List ArrayName) → list_all (is_array s.arrays s.params) xs ≡ true → Each (NameIn n) xs
  names_in [] h = tt
  names_in (x ∷ xs) h = let both = and_parts _ _ h in (name_in x both.0, names_in xs both.1)

  called : (k : ℕ) (names : List ArrayName) → list_all (is_array s.arrays s.params) names ≡ true → Keeps (goes_through k names)
  called k names h = paths_at n names (names_in names h) (slice_index_or fs k ([] ∷ [])) (each_or (PathsIn n) fs k ([] ∷ []) (tt, tt) known)

  body_in : (body : List Stmt) → each (map stmt_names body) s ≡ true → PathsIn n (body_paths body fs)
  body_in body named =
      within s all_paths Keeps (tt, tt) (λ f g h k. then_in n (f fs) (g fs) h k) (λ f g h k. each_append (PathIn n) (f fs) (g fs) h k)
      (λ a h. ((name_in a h, tt), tt)) called (λ f h. h) body named

-- ---- the bodies of a program

abbrev fun_named : CoreParts → List FunDef → FunDef → Bool
fun_named parts before f = each (map stmt_names f.body) (fun_scope parts before f)

abbrev few_params : FunDef → Bool
few_params f = nat_le (length f.arrays) 8 && nat_le f.params 8

-- The paths of one more function.
abbrev one_more : List (List Path) → FunDef → List (List Path)
one_more before f = before ++ body_paths f.body before ∷ []

paths_push : (done : List (List Path)) (before : List FunDef) (f : FunDef) → fold one_more done (before ++ f ∷ []) ≡ one_more (fold one_more done before) f
paths_push done [] f = refl
paths_push done (g ∷ before) f = paths_push (one_more done g) before f

module _ (parts : CoreParts) (sound : IsSound parts) where
  abbrev n : ℕ
  n = length parts.arrays

  abbrev BodyIn : Body → Type 0
  BodyIn b = PathsIn n (paths b.funs b.body)

  counted : length (map (λ a. a.width) parts.arrays) ≤ n
  counted = let e : length (map (λ a. a.width) parts.arrays) ≡ n = length-map parts.arrays (λ a. a.width) in omega (arith, e)

  -- The bodies of functions behind others, and the paths of all of them.
  funs_in : (before : List FunDef) (done : List (List Path)) (fs : List FunDef) → done ≡ paths_of before → Each (PathsIn n) done →
      funs_pass (fun_named parts) before fs ≡ true → list_all few_params fs ≡ true → Each BodyIn (fun_bodies before fs) × Each (PathsIn n) (fold one_more done fs)
  funs_in before done [] same known named few = (tt, known)
  funs_in before done (f ∷ fs) same known named few =
      let names = and_parts _ _ named in
      let limits = and_parts _ _ few in
      let params = leb-true (length f.arrays) 8 (and_parts _ _ limits.0).0 in
      let one : PathsIn n (body_paths f.body done) = body_in n done known (fun_scope parts before f) counted params f.body names.0 in
      let next : one_more done f ≡ paths_of (before ++ f ∷ []) = ap (λ (d : List (List Path)). one_more d f) same ∙ sym (paths_push [] before f) in
      let rest = funs_in (before ++ f ∷ []) (one_more done f) fs next (each_append (PathsIn n) done (body_paths f.body done ∷ []) known (one, tt)) names.1 limits.1 in
      ((subst (λ (d : List (List Path)). PathsIn n (body_paths f.body d)) same one, rest.0), rest.1)

  handlers_in : (hs : List HandlerDef) → Each (PathsIn n) (paths_of parts.funs) → list_all (λ (h : HandlerDef). each (map stmt_names h.body) (handler_scope parts h)) hs ≡ true →
      Each BodyIn (handler_bodies parts.funs hs)
  handlers_in [] known named = tt
  handlers_in (h ∷ hs) known named =
      let names = and_parts _ _ named in
      (body_in n (paths_of parts.funs) known (handler_scope parts h) counted (omega arith) h.body names.0, handlers_in hs known names.1)

  bodies_in : Each BodyIn (bodies parts)
  bodies_in =
      let names = and_parts _ _ (and_parts _ _ sound.names).0 in
      let funs = funs_in [] [] parts.funs refl tt names.0 (and_parts _ _ sound.declarations).1 in
      each_append BodyIn (fun_bodies [] parts.funs) (handler_bodies parts.funs parts.handlers) funs.0 (handlers_in parts.handlers funs.1 names.1)

-- ---- the names of a cycle

needs_in : (n : ℕ) (ps : List Path) → PathsIn n ps → (x y : ArrayName) → NeededBefore n ps x y → NameIn n x
needs_in n ps h x y (inl any) =
    let path : PathIn n any.1 = each_at (PathIn n) ps any.0 any.1 any.2 any.3 h in
    let calls = any.4 in
    (each_behind (NameIn n) calls.before (x ∷ (calls.between ++ y ∷ calls.after)) (subst (PathIn n) calls.is path)).0
needs_in n ps h (Global a) (Global b) (inr earlier) = let less = earlier.0 in let within = earlier.1 in omega (arith, less, within)
needs_in n ps h (Global a) (Param j) (inr earlier) = absurd earlier
needs_in n ps h (Param i) y (inr earlier) = absurd earlier

leads_in : (n : ℕ) (ps : List Path) → PathsIn n ps → (xs : List ArrayName) (z : ArrayName) → constraints.Leads (NeededBefore n ps) xs z → Each (NameIn n) xs
leads_in n ps h [] z leads = tt
leads_in n ps h (x ∷ xs) z leads = (needs_in n ps h x (slice_index_or xs 0 z) leads.0, leads_in n ps h xs z leads.1)

module _ (n : ℕ) where
  abbrev code : ArrayName → ℕ
  code x = atom_code n (After x)

  same_code : (x y : ArrayName) → NameIn n x → NameIn n y → code y ≡ code x → x ≡ y
  same_code (Global a) (Global b) h k e = let is : a ≡ b = omega (arith, e) in ap Global is
  same_code (Global a) (Param j) h k e = absurd (omega (arith, h, k, e))
  same_code (Param i) (Global b) h k e = absurd (omega (arith, h, k, e))
  same_code (Param i) (Param j) h k e = let is : i ≡ j = omega (arith, e) in ap Param is

  fresh : (x : ArrayName) (xs : List ArrayName) → NameIn n x → Each (NameIn n) xs → ((k : ℕ) (d : ArrayName) → k < length xs → x ≢ slice_index_or xs k d) →
      ¬ Member (code x) (map code xs)
  fresh x [] h k differs m = m
  fresh x (y ∷ ys) h k differs (inl e) = differs 0 y (omega arith) (same_code x y h k.0 e)
  fresh x (y ∷ ys) h k differs (inr m) = fresh x ys h k.1 (λ j d less. differs (suc j) d (omega (arith, less))) m

  apart : (xs : List ArrayName) → Each (NameIn n) xs → AllPairs (λ x y. x ≢ y) xs → Distinct (map code xs)
  apart [] h pairs = tt
  apart (x ∷ xs) h pairs = (
    fresh x xs h.0 h.1 (λ k d less. pairs 0 (suc k) d (omega arith) (omega (arith, less))),
    apart xs h.1 (λ i j d before less. pairs (suc i) (suc j) d (omega (arith, before)) (omega (arith, less))),
  )

  few_names : (xs : List ArrayName) → Each (NameIn n) xs → AllPairs (λ x y. x ≢ y) xs → length xs ≤ n + 10
  few_names xs h pairs =
      apart-few (NameIn n) code (λ x y. same_atom (After x) (After y)) (λ x y. atom_tells n (After x) (After y)) (n + 10) (λ x. atom_below n (After x)) xs
      (h, apart xs h pairs)

pub cycles_fit : TypedIsValid → CyclesFit
cycles_fit valid tree core typed decl first others refused =
    let sound = (valid tree core typed).sound in
    let b = refused.refused in
    let at = refused.there in
    let within = each_at (BodyIn core sound) (bodies core) at.0 b at.1 at.2 (bodies_in core sound) in
    let names = leads_in (length core.arrays) (paths b.funs b.body) within (first ∷ others) first refused.cycle.leads in
    let few = few_names (length core.arrays) (first ∷ others) names refused.cycle.distinct in
    let arrays = leb-true (length core.arrays) 64 (and_parts _ _ (and_parts _ _ (and_parts _ _ (and_parts _ _ sound.declarations).0).0).0).0 in
    omega (arith, few, arrays)
