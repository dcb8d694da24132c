-- Joining the locals that the branches of an if wrote joins all locals: one that neither wrote meets itself.
use Rattle.std.proofs.Common.{◌≡◌, ◌<◌, ◌≤◌, ◌+◌, ℕ, zero, suc, List, [], ◌∷◌, ◌++◌, Contains, Option, None, Some, Bool, true, false, ◌&&◌, ◌⊎◌, ◌≢◌, inl, inr, eqb, if◌then◌else◌, arith, drop, take, get_or, length, map, slice_index_or, slice_set, refl, ap, ap₂, sym, subst, ◌∙◌}
use Rattle.std.proofs.lemmas.Bool.{eq-eqb}
use Rattle.std.proofs.Math.Nat.{eq-or-lt_of_le}
use Rattle.std.proofs.lemmas.Bool.Decides.{eqb_tells}
use Rattle.std.proofs.lemmas.List.{append-nil, append_assoc, drop_all, get_or_past, get_or-set_other, length-set, set_past, take_all, take_more, take_more_set}
use Rattle.std.proofs.lemmas.List.Elements.{Contains-append_left, Contains-append_right}
use Rattle.std.proofs.lemmas.Map.Made.{Contains-tail}
use Rattle.std.specs.Prelude.{⊤}
use Rattle.std.specs.List.Sorted.{IsStrictlyIncreasing}
use Rattle.lucid_code.specs.declared.op.Literal.{Literal}
use Rattle.lucid_code.specs.declared.op.Op.{Op}
use Rattle.lucid_code.specs.declared.op.Operand.{Operand}
use Rattle.lucid_code.specs.declared.op.Operand.TheVariants.{Field, Fixed}
use Rattle.lucid_normal_join.specs.Changes.{AreChanges, change_of, changes_joined, with_locals}
use Rattle.lucid_normal_steps.specs.Added.{added}
use Rattle.lucid_normal_join.specs.declared.changes.Change.{Change}
use Rattle.lucid_normal_steps.specs.declared.notes.Note.{Note}
use Rattle.lucid_normal_steps.specs.declared.notes.Note.TheVariants.{One, All}
use Rattle.lucid_normal_join.specs.Branches.{met}
use Rattle.lucid_normal_steps.specs.Notes.{before, noted, put_one}
use Rattle.lucid_normal_spec.specs.declared.env.Env.{Env}
use Rattle.lucid_normal_spec.specs.declared.env.Typed.{Typed}
use Rattle.lucid_normal_spec.specs.Translate.{Joined, join_at, join_one, joins, keep_one, nothing_joined, same, same_operand}

abbrev Locals : Type 0
Locals = List (Option Typed)

-- The operand of a local.
abbrev at : Locals → ℕ → Option Typed
at hs i = slice_index_or hs i None

-- ---- one local of all

-- One local, and then the rest.
record Split (j m r : Joined) : Type 0 where
  held : j.held ≡ m.held ++ r.held
  ops : j.ops ≡ m.ops ++ r.ops
  widths : j.widths ≡ r.widths

split_by : (t : Bool) (level c : ℕ) (ws : List ℕ) (a b : Typed) (rest : List ℕ → Joined) →
    (let m = (if t then keep_one (Some a) (nothing_joined ws) else join_one level c ws a b nothing_joined) in
    Split (if t then keep_one (Some a) (rest ws) else join_one level c ws a b rest) m (rest m.widths))
split_by true level c ws a b rest = record { held = refl; ops = refl; widths = refl }
split_by false level c ws a b rest = record { held = refl; ops = refl; widths = refl }

split_at : (level c : ℕ) (ws : List ℕ) (o x y : Option Typed) (rest : List ℕ → Joined) →
    Split (join_at level c ws o x y rest) (met level c ws o x y) (rest (met level c ws o x y).widths)
split_at level c ws None x y rest = record { held = refl; ops = refl; widths = refl }
split_at level c ws (Some o) None y rest = record { held = refl; ops = refl; widths = refl }
split_at level c ws (Some o) (Some a) None rest = record { held = refl; ops = refl; widths = refl }
split_at level c ws (Some o) (Some a) (Some b) rest = split_by (same a b) level c ws a b rest

steps_at : (level c : ℕ) (os xs ys : Locals) (i : ℕ) (ws : List ℕ) → i < length os → i < length xs → i < length ys →
    Split (joins level c (drop i os) (drop i xs) (drop i ys) ws) (met level c ws (at os i) (at xs i) (at ys i))
    (joins level c (drop (suc i) os) (drop (suc i) xs) (drop (suc i) ys) (met level c ws (at os i) (at xs i) (at ys i)).widths)
steps_at level c [] xs ys i ws a b e = absurd (omega arith)
steps_at level c (o ∷ os) [] ys i ws a b e = absurd (omega arith)
steps_at level c (o ∷ os) (x ∷ xs) [] i ws a b e = absurd (omega arith)
steps_at level c (o ∷ os) (x ∷ xs) (y ∷ ys) zero ws a b e = split_at level c ws o x y (joins level c os xs ys)
steps_at level c (o ∷ os) (x ∷ xs) (y ∷ ys) (suc i) ws a b e = steps_at level c os xs ys i ws (omega arith) (omega arith) (omega arith)

-- One local gives one.
one_by : (t : Bool) (level c : ℕ) (ws : List ℕ) (a b : Typed) →
    (let m = (if t then keep_one (Some a) (nothing_joined ws) else join_one level c ws a b nothing_joined) in m.held ≡ slice_index_or m.held 0 None ∷ [])
one_by true level c ws a b = refl
one_by false level c ws a b = refl

one_held : (level c : ℕ) (ws : List ℕ) (o x y : Option Typed) → (met level c ws o x y).held ≡ slice_index_or (met level c ws o x y).held 0 None ∷ []
one_held level c ws None x y = refl
one_held level c ws (Some o) None y = refl
one_held level c ws (Some o) (Some a) None = refl
one_held level c ws (Some o) (Some a) (Some b) = one_by (same a b) level c ws a b

-- A local that is held at both ends as before is held so.
both : {a b : Bool} → a ≡ true → b ≡ true → (a && b) ≡ true
both {a} {b} p q = ap₂ (λ x y. x && y) p q

operand_self : (o : Operand) → same_operand o o ≡ true
operand_self (Fixed v) = eq-eqb v v refl
operand_self (Field k) = eq-eqb k k refl

same_self : (a : Typed) → same a a ≡ true
same_self a = both (operand_self a.operand) (eq-eqb a.width a.width refl)

itself : (level c : ℕ) (ws : List ℕ) (o : Option Typed) → met level c ws o o o ≡ keep_one o (nothing_joined ws)
itself level c ws None = refl
itself level c ws (Some a) = ap (λ (t : Bool). if t then keep_one (Some a) (nothing_joined ws) else join_one level c ws a a nothing_joined) (same_self a)

-- ---- locals from a place on

-- Each is above those before it, and the first at least this one.
abbrev Above : ℕ → List ℕ → Type 0
Above p [] = ⊤
Above p (i ∷ is) = (p ≤ i) × Above (suc i) is

above_from : (p : ℕ) (is : List ℕ) → (0 < length is → p ≤ get_or is 0 0) → IsStrictlyIncreasing is → Above p is
above_from p [] first rise = tt
above_from p (i ∷ is) first rise = (
  first (omega arith),
  above_from (suc i) is (λ some. rise 0 (omega (arith, some))) (λ k within.
      let e : suc k + 1 ≡ suc (k + 1) = omega arith in
      subst (λ z. get_or is k 0 < get_or (i ∷ is) z 0) e (rise (suc k) (omega (arith, within)))),
)

-- None below the first is there.
not_below : (p j : ℕ) (is : List ℕ) → j < p → Above p is → Contains is j → ⊥
not_below p j [] below above (k, within, there) = absurd (omega (arith, within))
not_below p j (i ∷ is) below (least, rest) (zero, within, there) = absurd (omega (arith, below, least, there))
not_below p j (i ∷ is) below (least, rest) (suc k, within, there) = not_below (suc i) j is (omega (arith, below, least)) rest (k, omega (arith, within), there)

-- From this place on, a local that is not among these has its old operand at both ends.
abbrev Unwritten : ℕ → List ℕ → Locals → Locals → Locals → Type 0
Unwritten p is os xs ys = (j : ℕ) → p ≤ j → (Contains is j → ⊥) → (at xs j ≡ at os j) × (at ys j ≡ at os j)

lt_from : {p i : ℕ} → p ≤ i → p ≢ i → p < i
lt_from {p} {i} least apart = by (eq-or-lt_of_le least)
  where
    by : (p ≡ i) ⊎ (p < i) → p < i
    by (inl e) = absurd (apart e)
    by (inr l) = l

-- The joined locals, from a place on.
record Same (front : Locals) (j r : Joined) : Type 0 where
  held : front ++ j.held ≡ r.held
  ops : j.ops ≡ r.ops
  widths : j.widths ≡ r.widths

-- Locals that aren't there change nothing.
past : (level c p : ℕ) (is : List ℕ) (xs ys cur : Locals) (ws : List ℕ) → length cur ≤ p → Above p is →
    changes_joined level c (map (change_of xs ys) is) cur ws ≡ record { held = cur; ops = []; widths = ws; fine = true }
past level c p [] xs ys cur ws le above = refl
past level c p (i ∷ is) xs ys cur ws le (least, above) =
    let none : at cur i ≡ None = get_or_past cur i None (omega (arith, le, least)) in
    let step : Option Typed → Joined = λ o. (let m = met level c ws o (at xs i) (at ys i) in
    let r = changes_joined level c (map (change_of xs ys) is) (slice_set cur i (slice_index_or m.held 0 None)) m.widths in
    record r { ops = m.ops ++ r.ops }) in
    ap step none
    ∙ ap (λ h. changes_joined level c (map (change_of xs ys) is) h ws) (set_past cur i None (omega (arith, le, least)))
    ∙ past level c (suc i) is xs ys cur ws (omega (arith, le, least)) above

-- One local of all, where the written ones and all agree on it.
one_more : (level c p : ℕ) (os xs ys cur : Locals) (ws : List ℕ) (m : Joined) (v : Option Typed) (rest r : Joined) →
    p < length cur →
    m.held ≡ v ∷ [] → Same (take p cur ++ v ∷ []) rest r → {j : Joined} → Split j m rest →
    (take p cur ++ j.held ≡ r.held) × ((j.ops ≡ m.ops ++ r.ops) × (j.widths ≡ r.widths))
one_more level c p os xs ys cur ws m v rest r within one next {j} split = (
  ap (λ h. take p cur ++ h) (split.held ∙ ap (λ h. h ++ rest.held) one) ∙ sym (append_assoc (take p cur) (v ∷ []) rest.held) ∙ next.held,
  (split.ops ∙ ap (λ z. m.ops ++ z) next.ops, split.widths ∙ next.widths),
)

same_rest : (front front' : Locals) (j r : Joined) → front' ≡ front → Same front' j r → Same front j r
same_rest front front' j r e s = subst (λ f. Same f j r) e s

-- A local that isn't written.
kept : (level c p : ℕ) (is : List ℕ) (os xs ys cur : Locals) (ws : List ℕ) → p < length os → p < length xs → p < length ys → p < length cur → at cur p ≡ at os p →
    (at xs p ≡ at os p) × (at ys p ≡ at os p) →
    Same (take (suc p) cur) (joins level c (drop (suc p) os) (drop (suc p) xs) (drop (suc p) ys) ws) (changes_joined level c (map (change_of xs ys) is) cur ws) →
    Same (take p cur) (joins level c (drop p os) (drop p xs) (drop p ys) ws) (changes_joined level c (map (change_of xs ys) is) cur ws)
kept level c p is os xs ys cur ws lo lx ly lc is_cur (is_x, is_y) next =
    let r = changes_joined level c (map (change_of xs ys) is) cur ws in
    let o = at os p in
    let split = steps_at level c os xs ys p ws lo lx ly in
    let m_is : met level c ws o (at xs p) (at ys p) ≡ keep_one o (nothing_joined ws) =
    ap₂ (λ x y. met level c ws o x y) is_x is_y ∙ itself level c ws o in
    let rest = λ (z : List ℕ). joins level c (drop (suc p) os) (drop (suc p) xs) (drop (suc p) ys) z in
    let plain : Split (joins level c (drop p os) (drop p xs) (drop p ys) ws) (keep_one o (nothing_joined ws)) (rest ws) =
    subst (λ m. Split (joins level c (drop p os) (drop p xs) (drop p ys) ws) m (rest m.widths)) m_is split in
    let e : suc p ≡ p + 1 = omega arith in
    let front : take (suc p) cur ≡ take p cur ++ o ∷ [] = ap (λ k. take k cur) e ∙ take_more cur p None lc ∙ ap (λ v. take p cur ++ v ∷ []) is_cur in
    let both = one_more level c p os xs ys cur ws (keep_one o (nothing_joined ws)) o (rest ws) r lc refl (same_rest _ _ _ _ front next) plain in
    record { held = both.0; ops = both.1.0; widths = both.1.1 }

-- One that is.
wrote : (level c p : ℕ) (is : List ℕ) (os xs ys cur : Locals) (ws : List ℕ) → p < length os → p < length xs → p < length ys → p < length cur → at cur p ≡ at os p →
    (let m = met level c ws (at os p) (at xs p) (at ys p) in
    Same (take (suc p) (slice_set cur p (slice_index_or m.held 0 None))) (joins level c (drop (suc p) os) (drop (suc p) xs) (drop (suc p) ys) m.widths)
    (changes_joined level c (map (change_of xs ys) is) (slice_set cur p (slice_index_or m.held 0 None)) m.widths)) →
    Same (take p cur) (joins level c (drop p os) (drop p xs) (drop p ys) ws) (changes_joined level c (map (change_of xs ys) (p ∷ is)) cur ws)
wrote level c p is os xs ys cur ws lo lx ly lc is_cur next =
    let m = met level c ws (at os p) (at xs p) (at ys p) in
    let v = slice_index_or m.held 0 None in
    let r = changes_joined level c (map (change_of xs ys) is) (slice_set cur p v) m.widths in
    let rest = joins level c (drop (suc p) os) (drop (suc p) xs) (drop (suc p) ys) m.widths in
    let e : suc p ≡ p + 1 = omega arith in
    let front : take (suc p) (slice_set cur p v) ≡ take p cur ++ v ∷ [] = ap (λ k. take k (slice_set cur p v)) e ∙ take_more_set cur p v lc in
    let both = one_more level c p os xs ys cur ws m v rest r lc (one_held level c ws (at os p) (at xs p) (at ys p)) (same_rest _ _ _ _ front next) (steps_at level c os xs ys p ws lo lx ly) in
    let step : Option Typed → Joined = λ o. (let n = met level c ws o (at xs p) (at ys p) in
    let s = changes_joined level c (map (change_of xs ys) is) (slice_set cur p (slice_index_or n.held 0 None)) n.widths in
    record s { ops = n.ops ++ s.ops }) in
    let whole : changes_joined level c (map (change_of xs ys) (p ∷ is)) cur ws ≡ step (at os p) = ap step is_cur in
    record { held = both.0 ∙ sym (ap (λ (j : Joined). j.held) whole); ops = both.1.0 ∙ sym (ap (λ (j : Joined). j.ops) whole); widths = both.1.1 ∙ sym (ap (λ (j : Joined). j.widths) whole) }

-- The next local, written or not.
next : (level c p i : ℕ) (is : List ℕ) (os xs ys cur : Locals) (ws : List ℕ) → p < length os → p < length xs → p < length ys → p < length cur → at cur p ≡ at os p →
    (p ≡ i → (let m = met level c ws (at os p) (at xs p) (at ys p) in
    Same (take (suc p) (slice_set cur p (slice_index_or m.held 0 None))) (joins level c (drop (suc p) os) (drop (suc p) xs) (drop (suc p) ys) m.widths)
    (changes_joined level c (map (change_of xs ys) is) (slice_set cur p (slice_index_or m.held 0 None)) m.widths))) →
    (p ≢ i → ((at xs p ≡ at os p) × (at ys p ≡ at os p)) ×
    Same (take (suc p) cur) (joins level c (drop (suc p) os) (drop (suc p) xs) (drop (suc p) ys) ws) (changes_joined level c (map (change_of xs ys) (i ∷ is)) cur ws)) →
    ((eqb p i ≡ true) × (p ≡ i)) ⊎ ((eqb p i ≡ false) × (p ≢ i)) →
    Same (take p cur) (joins level c (drop p os) (drop p xs) (drop p ys) ws) (changes_joined level c (map (change_of xs ys) (i ∷ is)) cur ws)
next level c p i is os xs ys cur ws lo lx ly lc is_cur written other (inl (t, e)) =
    subst (λ k. Same (take p cur) (joins level c (drop p os) (drop p xs) (drop p ys) ws) (changes_joined level c (map (change_of xs ys) (k ∷ is)) cur ws)) e
    (wrote level c p is os xs ys cur ws lo lx ly lc is_cur (written e))
next level c p i is os xs ys cur ws lo lx ly lc is_cur written other (inr (t, apart)) =
    kept level c p (i ∷ is) os xs ys cur ws lo lx ly lc is_cur (other apart).0 (other apart).1

joined_from : (n level c p : ℕ) (is : List ℕ) (os xs ys cur : Locals) (ws : List ℕ) → length os ≡ p + n → length xs ≡ p + n → length ys ≡ p + n → length cur ≡ p + n →
    ((j : ℕ) → p ≤ j → at cur j ≡ at os j) → Above p is → Unwritten p is os xs ys →
    Same (take p cur) (joins level c (drop p os) (drop p xs) (drop p ys) ws) (changes_joined level c (map (change_of xs ys) is) cur ws)
joined_from zero level c p is os xs ys cur ws lo lx ly lc agree above unwritten =
    let none : drop p os ≡ [] = drop_all p os (omega (arith, lo)) in
    let j = ap (λ (hs : Locals). joins level c hs (drop p xs) (drop p ys) ws) none in
    let r = past level c p is xs ys cur ws (omega (arith, lc)) above in
    record {
      held = ap (λ (z : Joined). take p cur ++ z.held) j ∙ append-nil (take p cur) ∙ take_all p cur (omega (arith, lc)) ∙ sym (ap (λ (z : Joined). z.held) r);
      ops = ap (λ (z : Joined). z.ops) j ∙ sym (ap (λ (z : Joined). z.ops) r);
      widths = ap (λ (z : Joined). z.widths) j ∙ sym (ap (λ (z : Joined). z.widths) r);
    }
joined_from (suc n) level c p [] os xs ys cur ws lo lx ly lc agree above unwritten =
    kept level c p [] os xs ys cur ws (omega (arith, lo)) (omega (arith, lx)) (omega (arith, ly)) (omega (arith, lc)) (agree p (omega arith))
    (unwritten p (omega arith) (λ h. absurd (omega (arith, h.1))))
    (joined_from n level c (suc p) [] os xs ys cur ws (omega (arith, lo)) (omega (arith, lx)) (omega (arith, ly)) (omega (arith, lc))
    (λ j le. agree j (omega (arith, le))) tt (λ j le out. unwritten j (omega (arith, le)) out))
joined_from (suc n) level c p (i ∷ is) os xs ys cur ws lo lx ly lc agree (least, above) unwritten =
    let m = met level c ws (at os p) (at xs p) (at ys p) in
    let v = slice_index_or m.held 0 None in
    next level c p i is os xs ys cur ws (omega (arith, lo)) (omega (arith, lx)) (omega (arith, ly)) (omega (arith, lc)) (agree p (omega arith))
    (λ e. joined_from n level c (suc p) is os xs ys (slice_set cur p v) m.widths (omega (arith, lo)) (omega (arith, lx)) (omega (arith, ly))
    (length-set cur p v ∙ lc ∙ omega arith)
    (λ j le. get_or-set_other cur p j v None (λ h. absurd (omega (arith, le, h))) ∙ agree j (omega (arith, le)))
    (subst (λ k. Above (suc k) is) (sym e) above)
    (λ j le out. unwritten j (omega (arith, le)) (λ h. out (Contains-tail i is j (λ q. absurd (omega (arith, le, e, q))) h))))
    (λ apart. (
      unwritten p (omega arith) (not_below (suc p) p (i ∷ is) (omega arith) (lt_from least apart, above)),
      joined_from n level c (suc p) (i ∷ is) os xs ys cur ws (omega (arith, lo)) (omega (arith, lx)) (omega (arith, ly)) (omega (arith, lc))
          (λ j le. agree j (omega (arith, le))) (lt_from least apart, above) (λ j le out. unwritten j (omega (arith, le)) out),
    ))
    (eqb_tells p i)

-- ---- the meaning of notes

put_all : (all hs : Locals) → 0 < length hs → put_one (All all) hs ≡ hs
put_all all [] some = absurd (omega (arith, some))
put_all all (h ∷ hs) some = refl

put_length : (n : Note) (hs : Locals) → 0 < length hs → length (put_one n hs) ≡ length hs
put_length (One i was) hs some = length-set hs i was
put_length (All all) hs some = ap length (put_all all hs some)

before_length : (ns : List Note) (hs : Locals) → 0 < length hs → length (before ns hs) ≡ length hs
before_length [] hs some = refl
before_length (n ∷ ns) hs some = let rest = before_length ns hs some in put_length n (before ns hs) (omega (arith, rest, some)) ∙ rest

-- A local of which nothing is noted.
before_at : (ns : List Note) (hs : Locals) (j : ℕ) → 0 < length hs → (Contains (noted ns) j → ⊥) → at (before ns hs) j ≡ at hs j
before_at [] hs j some out = refl
before_at (One i was ∷ ns) hs j some out =
    get_or-set_other (before ns hs) i j was None (λ e. out (0, omega arith, sym e))
    ∙ before_at ns hs j some (λ h. out (suc h.0, omega (arith, h.1), h.2))
before_at (All all ∷ ns) hs j some out =
    let rest = before_length ns hs some in
    ap (λ z. at z j) (put_all all (before ns hs) (omega (arith, rest, some))) ∙ before_at ns hs j some out

pub joins_written : (level c : ℕ) (hs : Locals) (first second : List Note) (changes : List Change) (ws : List ℕ) → AreChanges hs first second changes →
    (let j = joins level c hs (before first hs) (before second hs) ws in
    let r = changes_joined level c changes hs ws in
    (j.held ≡ r.held) × ((j.ops ≡ r.ops) × (j.widths ≡ r.widths)))
joins_written level c [] first second changes ws are =
    let above = above_from 0 are.locals (λ some. omega arith) are.rise in
    let r = ap (λ gs. changes_joined level c gs [] ws) are.each ∙ past level c 0 are.locals (before first []) (before second []) [] ws (omega arith) above in
    (sym (ap (λ (z : Joined). z.held) r), (sym (ap (λ (z : Joined). z.ops) r), sym (ap (λ (z : Joined). z.widths) r)))
joins_written level c (h ∷ hs) first second changes ws are =
    let all = h ∷ hs in
    let some : 0 < length all = omega arith in
    let same = joined_from (length all) level c 0 are.locals all (before first all) (before second all) all ws (omega arith) (omega (arith, before_length first all some)) (omega (arith, before_length second all some)) (omega arith)
    (λ j le. refl) (above_from 0 are.locals (λ some. omega arith) are.rise)
    (λ j le out. (
      before_at first all j some (λ h. out (are.whole j (Contains-append_left (noted first) (noted second) j h))),
      before_at second all j some (λ h. out (are.whole j (Contains-append_right (noted first) (noted second) j h))),
    )) in
    let r = ap (λ gs. changes_joined level c gs all ws) are.each in
    (same.held ∙ sym (ap (λ (z : Joined). z.held) r), (same.ops ∙ sym (ap (λ (z : Joined). z.ops) r), same.widths ∙ sym (ap (λ (z : Joined). z.widths) r)))

-- ---- the results of the code

pub no_first : (level c : ℕ) (os ys : Locals) (ws : List ℕ) → joins level c os [] ys ws ≡ nothing_joined ws
no_first level c [] ys ws = refl
no_first level c (o ∷ os) ys ws = refl

pub no_second : (level c : ℕ) (os xs : Locals) (ws : List ℕ) → joins level c os xs [] ws ≡ nothing_joined ws
no_second level c [] xs ws = refl
no_second level c (o ∷ os) [] ws = refl
no_second level c (o ∷ os) (x ∷ xs) ws = refl

-- The operand of a local at the end of the second branch, beside the first.
abbrev with_second : Locals → ℕ × Option Typed → Change
with_second ys f = record { local = f.0; first = f.1; second = at ys f.0 }

each_is : (xs ys : Locals) (is : List ℕ) → map (with_second ys) (map (λ i. (i, at xs i)) is) ≡ map (change_of xs ys) is
each_is xs ys [] = refl
each_is xs ys (i ∷ is) = ap (λ gs. change_of xs ys i ∷ gs) (each_is xs ys is)

pub changes_are : (held h1 h2 h3 : Locals) (first second : List Note) (locals : List ℕ) (firsts : List (ℕ × Option Typed)) (made : List Change) →
    h1 ≡ before first held → firsts ≡ map (λ i. (i, at h1 i)) locals → h2 ≡ held → h3 ≡ before second h2 →
    made ≡ map (with_second h3) firsts →
    IsStrictlyIncreasing locals → ((i : ℕ) → Contains (noted first ++ noted second) i → Contains locals i) → AreChanges held first second made
changes_are held h1 h2 h3 first second locals firsts made one fs two three ms rise whole = record {
  locals = locals;
  each = ms ∙ ap (map (with_second h3)) fs ∙ each_is h1 h3 locals
      ∙ ap₂ (λ x y. map (change_of x y) locals) one (three ∙ ap (before second) two);
  rise = rise;
  whole = whole;
}

pub joined_env : (level c : ℕ) (env : Env) (held : Locals) (first second : List Note) (changes : List Change) → held ≡ env.held → AreChanges env.held first second changes →
    with_locals (record env { held = held }) (changes_joined level c changes held env.widths)
    ≡ with_locals env (joins level c env.held (before first env.held) (before second env.held) env.widths)
joined_env level c env held first second changes same_held are =
    let w = joins_written level c env.held first second changes env.widths are in
    ap (λ h. with_locals env (changes_joined level c changes h env.widths)) same_held
    ∙ ap₂ (λ h ws. record env { held = h; widths = ws }) (sym w.0) (sym w.1.1)

pub joined_ops : (level c : ℕ) (guard : List Literal) (ops : List Op) (held now : Locals) (first second : List Note) (changes : List Change) (ws : List ℕ) → now ≡ held → AreChanges held first second changes →
    added guard ops (changes_joined level c changes now ws).ops ≡ added guard ops (joins level c held (before first held) (before second held) ws).ops
joined_ops level c guard ops held now first second changes ws same_held are =
    ap (λ h. added guard ops (changes_joined level c changes h ws).ops) same_held
    ∙ ap (λ z. added guard ops z) (sym (joins_written level c held first second changes ws are).1.0)
