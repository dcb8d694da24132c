-- A body is in order or has a cycle.
use Rattle.lucid_base.specs.declared.array.ArrayName.TheVariants.{Global, Param}
use Rattle.lucid_base.specs.declared.array.ArrayName.{ArrayName}
use Rattle.lucid_constraints.proofs.CircleWalk.{Walking, walk_begin, walk_closed, walk_end, walk_off, walk_on, walk_start}
use Rattle.lucid_constraints.proofs.CycleLemmas.{numbering, turned_forms}
use Rattle.lucid_constraints.proofs.NamesLemmas.{covers, one_more}
use Rattle.lucid_constraints.proofs.SameLemmas.{same_name_is, same_name_refl}
use Rattle.lucid_constraints.specs.Circle.{IsEarliest, comes_first, IsCircle, Member, OrderOn, needed, HasDeclared, named_from}
use Rattle.lucid_constraints.specs.Cycle.{FormsCycle, HasNumbering, Needed}
use Rattle.lucid_constraints.specs.Same.{same_name}
use Rattle.lucid_constraints.specs.declared.pair.Pair.{Pair}
use Rattle.lucid_core.specs.declared.body.Stmt.{Stmt}
use Rattle.lucid_core.specs.declared.defs.FunDef.{FunDef}
use Rattle.lucid_effects_laws.specs.Laws.{BodiesAreDecided}
use Rattle.lucid_effects_spec.proofs.CyclesTell.{cycles_tell}
use Rattle.lucid_effects_spec.specs.Cycle.{IsCycle}
use Rattle.lucid_effects_spec.specs.Order.{InOrder}
use Rattle.lucid_effects_spec.specs.Paths.{paths}
use Rattle.lucid_effects_spec.specs.Schemes.{scheme_of, schemes_of}
use Rattle.std.proofs.Common.{◌≡◌, ℕ, zero, suc, ◌<◌, Bool, true, false, nat_lt, List, [], ◌∷◌, length, get_or, refl, subst, arith, ◌⊎◌, inl, inr, ◌+◌, ◌*◌, ◌≤◌, ◌++◌, ap, length-append, drop, take}
use Rattle.std.proofs.lemmas.Bool.Decides.{nat_tests}
use Rattle.std.proofs.lemmas.List.{get_or_default}
use Rattle.std.specs.List.{remove}

-- ---- A list of names that is not empty has an earliest name.

not_less : (a : ℕ) → nat_lt a a ≡ false
not_less a = grind (arith, nat_tests)

less_through : (a b c : ℕ) → nat_lt a b ≡ true → nat_lt b c ≡ true → nat_lt a c ≡ true
less_through a b c f g = grind (arith, nat_tests)

not_itself : (x : ArrayName) → comes_first x x ≡ false
not_itself (Global a) = not_less a
not_itself (Param i) = not_less i

through : (x y z : ArrayName) → comes_first x y ≡ true → comes_first y z ≡ true → comes_first x z ≡ true
through (Global a) (Global b) (Global c) f g = less_through a b c f g
through (Global a) (Global b) (Param k) f g = refl
through (Global a) (Param j) (Global c) f g = absurd (cc)
through (Global a) (Param j) (Param k) f g = refl
through (Param i) (Global b) z f g = absurd (cc)
through (Param i) (Param j) (Global c) f g = absurd (cc)
through (Param i) (Param j) (Param k) f g = less_through i j k f g

never : {b : Bool} → b ≡ true → b ≡ false → ⊥
never is not = absurd (cc)

module _ (x y : ArrayName) (ys : List ArrayName) (at : ℕ) (least : IsEarliest (y ∷ ys) at) where
  abbrev other : ArrayName → ArrayName
  other d = get_or (y ∷ ys) at d

  -- The first name comes before the earliest of the others.
  is_first : comes_first x (other x) ≡ true → (k : ℕ) (d : ArrayName) → k < length (x ∷ y ∷ ys) → comes_first (get_or (x ∷ y ∷ ys) k d) x ≡ false
  is_first before zero d less = not_itself x
  is_first before (suc k) d less = of (comes_first (get_or (y ∷ ys) k d) x) refl
    where
      of : (b : Bool) → comes_first (get_or (y ∷ ys) k d) x ≡ b → comes_first (get_or (y ∷ ys) k d) x ≡ false
      of false e = e
      of true e =
          let up : comes_first x (other d) ≡ true = subst (λ (w : ArrayName). comes_first x w ≡ true) (get_or_default (y ∷ ys) at x d least.within) before in
          absurd (never (through (get_or (y ∷ ys) k d) x (other d) e up) (least.none_before k d (omega (arith, less))))

  -- It does not, and the earliest of the others is the earliest of all.
  not_first : comes_first x (other x) ≡ false → (k : ℕ) (d : ArrayName) → k < length (x ∷ y ∷ ys) → comes_first (get_or (x ∷ y ∷ ys) k d) (other d) ≡ false
  not_first behind zero d less = subst (λ (w : ArrayName). comes_first x w ≡ false) (get_or_default (y ∷ ys) at x d least.within) behind
  not_first behind (suc k) d less = least.none_before k d (omega (arith, less))

  chosen : (b : Bool) → comes_first x (other x) ≡ b → (place : ℕ) × IsEarliest (x ∷ y ∷ ys) place
  chosen true e = (0, record { within = omega arith; none_before = is_first e })
  chosen false e = let less = least.within in (suc at, record { within = omega (arith, less); none_before = not_first e })

pub earliest : (x : ArrayName) (xs : List ArrayName) → (place : ℕ) × IsEarliest (x ∷ xs) place
earliest x [] = (0, record { within = omega arith; none_before = λ k d less. alone k d less })
  where
    alone : (k : ℕ) (d : ArrayName) → k < length (x ∷ []) → comes_first (get_or (x ∷ []) k d) x ≡ false
    alone zero d less = not_itself x
    alone (suc k) d less = absurd (omega (arith, less))
earliest x (y ∷ ys) = let rest = earliest y ys in chosen x y ys rest.0 rest.1 (comes_first x (get_or (y ∷ ys) rest.0 x)) refl

-- ---- The search for a circle of names, as a recursion: it ends with an order of all names or with a circle.

-- A list that is not empty, from its last element.
from_last : {A : Type 0} (y : A) (ys : List A) → (front : List A) × (x : A) × (y ∷ ys ≡ front ++ x ∷ [])
from_last y [] = ([], y, refl)
from_last {A} y (z ∷ zs) = let more = from_last z zs in (y ∷ more.0, more.1, ap (λ (l : List A). y ∷ l) more.2)

removed : {A : Type 0} (xs : List A) (i : ℕ) → i < length xs → length (remove xs i) + 1 ≡ length xs
removed [] i less = absurd (omega (arith, less))
removed (x ∷ xs) zero less = omega arith
removed (x ∷ xs) (suc i) less = let more = removed xs i (omega (arith, less)) in omega (arith, more)

module _ (ps : List Pair) (n : ℕ) (all : List ArrayName) where
  abbrev before : ArrayName → ArrayName → Bool
  before = needed ps n

  abbrev Walk : List ArrayName → List ArrayName → Type 0
  Walk path rest = Walking before before all path rest

  abbrev Ordered : Type 0
  Ordered = OrderOn before (λ x. Member x all) ⊎ ((xs : List ArrayName) × IsCircle before xs)

  -- The place of a name that must come before this one, or there is none.
  abbrev Found : ArrayName → List ArrayName → Type 0
  Found x xs = ((j : ℕ) × (j < length xs) × (before (get_or xs j x) x ≡ true)) ⊎ ((z : ArrayName) → Member z xs → before z x ≡ false)

  find : (x : ArrayName) (xs : List ArrayName) → Found x xs
  find x [] = inr (λ z m. absurd m)
  find x (y ∷ ys) = of (before y x) refl (find x ys)
    where
      one : before y x ≡ false → ((z : ArrayName) → Member z ys → before z x ≡ false) → (z : ArrayName) → Member z (y ∷ ys) → before z x ≡ false
      one e none z (inl same) = subst (λ (w : ArrayName). before w x ≡ false) same e
      one e none z (inr m) = none z m

      of : (b : Bool) → before y x ≡ b → Found x ys → Found x (y ∷ ys)
      of true e more = inl (0, omega arith, e)
      of false e (inl more) = let less = more.1 in inl (suc more.0, omega (arith, less), more.2)
      of false e (inr none) = inr (one e none)

  -- One step from a path that is not empty.
  goes : (fuel : ℕ) (x : ArrayName) (path rest : List ArrayName) → 2 * length rest + length (x ∷ path) ≤ suc fuel → Walk (x ∷ path) rest →
      Found x (x ∷ path) → Found x rest →
      ((next waiting : List ArrayName) → 2 * length waiting + length next ≤ fuel → Walk next waiting → Ordered) → Ordered
  goes fuel x path rest few w (inl on) waiting again =
      inr (_, walk_closed before before same_name same_name_is same_name_refl all (x ∷ path) rest x on.0 w refl on.1 on.2)
  goes fuel x path rest few w (inr off) (inl at) again =
      let less = removed rest at.0 at.1 in
      again (get_or rest at.0 x ∷ x ∷ path) (remove rest at.0) (omega (arith, few, less))
      (walk_on before before same_name same_name_is same_name_refl all (x ∷ path) rest x at.0 w refl at.1 at.2 (λ m. never (off (get_or rest at.0 x) m) at.2))
    where
      never : {b : Bool} → b ≡ false → b ≡ true → ⊥
      never not is = absurd (cc)
  goes fuel x path rest few w (inr off) (inr none) again =
      again path rest (omega (arith, few))
      (walk_off before before same_name same_name_is same_name_refl all (x ∷ path) rest x w (omega arith) refl (λ z m. either z m))
    where
      either : (z : ArrayName) → Member z (x ∷ path) ⊎ Member z rest → before z x ≡ false
      either z (inl m) = off z m
      either z (inr m) = none z m

  walk : (fuel : ℕ) (path rest : List ArrayName) → 2 * length rest + length path ≤ fuel → Walk path rest → Ordered
  walk fuel [] [] few w = inl (walk_end before before same_name same_name_is same_name_refl all w)
  walk zero [] (y ∷ ys) few w = absurd (omega (arith, few))
  walk (suc fuel) [] (y ∷ ys) few w =
      let last = from_last y ys in
      let long = ap length last.2 in
      walk fuel (last.1 ∷ []) last.0 (omega (arith, few, long, length-append last.0 (last.1 ∷ [])))
      (walk_start before before same_name same_name_is same_name_refl all last.0 last.1 (subst (λ (r : List ArrayName). Walk [] r) last.2 w))
  walk zero (x ∷ path) rest few w = absurd (omega (arith, few))
  walk (suc fuel) (x ∷ path) rest few w =
      goes fuel x path rest few w (find x (x ∷ path)) (find x rest) (λ next waiting less walking. walk fuel next waiting less walking)

  pub ordered : Ordered
  ordered = walk (2 * length all) [] all (omega arith) (walk_begin before all)

-- ---- Names have a numbering or a cycle, and so a body is in order or has a cycle

-- The declared arrays.
declared : (n : ℕ) → (names : List ArrayName) × HasDeclared n names
declared zero = ([], λ a less. absurd (omega (arith, less)))
declared (suc n) =
    let before = declared n in
    let names = before.0 ++ Global n ∷ [] in
    let next : n + 1 ≡ suc n = omega arith in
    (names, subst (λ (k : ℕ). HasDeclared k names) next (one_more n before.0 names before.1 refl))

module _ (ps : List Pair) (n : ℕ) where
  abbrev names : List ArrayName
  names = named_from (declared n).0 ps

  cycle : (xs : List ArrayName) → IsCircle (needed ps n) xs → (ys : List ArrayName) × FormsCycle (Needed n ps) ys
  cycle [] c = let some = c.some in absurd (omega (arith, some))
  cycle (x ∷ xs) c =
      let at = earliest x xs in
      let new = drop at.0 (x ∷ xs) ++ take at.0 (x ∷ xs) in
      (new, turned_forms ps n (x ∷ xs) new c (at.0, at.1, refl))

  by_order : OrderOn (needed ps n) (λ x. Member x names) ⊎ ((xs : List ArrayName) × IsCircle (needed ps n) xs) →
      HasNumbering (Needed n ps) ⊎ ((xs : List ArrayName) × FormsCycle (Needed n ps) xs)
  by_order (inl order) = inl (numbering ps n names (covers n ps (declared n).0 (declared n).1) order)
  by_order (inr circle) = inr (cycle circle.0 circle.1)

  numbered : HasNumbering (Needed n ps) ⊎ ((xs : List ArrayName) × FormsCycle (Needed n ps) xs)
  numbered = by_order (ordered ps n names)

module _ (arrays : ℕ) (funs : List FunDef) (body : List Stmt) where
  abbrev asked : List Pair
  asked = (scheme_of (schemes_of funs) body).needs

  abbrev HasCycle : Type 0
  HasCycle = (first : ArrayName) × (others : List ArrayName) × IsCycle arrays (paths funs body) first others

  of_cycle : (xs : List ArrayName) → FormsCycle (Needed arrays asked) xs → HasCycle
  of_cycle [] forms = absurd forms
  of_cycle (x ∷ xs) forms = (x, xs, (cycles_tell arrays funs body).1 x xs forms)

  of_numbers : HasNumbering (Needed arrays asked) ⊎ ((xs : List ArrayName) × FormsCycle (Needed arrays asked) xs) → InOrder arrays funs body ⊎ HasCycle
  of_numbers (inl numbers) = inl ((cycles_tell arrays funs body).0 numbers)
  of_numbers (inr found) = inr (of_cycle found.0 found.1)

  body_decided : InOrder arrays funs body ⊎ HasCycle
  body_decided = of_numbers (numbered asked arrays)

pub bodies_are_decided : BodiesAreDecided
bodies_are_decided = body_decided
