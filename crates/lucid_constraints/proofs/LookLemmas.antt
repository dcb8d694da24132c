-- The result of one look of the search, and the remaining pairs when a name is removed.
use Rattle.std.proofs.Common.{◌≡◌, ◌⊎◌, inl, inr, ℕ, suc, ◌+◌, ◌<◌, ◌≤◌, Bool, true, false, if◌then◌else◌, cond, ◌||◌, ◌&&◌, not, List, [], ◌∷◌, length, get_or, Some, None, refl, sym, ◌∙◌, subst, arith}
use Rattle.std.specs.List.{filter, list_any}
use Rattle.lucid_base.specs.declared.array.ArrayName.{ArrayName}
use Rattle.lucid_constraints.proofs.MemberLemmas.{or_left, or_right}
use Rattle.lucid_constraints.proofs.SameLemmas.{same_name_is, same_name_refl, same_pair_is}
use Rattle.lucid_constraints.specs.Circle.{asked, earlier, first_place, follows, needed, source, source_by, Finds, Member}
use Rattle.lucid_constraints.specs.Same.{same_name, same_atom, same_pair}
use Rattle.lucid_constraints.specs.declared.look.Found.TheVariants.{OnPath, Waiting, Gone, Nowhere}
use Rattle.lucid_constraints.specs.declared.pair.Atom.{Atom}
use Rattle.lucid_constraints.specs.declared.pair.Atom.TheVariants.{Start, After}
use Rattle.lucid_constraints.specs.declared.pair.Pair.{Pair}

and_off : (t r : Bool) → ((t && false) || r) ≡ r
and_off true r = refl
and_off false r = refl

source_none : (x y : ArrayName) (ps : List Pair) → source x ps ≡ None → asked ps y x ≡ false
source_none x y [] e = refl
source_none x y (p ∷ ps) e = of p.atom (same_name x p.array) e (source_none x y ps)
  where
    of : (a : Atom) (b : Bool) → source_by a b (source x ps) ≡ None → (source x ps ≡ None → asked ps y x ≡ false) → ((same_atom (After y) a && b) || asked ps y x) ≡ false
    of Start b e again = again e
    of (After z) true e again = cc
    of (After z) false e again = and_off (same_name y z) (asked ps y x) ∙ again e

source_some : (x y : ArrayName) (ps : List Pair) → source x ps ≡ Some y → asked ps y x ≡ true
source_some x y [] e = cc
source_some x y (p ∷ ps) e = of p.atom (same_name x p.array) e (source_some x y ps)
  where
    of : (a : Atom) (b : Bool) → source_by a b (source x ps) ≡ Some y → (source x ps ≡ Some y → asked ps y x ≡ true) → ((same_atom (After y) a && b) || asked ps y x) ≡ true
    of Start b e again = again e
    of (After z) true e again = let is : z ≡ y = cc in subst (λ w. ((same_name y w && true) || asked ps y x) ≡ true) (sym is) (rw (same_name_refl y) refl)
    of (After z) false e again = and_off (same_name y z) (asked ps y x) ∙ again e

first_none : {A : Type 0} (p : A → Bool) (xs : List A) (at : ℕ) → first_place p xs at ≡ None → (y : A) → Member y xs → p y ≡ false
first_none p [] at e y m = absurd m
first_none p (x ∷ xs) at e y m = of (p x) refl e m (λ f k. first_none p xs (at + 1) f y k)
  where
    of : (b : Bool) → p x ≡ b → (if b then Some at else first_place p xs (at + 1)) ≡ None → (x ≡ y) ⊎ Member y xs → (first_place p xs (at + 1) ≡ None → Member y xs → p y ≡ false) → p y ≡ false
    of true f e m again = cc
    of false f e (inl is) again = subst (λ z. p z ≡ false) is f
    of false f e (inr m) again = again e m

first_from : {A : Type 0} (p : A → Bool) (xs : List A) (at j : ℕ) (d : A) → first_place p xs at ≡ Some j → (k : ℕ) × (j ≡ at + k) × (k < length xs) × (p (get_or xs k d) ≡ true)
first_from p [] at j d e = cc
first_from {A} p (x ∷ xs) at j d e = of (p x) refl e (first_from p xs (at + 1) j d)
  where
    of : (b : Bool) → p x ≡ b → (if b then Some at else first_place p xs (at + 1)) ≡ Some j → (first_place p xs (at + 1) ≡ Some j → (k : ℕ) × (j ≡ (at + 1) + k) × (k < length xs) × (p (get_or xs k d) ≡ true)) →
        (k : ℕ) × (j ≡ at + k) × (k < length (x ∷ xs)) × (p (get_or (x ∷ xs) k d) ≡ true)
    of true f e again = let is : at ≡ j = cc in (0, omega (arith, is), omega arith, f)
    of false f e again = let more = again e in (suc more.0, omega (arith, more.1), omega (arith, more.2), more.3)

first_some : {A : Type 0} (p : A → Bool) (xs : List A) (j : ℕ) (d : A) → first_place p xs 0 ≡ Some j → (j < length xs) × (p (get_or xs j d) ≡ true)
first_some p xs j d e =
    let at = first_from p xs 0 j d e in
    let is : at.0 ≡ j = omega (arith, at.1) in
    (omega (arith, is, at.2), subst (λ k. p (get_or xs k d) ≡ true) is at.3)

module _ (path waiting : List ArrayName) (ps : List Pair) (n : ℕ) (x : ArrayName) where
  asked_there : (y : ArrayName) (names : List ArrayName) (j : ℕ) → source x ps ≡ Some y → first_place (same_name y) names 0 ≡ Some j → needed ps n (get_or names j x) x ≡ true
  asked_there y names j s e =
      let is : y ≡ get_or names j x = same_name_is y (get_or names j x) (first_some (same_name y) names j x e).1 in
      or_left (asked ps (get_or names j x) x) (earlier n (get_or names j x) x) (subst (λ z. asked ps z x ≡ true) is (source_some x y ps s))

  absent : (y : ArrayName) (names : List ArrayName) → first_place (same_name y) names 0 ≡ None → ¬ Member y names
  absent y names e m = let never : same_name y y ≡ false = first_none (same_name y) names 0 e y m in let yes = same_name_refl y in cc

  pub on_path : (y : ArrayName) (j : ℕ) → source x ps ≡ Some y → first_place (same_name y) path 0 ≡ Some j → Finds path waiting ps n x (OnPath j)
  on_path y j s e = ((first_some (same_name y) path j x e).0, asked_there y path j s e)

  pub waits : (y : ArrayName) (i : ℕ) → source x ps ≡ Some y → first_place (same_name y) path 0 ≡ None → first_place (same_name y) waiting 0 ≡ Some i → Finds path waiting ps n x (Waiting i)
  waits y i s none e =
      let found = first_some (same_name y) waiting i x e in
      (found.0, asked_there y waiting i s e, λ m. absent y path none (subst (λ z. Member z path) (sym (same_name_is y (get_or waiting i x) found.1)) m))

  pub gone : (y : ArrayName) → source x ps ≡ Some y → first_place (same_name y) path 0 ≡ None → first_place (same_name y) waiting 0 ≡ None → Finds path waiting ps n x (Gone y)
  gone y s none never = (source_some x y ps s, absent y path none, absent y waiting never)

  pub earlier_on_path : (j : ℕ) → first_place (λ y. earlier n y x) path 0 ≡ Some j → Finds path waiting ps n x (OnPath j)
  earlier_on_path j e =
      let found = first_some (λ y. earlier n y x) path j x e in
      (found.0, or_right (asked ps (get_or path j x) x) (earlier n (get_or path j x) x) found.1)

  pub earlier_waits : (i : ℕ) → first_place (λ y. earlier n y x) path 0 ≡ None → first_place (λ y. earlier n y x) waiting 0 ≡ Some i → Finds path waiting ps n x (Waiting i)
  earlier_waits i none e =
      let found = first_some (λ y. earlier n y x) waiting i x e in (
        found.0,
        or_right (asked ps (get_or waiting i x) x) (earlier n (get_or waiting i x) x) found.1,
        λ m. let never : earlier n (get_or waiting i x) x ≡ false = first_none (λ y. earlier n y x) path 0 none (get_or waiting i x) m in let yes = found.1 in cc,
      )

  pub nowhere : source x ps ≡ None → first_place (λ y. earlier n y x) path 0 ≡ None → first_place (λ y. earlier n y x) waiting 0 ≡ None → Finds path waiting ps n x Nowhere
  nowhere s none never y m = rw (source_none x y ps s) (of m)
    where
      of : Member y path ⊎ Member y waiting → earlier n y x ≡ false
      of (inl k) = first_none (λ y. earlier n y x) path 0 none y k
      of (inr k) = first_none (λ y. earlier n y x) waiting 0 never y k

module _ (x : ArrayName) where
  -- the pairs that don't put x before another
  abbrev pub left : List Pair → List Pair
  left ps = filter (λ p. not (follows x p)) ps

  asked_fewer : (ps : List Pair) (a b : ArrayName) → asked (left ps) a b ≡ true → asked ps a b ≡ true
  asked_fewer [] a b e = e
  asked_fewer (p ∷ ps) a b e = of (same_pair (record { atom = After a; array = b }) p) (follows x p) refl e (asked_fewer ps a b)
    where
      of : (s t : Bool) → same_pair (record { atom = After a; array = b }) p ≡ s → list_any (same_pair (record { atom = After a; array = b })) (cond (not t) (p ∷ left ps) (left ps)) ≡ true → (asked (left ps) a b ≡ true → asked ps a b ≡ true) → (s || asked ps a b) ≡ true
      of true t f e again = refl
      of false true f e again = again e
      of false false f e again = again (subst (λ u. (u || asked (left ps) a b) ≡ true) f e)

  asked_kept : (ps : List Pair) (a b : ArrayName) → same_name x a ≡ false → asked ps a b ≡ true → asked (left ps) a b ≡ true
  asked_kept [] a b other e = e
  asked_kept (p ∷ ps) a b other e = of (same_pair (record { atom = After a; array = b }) p) (follows x p) refl refl e (asked_kept ps a b other)
    where
      of : (s t : Bool) → same_pair (record { atom = After a; array = b }) p ≡ s → follows x p ≡ t → (s || asked ps a b) ≡ true → (asked ps a b ≡ true → asked (left ps) a b ≡ true) → list_any (same_pair (record { atom = After a; array = b })) (cond (not t) (p ∷ left ps) (left ps)) ≡ true
      of true true f g e again =
          let is : record { atom = After a; array = b } ≡ p = same_pair_is (record { atom = After a; array = b }) p f in
          let hit : same_name a x ≡ true = subst (λ (r : Pair). follows x r ≡ true) (sym is) g in
          let yes : same_name x a ≡ true = subst (λ w. same_name x w ≡ true) (sym (same_name_is a x hit)) (same_name_refl x) in
          absurd (cc)
      of true false f g e again = or_left (same_pair (record { atom = After a; array = b }) p) (asked (left ps) a b) f
      of false true f g e again = again e
      of false false f g e again = or_right (same_pair (record { atom = After a; array = b }) p) (asked (left ps) a b) (again e)

  no_longer : (ps : List Pair) → length (left ps) ≤ length ps
  no_longer [] = omega arith
  no_longer (p ∷ ps) = of (follows x p) (no_longer ps)
    where
      of : (t : Bool) → length (left ps) ≤ length ps → length (cond (not t) (p ∷ left ps) (left ps)) ≤ length (p ∷ ps)
      of true h = omega (arith, h)
      of false h = omega (arith, h)

  pub shorter : (ps : List Pair) (b : ArrayName) → asked ps x b ≡ true → length (left ps) < length ps
  shorter [] b e = absurd (cc)
  shorter (p ∷ ps) b e = of (same_pair (record { atom = After x; array = b }) p) (follows x p) refl refl e (no_longer ps) (shorter ps b)
    where
      of : (s t : Bool) → same_pair (record { atom = After x; array = b }) p ≡ s → follows x p ≡ t → (s || asked ps x b) ≡ true → length (left ps) ≤ length ps → (asked ps x b ≡ true → length (left ps) < length ps) → length (cond (not t) (p ∷ left ps) (left ps)) < length (p ∷ ps)
      of s true f g e h again = omega (arith, h)
      of true false f g e h again =
          let is : record { atom = After x; array = b } ≡ p = same_pair_is (record { atom = After x; array = b }) p f in
          let yes : follows x p ≡ true = subst (λ (r : Pair). follows x r ≡ true) is (same_name_refl x) in
          absurd (cc)
      of false false f g e h again = omega (arith, again e)

  pub needed_fewer : (ps : List Pair) (n : ℕ) (a b : ArrayName) → needed (left ps) n a b ≡ true → needed ps n a b ≡ true
  needed_fewer ps n a b e = of (asked (left ps) a b) refl e
    where
      of : (t : Bool) → asked (left ps) a b ≡ t → (t || earlier n a b) ≡ true → needed ps n a b ≡ true
      of true f g = or_left (asked ps a b) (earlier n a b) (asked_fewer ps a b f)
      of false f g = or_right (asked ps a b) (earlier n a b) g

  pub needed_kept : (ps : List Pair) (n : ℕ) (a b : ArrayName) → same_name x a ≡ false → needed ps n a b ≡ true → needed (left ps) n a b ≡ true
  needed_kept ps n a b other e = of (asked ps a b) refl e
    where
      of : (t : Bool) → asked ps a b ≡ t → (t || earlier n a b) ≡ true → needed (left ps) n a b ≡ true
      of true f g = or_left (asked (left ps) a b) (earlier n a b) (asked_kept ps a b other f)
      of false f g = or_right (asked (left ps) a b) (earlier n a b) g
