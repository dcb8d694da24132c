-- A circle may begin anywhere, and begun at its earliest name it is a cycle; a circle and a numbering exclude each other.
use Rattle.std.proofs.Common.{◌≡◌, ◌⊎◌, inl, inr, ℕ, zero, suc, ◌<◌, Bool, true, false, ◌||◌, nat_lt, List, [], ◌∷◌, ◌++◌, length, get_or, take, drop, refl, sym, ap, subst, arith}
use Rattle.std.specs.Prelude.{◌≢◌, All, AllPairs, Contains}
use Rattle.std.specs.List.{list_any}
use Rattle.std.proofs.lemmas.Bool.{and_parts, ltb-true}
use Rattle.std.proofs.lemmas.Bool.Decides.{nat_tests}
use Rattle.std.proofs.lemmas.List.{take-append-drop}
use Rattle.std.proofs.lemmas.List.Kept.{AllPairs-cons}
use Rattle.std.proofs.lemmas.Map.Views.{Contains-from_any}
use Rattle.lucid_base.specs.declared.array.ArrayName.{ArrayName}
use Rattle.lucid_base.specs.declared.array.ArrayName.TheVariants.{Global, Param}
use Rattle.lucid_constraints.proofs.CircleWalk.{circle_has_none}
use Rattle.lucid_constraints.proofs.MemberLemmas.{or_right, member_left, member_right, member_split, member_at, place_of_member}
use Rattle.lucid_constraints.proofs.NamesLemmas.{order_of_all}
use Rattle.lucid_constraints.proofs.SameLemmas.{same_pair_is, same_pair_refl}
use Rattle.lucid_constraints.specs.Circle.{asked, comes_first, earlier, needed, Covers, Distinct, IsCircle, IsEarliest, Member, OrderOn, Turned}
use Rattle.lucid_constraints.specs.Circle as circle
use Rattle.lucid_constraints.specs.Cycle.{ComesFirst, Earlier, FormsCycle, HasNumbering, IsCycle, Needed}
use Rattle.lucid_constraints.specs.Cycle as cycle
use Rattle.lucid_constraints.specs.Same.{same_pair}
use Rattle.lucid_constraints.specs.declared.pair.Atom.TheVariants.{After}
use Rattle.lucid_constraints.specs.declared.pair.Pair.{Pair}

module _ {A : Type 0} (before : A → A → Bool) where
  first_of_both : (xs ys : List A) (z : A) → get_or (xs ++ ys) 0 z ≡ get_or xs 0 (get_or ys 0 z)
  first_of_both [] ys z = refl
  first_of_both (x ∷ xs) ys z = refl

  split : (xs ys : List A) (z : A) → circle.Leads before (xs ++ ys) z → circle.Leads before xs (get_or ys 0 z) × circle.Leads before ys z
  split [] ys z h = (tt, h)
  split (x ∷ xs) ys z h = let more = split xs ys z h.1 in ((subst (λ w. before x w ≡ true) (first_of_both xs ys z) h.0, more.0), more.1)

  join : (xs ys : List A) (z : A) → circle.Leads before xs (get_or ys 0 z) → circle.Leads before ys z → circle.Leads before (xs ++ ys) z
  join [] ys z h k = k
  join (x ∷ xs) ys z h k = (subst (λ w. before x w ≡ true) (sym (first_of_both xs ys z)) h.0, join xs ys z h.1 k)

  pub turned : (x y : A) (xs ys : List A) → circle.Leads before (x ∷ xs ++ y ∷ ys) x → circle.Leads before (y ∷ ys ++ x ∷ xs) y
  turned x y xs ys h = let both = split (x ∷ xs) (y ∷ ys) x h in join (y ∷ ys) (x ∷ xs) y both.1 both.0

  parts : (xs ys : List A) → Distinct (xs ++ ys) → Distinct xs × Distinct ys × ((y : A) → Member y xs → Member y ys → ⊥)
  parts [] ys d = (tt, d, λ y m k. absurd m)
  parts (x ∷ xs) ys d = let more = parts xs ys d.1 in (((λ m. d.0 (member_left x xs ys m)), more.0), more.1, λ y m k. of y m k (λ n. more.2 y n k))
    where
      of : (y : A) → Member y (x ∷ xs) → Member y ys → (Member y xs → ⊥) → ⊥
      of y (inl e) k again = d.0 (member_right x xs ys (subst (λ z. Member z ys) (sym e) k))
      of y (inr m) k again = again m

  whole : (xs ys : List A) → Distinct xs → Distinct ys → ((y : A) → Member y xs → Member y ys → ⊥) → Distinct (xs ++ ys)
  whole [] ys d e none = e
  whole (x ∷ xs) ys d e none = ((λ m. of (member_split x xs ys m)), whole xs ys d.1 e (λ y m k. none y (inr m) k))
    where
      of : Member x xs ⊎ Member x ys → ⊥
      of (inl m) = d.0 m
      of (inr k) = none x (inl refl) k

  nil_right : (xs : List A) → xs ++ [] ≡ xs
  nil_right [] = refl
  nil_right (x ∷ xs) = ap (λ ys. x ∷ ys) (nil_right xs)

  turned_circle : (front back : List A) → IsCircle before (front ++ back) → IsCircle before (back ++ front)
  turned_circle [] back c = subst (λ xs. IsCircle before xs) (sym (nil_right back)) c
  turned_circle (x ∷ xs) [] c = subst (λ ys. IsCircle before ys) (nil_right (x ∷ xs)) c
  turned_circle (x ∷ xs) (y ∷ ys) c =
      let d = parts (x ∷ xs) (y ∷ ys) c.distinct in
      record { some = omega arith; distinct = whole (y ∷ ys) (x ∷ xs) d.1 d.0 (λ z m k. d.2 z k m); closed = λ e. turned x y xs ys (c.closed e) }

  circle_from : (at : ℕ) (xs : List A) → IsCircle before xs → IsCircle before (drop at xs ++ take at xs)
  circle_from at xs c = turned_circle (take at xs) (drop at xs) (subst (λ ys. IsCircle before ys) (sym (take-append-drop at xs)) c)

  member_turned : (z : A) (at : ℕ) (xs : List A) → Member z (drop at xs ++ take at xs) → Member z xs
  member_turned z at xs m = subst (λ ys. Member z ys) (take-append-drop at xs) (of (member_split z (drop at xs) (take at xs) m))
    where
      of : Member z (drop at xs) ⊎ Member z (take at xs) → Member z (take at xs ++ drop at xs)
      of (inl k) = member_right z (take at xs) (drop at xs) k
      of (inr k) = member_left z (take at xs) (drop at xs) k

all_from : {A : Type 0} (P : A → Type 0) (xs : List A) → ((z : A) → Member z xs → P z) → All P xs
all_from P xs h k d l = h (get_or xs k d) (member_at xs k d l)

pairs_from : {A : Type 0} (xs : List A) → Distinct xs → AllPairs (λ x y. x ≢ y) xs
pairs_from [] d = λ i j e h l. absurd (omega (arith, l))
pairs_from (x ∷ xs) d = AllPairs-cons (λ x y. x ≢ y) x xs (all_from (λ y. x ≢ y) xs (λ z m e. d.0 (subst (λ w. Member w xs) (sym e) m))) (pairs_from xs d.1)

first_of_drop : (at : ℕ) (xs ys : List ArrayName) (d : ArrayName) → at < length xs → get_or (drop at xs ++ ys) 0 d ≡ get_or xs at d
first_of_drop at [] ys d h = absurd (omega arith)
first_of_drop zero (x ∷ xs) ys d h = refl
first_of_drop (suc at) (x ∷ xs) ys d h = first_of_drop at xs ys d (omega arith)

first_of_two : (x y : ArrayName) → x ≢ y → comes_first y x ≡ false → ComesFirst x y
first_of_two (Global a) (Global b) isnt e = of (nat_lt a b) refl
  where
    of : (t : Bool) → nat_lt a b ≡ t → a < b
    of true f = ltb-true a b f
    of false f = let same : a ≡ b = grind (arith, nat_tests) in absurd (isnt (ap Global same))
first_of_two (Global a) (Param i) isnt e = tt
first_of_two (Param i) (Global a) isnt e = absurd (cc)
first_of_two (Param i) (Param j) isnt e = of (nat_lt i j) refl
  where
    of : (t : Bool) → nat_lt i j ≡ t → i < j
    of true f = ltb-true i j f
    of false f = let same : i ≡ j = grind (arith, nat_tests) in absurd (isnt (ap Param same))

module _ (ps : List Pair) (n : ℕ) where
  pub asked_is : (x y : ArrayName) → asked ps x y ≡ true → Contains ps (record { atom = After x; array = y })
  asked_is x y e = Contains-from_any same_pair_is (record { atom = After x; array = y }) ps e

  pub needed_is : (x y : ArrayName) → needed ps n x y ≡ true → Needed n ps x y
  needed_is x y e = of (asked ps x y) refl e
    where
      declared : (x y : ArrayName) → earlier n x y ≡ true → Earlier n x y
      declared (Global a) (Global b) e = let both = and_parts (nat_lt a b) (nat_lt b n) e in (ltb-true a b both.0, ltb-true b n both.1)
      declared (Global a) (Param b) e = absurd (cc)
      declared (Param a) y e = absurd (cc)

      of : (t : Bool) → asked ps x y ≡ t → (t || earlier n x y) ≡ true → Needed n ps x y
      of true f g = inl (asked_is x y f)
      of false f g = inr (declared x y g)

  any_at : (q : Pair) (qs : List Pair) (k : ℕ) → k < length qs → get_or qs k q ≡ q → list_any (same_pair q) qs ≡ true
  any_at q [] k h e = absurd (omega arith)
  any_at q (p ∷ qs) zero h e = rw (subst (λ (r : Pair). same_pair q r ≡ true) (sym e) (same_pair_refl q)) refl
  any_at q (p ∷ qs) (suc k) h e = or_right (same_pair q p) (list_any (same_pair q) qs) (any_at q qs k (omega arith) e)

  pub needed_from : (x y : ArrayName) → Needed n ps x y → needed ps n x y ≡ true
  needed_from x y (inl there) = rw (any_at (record { atom = After x; array = y }) ps there.0 there.1 there.2) refl
  needed_from (Global a) (Global b) (inr up) = or_right (asked ps (Global a) (Global b)) (earlier n (Global a) (Global b)) (grind (arith, nat_tests))
  needed_from (Global a) (Param j) (inr up) = absurd up
  needed_from (Param i) y (inr up) = absurd up

  leads_are : (xs : List ArrayName) (z : ArrayName) → circle.Leads (needed ps n) xs z → cycle.Leads (Needed n ps) xs z
  leads_are [] z h = tt
  leads_are (x ∷ xs) z h = (needed_is x (get_or xs 0 z) h.0, leads_are xs z h.1)

  forms : (xs : List ArrayName) → IsCircle (needed ps n) xs → ((z : ArrayName) → Member z xs → comes_first z (get_or xs 0 (Global 0)) ≡ false) → FormsCycle (Needed n ps) xs
  forms [] c none = let h = c.some in absurd (omega (arith, h))
  forms (x ∷ xs) c none = record {
    distinct = pairs_from (x ∷ xs) c.distinct;
    leads = leads_are (x ∷ xs) x (c.closed x);
    earliest = all_from (ComesFirst x) xs (λ z m. first_of_two x z (λ e. c.distinct.0 (subst (λ w. Member w xs) (sym e) m)) (none z (inr m)));
  }

  pub turned_forms : (old new : List ArrayName) → IsCircle (needed ps n) old → Turned old new → FormsCycle (Needed n ps) new
  turned_forms old new c t = subst (λ xs. FormsCycle (Needed n ps) xs) (sym t.2) (forms (drop t.0 old ++ take t.0 old) (circle_from (needed ps n) t.0 old c) none)
    where
      none : (z : ArrayName) → Member z (drop t.0 old ++ take t.0 old) → comes_first z (get_or (drop t.0 old ++ take t.0 old) 0 (Global 0)) ≡ false
      none z m =
          let at = place_of_member z (Global 0) old (member_turned (needed ps n) z t.0 old m) in
          rw (first_of_drop t.0 old (take t.0 old) (Global 0) t.1.within, ← at.2) (t.1.none_before at.0 (Global 0) at.1)

  pub numbering : (names : List ArrayName) → Covers (needed ps n) names → OrderOn (needed ps n) (λ x. Member x names) → HasNumbering (Needed n ps)
  numbering names c order = let all = order_of_all n ps names c order in (all.0, λ x y e. all.1 x y (needed_from x y e))

  pub no_numbering : (xs : List ArrayName) → IsCircle (needed ps n) xs → HasNumbering (Needed n ps) → ⊥
  no_numbering xs c N = circle_has_none (needed ps n) xs c N.0 (λ x y e. N.1 x y (needed_is x y e))
