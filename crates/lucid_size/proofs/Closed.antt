-- Looking into each instance that is found, once, finds the least set.
use Rattle.std.proofs.Common.{◌≡◌, ℕ, zero, suc, ◌+◌, ◌<◌, ◌≤◌, Bool, true, false, List, [], ◌∷◌, ◌++◌, length, get_or, take, refl, sym, ◌∙◌, ap, subst, ⊎_elim, arith, append_assoc, length-append, if◌then◌else◌}
use Rattle.std.specs.Prelude.{All, ◌==◌}
use Rattle.std.specs.List.{Contains, IsDistinct, AllByRecursion, list_any, sum_by}
use Rattle.std.specs.Cmp.{IsEquivalence}
use Rattle.std.proofs.lemmas.Bool.{false≢true, and_parts, and_from, eqb-true, eq-eqb}
use Rattle.std.proofs.lemmas.List.{take-append-le, take_more, append-nil}
use Rattle.std.proofs.lemmas.List.Elements.{All-nil, All-cons, All-get_or, All-head, All-tail, All-append, All-contains, All-contains_itself, All-weaker, Contains-append_left, Contains-append_right, Contains-append_cases}
use Rattle.std.proofs.lemmas.List.Sums.{sum_by-cons, sum_by_more, sum_by-take-le}
use Rattle.std.proofs.lemmas.Option.{slice_get-get_or}
use Rattle.std.proofs.lemmas.Map.Keys.{IsDistinct-push}
use Rattle.std.proofs.lemmas.Map.Views.{Contains-from_any}
use Rattle.lucid_size.specs.declared.step.Instance.{Instance}
use Rattle.lucid_size.specs.declared.step.Step.{Step}
use Rattle.lucid_size.specs.Used.{Used, uses}
use Rattle.lucid_size.specs.Search.{AreUsed, AreWithin, HasUses, IsUsed, Searching, body_in, or_none, same_instance, with_all, with_one}
use Rattle.lucid_size.specs.Bytes.{instance_len, steps_len}

same_true : (i j : Instance) → same_instance i j ≡ true → i ≡ j
same_true i j h =
    let parts = and_parts (i.template == j.template) (i.width == j.width) h in
    let one : i.template ≡ j.template = eqb-true i.template j.template parts.0 in
    let two : i.width ≡ j.width = eqb-true i.width j.width parts.1 in
    λ x. record { template = one x; width = two x }

same_refl : (i : Instance) → same_instance i i ≡ true
same_refl i = and_from (i.template == i.template) (i.width == i.width) (eq-eqb i.template i.template refl) (eq-eqb i.width i.width refl)

same_by : (b c : Bool) (P : Type 0) → (b ≡ true → P) → (c ≡ true → P) → (P → b ≡ true) → (P → c ≡ true) → b ≡ c
same_by true true P f g h k = refl
same_by true false P f g h k = sym (k (f refl))
same_by false true P f g h k = h (g refl)
same_by false false P f g h k = refl

instances_equal : IsEquivalence same_instance
instances_equal = record {
  refl = same_refl;
  symm = λ i j. same_by (same_instance i j) (same_instance j i) (i ≡ j) (same_true i j) (λ h. sym (same_true j i h)) (λ e. subst (λ k. same_instance i k ≡ true) e (same_refl i)) (λ e. subst (λ k. same_instance k i ≡ true) e (same_refl i));
  congr = λ i j k h. ap (λ z. same_instance z k) (same_true i j h);
}

-- ---- one more

one_by : (found : List Instance) (i : Instance) (b : Bool) → list_any (same_instance i) found ≡ b → (more : List Instance) × ((if b then found else found ++ i ∷ []) ≡ found ++ more)
one_by found i true h = ([], sym (append-nil found))
one_by found i false h = (i ∷ [], refl)

has_by : (found : List Instance) (i : Instance) (b : Bool) → list_any (same_instance i) found ≡ b → Contains (if b then found else found ++ i ∷ []) i
has_by found i true h = Contains-from_any same_true i found h
has_by found i false h = Contains-append_right found (i ∷ []) i (zero, omega arith, refl)

all_by : (P : Instance → Type 0) (found : List Instance) (i : Instance) (b : Bool) → All P found → P i → All P (if b then found else found ++ i ∷ [])
all_by P found i true all one = all
all_by P found i false all one = All-append P found (i ∷ []) all (All-cons P i [] one (All-nil P))

distinct_by : (found : List Instance) (i : Instance) (b : Bool) → list_any (same_instance i) found ≡ b → IsDistinct same_instance found → IsDistinct same_instance (if b then found else found ++ i ∷ [])
distinct_by found i true h d = d
distinct_by found i false h d = IsDistinct-push instances_equal found i d h

-- ---- many more

extends : (found is : List Instance) → (more : List Instance) × (with_all found is ≡ found ++ more)
extends found [] = ([], sym (append-nil found))
extends found (i ∷ is) =
    let one = one_by found i (list_any (same_instance i) found) refl in
    let rest = extends (with_one found i) is in
    (one.0 ++ rest.0, rest.1 ∙ ap (λ l. l ++ rest.0) one.1 ∙ append_assoc found one.0 rest.0)

keeps_all : (P : Instance → Type 0) (found is : List Instance) → All P found → All P is → All P (with_all found is)
keeps_all P found [] all more = all
keeps_all P found (i ∷ is) all more = keeps_all P (with_one found i) is (all_by P found i (list_any (same_instance i) found) all (All-head P i is more)) (All-tail P i is more)

stays_distinct : (found is : List Instance) → IsDistinct same_instance found → IsDistinct same_instance (with_all found is)
stays_distinct found [] d = d
stays_distinct found (i ∷ is) d = stays_distinct (with_one found i) is (distinct_by found i (list_any (same_instance i) found) refl d)

still_there : (found is : List Instance) (i : Instance) → Contains found i → Contains (with_all found is) i
still_there found is i has = let more = extends found is in subst (λ l. Contains l i) (sym more.1) (Contains-append_left found more.0 i has)

has_all : (found is : List Instance) → All (Contains (with_all found is)) is
has_all found [] = All-nil (Contains found)
has_all found (i ∷ is) = All-cons (Contains (with_all (with_one found i) is)) i is (still_there (with_one found i) is i (has_by found i (list_any (same_instance i) found) refl)) (has_all (with_one found i) is)

-- ---- the search

module _ (outside : List Step) (bodies : List (List Step)) where
  pub body_at : (k : ℕ) (b : List Step) → k < length bodies → b ≡ get_or bodies k b → body_in bodies k ≡ b
  body_at k b within is = ap or_none (slice_get-get_or bodies k b within) ∙ sym is

  pub searching : AreWithin (length bodies) outside → (found : List Instance) → found ≡ with_all [] (uses 0 outside) → Searching outside bodies found 0
  unfolding IsDistinct
  searching within found is = record {
    used = subst (All (IsUsed outside bodies)) (sym is) (keeps_all (IsUsed outside bodies) [] (uses 0 outside) (All-nil (IsUsed outside bodies))
        (All-weaker (Contains (uses 0 outside)) (IsUsed outside bodies) (λ i has. Used.Outside i.template i.width has) (uses 0 outside) (All-contains_itself (uses 0 outside))));
    outer = subst (λ l. All (Contains l) (uses 0 outside)) (sym is) (has_all [] (uses 0 outside));
    inner = All-nil (HasUses bodies found);
    distinct = subst (IsDistinct same_instance) (sym is) (stays_distinct [] (uses 0 outside) tt);
    within = subst (All (λ i. i.template < length bodies)) (sym is) (keeps_all (λ i. i.template < length bodies) [] (uses 0 outside) (All-nil (λ i. i.template < length bodies)) (within 0));
    reached = omega arith;
  }

  pub looked : (found next : List Instance) (at : ℕ) (i : Instance) → Searching outside bodies found at → at < length found → i ≡ get_or found at i →
      AreWithin (length bodies) (body_in bodies i.template) → next ≡ with_all found (uses i.width (body_in bodies i.template)) → Searching outside bodies next (at + 1)
  looked found next at i s here is within grown =
      let us = uses i.width (body_in bodies i.template) in
      let more = extends found us in
      let front : next ≡ found ++ more.0 = grown ∙ more.1 in
      let taken : take (at + 1) next ≡ take at found ++ i ∷ [] = ap (take (at + 1)) front ∙ take-append-le (at + 1) found more.0 (omega arith) ∙ take_more found at i here ∙ ap (λ x. take at found ++ x ∷ []) (sym is) in
      let there : Contains found i = (at, here, sym is) in
      let i_used : IsUsed outside bodies i = All-contains (IsUsed outside bodies) found i s.used there in
      let stays : (j : Instance) → Contains found j → Contains next j = λ j has. subst (λ l. Contains l j) (sym grown) (still_there found us j has) in
      record {
        used = subst (All (IsUsed outside bodies)) (sym grown) (keeps_all (IsUsed outside bodies) found us s.used
            (All-weaker (Contains us) (IsUsed outside bodies) (λ j has. Used.Within i.template i.width j.template j.width i_used has) us (All-contains_itself us)));
        outer = All-weaker (Contains found) (Contains next) stays (uses 0 outside) s.outer;
        inner = subst (All (HasUses bodies next)) (sym taken) (All-append (HasUses bodies next) (take at found) (i ∷ [])
            (All-weaker (HasUses bodies found) (HasUses bodies next) (λ j has. All-weaker (Contains found) (Contains next) stays (uses j.width (body_in bodies j.template)) has) (take at found) s.inner)
            (All-cons (HasUses bodies next) i [] (subst (λ l. All (Contains l) us) (sym grown) (has_all found us)) (All-nil (HasUses bodies next))));
        distinct = subst (IsDistinct same_instance) (sym grown) (stays_distinct found us s.distinct);
        within = subst (All (λ j. j.template < length bodies)) (sym grown) (keeps_all (λ j. j.template < length bodies) found us s.within (within i.width));
        reached = omega (arith, ap length front, length-append found more.0);
      }

  closed : (found : List Instance) → All (Contains found) (uses 0 outside) → All (HasUses bodies found) found → (k n : ℕ) → Used outside (body_in bodies) k n → Contains found (record { template = k; width = n })
  closed found outer inner k n (Used.Outside _ _ has) = All-contains (Contains found) (uses 0 outside) (record { template = k; width = n }) outer has
  closed found outer inner k n (Used.Within j w _ _ before has) =
      let there = closed found outer inner j w before in
      All-contains (Contains found) (uses w (body_in bodies j)) (record { template = k; width = n }) (All-contains (HasUses bodies found) found (record { template = j; width = w }) inner there) has

  pub all_looked : (found : List Instance) (at : ℕ) → Searching outside bodies found at → length found ≤ at → AreUsed outside bodies found
  all_looked found at s end =
      let whole : take at found ≡ found = Rattle.std.proofs.lemmas.List.take_all at found end in
      record { used = s.used; all = closed found s.outer (subst (All (HasUses bodies found)) whole s.inner) }

-- ---- the sum over the found instances is no more than that over all

removed : (ys : List Instance) (x : Instance) → Contains ys x → (front bs : List Instance) × (ys ≡ front ++ x ∷ bs)
removed [] x has = absurd (let e = has.1 in omega arith)
removed (y ∷ ys) x (zero, within, is) = ([], ys, ap (λ z. z ∷ ys) is)
removed (y ∷ ys) x (suc k, within, is) =
    let later = removed ys x (k, omega arith, is) in
    (y ∷ later.0, later.1, ap (λ l. y ∷ l) later.2)

sum_split : (f : Instance → ℕ) (front : List Instance) (x : Instance) (bs : List Instance) → sum_by f (front ++ x ∷ bs) ≡ f x + sum_by f (front ++ bs)
sum_split f [] x bs = sum_by-cons f x bs
sum_split f (a ∷ front) x bs = let later = sum_split f front x bs in omega (arith, sum_by-cons f a (front ++ x ∷ bs), sum_by-cons f a (front ++ bs))

apart_contains : (x y : Instance) (xs : List Instance) → AllByRecursion (λ z. same_instance x z ≡ false) xs → Contains xs y → x ≡ y → ⊥
apart_contains x y [] apart has e = let w = has.1 in omega arith
apart_contains x y (z ∷ zs) apart (zero, within, is) e = false≢true (sym apart.0 ∙ subst (λ k. same_instance x k ≡ true) (e ∙ sym is) (same_refl x))
apart_contains x y (z ∷ zs) apart (suc k, within, is) e = apart_contains x y zs apart.1 (k, omega arith, is) e

pub sum_within : (f : Instance → ℕ) (xs ys : List Instance) → IsDistinct same_instance xs → ((x : Instance) → Contains xs x → Contains ys x) → sum_by f xs ≤ sum_by f ys
unfolding IsDistinct
sum_within f [] ys distinct each = omega arith
sum_within f (x ∷ xs) ys distinct each =
    let parts = removed ys x (each x (zero, omega arith, refl)) in
    let rest = sum_within f xs (parts.0 ++ parts.1) distinct.1 (λ y has.
    ⊎_elim
    (λ left. Contains-append_left parts.0 parts.1 y left)
    (λ right. at_right y has right)
    (Contains-append_cases parts.0 (x ∷ parts.1) y (subst (λ l. Contains l y) parts.2 (each y (suc has.0, let w = has.1 in omega arith, has.2))))) in
    omega (arith, sum_by-cons f x xs, sum_split f parts.0 x parts.1, ap (sum_by f) parts.2, rest)
  where
    parts' : (front bs : List Instance) × (ys ≡ front ++ x ∷ bs)
    parts' = removed ys x (each x (zero, omega arith, refl))

    at_right : (y : Instance) → Contains xs y → Contains (x ∷ parts'.1) y → Contains (parts'.0 ++ parts'.1) y
    at_right y has (zero, within, is) = absurd (apart_contains x y xs distinct.0 has is)
    at_right y has (suc k, within, is) = Contains-append_right parts'.0 parts'.1 y (k, omega arith, is)

-- ---- one turn of the search

module _ (m : ℕ) (outside : List Step) (bodies : List (List Step)) (found : List Instance) (at : ℕ) (i : Instance) (b : List Step) where
  in_bodies : Searching outside bodies found at → at < length found → i ≡ get_or found at i → i.template < length bodies
  in_bodies s here is = All-contains (λ j. j.template < length bodies) found i s.within (at, here, sym is)

  one_more : Searching outside bodies found at → at < length found → i ≡ get_or found at i → b ≡ get_or bodies i.template b →
      sum_by (instance_len m bodies) (take (at + 1) found) ≡ sum_by (instance_len m bodies) (take at found) + (4 + steps_len m i.width b)
  one_more s here is body =
      sum_by_more (instance_len m bodies) found at i here
      ∙ ap (λ j. sum_by (instance_len m bodies) (take at found) + instance_len m bodies j) (sym is)
      ∙ ap (λ ss. sum_by (instance_len m bodies) (take at found) + (4 + steps_len m i.width ss)) (body_at outside bodies i.template b (in_bodies s here is) body)

  pub looks : (next : List Instance) → All (AreWithin (length bodies)) bodies → Searching outside bodies found at → at < length found → i ≡ get_or found at i → b ≡ get_or bodies i.template b →
      next ≡ with_all found (uses i.width b) → Searching outside bodies next (at + 1) × (sum_by (instance_len m bodies) (take (at + 1) next) ≡ sum_by (instance_len m bodies) (take at found) + (4 + steps_len m i.width b))
  looks next within s here is body grown =
      let inside = in_bodies s here is in
      let same = body_at outside bodies i.template b inside body in
      let b_within : AreWithin (length bodies) b = subst (AreWithin (length bodies)) (sym body) (All-get_or (AreWithin (length bodies)) bodies i.template b inside within) in
      let grown' : next ≡ with_all found (uses i.width (body_in bodies i.template)) = grown ∙ ap (λ ss. with_all found (uses i.width ss)) (sym same) in
      let more = extends found (uses i.width b) in
      let front : take (at + 1) next ≡ take (at + 1) found = ap (take (at + 1)) (grown ∙ more.1) ∙ take-append-le (at + 1) found more.0 (omega arith) in
      (looked outside bodies found next at i s here is (subst (AreWithin (length bodies)) (sym same) b_within) grown', ap (sum_by (instance_len m bodies)) front ∙ one_more s here is body)

  pub no_room : (room start : ℕ) → Searching outside bodies found at → at < length found → i ≡ get_or found at i → b ≡ get_or bodies i.template b →
      sum_by (instance_len m bodies) (take at found) + room ≡ start → ¬ (4 + steps_len m i.width b ≤ room) → (all : List Instance) → AreUsed outside bodies all → start < sum_by (instance_len m bodies) all
  no_room room start s here is body left short all are =
      let here_sum = one_more s here is body in
      let part = sum_by-take-le (instance_len m bodies) found (at + 1) in
      let whole = sum_within (instance_len m bodies) found all s.distinct (λ x has. are.all x.template x.width (All-contains (IsUsed outside bodies) found x s.used has)) in
      omega arith
