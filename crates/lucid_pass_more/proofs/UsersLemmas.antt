-- The positions of the users of each field, as operations are met.
use Rattle.std.proofs.Common.{◌≡◌, ℕ, zero, suc, ◌+◌, ◌<◌, List, [], ◌∷◌, ◌++◌, Bool, true, false, not, ◌&&◌, ◌||◌, Some, length, take, replicate, slice_get, slice_index_or, slice_set, nat_eq, refl, sym, ap, ap₂, subst, ◌∙◌, ⊎_elim, arith}
use Rattle.std.specs.List.{list_all, list_any}
use Rattle.std.specs.Option.{option_map_or}
use Rattle.std.proofs.lemmas.Bool.{eq-eqb, ne_eqb, cases_eq}
use Rattle.std.proofs.lemmas.List.{get_or-set_same, get_or-set_other, length-set, length-replicate, take_more}
use Rattle.std.proofs.lemmas.List.Folds.{list_all-append}
use Rattle.lucid_code.specs.declared.op.Op.{Op}
use Rattle.lucid_pass_more_spec.specs.Lift.{used_by, uses}
use Rattle.lucid_pass_more.specs.Users.{with_user, all_at, Names}

with_length : (users : List (List ℕ)) (ks : List ℕ) (at : ℕ) → length (with_user users ks at) ≡ length users
with_length users [] at = refl
with_length users (k ∷ ks) at = with_length (slice_set users k (slice_index_or users k [] ++ at ∷ [])) ks at ∙ length-set users k (slice_index_or users k [] ++ at ∷ [])

and_true : (b : Bool) → (b && true) ≡ b
and_true true = refl
and_true false = refl

module _ (ops : List Op) (test : Op → Bool) (at : ℕ) where
  abbrev here : Bool
  here = option_map_or test (slice_get ops at) true

  one_row : (users : List (List ℕ)) (j k : ℕ) → k < length users
      → all_at ops test (slice_index_or (slice_set users j (slice_index_or users j [] ++ at ∷ [])) k []) ≡ (all_at ops test (slice_index_or users k []) && (not (nat_eq j k) || here))
  one_row users j k h = ⊎_elim
      (λ e.
      let row = slice_index_or users k [] in
      subst (λ (i : ℕ). all_at ops test (slice_index_or (slice_set users i (slice_index_or users i [] ++ at ∷ [])) k []) ≡ (all_at ops test row && (not (nat_eq i k) || here))) (sym e)
      (ap (all_at ops test) (get_or-set_same users k (row ++ at ∷ []) [] h) ∙ list_all-append (λ at. option_map_or test (slice_get ops at) true) row (at ∷ [])
      ∙ ap (λ b. all_at ops test row && b) (and_true here ∙ ap (λ b. not b || here) (sym (eq-eqb k k refl)))))
      (λ n. ap (all_at ops test) (get_or-set_other users j k (slice_index_or users j [] ++ at ∷ []) [] (λ e. n (sym e)))
      ∙ sym (and_true (all_at ops test (slice_index_or users k []))) ∙ ap (λ b. all_at ops test (slice_index_or users k []) && (not b || here)) (sym (ne_eqb j k n)))
      (cases_eq j k)

  merge : (a b c d : Bool) → ((a && (not b || d)) && (not c || d)) ≡ (a && (not (b || c) || d))
  merge true true true true = refl
  merge true true true false = refl
  merge true true false true = refl
  merge true true false false = refl
  merge true false c d = refl
  merge false b c d = refl

  all_rows : (users : List (List ℕ)) (ks : List ℕ) (k : ℕ) → k < length users
      → all_at ops test (slice_index_or (with_user users ks at) k []) ≡ (all_at ops test (slice_index_or users k []) && (not (list_any (λ j. nat_eq j k) ks) || here))
  all_rows users [] k h = sym (and_true (all_at ops test (slice_index_or users k [])))
  all_rows users (j ∷ ks) k h =
      let users' = slice_set users j (slice_index_or users j [] ++ at ∷ []) in
      all_rows users' ks k (subst (λ n. k < n) (sym (length-set users j (slice_index_or users j [] ++ at ∷ []))) h)
      ∙ ap (λ b. b && (not (list_any (λ i. nat_eq i k) ks) || here)) (one_row users j k h)
      ∙ merge (all_at ops test (slice_index_or users k [])) (nat_eq j k) (list_any (λ i. nat_eq i k) ks) here

pub names_none : (ops : List Op) (fields : ℕ) (users : List (List ℕ)) → users ≡ replicate fields [] → Names ops [] fields users
names_none ops fields users e = record {
  long = ap length e ∙ length-replicate fields [];
  told = λ k h test. ap (λ (u : List (List ℕ)). all_at ops test (slice_index_or u k [])) e ∙ ap (all_at ops test) (none fields k);
}
  where
    none : (n k : ℕ) → slice_index_or (replicate {A = List ℕ} n []) k [] ≡ []
    none zero k = refl
    none (suc n) zero = refl
    none (suc n) (suc k) = none n k

at_some : (xs : List Op) (i : ℕ) (x : Op) → i < length xs → x ≡ slice_index_or xs i x → slice_get xs i ≡ Some x
at_some [] i x h e = absurd (omega (arith, h))
at_some (y ∷ xs) zero x h e = ap Some (sym e)
at_some (y ∷ xs) (suc i) x h e = at_some xs i x (omega (arith, h)) e

-- one operation more
pub names_more : (ops : List Op) (fields i : ℕ) (o : Op) (users users' : List (List ℕ)) (ks : List ℕ) → i < length ops → o ≡ slice_index_or ops i o → ks ≡ used_by o → users' ≡ with_user users ks i
    → Names ops (take i ops) fields users → Names ops (take (i + 1) ops) fields users'
names_more ops fields i o users users' ks h is used made n =
    let found : slice_get ops i ≡ Some o = at_some ops i o h is in
    let more : take (i + 1) ops ≡ take i ops ++ o ∷ [] = take_more ops i o h ∙ ap (λ (p : Op). take i ops ++ p ∷ []) (sym is) in
    let same : users' ≡ with_user users (used_by o) i = made ∙ ap (λ l. with_user users l i) used in
    record {
      long = ap length same ∙ with_length users (used_by o) i ∙ n.long;
      told = λ k below test.
          ap (λ (u : List (List ℕ)). all_at ops test (slice_index_or u k [])) same
          ∙ all_rows ops test i users (used_by o) k (subst (λ m. k < m) (sym n.long) below)
          ∙ ap₂ (λ (a b : Bool). a && (not (uses o k) || b)) (n.told k below test) (ap (λ x. option_map_or test x true) found)
          ∙ ap (λ b. list_all (λ p. not (uses p k) || test p) (take i ops) && b) (sym (and_true (not (uses o k) || test o)))
          ∙ sym (ap (list_all (λ p. not (uses p k) || test p)) more ∙ list_all-append (λ p. not (uses p k) || test p) (take i ops) (o ∷ []));
    }

pub taken_all : {A : Type 0} (xs : List A) (n : ℕ) → n ≡ length xs → take n xs ≡ xs
taken_all {A = A} xs n e = ap (λ m. take m xs) e ∙ by xs
  where
    by : (xs : List A) → take (length xs) xs ≡ xs
    by [] = refl
    by (x ∷ xs) = ap (λ l. x ∷ l) (by xs)
