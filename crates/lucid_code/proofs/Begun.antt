-- A packet as it comes.
use Rattle.std.proofs.Common.{◌≡◌, ℕ, zero, suc, ◌+◌, ◌<◌, ◌^◌, List, [], ◌∷◌, true, false, ◌&&◌, length, slice_index, nat_eq, sym, subst, ⊎_elim, mod-lt, pow_pos, arith}
use Rattle.std.specs.List.{starts_with}
use Rattle.std.proofs.lemmas.Bool.{and_parts, eqb-true, true≢false, cases_lt}
use Rattle.std.proofs.lemmas.List.{get_or_past}
use Rattle.lucid_base.specs.Ops.{low_of}
use Rattle.lucid_base.specs.declared.event.Event.{Event}
use Rattle.lucid_code.specs.Inputs.{IsInput}
use Rattle.lucid_code.specs.Parts.{CodeParts}
use Rattle.lucid_code.specs.Run.{FieldsFit, begun}
use Rattle.lucid_code.specs.Valid.{IsValid}

tail_fits : (widths args : List ℕ) → ((k : ℕ) → k < length args → slice_index args k < 2 ^ slice_index widths (3 + k)) → (k : ℕ) → slice_index args k < 2 ^ slice_index widths (3 + k)
tail_fits widths args h k = ⊎_elim (λ l. h k l) (λ l. subst (λ v. v < 2 ^ slice_index widths (3 + k)) (sym (get_or_past args k 0 l)) (pow_pos (slice_index widths (3 + k)))) (cases_lt k (length args))

words_first : (fields : List ℕ) → starts_with nat_eq fields (32 ∷ 32 ∷ 32 ∷ []) ≡ true → (slice_index fields 0 ≡ 32) × (slice_index fields 1 ≡ 32) × (slice_index fields 2 ≡ 32)
words_first [] h = absurd (true≢false (sym h))
words_first (a ∷ []) h = absurd (true≢false (sym (and_parts (nat_eq 32 a) false h).1))
words_first (a ∷ b ∷ []) h = absurd (true≢false (sym (and_parts (nat_eq 32 b) false (and_parts (nat_eq 32 a) (nat_eq 32 b && false) h).1).1))
words_first (a ∷ b ∷ c ∷ rest) h =
    let first = and_parts (nat_eq 32 a) (nat_eq 32 b && (nat_eq 32 c && true)) h in
    let second = and_parts (nat_eq 32 b) (nat_eq 32 c && true) first.1 in
    (sym (eqb-true 32 a first.0), sym (eqb-true 32 b second.0), sym (eqb-true 32 c (and_parts (nat_eq 32 c) true second.1).0))

-- The fields of an input are within their widths as it comes.
pub begun_fits : (code : CodeParts) (cells : List (List ℕ)) (now me : ℕ) (event : Event) → IsValid code → IsInput code me event → FieldsFit code.fields (begun cells now me event).fields
begun_fits code cells now me event valid input = by
  where
    words : (slice_index code.fields 0 ≡ 32) × (slice_index code.fields 1 ≡ 32) × (slice_index code.fields 2 ≡ 32)
    words = words_first code.fields (and_parts _ (starts_with nat_eq code.fields (32 ∷ 32 ∷ 32 ∷ [])) valid.inputs).1

    by : (k : ℕ) → slice_index (event.id ∷ low_of 32 now ∷ me ∷ event.args) k < 2 ^ slice_index code.fields k
    by zero = subst (λ w. event.id < 2 ^ w) (sym words.0) input.id
    by (suc zero) = subst (λ w. low_of 32 now < 2 ^ w) (sym words.1) (mod-lt now (pow_pos 32))
    by (suc (suc zero)) = subst (λ w. me < 2 ^ w) (sym words.2) input.switch
    by (suc (suc (suc k))) = subst (λ i. slice_index event.args k < 2 ^ slice_index code.fields i) three (tail_fits code.fields event.args input.fit k)
      where
        three : 3 + k ≡ suc (suc (suc k))
        three = omega arith
