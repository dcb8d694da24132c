-- From the back: the kept operations, and the marks of their reads.
use Rattle.std.proofs.Common.{◌≡◌, ℕ, zero, suc, ◌+◌, ◌-◌, ◌<◌, List, [], ◌∷◌, ◌++◌, Bool, true, false, ◌||◌, Option, None, Some, if◌then◌else◌, length, drop, reverse, replicate, slice_index_or, slice_set, nat_eq, nat_lt, refl, sym, ap, ap₂, subst, ◌∙◌, ⊎_elim, arith}
use Rattle.std.specs.List.{list_all, list_any}
use Rattle.std.specs.Option.{option_map_or}
use Rattle.std.proofs.Math.Seq.{drop-cons}
use Rattle.std.proofs.lemmas.Bool.{and_parts, eq-eqb, ne_eqb, cases_eq, ltb-true}
use Rattle.std.proofs.lemmas.List.{get_or-set_same, get_or-set_other, length-set, length-replicate, reverse-append}
use Rattle.lucid_code.specs.declared.op.Op.{Op}
use Rattle.lucid_code.specs.Uses.{read_by, only_writes}
use Rattle.lucid_code.specs.Parts.{CodeParts}
use Rattle.lucid_code.specs.Valid.{IsValid}
use Rattle.lucid_code.proofs.Facts.{sound_each}
use Rattle.lucid_code.proofs.Members.{all_from}
use Rattle.lucid_pass_spec.specs.Dead.{reads, is_read, is_needed, kept_if, live}
use Rattle.lucid_code.proofs.Fresh.{only_written}
use Rattle.lucid_pass.specs.Marks.{marked, is_marked, writes_below}

pub marked_length : (ks : List ℕ) (read : List Bool) → length (marked ks read) ≡ length read
marked_length [] read = refl
marked_length (k ∷ ks) read = marked_length ks (slice_set read k true) ∙ length-set read k true

swap : (a b c : Bool) → (b || (a || c)) ≡ ((a || b) || c)
swap true true c = refl
swap true false c = refl
swap false b c = refl

set_marks : (read : List Bool) (j k : ℕ) → k < length read → slice_index_or (slice_set read j true) k false ≡ (nat_eq j k || slice_index_or read k false)
set_marks read j k h = ⊎_elim
    (λ e. subst (λ i. slice_index_or (slice_set read i true) k false ≡ true) (sym e) (get_or-set_same read k true false h) ∙ sym (ap (λ b. b || slice_index_or read k false) (eq-eqb j k e)))
    (λ n. get_or-set_other read j k true false (λ e. n (sym e)) ∙ sym (ap (λ b. b || slice_index_or read k false) (ne_eqb j k n)))
    (cases_eq j k)

pub marked_at : (ks : List ℕ) (read : List Bool) (k : ℕ) → k < length read → slice_index_or (marked ks read) k false ≡ (list_any (λ j. nat_eq j k) ks || slice_index_or read k false)
marked_at [] read k h = refl
marked_at (j ∷ ks) read k h =
    marked_at ks (slice_set read j true) k (subst (λ n. k < n) (sym (length-set read j true)) h)
    ∙ ap (λ b. list_any (λ i. nat_eq i k) ks || b) (set_marks read j k h)
    ∙ swap (nat_eq j k) (list_any (λ i. nat_eq i k) ks) (slice_index_or read k false)

-- the marks of the fields that the operations read
pub record Marks (fields : ℕ) (read : List Bool) (ops : List Op) : Type 0 where
  pub long : length read ≡ fields
  pub told : (k : ℕ) → k < fields → slice_index_or read k false ≡ is_read ops k

none_marked : (n k : ℕ) → slice_index_or (replicate n false) k false ≡ false
none_marked zero k = refl
none_marked (suc n) zero = refl
none_marked (suc n) (suc k) = none_marked n k

-- This many turns from the end: the kept operations, the last first, and their marks.
pub record Back (fields turn : ℕ) (ops : List Op) (read : List Bool) (kept : List Op) : Type 0 where
  pub left : reverse kept ≡ live (drop (length ops - turn) ops)
  pub marks : Marks fields read (live (drop (length ops - turn) ops))

module _ (fields : ℕ) where
  needed_same : (read : List Bool) (ops : List Op) (o : Op) → writes_below fields o ≡ true → Marks fields read ops → is_marked read o ≡ is_needed ops o
  needed_same read ops o h m = by (only_writes o.act) refl
    where
      by : (to : Option ℕ) → only_writes o.act ≡ to → option_map_or (λ k. slice_index_or read k false) to true ≡ option_map_or (is_read ops) to true
      by None e = refl
      by (Some k) e = m.told k (ltb-true k fields (sym (ap (λ to. option_map_or (λ k. nat_lt k fields) to true) (only_written o.act k e)) ∙ h))

  step : (o : Op) (read : List Bool) (kept xs : List Op) → reverse kept ≡ xs → Marks fields read xs → (b : Bool) →
      (reverse (if b then kept ++ o ∷ [] else kept) ≡ kept_if b o xs) × Marks fields (if b then marked (read_by o) read else read) (kept_if b o xs)
  step o read kept xs e m true = (
    reverse-append kept (o ∷ []) ∙ ap (λ l. o ∷ l) e,
    record {
      long = marked_length (read_by o) read ∙ m.long;
      told = λ k h. marked_at (read_by o) read k (subst (λ n. k < n) (sym m.long) h) ∙ ap (λ b. reads o k || b) (m.told k h);
    },
  )
  step o read kept xs e m false = (e, m)

  back_with : (o : Op) (read : List Bool) (kept xs : List Op) → writes_below fields o ≡ true → reverse kept ≡ live xs → Marks fields read (live xs) →
      (reverse (if is_marked read o then kept ++ o ∷ [] else kept) ≡ live (o ∷ xs)) × Marks fields (if is_marked read o then marked (read_by o) read else read) (live (o ∷ xs))
  back_with o read kept xs h e m =
      subst (λ b. (reverse (if is_marked read o then kept ++ o ∷ [] else kept) ≡ kept_if b o (live xs)) × Marks fields (if is_marked read o then marked (read_by o) read else read) (kept_if b o (live xs)))
      (needed_same read (live xs) o h m) (step o read kept (live xs) e m (is_marked read o))

  below_at : (ops : List Op) (i : ℕ) (d : Op) → list_all (writes_below fields) ops ≡ true → i < length ops → writes_below fields (slice_index_or ops i d) ≡ true
  below_at [] i d h below = absurd (omega arith)
  below_at (o ∷ ops) zero d h below = (and_parts (writes_below fields o) (list_all (writes_below fields) ops) h).0
  below_at (o ∷ ops) (suc i) d h below = below_at ops i d (and_parts (writes_below fields o) (list_all (writes_below fields) ops) h).1 (omega arith)

  -- one operation more from the back
  pub back_more : (turn : ℕ) (ops : List Op) (read read' : List Bool) (kept kept' : List Op) (o : Op) → turn < length ops → o ≡ slice_index_or ops (length ops - 1 - turn) o → list_all (writes_below fields) ops ≡ true
      → kept' ≡ (if is_marked read o then kept ++ o ∷ [] else kept) → read' ≡ (if is_marked read o then marked (read_by o) read else read) → Back fields turn ops read kept → Back fields (turn + 1) ops read' kept'
  back_more turn ops read read' kept kept' o h is all k r b =
      let j = length ops - 1 - turn in
      let next : suc j ≡ length ops - turn = omega (arith, h) in
      let here : j ≡ length ops - (turn + 1) = omega (arith, h) in
      let split : drop (length ops - (turn + 1)) ops ≡ o ∷ drop (length ops - turn) ops
      = ap (λ n. drop n ops) (sym here) ∙ drop-cons ops j o (omega (arith, h)) ∙ ap₂ (λ (x : Op) (n : ℕ). x ∷ drop n ops) (sym is) next in
      let made = back_with o read kept (drop (length ops - turn) ops) (ap (writes_below fields) is ∙ below_at ops j o all (omega (arith, h))) b.left b.marks in
      record {
        left = ap reverse k ∙ made.0 ∙ ap live (sym split);
        marks = subst (λ l. Marks fields read' (live l)) (sym split) (subst (λ m. Marks fields m (live (o ∷ drop (length ops - turn) ops))) (sym r) made.1);
      }

  dropped_all : (ops : List Op) → drop (length ops) ops ≡ []
  dropped_all [] = refl
  dropped_all (o ∷ ops) = dropped_all ops

  pub back_begins : (ops : List Op) → Back fields 0 ops (replicate fields false) []
  back_begins ops =
      let whole : length ops - 0 ≡ length ops = omega arith in
      let none : drop (length ops - 0) ops ≡ [] = ap (λ n. drop n ops) whole ∙ dropped_all ops in
      record {
        left = ap live (sym none);
        marks = subst (λ l. Marks fields (replicate fields false) (live l)) (sym none) (record { long = length-replicate fields false; told = λ k h. none_marked fields k });
      }

-- The operations of valid code write fields that are there.
pub all_below : (code : CodeParts) → IsValid code → list_all (writes_below (length code.fields)) code.ops ≡ true
all_below code valid = all_from (writes_below (length code.fields)) code.ops (λ o i. (and_parts _ _ (and_parts _ _ (and_parts _ _ (and_parts _ _ (and_parts _ _ (and_parts _ _ (sound_each code valid o i)).0).0).0).0).0).1)
