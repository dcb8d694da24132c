-- The positions of the writers of a field, and the operations there.
use Rattle.std.proofs.Common.{◌≡◌, ℕ, zero, suc, ◌+◌, ◌<◌, ◌≤◌, List, [], ◌∷◌, ◌++◌, Bool, true, false, Option, None, Some, if◌then◌else◌, length, map, drop, take, replicate, slice_get, slice_index_or, slice_set, nat_lt, refl, sym, ap, ap₂, subst, ◌∙◌, ⊎_elim, arith, append_assoc}
use Rattle.std.specs.List.{filter, list_all, list_any}
use Rattle.std.specs.Option.{option_map_or}
use Rattle.std.proofs.lemmas.Bool.{and_parts, or_left, or_right, eq-eqb, ne_eqb, cases_eq, ltb-true}
use Rattle.std.proofs.lemmas.List.{get_or-set_same, get_or-set_other, length-set, length-append, length-take-le}
use Rattle.lucid_code.specs.declared.op.Literal.{Literal}
use Rattle.lucid_code.specs.declared.op.Op.{Op}
use Rattle.lucid_code.specs.Uses.{written_by, is_same, writes}
use Rattle.lucid_pass_spec.specs.Looks.{same_literal, only, only_writer}
use Rattle.lucid_pass_rewrites.specs.declared.writers.Writer.{Writer}
use Rattle.lucid_pass_rewrites.specs.declared.writers.Writer.TheVariants.{Nobody}
use Rattle.lucid_pass.specs.Marks.{writes_below}
use Rattle.lucid_pass_rewrites.specs.Changed.{standing}
use Rattle.lucid_pass_rewrites.specs.Writers.{Tells, places_by, places_of, found_at, writer_at, with_writer}

-- a literal at some position is in the guard
pub found_in : (l : Literal) (guard : List Literal) (at : ℕ) → option_map_or (same_literal l) (slice_get guard at) false ≡ true → list_any (same_literal l) guard ≡ true
found_in l [] at h = h
found_in l (k ∷ guard) zero h = or_left (same_literal l k) (list_any (same_literal l) guard) h
found_in l (k ∷ guard) (suc at) h = or_right (same_literal l k) (list_any (same_literal l) guard) (found_in l guard at h)

-- ---- operations at this point

pub standing_done : (done ops : List Op) (at : ℕ) → at < length done → slice_get (standing done ops) at ≡ slice_get done at
standing_done done ops at h = first done at (drop (length done) ops) h
  where
    first : (xs : List Op) (i : ℕ) (ys : List Op) → i < length xs → slice_get (xs ++ ys) i ≡ slice_get xs i
    first [] i ys h = absurd (omega arith)
    first (x ∷ xs) zero ys h = refl
    first (x ∷ xs) (suc i) ys h = first xs i ys (omega arith)

past_nil : (xs : List Op) (i : ℕ) → length xs ≤ i → slice_get (xs ++ []) i ≡ None
past_nil [] i h = refl
past_nil (y ∷ ys) zero h = absurd (omega arith)
past_nil (y ∷ ys) (suc i) h = past_nil ys i (omega arith)

later_in : (done ops : List Op) (i : ℕ) → length done ≤ i → slice_get (done ++ drop (length done) ops) i ≡ slice_get ops i
later_in [] ops i h = refl
later_in (x ∷ xs) ops zero h = absurd (omega arith)
later_in (x ∷ xs) [] (suc i) h = past_nil xs i (omega arith)
later_in (x ∷ xs) (y ∷ ys) (suc i) h = later_in xs ys i (omega arith)

pub standing_later : (done ops : List Op) (at : ℕ) → length done ≤ at → slice_get (standing done ops) at ≡ slice_get ops at
standing_later done ops at h = later_in done ops at h

-- ---- the one that writes a field

at_seam : {A : Type 0} (xs : List A) (y : A) (ys : List A) → slice_get (xs ++ y ∷ ys) (length xs) ≡ Some y
at_seam [] y ys = refl
at_seam (x ∷ xs) y ys = at_seam xs y ys

pub places_are : (p : Op → Bool) (n : ℕ) (before ops : List Op) → length before ≡ n → map (λ (o : Op). Some o) (filter p ops) ≡ map (slice_get (before ++ ops)) (places_by p n ops)
places_are p n before [] e = refl
places_are p n before (o ∷ ops) e = by
    (places_are p (n + 1) (before ++ o ∷ []) ops (length-append before (o ∷ []) ∙ ap (λ m. m + 1) e)
    ∙ ap (λ l. map (slice_get l) (places_by p (n + 1) ops)) (append_assoc before (o ∷ []) ops)) (p o)
  where
    by : map (λ (o : Op). Some o) (filter p ops) ≡ map (slice_get (before ++ o ∷ ops)) (places_by p (n + 1) ops) → (b : Bool) → map (λ (o : Op). Some o) (if b then o ∷ filter p ops else filter p ops) ≡ map (slice_get (before ++ o ∷ ops)) (if b then n ∷ places_by p (n + 1) ops else places_by p (n + 1) ops)
    by rest true = ap₂ (λ (x : Option Op) (xs : List (Option Op)). x ∷ xs) (sym (at_seam before o ops) ∙ ap (slice_get (before ++ o ∷ ops)) e) rest
    by rest false = rest

pub only_is : (get : ℕ → Option Op) (fs : List Op) (ns : List ℕ) → map (λ (o : Op). Some o) fs ≡ map get ns → (ops : List Op) → ((n : ℕ) → get n ≡ slice_get ops n) → only fs ≡ found_at ops (writer_at ns)
only_is get [] [] e ops g = refl
only_is get [] (n ∷ ns) e ops g = absurd (cc)
only_is get (x ∷ fs) [] e ops g = absurd (cc)
only_is get (x ∷ []) (n ∷ []) e ops g = (let z : Some x ≡ get n = cc in z) ∙ g n
only_is get (x ∷ []) (n ∷ m ∷ ns) e ops g = absurd (cc)
only_is get (x ∷ y ∷ fs) (n ∷ []) e ops g = absurd (cc)
only_is get (x ∷ y ∷ fs) (n ∷ m ∷ ns) e ops g = refl

pub writer_is : (ops : List Op) (writers : List Writer) (k : ℕ) (w : Writer) → Tells ops writers → w ≡ slice_index_or writers k Nobody → only_writer ops k ≡ found_at ops w
writer_is ops writers k w tells e =
    only_is (slice_get ops) (filter (λ o. writes o k) ops) (places_of k 0 ops) (places_are (λ o. writes o k) 0 [] ops refl) ops (λ n. refl)
    ∙ ap (found_at ops) (sym (e ∙ tells k))

-- ---- one more

pub places_end : (p : Op → Bool) (n : ℕ) (ops : List Op) (o : Op) → places_by p n (ops ++ o ∷ []) ≡ places_by p n ops ++ (if p o then (n + length ops) ∷ [] else [])
places_end p n [] o = ap (λ m. if p o then m ∷ [] else []) none
  where
    none : n ≡ n + 0
    none = omega arith
places_end p n (x ∷ ops) o = by (places_end p (n + 1) ops o ∙ ap (λ m. places_by p (n + 1) ops ++ (if p o then m ∷ [] else [])) next) (p x)
  where
    next : n + 1 + length ops ≡ n + suc (length ops)
    next = omega arith

    by : places_by p (n + 1) (ops ++ o ∷ []) ≡ places_by p (n + 1) ops ++ (if p o then (n + suc (length ops)) ∷ [] else []) → (b : Bool) → (if b then n ∷ places_by p (n + 1) (ops ++ o ∷ []) else places_by p (n + 1) (ops ++ o ∷ [])) ≡ (if b then n ∷ places_by p (n + 1) ops else places_by p (n + 1) ops) ++ (if p o then (n + suc (length ops)) ∷ [] else [])
    by rest true = ap (λ l. n ∷ l) rest
    by rest false = rest

pub at_more : (ns : List ℕ) (at : ℕ) → writer_at (ns ++ at ∷ []) ≡ with_writer (writer_at ns) at
at_more [] at = refl
at_more (n ∷ []) at = refl
at_more (n ∷ m ∷ ns) at = refl

pub tells_none : (fields : ℕ) → Tells [] (replicate fields Nobody)
tells_none fields k = by fields k
  where
    by : (n k : ℕ) → slice_index_or (replicate n Nobody) k Nobody ≡ Nobody
    by zero k = refl
    by (suc n) zero = refl
    by (suc n) (suc k) = by n k

module _ (ops : List Op) (writers : List Writer) (o : Op) (tells : Tells ops writers) where
  places_more : (k : ℕ) (b : Bool) → writes o k ≡ b → writer_at (places_of k 0 (ops ++ o ∷ [])) ≡ (if b then with_writer (writer_at (places_of k 0 ops)) (length ops) else writer_at (places_of k 0 ops))
  places_more k true e = ap writer_at (places_end (λ o. writes o k) 0 ops o ∙ ap (λ b. places_of k 0 ops ++ (if b then (0 + length ops) ∷ [] else [])) e) ∙ at_more (places_of k 0 ops) (0 + length ops) ∙ ap (with_writer (writer_at (places_of k 0 ops))) zero_plus
    where
      zero_plus : 0 + length ops ≡ length ops
      zero_plus = omega arith
  places_more k false e = ap writer_at (places_end (λ o. writes o k) 0 ops o ∙ ap (λ b. places_of k 0 ops ++ (if b then (0 + length ops) ∷ [] else [])) e ∙ nil (places_of k 0 ops))
    where
      nil : (l : List ℕ) → l ++ [] ≡ l
      nil [] = refl
      nil (x ∷ l) = ap (λ m. x ∷ m) (nil l)

  -- one that writes nothing
  pub tells_stay : written_by o.act ≡ None → Tells (ops ++ o ∷ []) writers
  tells_stay e k = tells k ∙ sym (places_more k false (ap (λ w. is_same w (Some k)) e))

  -- one that writes field j
  pub tells_more : (j : ℕ) → written_by o.act ≡ Some j → j < length writers → Tells (ops ++ o ∷ []) (slice_set writers j (with_writer (slice_index_or writers j Nobody) (length ops)))
  tells_more j e h k = ⊎_elim here there (cases_eq j k)
    where
      row : Writer
      row = with_writer (slice_index_or writers j Nobody) (length ops)

      here : j ≡ k → slice_index_or (slice_set writers j row) k Nobody ≡ writer_at (places_of k 0 (ops ++ o ∷ []))
      here same =
          ap (λ n. slice_index_or (slice_set writers j row) n Nobody) (sym same) ∙ get_or-set_same writers j row Nobody h
          ∙ ap (λ w. with_writer w (length ops)) (tells j ∙ ap (λ n. writer_at (places_of n 0 ops)) same)
          ∙ sym (places_more k true (ap (λ w. is_same w (Some k)) e ∙ eq-eqb j k same))

      there : (j ≡ k → ⊥) → slice_index_or (slice_set writers j row) k Nobody ≡ writer_at (places_of k 0 (ops ++ o ∷ []))
      there other =
          get_or-set_other writers j k row Nobody (λ s. other (sym s)) ∙ tells k
          ∙ sym (places_more k false (ap (λ w. is_same w (Some k)) e ∙ ne_eqb j k other))

-- after this many operations: the table describes them
pub record Counted (fields : ℕ) (ops : List Op) (n : ℕ) (writers : List Writer) : Type 0 where
  pub long : length writers ≡ fields
  pub told : Tells (take n ops) writers

pub take_more : (ops : List Op) (n : ℕ) (o : Op) → n < length ops → o ≡ slice_index_or ops n o → take (n + 1) ops ≡ take n ops ++ o ∷ []
take_more ops n o h is = let e : n + 1 ≡ suc n = omega arith in ap (λ m. take m ops) e ∙ by ops n h is
  where
    by : (ops : List Op) (n : ℕ) → n < length ops → o ≡ slice_index_or ops n o → take (suc n) ops ≡ take n ops ++ o ∷ []
    by [] n h is = absurd (omega arith)
    by (x ∷ ops) zero h is = ap (λ y. y ∷ []) (sym is)
    by (x ∷ ops) (suc n) h is = ap (λ l. x ∷ l) (by ops n (omega arith) is)

module _ (fields : ℕ) (ops : List Op) (n : ℕ) (writers : List Writer) (o : Op) (h : n < length ops) (is : o ≡ slice_index_or ops n o) (counted : Counted fields ops n writers) where
  taken : length (take n ops) ≡ n
  taken = length-take-le n ops (omega arith)

  pub turn_stays : written_by o.act ≡ None → Counted fields ops (n + 1) writers
  turn_stays e = record { long = counted.long; told = subst (λ l. Tells l writers) (sym (take_more ops n o h is)) (tells_stay (take n ops) writers o counted.told e) }

  pub turn_writes : (j : ℕ) → written_by o.act ≡ Some j → j < length writers → Counted fields ops (n + 1) (slice_set writers j (with_writer (slice_index_or writers j Nobody) n))
  turn_writes j e i = record {
    long = length-set writers j (with_writer (slice_index_or writers j Nobody) n) ∙ counted.long;
    told = subst (λ l. Tells l (slice_set writers j (with_writer (slice_index_or writers j Nobody) n))) (sym (take_more ops n o h is))
        (subst (λ m. Tells (take n ops ++ o ∷ []) (slice_set writers j (with_writer (slice_index_or writers j Nobody) m))) taken (tells_more (take n ops) writers o counted.told j e i));
  }

pub counted_all : (fields : ℕ) (ops : List Op) (writers : List Writer) (n : ℕ) → n ≡ length ops → Counted fields ops n writers → Tells ops writers
counted_all fields ops writers n e c = subst (λ l. Tells l writers) (ap (λ m. take m ops) e ∙ all ops) c.told
  where
    all : (ops : List Op) → take (length ops) ops ≡ ops
    all [] = refl
    all (x ∷ ops) = ap (λ l. x ∷ l) (all ops)

-- ---- a changed operation writes the same field

places_same : (k n : ℕ) (done : List Op) (o p : Op) (rest : List Op) → written_by p.act ≡ written_by o.act → places_of k n (done ++ p ∷ rest) ≡ places_of k n (done ++ o ∷ rest)
places_same k n [] o p rest e = ap (λ w. if is_same w (Some k) then n ∷ places_of k (n + 1) rest else places_of k (n + 1) rest) e
places_same k n (x ∷ done) o p rest e = ap (λ l. if writes x k then n ∷ l else l) (places_same k (n + 1) done o p rest e)

pub tells_changed : (done : List Op) (o p : Op) (rest : List Op) (writers : List Writer) → written_by p.act ≡ written_by o.act → Tells (done ++ o ∷ rest) writers → Tells (done ++ p ∷ rest) writers
tells_changed done o p rest writers e tells k = tells k ∙ sym (ap writer_at (places_same k 0 done o p rest e))

-- the position of the written field exists
pub below_writers : (fields : ℕ) (ops : List Op) (at : ℕ) (o : Op) (k : ℕ) → list_all (writes_below fields) ops ≡ true → at < length ops → o ≡ slice_index_or ops at o → written_by o.act ≡ Some k → k < fields
below_writers fields ops at o k all h is e = ltb-true k fields (sym (ap (λ p. option_map_or (λ j. nat_lt j fields) p true) e) ∙ ap (writes_below fields) is ∙ all_there ops at o all h)
  where
    all_there : (ops : List Op) (i : ℕ) (d : Op) → list_all (writes_below fields) ops ≡ true → i < length ops → writes_below fields (slice_index_or ops i d) ≡ true
    all_there [] i d h below = absurd (omega arith)
    all_there (x ∷ xs) zero d h below = (and_parts (writes_below fields x) (list_all (writes_below fields) xs) h).0
    all_there (x ∷ xs) (suc i) d h below = all_there xs i d (and_parts (writes_below fields x) (list_all (writes_below fields) xs) h).1 (omega arith)
