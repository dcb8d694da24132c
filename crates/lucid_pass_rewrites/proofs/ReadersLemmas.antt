-- The positions of the readers of a field, and the operations there.
use Rattle.std.proofs.Common.{◌≡◌, ℕ, zero, suc, ◌+◌, ◌<◌, List, [], ◌∷◌, ◌++◌, Bool, true, false, ◌||◌, if◌then◌else◌, length, take, replicate, slice_get, slice_index_or, slice_set, nat_eq, refl, sym, ap, subst, ◌∙◌, ⊎_elim, arith}
use Rattle.std.specs.List.{filter, list_any}
use Rattle.std.proofs.lemmas.Bool.{eq-eqb, ne_eqb, cases_eq}
use Rattle.std.proofs.lemmas.List.{get_or-set_same, get_or-set_other, length-set, length-replicate, length-take-le}
use Rattle.lucid_code.specs.declared.op.Op.{Op}
use Rattle.lucid_code.specs.Uses.{read_by}
use Rattle.lucid_pass_spec.specs.Dead.{reads}
use Rattle.lucid_pass_more_spec.specs.Merge.{only_reader}
use Rattle.lucid_pass_rewrites.specs.declared.writers.Writer.{Writer}
use Rattle.lucid_pass_rewrites.specs.declared.writers.Writer.TheVariants.{Nobody, One, Many}
use Rattle.lucid_pass_rewrites.specs.Readers.{with_reader, with_readers, TellReads}
use Rattle.lucid_pass_rewrites.specs.Writers.{found_at, places_by, writer_at, with_writer}
use Rattle.lucid_pass_rewrites.proofs.WritersLemmas.{at_more, only_is, places_are, places_end, take_more}

-- The reader is an operation before this place.
abbrev Earlier : Writer → ℕ → Type 0
Earlier w at = (n : ℕ) → w ≡ One n → n < at

first_read : (w : Writer) (at : ℕ) → Earlier w at → with_reader w at ≡ with_writer w at
first_read Nobody at h = refl
first_read (One n) at h = let lt = h n refl in ap (λ b. if b then One at else Many) (ne_eqb n at (λ e. absurd (omega (arith, e, lt))))
first_read Many at h = refl

read_again : (w : Writer) (at : ℕ) → with_reader (with_writer w at) at ≡ with_writer w at
read_again Nobody at = ap (λ b. if b then One at else Many) (eq-eqb at at refl)
read_again (One n) at = refl
read_again Many at = refl

readers_length : (readers : List Writer) (ks : List ℕ) (at : ℕ) → length (with_readers readers ks at) ≡ length readers
readers_length readers [] at = refl
readers_length readers (k ∷ ks) at = readers_length (slice_set readers k (with_reader (slice_index_or readers k Nobody) at)) ks at ∙ length-set readers k (with_reader (slice_index_or readers k Nobody) at)

module _ (at k : ℕ) (w : Writer) where
  abbrev set : List Writer → ℕ → List Writer
  set readers j = slice_set readers j (with_reader (slice_index_or readers j Nobody) at)

  -- once it is read, it stays
  row_read : (readers : List Writer) (ks : List ℕ) → k < length readers → slice_index_or readers k Nobody ≡ with_writer w at → slice_index_or (with_readers readers ks at) k Nobody ≡ with_writer w at
  row_read readers [] h e = e
  row_read readers (j ∷ ks) h e =
      row_read (set readers j) ks (subst (λ n. k < n) (sym (length-set readers j (with_reader (slice_index_or readers j Nobody) at))) h)
      (⊎_elim
      (λ s. subst (λ (i : ℕ). slice_index_or (set readers i) k Nobody ≡ with_writer w at) (sym s)
      (get_or-set_same readers k (with_reader (slice_index_or readers k Nobody) at) Nobody h ∙ ap (λ r. with_reader r at) e ∙ read_again w at))
      (λ d. get_or-set_other readers j k (with_reader (slice_index_or readers j Nobody) at) Nobody (λ s. d (sym s)) ∙ e)
      (cases_eq j k))

  row_after : (readers : List Writer) (ks : List ℕ) → k < length readers → Earlier w at → slice_index_or readers k Nobody ≡ w → slice_index_or (with_readers readers ks at) k Nobody ≡ (if list_any (λ j. nat_eq j k) ks then with_writer w at else w)
  row_after readers [] h before e = e
  row_after readers (j ∷ ks) h before e =
      let long = subst (λ n. k < n) (sym (length-set readers j (with_reader (slice_index_or readers j Nobody) at))) h in
      ⊎_elim
      (λ s. row_read (set readers j) ks long
      (subst (λ (i : ℕ). slice_index_or (set readers i) k Nobody ≡ with_writer w at) (sym s)
      (get_or-set_same readers k (with_reader (slice_index_or readers k Nobody) at) Nobody h ∙ ap (λ r. with_reader r at) e ∙ first_read w at before))
      ∙ sym (ap (λ b. if b || list_any (λ i. nat_eq i k) ks then with_writer w at else w) (eq-eqb j k s)))
      (λ d. row_after (set readers j) ks long before (get_or-set_other readers j k (with_reader (slice_index_or readers j Nobody) at) Nobody (λ s. d (sym s)) ∙ e)
      ∙ sym (ap (λ b. if b || list_any (λ i. nat_eq i k) ks then with_writer w at else w) (ne_eqb j k d)))
      (cases_eq j k)

-- places are below the end
earlier : (p : Op → Bool) (n : ℕ) (ops : List Op) (m : ℕ) → writer_at (places_by p n ops) ≡ One m → m < n + length ops
earlier p n [] m e = absurd (cc)
earlier p n (o ∷ ops) m e = by (earlier p (n + 1) ops m) (p o) e
  where
    alone : (ns : List ℕ) → writer_at (n ∷ ns) ≡ One m → n ≡ m
    alone [] e = cc
    alone (i ∷ ns) e = absurd (cc)

    by : (writer_at (places_by p (n + 1) ops) ≡ One m → m < n + 1 + length ops) → (b : Bool) → writer_at (if b then n ∷ places_by p (n + 1) ops else places_by p (n + 1) ops) ≡ One m → m < n + suc (length ops)
    by rest true e = let same = alone (places_by p (n + 1) ops) e in omega (arith, same)
    by rest false e = let lt = rest e in omega (arith, lt)

-- after this many operations
abbrev pub ReadTo : ℕ → List Op → ℕ → List Writer → Type 0
ReadTo fields ops n readers = TellReads fields (take n ops) readers

pub read_none : (fields : ℕ) (ops : List Op) → ReadTo fields ops 0 (replicate fields Nobody)
read_none fields ops = record {
  long = length-replicate fields Nobody;
  told = λ k h. by fields k ∙ sym (ap (λ (l : List Op). writer_at (places_by (λ o. reads o k) 0 l)) (none ops));
}
  where
    by : (n k : ℕ) → slice_index_or (replicate n Nobody) k Nobody ≡ Nobody
    by zero k = refl
    by (suc n) zero = refl
    by (suc n) (suc k) = by n k

    none : (ops : List Op) → take 0 ops ≡ []
    none [] = refl
    none (o ∷ ops) = refl

pub read_turn : (fields : ℕ) (ops : List Op) (n : ℕ) (readers readers' : List Writer) (o : Op) → n < length ops → o ≡ slice_index_or ops n o → readers' ≡ with_readers readers (read_by o) n → ReadTo fields ops n readers → ReadTo fields ops (n + 1) readers'
read_turn fields ops n readers readers' o h is made told = record {
  long = ap length made ∙ readers_length readers (read_by o) n ∙ told.long;
  told = λ k below.
      let front = take n ops in
      let long : length front ≡ n = length-take-le n ops (omega (arith, h)) in
      let p : Op → Bool = λ q. reads q k in
      let old = writer_at (places_by p 0 front) in
      let before : Earlier old n = λ m e. let lt = earlier p 0 front m e in omega (arith, lt, long) in
      ap (λ (l : List Writer). slice_index_or l k Nobody) made
      ∙ row_after n k old readers (read_by o) (subst (λ m. k < m) (sym told.long) below) before (told.told k below)
      ∙ sym (ap (λ (l : List Op). writer_at (places_by p 0 l)) (take_more ops n o h is) ∙ ap writer_at (places_end p 0 front o) ∙ more (places_by p 0 front) (0 + length front) n (omega (arith, long)) (p o));
}
  where
    nil : (l : List ℕ) → l ++ [] ≡ l
    nil [] = refl
    nil (x ∷ l) = ap (λ m. x ∷ m) (nil l)

    more : (ns : List ℕ) (m n : ℕ) → m ≡ n → (b : Bool) → writer_at (ns ++ (if b then m ∷ [] else [])) ≡ (if b then with_writer (writer_at ns) n else writer_at ns)
    more ns m n e true = at_more ns m ∙ ap (with_writer (writer_at ns)) e
    more ns m n e false = ap writer_at (nil ns)

pub read_all : (fields : ℕ) (ops : List Op) (n : ℕ) (readers : List Writer) → n ≡ length ops → ReadTo fields ops n readers → TellReads fields ops readers
read_all fields ops n readers e told = subst (λ l. TellReads fields l readers) (ap (λ m. take m ops) e ∙ all ops) told
  where
    all : (ops : List Op) → take (length ops) ops ≡ ops
    all [] = refl
    all (x ∷ ops) = ap (λ l. x ∷ l) (all ops)

pub reader_is : (fields : ℕ) (ops : List Op) (readers : List Writer) (k : ℕ) (w : Writer) → TellReads fields ops readers → k < fields → w ≡ slice_index_or readers k Nobody → only_reader ops k ≡ found_at ops w
reader_is fields ops readers k w tells h e =
    only_is (λ i. slice_get ops i) (filter (λ o. reads o k) ops) (places_by (λ o. reads o k) 0 ops) (places_are (λ o. reads o k) 0 [] ops refl) ops (λ n. refl)
    ∙ ap (found_at ops) (sym (e ∙ tells.told k h))
