-- The tests that fields represent, as a table, literals that are appended unless they are there, and the read fields as marks.
use Rattle.std.proofs.Common.{◌≡◌, ℕ, zero, suc, ◌+◌, ◌<◌, List, [], ◌∷◌, ◌++◌, Bool, true, false, not, ◌&&◌, ◌||◌, Option, None, Some, if◌then◌else◌, length, map, take, slice_index_or, nat_lt, refl, sym, ap, ap₂, subst, ◌∙◌, ⊎_elim, arith}
use Rattle.std.specs.List.{filter, list_all, list_any}
use Rattle.std.specs.Option.{option_and_then, option_map_or}
use Rattle.std.proofs.lemmas.Bool.{cases_lt, and_parts, ltb-true}
use Rattle.std.proofs.lemmas.List.Folds.{list_any-append}
use Rattle.std.proofs.lemmas.List.{length-append, get_or_past}
use Rattle.lucid_code.specs.declared.op.Literal.{Literal}
use Rattle.lucid_code.specs.declared.op.Op.{Op}
use Rattle.lucid_code.specs.Uses.{written_by, read_by}
use Rattle.lucid_pass_spec.specs.declared.direct.Test.{Test}
use Rattle.lucid_pass_spec.specs.Dead.{reads, is_read}
use Rattle.lucid_pass_spec.specs.Direct.{tested, covers, direct_from, direct_literal, direct_op, direct_ops, says, without_repeats, still_needed}
use Rattle.lucid_pass_spec.specs.Looks.{same_literal, only_writer}
use Rattle.lucid_pass_rewrites.specs.declared.writers.Writer.{Writer}
use Rattle.lucid_pass_rewrites.specs.declared.writers.Writer.TheVariants.{Nobody, One, Many}
use Rattle.lucid_pass.specs.Marks.{marked, writes_below}
use Rattle.lucid_pass_rewrites.specs.Covering.{Uncovered}
use Rattle.lucid_pass_rewrites.specs.Comparisons.{direct_by, Stands, ReadMarks, test_at, is_still_needed}
use Rattle.lucid_pass_rewrites.specs.Writers.{Tells, found_at}
use Rattle.lucid_pass.proofs.DeadLemmas.{marked_length, marked_at}
use Rattle.lucid_pass_rewrites.proofs.CoveringLemmas.{all_taken, at_some, take_one_more}
use Rattle.lucid_pass_rewrites.proofs.WritersLemmas.{writer_is}

pub not_not : (b : Bool) → not (not b) ≡ b
not_not true = refl
not_not false = refl

-- The test of a field by its writer and its mark is the one that it represents.
pub test_is : (widths : List ℕ) (ops : List Op) (writers : List Writer) (marks : List Bool) (c : ℕ) (w : Writer) → c < length writers → Tells ops writers → Uncovered ops (length writers) (length ops) marks → w ≡ slice_index_or writers c Nobody
    → test_at widths ops w (slice_index_or marks c false) ≡ direct_from widths ops c
test_is widths ops writers marks c w h tells u e = here w ∙ ap (option_and_then test) (sym (writer_is ops writers c w tells e)) ∙ by (only_writer ops c) refl
  where
    test : Op → Option Test
    test = λ o. if not (slice_index_or marks c false) then tested widths o.act else None

    here : (w : Writer) → test_at widths ops w (slice_index_or marks c false) ≡ option_and_then test (found_at ops w)
    here Nobody = refl
    here (One n) = refl
    here Many = refl

    by : (x : Option Op) → only_writer ops c ≡ x → option_and_then test x ≡ option_and_then (λ (o : Op). if covers ops c o.guard then tested widths o.act else None) x
    by None x = refl
    by (Some o) x = ap (λ (b : Bool). if b then tested widths o.act else None)
        (ap not (u.told c o h x) ∙ not_not (covers (take (length ops) ops) c o.guard) ∙ ap (λ (l : List Op). covers l c o.guard) (all_taken ops))

-- This many fields are described.
pub record Tested (widths : List ℕ) (ops : List Op) (writers : List Writer) (table : List (Option Test)) (n : ℕ) : Type 0 where
  pub many : length table ≡ n
  pub told : (c : ℕ) → c < n → direct_by table c ≡ direct_from widths ops c

pub at_end : {A : Type 0} (xs : List A) (x d : A) → slice_index_or (xs ++ x ∷ []) (length xs) d ≡ x
at_end [] x d = refl
at_end (y ∷ xs) x d = at_end xs x d

pub before_end : {A : Type 0} (xs ys : List A) (i : ℕ) (d : A) → i < length xs → slice_index_or (xs ++ ys) i d ≡ slice_index_or xs i d
before_end [] ys i d h = absurd (omega arith)
before_end (y ∷ xs) ys zero d h = refl
before_end (y ∷ xs) ys (suc i) d h = before_end xs ys i d (omega arith)

module _ (widths : List ℕ) (ops : List Op) (writers : List Writer) where
  pub tested_more : (table : List (Option Test)) (n : ℕ) (t : Option Test) → t ≡ direct_from widths ops n → Tested widths ops writers table n → Tested widths ops writers (table ++ t ∷ []) (n + 1)
  tested_more table n t e s = record {
    many = length-append table (t ∷ []) ∙ ap (λ k. k + 1) s.many;
    told = λ c h. ⊎_elim
        (λ lt. before_end table (t ∷ []) c None (subst (λ k. c < k) (sym s.many) lt) ∙ s.told c lt)
        (λ ge. let same : c ≡ n = omega (arith, h, ge) in
        ap (slice_index_or (table ++ t ∷ []) c) refl ∙ ap (λ k. slice_index_or (table ++ t ∷ []) k None) (same ∙ sym s.many) ∙ at_end table t None ∙ e ∙ ap (direct_from widths ops) (sym same))
        (cases_lt c n);
  }

  pub tested_all : (table : List (Option Test)) (n : ℕ) → Tells ops writers → n ≡ length writers → Tested widths ops writers table n → Stands widths ops table
  tested_all table n tells e s c = ⊎_elim
      (λ lt. s.told c lt)
      (λ ge. get_or_past table c None (omega (arith, ge, s.many)) ∙ sym (ap (option_and_then (λ (w : Op). if covers ops c w.guard then tested widths w.act else None)) (writer_is ops writers c Nobody tells (sym (get_or_past writers c Nobody (omega (arith, ge, e)))))))
      (cases_lt c n)

-- ---- repeats as they are met

or_move : (a b c : Bool) → (a || (b || c)) ≡ ((b || a) || c)
or_move true true c = refl
or_move true false c = refl
or_move false true c = refl
or_move false false c = refl

or_none : (b : Bool) → (b || false) ≡ b
or_none true = refl
or_none false = refl

pub repeats_end : (before gs : List Literal) (x : Literal) → without_repeats before (gs ++ x ∷ [])
    ≡ (if list_any (same_literal x) before || list_any (same_literal x) (without_repeats before gs) then without_repeats before gs else without_repeats before gs ++ x ∷ [])
repeats_end before [] x = sym (ap (λ b. if b then [] else x ∷ []) (or_none (list_any (same_literal x) before)))
repeats_end before (g ∷ gs) x = by (repeats_end before gs x) (repeats_end (g ∷ before) gs x) (list_any (same_literal g) before)
  where
    choose : (c : Bool) (ys : List Literal) → (if c then g ∷ ys else (g ∷ ys) ++ x ∷ []) ≡ g ∷ (if c then ys else ys ++ x ∷ [])
    choose true ys = refl
    choose false ys = refl

    by : without_repeats before (gs ++ x ∷ []) ≡ (if list_any (same_literal x) before || list_any (same_literal x) (without_repeats before gs) then without_repeats before gs else without_repeats before gs ++ x ∷ [])
        → without_repeats (g ∷ before) (gs ++ x ∷ []) ≡ (if list_any (same_literal x) (g ∷ before) || list_any (same_literal x) (without_repeats (g ∷ before) gs) then without_repeats (g ∷ before) gs else without_repeats (g ∷ before) gs ++ x ∷ [])
        → (b : Bool) → (if b then without_repeats before (gs ++ x ∷ []) else g ∷ without_repeats (g ∷ before) (gs ++ x ∷ []))
        ≡ (if list_any (same_literal x) before || list_any (same_literal x) (if b then without_repeats before gs else g ∷ without_repeats (g ∷ before) gs) then (if b then without_repeats before gs else g ∷ without_repeats (g ∷ before) gs)
        else (if b then without_repeats before gs else g ∷ without_repeats (g ∷ before) gs) ++ x ∷ [])
    by p q true = p
    by p q false =
        let ys = without_repeats (g ∷ before) gs in
        ap (λ l. g ∷ l) q
        ∙ sym (choose (list_any (same_literal x) (g ∷ before) || list_any (same_literal x) ys) ys)
        ∙ ap (λ c. if c then g ∷ ys else (g ∷ ys) ++ x ∷ []) (sym (or_move (list_any (same_literal x) before) (same_literal x g) (list_any (same_literal x) ys)))

pub map_end : {A B : Type 0} (f : A → B) (xs : List A) (x : A) → map f (xs ++ x ∷ []) ≡ map f xs ++ f x ∷ []
map_end f [] x = refl
map_end f (y ∷ xs) x = ap (λ l. f y ∷ l) (map_end f xs x)

-- ---- marks from the front

or_end : (a b c : Bool) → (a || b) ≡ (b || (a || false))
or_end true true c = refl
or_end true false c = refl
or_end false true c = refl
or_end false false c = refl

pub read_turn : (fields : ℕ) (ops : List Op) (i : ℕ) (o : Op) (read read' : List Bool) → i < length ops → o ≡ slice_index_or ops i o → read' ≡ marked (read_by o) read → ReadMarks fields read (take i ops) → ReadMarks fields read' (take (i + 1) ops)
read_turn fields ops i o read read' h is m r = record {
  long = ap length m ∙ marked_length (read_by o) read ∙ r.long;
  told = λ k below.
      ap (λ l. slice_index_or l k false) m
      ∙ marked_at (read_by o) read k (subst (λ n. k < n) (sym r.long) below)
      ∙ ap (λ b. reads o k || b) (r.told k below)
      ∙ or_end (reads o k) (is_read (take i ops) k) false
      ∙ sym (ap (λ l. is_read l k) (take_one_more ops i o (at_some ops i o h is)) ∙ list_any-append (λ p. reads p k) (take i ops) (o ∷ []));
}

-- ---- the whole

maps_same : {A B : Type 0} (f g : A → B) → ((x : A) → f x ≡ g x) → (xs : List A) → map f xs ≡ map g xs
maps_same f g e [] = refl
maps_same {B = B} f g e (x ∷ xs) = ap₂ (λ (y : B) (ys : List B). y ∷ ys) (e x) (maps_same f g e xs)

module _ (widths : List ℕ) (ops : List Op) (table : List (Option Test)) (stands : Stands widths ops table) where
  literal_same : (l : Literal) → direct_literal (direct_by table) l ≡ direct_literal (direct_from widths ops) l
  literal_same l = ap (λ x. option_map_or (λ (t : Test). record { field = t.field; equal = says l; value = t.value }) x l) (stands l.field)

  op_same : (o : Op) → direct_op (direct_by table) o ≡ direct_op (direct_from widths ops) o
  op_same o = ap (λ (gs : List Literal). record { guard = without_repeats [] gs; level = o.level; act = o.act }) (maps_same (direct_literal (direct_by table)) (direct_literal (direct_from widths ops)) literal_same o.guard)

  filters_same : (f g : Op → Bool) (xs : List Op) → list_all (λ o. writes_below (length widths) o) xs ≡ true → ((o : Op) → writes_below (length widths) o ≡ true → f o ≡ g o) → filter f xs ≡ filter g xs
  filters_same f g [] all e = refl
  filters_same f g (o ∷ xs) all e =
      let parts = and_parts (writes_below (length widths) o) (list_all (writes_below (length widths)) xs) all in
      ap₂ (λ (b : Bool) (ys : List Op). if b then o ∷ ys else ys) (e o parts.0) (filters_same f g xs parts.1 e)

  below_map : (xs : List Op) → list_all (writes_below (length widths)) xs ≡ true → list_all (writes_below (length widths)) (map (direct_op (direct_from widths ops)) xs) ≡ true
  below_map [] h = refl
  below_map (o ∷ xs) h =
      let parts = and_parts (writes_below (length widths) o) (list_all (writes_below (length widths)) xs) h in
      ap₂ (λ (a b : Bool). a && b) parts.0 (below_map xs parts.1)

  pub direct_is : (now : List Op) (read : List Bool) (kept : List Op) → list_all (writes_below (length widths)) ops ≡ true → now ≡ map (direct_op (direct_by table)) ops → ReadMarks (length widths) read now
      → kept ≡ filter (is_still_needed table read) now → kept ≡ direct_ops widths ops
  direct_is now read kept all n r k =
      let new = map (direct_op (direct_from widths ops)) ops in
      let same : now ≡ new = n ∙ maps_same (direct_op (direct_by table)) (direct_op (direct_from widths ops)) op_same ops in
      let marks : ReadMarks (length widths) read new = subst (ReadMarks (length widths) read) same r in
      k ∙ ap (filter (is_still_needed table read)) same
      ∙ filters_same (is_still_needed table read) (still_needed (direct_from widths ops) new) new (below_map ops all) (λ o h. needed o marks h)
    where
      needed : (o : Op) → ReadMarks (length widths) read (map (direct_op (direct_from widths ops)) ops) → writes_below (length widths) o ≡ true → is_still_needed table read o ≡ still_needed (direct_from widths ops) (map (direct_op (direct_from widths ops)) ops) o
      needed o m h = by (written_by o.act) h
        where
          by : (x : Option ℕ) → option_map_or (λ k. nat_lt k (length widths)) x true ≡ true
              → option_map_or (λ k. option_map_or (λ t. slice_index_or read k false) (direct_by table k) true) x true ≡ option_map_or (λ k. option_map_or (λ t. is_read (map (direct_op (direct_from widths ops)) ops) k) (direct_from widths ops k) true) x true
          by None h = refl
          by (Some k) h = ap₂ (λ (b : Bool) (y : Option Test). option_map_or (λ t. b) y true) (m.told k (ltb-true k (length widths) h)) (stands k)
