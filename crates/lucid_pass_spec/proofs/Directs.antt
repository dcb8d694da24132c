-- Tests of the fields of comparisons that become tests of the fields that are compared.
use Rattle.std.proofs.Common.{◌≡◌, ℕ, zero, suc, ◌+◌, ◌*◌, ◌<◌, ◌≤◌, ◌^◌, List, [], ◌∷◌, Bool, true, false, not, ◌&&◌, ◌⊎◌, Option, None, Some, inl, inr, if◌then◌else◌, map, slice_index, slice_get, nat_eq, nat_lt, refl, sym, ap, ap₂, subst, ◌∙◌, ⊎_elim, true≢false, arith}
use Rattle.std.specs.List.{list_any, flat_map, enumerate_from}
use Rattle.std.specs.Option.{option_and_then, option_map_or}
use Rattle.std.proofs.lemmas.Bool.{and_parts, and_from, eqb-true, eq-eqb, ltb-true}
use Rattle.lucid_base.specs.declared.ops.CmpOp.TheVariants.{Eq, Ne, Lt, Gt, Le, Ge}
use Rattle.lucid_code.specs.declared.op.Act.{Act}
use Rattle.lucid_code.specs.declared.op.Act.TheVariants as act
use Rattle.lucid_code.specs.declared.op.Literal.{Literal}
use Rattle.lucid_code.specs.declared.op.Op.{Op}
use Rattle.lucid_code.specs.declared.op.Operand.TheVariants.{Fixed, Field}
use Rattle.lucid_code.specs.Guards.{opposed, contradict}
use Rattle.lucid_code.specs.Uses.{written_by, called_by, operands_of, field_of, read_by, key_of}
use Rattle.lucid_code.specs.Valid.{literal_fits}
use Rattle.lucid_pass_spec.specs.declared.direct.Test.{Test}
use Rattle.lucid_pass_spec.specs.Direct.{tested, covers, direct_from, says, direct_literal, without_repeats, direct_op}
use Rattle.lucid_pass_spec.specs.Looks.{same_literal, only_writer}
use Rattle.lucid_code.proofs.Facts.{Blind, Pair, Facts, Goes, placed_goes}
use Rattle.lucid_code.proofs.Members.{In, Pairwise, in_left, in_right, in_either, any_from, any_gives, in_map, into_map, numbered, place_from, element_of}
use Rattle.lucid_pass_spec.proofs.Replacing.{one_literal, only_one}

-- ---- repeats

pub without_in : (before gs : List Literal) (l : Literal) → In l (without_repeats before gs) → In l gs
without_in before [] l i = absurd i
without_in before (g ∷ gs) l i = by (without_in before gs l) (without_in (g ∷ before) gs l) (list_any (same_literal g) before) i
  where
    by : (In l (without_repeats before gs) → In l gs) → (In l (without_repeats (g ∷ before) gs) → In l gs) → (b : Bool) → In l (if b then without_repeats before gs else g ∷ without_repeats (g ∷ before) gs) → In l (g ∷ gs)
    by p q true i = inr (p i)
    by p q false (inl e) = inl e
    by p q false (inr i) = inr (q i)

into_without : (before gs : List Literal) (l : Literal) → In l gs → In l before ⊎ In l (without_repeats before gs)
into_without before [] l i = absurd i
into_without before (g ∷ gs) l i = by (into_without before gs l) (into_without (g ∷ before) gs l) (list_any (same_literal g) before) refl i
  where
    by : (In l gs → In l before ⊎ In l (without_repeats before gs)) → (In l gs → In l (g ∷ before) ⊎ In l (without_repeats (g ∷ before) gs)) → (b : Bool) → list_any (same_literal g) before ≡ b → In l (g ∷ gs)
        → In l before ⊎ In l (if b then without_repeats before gs else g ∷ without_repeats (g ∷ before) gs)
    by p q true e (inl s) = let f = any_gives (same_literal g) before e in inl (subst (λ (k : Literal). In k before) (sym (s ∙ one_literal g f.one f.passes)) f.there)
    by p q true e (inr i) = p i
    by p q false e (inl s) = inr (inl s)
    by p q false e (inr i) = ⊎_elim (λ k. ⊎_elim (λ s. inr (inl s)) (λ j. inl j) k) (λ j. inr (inr j)) (q i)

pub kept_literal : (gs : List Literal) (l : Literal) → In l gs → In l (without_repeats [] gs)
kept_literal gs l i = ⊎_elim (λ n. absurd n) (λ j. j) (into_without [] gs l i)

pub iff : (a b : Bool) → (a ≡ true → b ≡ true) → (b ≡ true → a ≡ true) → a ≡ b
iff true b f g = sym (f refl)
iff false true f g = absurd (true≢false (sym (g refl)))
iff false false f g = refl

-- ---- the test that a field represents

pub record Stood (widths : List ℕ) (ops : List Op) (c : ℕ) (t : Test) : Type 0 where
  pub writer : Op
  pub only : only_writer ops c ≡ Some writer
  pub there : In writer ops
  pub covered : covers ops c writer.guard ≡ true
  pub width : ℕ
  pub compares : writer.act ≡ act.Cmp Eq width (Field t.field) (Fixed t.value) c
  pub whole : width ≡ slice_index widths t.field
  pub fits : t.value < 2 ^ width

record Compared (widths : List ℕ) (a : Act) (t : Test) : Type 0 where
  pub width : ℕ
  pub to : ℕ
  pub is : a ≡ act.Cmp Eq width (Field t.field) (Fixed t.value) to
  pub whole : width ≡ slice_index widths t.field
  pub fits : t.value < 2 ^ width

compared : (widths : List ℕ) (a : Act) (t : Test) → tested widths a ≡ Some t → Compared widths a t
compared widths (act.Cmp Eq w (Field f) (Fixed v) k) t e = by (nat_eq w (slice_index widths f) && nat_lt v (2 ^ w)) refl e
  where
    by : (b : Bool) → (nat_eq w (slice_index widths f) && nat_lt v (2 ^ w)) ≡ b → (if b then Some (record { field = f; value = v }) else None) ≡ Some t → Compared widths (act.Cmp Eq w (Field f) (Fixed v) k) t
    by true h s =
        let parts = and_parts (nat_eq w (slice_index widths f)) (nat_lt v (2 ^ w)) h in
        let is : record { field = f; value = v } ≡ t = cc in
        subst (λ (u : Test). Compared widths (act.Cmp Eq w (Field f) (Fixed v) k) u) is (record { width = w; to = k; is = refl; whole = eqb-true w (slice_index widths f) parts.0; fits = ltb-true v (2 ^ w) parts.1 })
    by false h s = absurd (cc)
compared widths (act.Cmp Eq w (Field f) (Field g) k) t e = absurd (cc)
compared widths (act.Cmp Eq w (Fixed u) b k) t e = absurd (cc)
compared widths (act.Cmp Ne w a b k) t e = absurd (cc)
compared widths (act.Cmp Lt w a b k) t e = absurd (cc)
compared widths (act.Cmp Gt w a b k) t e = absurd (cc)
compared widths (act.Cmp Le w a b k) t e = absurd (cc)
compared widths (act.Cmp Ge w a b k) t e = absurd (cc)
compared widths (act.Un op w a k) t e = absurd (cc)
compared widths (act.Bin op w a b k) t e = absurd (cc)
compared widths (act.Cast a k) t e = absurd (cc)
compared widths (act.Hash xs k) t e = absurd (cc)
compared widths (act.Move a k) t e = absurd (cc)
compared widths (act.Touch array index get get_arg set set_arg to) t e = absurd (cc)
compared widths (act.Gen slot event args delay to) t e = absurd (cc)
compared widths (act.Say slot form args) t e = absurd (cc)

pub stood : (widths : List ℕ) (ops : List Op) (c : ℕ) (t : Test) → direct_from widths ops c ≡ Some t → Stood widths ops c t
stood widths ops c t e = by (only_writer ops c) refl e
  where
    some_one : (j k : ℕ) → Some j ≡ Some k → j ≡ k
    some_one j k e = cc

    to_c : (w : Op) → only_writer ops c ≡ Some w → (b : Bool) → covers ops c w.guard ≡ b → (if b then tested widths w.act else None) ≡ Some t → Stood widths ops c t
    to_c w o true h s =
        let m = compared widths w.act t s in
        let one = only_one ops c w o in
        record {
          writer = w;
          only = o;
          there = one.0;
          covered = h;
          width = m.width;
          compares = m.is ∙ ap (act.Cmp Eq m.width (Field t.field) (Fixed t.value)) (some_one m.to c (sym (ap written_by m.is) ∙ one.1));
          whole = m.whole;
          fits = m.fits;
        }
    to_c w o false h s = absurd (cc)

    by : (x : Option Op) → only_writer ops c ≡ x → option_and_then (λ w. if covers ops c w.guard then tested widths w.act else None) x ≡ Some t → Stood widths ops c t
    by None o s = absurd (cc)
    by (Some w) o s = to_c w o (covers ops c w.guard) refl s

module _ (widths : List ℕ) (ops : List Op) where
  abbrev pub d : ℕ → Option Test
  d = direct_from widths ops

  -- a literal stays, or its field represents a test
  pub literals : (P : Literal → Type 0) (l : Literal) → P l → ((t : Test) → Stood widths ops l.field t → P (record { field = t.field; equal = says l; value = t.value })) → P (direct_literal d l)
  literals P l stays goes = by (d l.field) refl
    where
      by : (x : Option Test) → d l.field ≡ x → P (option_map_or (λ (t : Test). record { field = t.field; equal = says l; value = t.value }) x l)
      by None e = stays
      by (Some t) e = goes t (stood widths ops l.field t e)

  -- ---- the reads then

  pub record Through (x : Op) (k : ℕ) : Type 0 where
    pub field : ℕ
    pub test : Test
    pub stands : Stood widths ops field test
    pub read : In field (read_by x)
    pub is : k ≡ test.field

  pub reads_direct : (x : Op) (k : ℕ) → In k (read_by (direct_op d x)) → In k (read_by x) ⊎ Through x k
  reads_direct x k i = ⊎_elim
      (λ g.
      let l' = in_map (λ (l : Literal). l.field) k (without_repeats [] (map (direct_literal d) x.guard)) g in
      let l = in_map (direct_literal d) l'.0 x.guard (without_in [] (map (direct_literal d) x.guard) l'.0 l'.1) in
      let there : In l.0.field (read_by x) = in_left l.0.field (map (λ (l : Literal). l.field) x.guard) (flat_map field_of (operands_of x.act)) (into_map (λ (l : Literal). l.field) l.0 x.guard l.1) in
      let by : (k ≡ (direct_literal d l.0).field) → In k (read_by x) ⊎ Through x k
      = literals (λ m. k ≡ m.field → In k (read_by x) ⊎ Through x k) l.0 (λ e. inl (subst (λ n. In n (read_by x)) (sym e) there)) (λ t s e. inr (record { field = l.0.field; test = t; stands = s; read = there; is = e })) in
      by (l'.2 ∙ ap (λ (m : Literal). m.field) l.2))
      (λ o. inl (in_right k (map (λ (l : Literal). l.field) x.guard) (flat_map field_of (operands_of x.act)) o))
      (in_either k (map (λ (l : Literal). l.field) (without_repeats [] (map (direct_literal d) x.guard))) (flat_map field_of (operands_of x.act)) i)

  pub writer_reads : (c : ℕ) (t : Test) (s : Stood widths ops c t) → In t.field (read_by s.writer)
  writer_reads c t s = in_right t.field (map (λ (l : Literal). l.field) s.writer.guard) (flat_map field_of (operands_of s.writer.act)) (subst (λ a. In t.field (flat_map field_of (operands_of a))) (sym s.compares) (inl refl))

  pub writer_writes : (c : ℕ) (t : Test) (s : Stood widths ops c t) → written_by s.writer.act ≡ Some c
  writer_writes c t s = ap written_by s.compares

  -- ---- it may replace the code

  module _ (nodes : Bool) (facts : Facts nodes ops) (fit : (x : Op) → In x ops → (l : Literal) → In l x.guard → literal_fits widths l ≡ true) (bits : (x : Op) → In x ops → (c : ℕ) (w : ℕ) → (t : Test) → x.act ≡ act.Cmp Eq w (Field t.field) (Fixed t.value) c → slice_index widths c ≡ 1) where
    goes : (r w : ℕ × Op) → In r (enumerate_from 0 ops) → In w (enumerate_from 0 ops) → (k : ℕ) → In k (read_by r.1) → written_by w.1.act ≡ Some k → Goes nodes w r
    goes r w i j k h e = placed_goes nodes 0 ops facts r w i j k h e

    -- the writer of a read through a comparison precedes it, which precedes the reader
    through : (x y : ℕ × Op) → In x (enumerate_from 0 ops) → In y (enumerate_from 0 ops) → (k : ℕ) (t : Through x.1 k) → written_by y.1.act ≡ Some k
        → (y.0 < x.0) × (key_of y.1 ≤ key_of x.1) × (nodes ≡ true → (g : ℕ) → called_by y.1.act ≡ Some g → called_by x.1.act ≡ Some g → ⊥)
    through x y i j k t e =
        let w = numbered t.stands.writer 0 ops t.stands.there in
        let first = goes x (w.0, t.stands.writer) i w.1 t.field t.read (writer_writes t.field t.test t.stands) in
        let second = goes (w.0, t.stands.writer) y w.1 j k (subst (λ n. In n (read_by t.stands.writer)) (sym t.is) (writer_reads t.field t.test t.stands)) e in
        let pure : key_of t.stands.writer ≡ 2 * t.stands.writer.level = ap (λ a. option_map_or (λ array. 2 * array + 1) (called_by a) (2 * t.stands.writer.level)) t.stands.compares in (
          omega (arith, first.place, second.place),
          omega (arith, first.key, second.key),
          λ n g c f. parity (key_of t.stands.writer) t.stands.writer.level g pure (subst (λ m. m ≤ key_of t.stands.writer) (key_call y.1 g c) second.key) (subst (λ m. key_of t.stands.writer ≤ m) (key_call x.1 g f) first.key),
        )
      where
        key_call : (q : Op) (g : ℕ) → called_by q.act ≡ Some g → key_of q ≡ 2 * g + 1
        key_call q g c = ap (λ (z : Option ℕ). option_map_or (λ array. 2 * array + 1) z (2 * q.level)) c

        parity : (n level g : ℕ) → n ≡ 2 * level → 2 * g + 1 ≤ n → n ≤ 2 * g + 1 → ⊥
        parity n level g a b c = absurd (omega (arith, a, b, c))

    blind_direct : (x y : ℕ × Op) → In x (enumerate_from 0 ops) → In y (enumerate_from 0 ops) → x.0 ≤ y.0 → Blind x.1 y.1 → Blind (direct_op d x.1) y.1
    blind_direct x y i j le b k r e = ⊎_elim (λ h. b k h e) (λ t. let p = (through x y i j k t e).0 in absurd (omega (arith, p, le))) (reads_direct x.1 k r)

    -- guards that contradict still do
    flags : (t u : Bool) (x y v w : ℕ) → x < 2 → y < 2 → (if t then (if u then not (nat_eq x y) else nat_eq x y) else u && nat_eq x y) ≡ true
        → (if (if t then nat_eq x 1 else nat_eq x 0) then (if (if u then nat_eq y 1 else nat_eq y 0) then not (nat_eq v v) else nat_eq v v) else (if u then nat_eq y 1 else nat_eq y 0) && nat_eq v v) ≡ true
    flags t u zero zero v w a b e = by t u e
      where
        by : (t u : Bool) → (if t then (if u then false else true) else u && true) ≡ true → (if (if t then false else true) then (if (if u then false else true) then not (nat_eq v v) else nat_eq v v) else (if u then false else true) && nat_eq v v) ≡ true
        by true true e = absurd (true≢false (sym e))
        by true false e = eq-eqb v v refl
        by false true e = eq-eqb v v refl
        by false false e = absurd (true≢false (sym e))
    flags t u zero (suc zero) v w a b e = by t u e
      where
        by : (t u : Bool) → (if t then (if u then true else false) else u && false) ≡ true → (if (if t then false else true) then (if (if u then true else false) then not (nat_eq v v) else nat_eq v v) else (if u then true else false) && nat_eq v v) ≡ true
        by true true e = eq-eqb v v refl
        by true false e = absurd (true≢false (sym e))
        by false true e = absurd (true≢false (sym e))
        by false false e = absurd (true≢false (sym e))
    flags t u (suc zero) zero v w a b e = by t u e
      where
        by : (t u : Bool) → (if t then (if u then true else false) else u && false) ≡ true → (if (if t then true else false) then (if (if u then false else true) then not (nat_eq v v) else nat_eq v v) else (if u then false else true) && nat_eq v v) ≡ true
        by true true e = eq-eqb v v refl
        by true false e = absurd (true≢false (sym e))
        by false true e = absurd (true≢false (sym e))
        by false false e = absurd (true≢false (sym e))
    flags t u (suc zero) (suc zero) v w a b e = by t u e
      where
        by : (t u : Bool) → (if t then (if u then false else true) else u && true) ≡ true → (if (if t then true else false) then (if (if u then true else false) then not (nat_eq v v) else nat_eq v v) else (if u then true else false) && nat_eq v v) ≡ true
        by true true e = absurd (true≢false (sym e))
        by true false e = eq-eqb v v refl
        by false true e = eq-eqb v v refl
        by false false e = absurd (true≢false (sym e))
    flags t u (suc (suc x)) y v w a b e = absurd (omega (arith, a))
    flags t u zero (suc (suc y)) v w a b e = absurd (omega (arith, b))
    flags t u (suc zero) (suc (suc y)) v w a b e = absurd (omega (arith, b))

    small : (x : Op) → In x ops → (l : Literal) → In l x.guard → (t : Test) → Stood widths ops l.field t → l.value < 2
    small x i l j t s = by (slice_get widths l.field) refl (fit x i l j)
      where
        one : slice_index widths l.field ≡ 1
        one = bits s.writer s.there l.field s.width t s.compares

        at : (ws : List ℕ) (k n : ℕ) → slice_get ws k ≡ Some n → slice_index ws k ≡ n
        at [] k n e = absurd (cc)
        at (w ∷ ws) zero n e = cc
        at (w ∷ ws) (suc k) n e = at ws k n e

        by : (o : Option ℕ) → slice_get widths l.field ≡ o → option_map_or (λ w. nat_lt l.value (2 ^ w)) o false ≡ true → l.value < 2
        by None e h = absurd (true≢false (sym h))
        by (Some n) e h = subst (λ w. l.value < 2 ^ w) (sym (at widths l.field n e) ∙ one) (ltb-true l.value (2 ^ n) h)

    opposed_direct : (x y : Op) → In x ops → In y ops → (l m : Literal) → In l x.guard → In m y.guard → opposed l m ≡ true → opposed (direct_literal d l) (direct_literal d m) ≡ true
    opposed_direct x y ix iy l m il im e = by (d l.field) refl
      where
        parts : (nat_eq l.field m.field ≡ true) × ((if l.equal then (if m.equal then not (nat_eq l.value m.value) else nat_eq l.value m.value) else m.equal && nat_eq l.value m.value) ≡ true)
        parts = and_parts (nat_eq l.field m.field) (if l.equal then (if m.equal then not (nat_eq l.value m.value) else nat_eq l.value m.value) else m.equal && nat_eq l.value m.value) e

        one : l.field ≡ m.field
        one = eqb-true l.field m.field parts.0

        by : (o : Option Test) → d l.field ≡ o → opposed (direct_literal d l) (direct_literal d m) ≡ true
        by None z = ap₂ opposed (ap (λ o. option_map_or (λ (t : Test). record { field = t.field; equal = says l; value = t.value }) o l) z) (ap (λ o. option_map_or (λ (t : Test). record { field = t.field; equal = says m; value = t.value }) o m) (sym (ap d one) ∙ z)) ∙ e
        by (Some t) z =
            let s = stood widths ops l.field t z in
            let s' = stood widths ops m.field t (sym (ap d one) ∙ z) in
            ap₂ opposed (ap (λ o. option_map_or (λ (t : Test). record { field = t.field; equal = says l; value = t.value }) o l) z) (ap (λ o. option_map_or (λ (t : Test). record { field = t.field; equal = says m; value = t.value }) o m) (sym (ap d one) ∙ z))
            ∙ and_from (nat_eq t.field t.field) (if says l then (if says m then not (nat_eq t.value t.value) else nat_eq t.value t.value) else says m && nat_eq t.value t.value) (eq-eqb t.field t.field refl)
            (flags l.equal m.equal l.value m.value t.value t.value (small x ix l il t s) (small y iy m im t s') parts.1)

    contradict_direct : (x y : Op) → In x ops → In y ops → contradict x.guard y.guard ≡ true → contradict (direct_op d x).guard (direct_op d y).guard ≡ true
    contradict_direct x y ix iy e =
        let l = any_gives (λ l. list_any (opposed l) y.guard) x.guard e in
        let m = any_gives (opposed l.one) y.guard l.passes in
        let l' : In (direct_literal d l.one) (direct_op d x).guard = kept_literal (map (direct_literal d) x.guard) (direct_literal d l.one) (into_map (direct_literal d) l.one x.guard l.there) in
        let m' : In (direct_literal d m.one) (direct_op d y).guard = kept_literal (map (direct_literal d) y.guard) (direct_literal d m.one) (into_map (direct_literal d) m.one y.guard m.there) in
        any_from (λ l. list_any (opposed l) (direct_op d y).guard) (direct_op d x).guard (direct_literal d l.one) l'
        (any_from (opposed (direct_literal d l.one)) (direct_op d y).guard (direct_literal d m.one) m' (opposed_direct x y ix iy l.one m.one l.there m.there m.passes))

    pair_direct : (x y : ℕ × Op) → In x (enumerate_from 0 ops) → In y (enumerate_from 0 ops) → x.0 < y.0 → Pair nodes x.1 y.1 → Pair nodes (direct_op d x.1) (direct_op d y.1)
    pair_direct x y i j lt p =
        let ix = element_of 0 ops x i in
        let iy = element_of 0 ops y j in
        record {
          fields = λ k e f. contradict_direct x.1 y.1 ix iy (p.fields k e f);
          calls = λ k e f. contradict_direct x.1 y.1 ix iy (p.calls k e f);
          slots = λ k e f. contradict_direct x.1 y.1 ix iy (p.slots k e f);
          blind = blind_direct x y i j (omega (arith, lt)) p.blind;
          keys = λ k r e. ⊎_elim (λ h. p.keys k h e) (λ t. (through y x j i k t e).1) (reads_direct y.1 k r);
          apart = λ n k r e. ⊎_elim (λ h. p.apart n k h e) (λ t. (through y x j i k t e).2 n) (reads_direct y.1 k r);
        }

    pairs_direct : (n : ℕ) (rest : List Op) → ((p : ℕ × Op) → In p (enumerate_from n rest) → In p (enumerate_from 0 ops)) → Pairwise (Pair nodes) rest → Pairwise (Pair nodes) (map (direct_op d) rest)
    pairs_direct n [] within p = tt
    pairs_direct n (x ∷ rest) within p = (
      λ y' i.
          let y = in_map (direct_op d) y' rest i in
          let q = numbered y.0 (n + 1) rest y.1 in
          let later = place_from (n + 1) rest (q.0, y.0) q.1 in
          subst (Pair nodes (direct_op d x)) (sym y.2) (pair_direct (n, x) (q.0, y.0) (within (n, x) (inl refl)) (within (q.0, y.0) (inr q.1)) (omega (arith, later)) (p.0 y.0 y.1)),
      pairs_direct (n + 1) rest (λ q i. within q (inr i)) p.1,
    )

    pub direct_facts : Facts nodes (map (direct_op d) ops)
    direct_facts = record {
      own = λ o' i.
          let o = in_map (direct_op d) o' ops i in
          let q = numbered o.0 0 ops o.1 in
          subst (λ z. Blind z z) (sym o.2) (blind_direct (q.0, o.0) (q.0, o.0) q.1 q.1 (omega arith) (facts.own o.0 o.1));
      pairs = pairs_direct 0 ops (λ p i. i) facts.pairs;
    }
