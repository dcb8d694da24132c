-- One operation of valid code whose operands are replaced by the sources of their moves.
use Rattle.std.proofs.Common.{◌≡◌, ℕ, ◌+◌, ◌*◌, ◌≤◌, List, [], ◌∷◌, ◌++◌, Bool, true, false, ◌&&◌, ◌⊎◌, Option, None, Some, inl, inr, if◌then◌else◌, map, length, slice_index, nat_eq, nat_lt, nat_le, refl, sym, ap, ap₂, subst, ◌∙◌, ⊎_elim, true≢false, arith}
use Rattle.std.specs.List.{list_any, filter, flat_map}
use Rattle.std.specs.Option.{option_and_then, option_map, option_map_or, option_to_list}
use Rattle.std.proofs.lemmas.Bool.{and_parts, and_from, eqb-true}
use Rattle.std.proofs.lemmas.List.{length-map}
use Rattle.lucid_base.specs.Ops.{low_of}
use Rattle.lucid_base.specs.declared.array.ArrayDef.{ArrayDef}
use Rattle.lucid_code.specs.declared.inputs.Inputs.{Inputs}
use Rattle.lucid_code.specs.declared.op.Act.{Act}
use Rattle.lucid_code.specs.declared.op.Act.TheVariants as act
use Rattle.lucid_code.specs.declared.op.Literal.{Literal}
use Rattle.lucid_code.specs.declared.op.Op.{Op}
use Rattle.lucid_code.specs.declared.op.Operand.{Operand}
use Rattle.lucid_code.specs.declared.op.Operand.TheVariants.{Fixed, Field}
use Rattle.lucid_code.specs.Guards.{Fields, holds, all_hold}
use Rattle.lucid_code.specs.Run.{Machine, value, run_act, run_op, run, FieldsFit}
use Rattle.lucid_code.specs.Uses.{written_by, called_by, slot_of, operands_of, field_of, read_by, writes, key_of, with_operands, only_writes}
use Rattle.lucid_code.specs.Valid.{op_is_sound, widths_agree, act_keeps_limits}
use Rattle.lucid_pass_spec.specs.Looks.{same_truth, same_literal, includes, only, only_writer, moved, seen, moved_from, Putting, looked}
use Rattle.lucid_code.proofs.Acting.{written_with, act_stands, acts, rests, run_fits}
use Rattle.lucid_code.proofs.Facts.{Blind, Pair, Facts, same_is}
use Rattle.lucid_code.proofs.Fresh.{Fresh, fresh_after, made}
use Rattle.lucid_code.proofs.Members.{In, Pairwise, Split, pairs_split, pairs_join, in_left, in_right, in_either, all_in, all_from, any_gives, each_in, in_map, in_flat, into_flat, in_filter}

-- ---- guards that include others

truths : (a b : Bool) → same_truth a b ≡ true → a ≡ b
truths true true e = refl
truths true false e = absurd (true≢false (sym e))
truths false true e = absurd (true≢false (sym e))
truths false false e = refl

-- equal literals are one
pub one_literal : (l k : Literal) → same_literal l k ≡ true → l ≡ k
one_literal l k e =
    let p = and_parts (nat_eq l.field k.field) (same_truth l.equal k.equal && nat_eq l.value k.value) e in
    let q = and_parts (same_truth l.equal k.equal) (nat_eq l.value k.value) p.1 in
    ap (λ (f : ℕ). record { field = f; equal = l.equal; value = l.value }) (eqb-true l.field k.field p.0)
    ∙ ap₂ (λ (t : Bool) (v : ℕ). record { field = k.field; equal = t; value = v }) (truths l.equal k.equal q.0) (eqb-true l.value k.value q.1)

pub includes_in : (guard ls : List Literal) → includes guard ls ≡ true → (l : Literal) → In l ls → In l guard
includes_in guard ls e l i =
    let found = any_gives (same_literal l) guard (all_in (λ (l : Literal). list_any (same_literal l) guard) ls e l i) in
    subst (λ (k : Literal). In k guard) (sym (one_literal l found.one found.passes)) found.there

pub includes_hold : (f : Fields) (guard ls : List Literal) → includes guard ls ≡ true → all_hold f guard ≡ true → all_hold f ls ≡ true
includes_hold f guard ls e h = all_from (holds f) ls (λ l i. all_in (holds f) guard h l (includes_in guard ls e l i))

-- ---- the source of an operand

pub only_in : {X : Type 0} (xs : List X) (x : X) → only xs ≡ Some x → In x xs
only_in [] x e = absurd (cc)
only_in (y ∷ []) x e = inl (cc)
only_in (y ∷ z ∷ xs) x e = absurd (cc)

-- the one writer of a field
pub only_one : (ops : List Op) (k : ℕ) (w : Op) → only_writer ops k ≡ Some w → In w ops × (written_by w.act ≡ Some k)
only_one ops k w e = let i = in_filter (λ o. writes o k) w ops (only_in (filter (λ o. writes o k) ops) w e) in (i.0, same_is (written_by w.act) k i.1)

pub record Moved (ops : List Op) (guard : List Literal) (k : ℕ) (a : Operand) : Type 0 where
  pub writer : Op
  pub there : In writer ops
  pub moves : writer.act ≡ act.Move a k
  pub under : includes guard writer.guard ≡ true

moves_it : (a : Act) (x : Operand) (k : ℕ) → moved a ≡ Some x → written_by a ≡ Some k → a ≡ act.Move x k
moves_it (act.Move y j) x k e w = ap₂ act.Move (let z : y ≡ x = cc in z) (let z : j ≡ k = cc in z)
moves_it (act.Un op w y j) x k e v = absurd (cc)
moves_it (act.Bin op w y z j) x k e v = absurd (cc)
moves_it (act.Cmp op w y z j) x k e v = absurd (cc)
moves_it (act.Cast y j) x k e v = absurd (cc)
moves_it (act.Hash xs j) x k e v = absurd (cc)
moves_it (act.Touch array index get get_arg set set_arg to) x k e v = absurd (cc)
moves_it (act.Gen slot event args delay to) x k e v = absurd (cc)
moves_it (act.Say slot form args) x k e v = absurd (cc)

seen_gives : (guard : List Literal) (o : Op) (a : Operand) → seen guard o ≡ Some a → (includes guard o.guard ≡ true) × (moved o.act ≡ Some a)
seen_gives guard o a e = by (includes guard o.guard) refl e
  where
    by : (b : Bool) → includes guard o.guard ≡ b → (if b then moved o.act else None) ≡ Some a → (includes guard o.guard ≡ true) × (moved o.act ≡ Some a)
    by true i m = (i, m)
    by false i m = absurd (cc)

moved_gives : (ops : List Op) (guard : List Literal) (k : ℕ) (a : Operand) → moved_from ops guard k ≡ Some a → Moved ops guard k a
moved_gives ops guard k a e = by (only_writer ops k) refl e
  where
    by : (x : Option Op) → only_writer ops k ≡ x → option_and_then (seen guard) x ≡ Some a → Moved ops guard k a
    by None w m = absurd (cc)
    by (Some w) i m =
        let one = only_one ops k w i in
        let s = seen_gives guard w a m in
        record { writer = w; there = one.0; moves = moves_it w.act a k s.1 one.1; under = s.0 }

-- a field stays, or its source replaces it
looks : (put : Putting) (ops : List Op) (guard : List Literal) (k : ℕ) (P : Operand → Type 0) → P (Field k) → ((a : Operand) → Moved ops guard k a → P (put k a)) → P (looked put ops guard (Field k))
looks put ops guard k P stays goes = by (moved_from ops guard k) refl
  where
    by : (x : Option Operand) → moved_from ops guard k ≡ x → P (option_map_or (put k) x (Field k))
    by None e = stays
    by (Some a) e = goes a (moved_gives ops guard k a e)

-- ---- operands that are replaced

map_two : {A B : Type 0} (f : A → B) (xs ys : List A) → map f (xs ++ ys) ≡ map f xs ++ map f ys
map_two f [] ys = refl
map_two f (x ∷ xs) ys = ap (λ l. f x ∷ l) (map_two f xs ys)

option_list : (h : Operand → Operand) (to : Option Operand) → option_to_list (option_map h to) ≡ map h (option_to_list to)
option_list h None = refl
option_list h (Some o) = refl

pub operands_with : (h : Operand → Operand) (a : Act) → operands_of (with_operands h a) ≡ map h (operands_of a)
operands_with h (act.Un op w a k) = refl
operands_with h (act.Bin op w a b k) = refl
operands_with h (act.Cmp op w a b k) = refl
operands_with h (act.Cast a k) = refl
operands_with h (act.Hash xs k) = refl
operands_with h (act.Move a k) = refl
operands_with h (act.Touch array index get get_arg set set_arg to) = refl
operands_with h (act.Gen slot event args delay to) = ap (λ l. map h args ++ h delay ∷ l) (option_list h to) ∙ sym (map_two h args (delay ∷ option_to_list to))
operands_with h (act.Say slot form args) = refl

called_with : (h : Operand → Operand) (a : Act) → called_by (with_operands h a) ≡ called_by a
called_with h (act.Touch array index get get_arg set set_arg to) = refl
called_with h _ = refl

slot_with : (h : Operand → Operand) (a : Act) → slot_of (with_operands h a) ≡ slot_of a
slot_with h (act.Gen slot event args delay to) = refl
slot_with h (act.Say slot form args) = refl
slot_with h _ = refl

widths_with : (fields : List ℕ) (arrays : List ArrayDef) (h : Operand → Operand) (a : Act) → widths_agree fields arrays (with_operands h a) ≡ widths_agree fields arrays a
widths_with fields arrays h (act.Un op w a k) = refl
widths_with fields arrays h (act.Bin op w a b k) = refl
widths_with fields arrays h (act.Cmp op w a b k) = refl
widths_with fields arrays h (act.Cast a k) = refl
widths_with fields arrays h (act.Hash xs k) = refl
widths_with fields arrays h (act.Move a k) = refl
widths_with fields arrays h (act.Touch array index get get_arg set set_arg to) = refl
widths_with fields arrays h (act.Gen slot event args delay to) = refl
widths_with fields arrays h (act.Say slot form args) = refl

limits_with : (h : Operand → Operand) (a : Act) → act_keeps_limits (with_operands h a) ≡ act_keeps_limits a
limits_with h (act.Un op w a k) = refl
limits_with h (act.Bin op w a b k) = refl
limits_with h (act.Cmp op w a b k) = refl
limits_with h (act.Cast a k) = refl
limits_with h (act.Hash xs k) = ap (λ n. nat_le 1 n && nat_le n 9) (length-map xs h)
limits_with h (act.Move a k) = refl
limits_with h (act.Touch array index get get_arg set set_arg to) = refl
limits_with h (act.Gen slot event args delay to) = ap (λ n. nat_lt slot 8 && nat_le n 8) (length-map args h)
limits_with h (act.Say slot form args) = ap (λ n. nat_lt slot 8 && nat_le n 8) (length-map args h)

-- ---- the obligations of a pass for its replacements, and for the result of an act

pub record Sound (widths : List ℕ) (put : Putting) (settle : Act → Act) : Type 0 where
  pub same : (k : ℕ) (a : Operand) (f : Fields) → FieldsFit widths f → slice_index f k ≡ low_of (slice_index widths k) (value f a) → value f (put k a) ≡ slice_index f k
  pub fields : (k : ℕ) (a : Operand) (j : ℕ) → In j (field_of (put k a)) → (j ≡ k) ⊎ In j (field_of a)
  pub runs : (a : Act) (m : Machine) → run_act widths (settle a) m ≡ run_act widths a m
  pub written : (a : Act) → written_by (settle a) ≡ written_by a
  pub called : (a : Act) → called_by (settle a) ≡ called_by a
  pub slot : (a : Act) → slot_of (settle a) ≡ slot_of a
  pub reads : (a : Act) (j : ℕ) → In j (flat_map field_of (operands_of (settle a))) → In j (flat_map field_of (operands_of a))
  pub agrees : (fields : List ℕ) (arrays : List ArrayDef) (a : Act) → widths_agree fields arrays a ≡ true → widths_agree fields arrays (settle a) ≡ true
  pub limits : (a : Act) → act_keeps_limits a ≡ true → act_keeps_limits (settle a) ≡ true

abbrev pub put_op : Putting → (Act → Act) → List Op → Op → Op
put_op put settle ops o = record o { act = settle (with_operands (looked put ops o.guard) o.act) }

module _ (widths : List ℕ) (put : Putting) (settle : Act → Act) (sound : Sound widths put settle) (nodes : Bool) (front : List Op) (o : Op) (back : List Op) (facts : Facts nodes (front ++ o ∷ back)) where
  abbrev h : Operand → Operand
  h = looked put (front ++ o ∷ back) o.guard

  abbrev p : Op
  p = put_op put settle (front ++ o ∷ back) o

  parts : Split (Pair nodes) front (o ∷ back)
  parts = pairs_split (Pair nodes) front (o ∷ back) facts.pairs

  before : (x : Op) → In x front → Pair nodes x o
  before x i = parts.across x i o (inl refl)

  own : Blind o o
  own = facts.own o (in_right o front (o ∷ back) (inl refl))

  -- the writer of an operation's read precedes it
  in_front : (w : Op) (k : ℕ) → In w (front ++ o ∷ back) → written_by w.act ≡ Some k → In k (read_by o) → In w front
  in_front w k i e r = ⊎_elim (λ j. j) (λ j. absurd (behind j)) (in_either w front (o ∷ back) i)
    where
      behind : In w (o ∷ back) → ⊥
      behind (inl s) = own k r (ap (λ (q : Op). written_by q.act) (sym s) ∙ e)
      behind (inr j) = (parts.second.0 w j).blind k r e

  reads_operand : (k : ℕ) → In (Field k) (operands_of o.act) → In k (read_by o)
  reads_operand k i = in_right k (map (λ (l : Literal). l.field) o.guard) (flat_map field_of (operands_of o.act)) (into_flat field_of k (Field k) (operands_of o.act) i (inl refl))

  writes_move : (k : ℕ) (a : Operand) (m : Moved (front ++ o ∷ back) o.guard k a) → written_by m.writer.act ≡ Some k
  writes_move k a m = ap written_by m.moves

  -- ---- it does the same

  operand_stands : (m : Machine) → FieldsFit widths m.fields → ((w : Op) → In w front → Fresh widths m.fields w) → all_hold m.fields o.guard ≡ true
      → (x : Operand) → In x (operands_of o.act) → value m.fields (h x) ≡ value m.fields x
  operand_stands m fit fresh held (Fixed v) i = refl
  operand_stands m fit fresh held (Field k) i = looks put (front ++ o ∷ back) o.guard k (λ y. value m.fields y ≡ slice_index m.fields k) refl
      (λ a found.
      let first = in_front found.writer k found.there (writes_move k a found) (reads_operand k i) in
      let now = fresh found.writer first k (ap only_writes found.moves) (includes_hold m.fields o.guard found.writer.guard found.under held) in
      sound.same k a m.fields fit (now ∙ ap (λ b. low_of (slice_index widths k) (made b m.fields)) found.moves))

  op_same : (m : Machine) → FieldsFit widths m.fields → ((w : Op) → In w front → Fresh widths m.fields w) → run_op widths m p ≡ run_op widths m o
  op_same m fit fresh = by (all_hold m.fields o.guard) refl
    where
      by : (b : Bool) → all_hold m.fields o.guard ≡ b → run_op widths m p ≡ run_op widths m o
      by true e =
          acts widths m p e ∙ sound.runs (with_operands h o.act) m
          ∙ act_stands widths h m o.act (each_in (λ (x : Operand). value m.fields (h x) ≡ value m.fields x) (operands_of o.act) (operand_stands m fit fresh e))
          ∙ sym (acts widths m o e)
      by false e = rests widths m p e ∙ sym (rests widths m o e)

  run_two : (xs ys : List Op) (m : Machine) → run widths (xs ++ ys) m ≡ run widths ys (run widths xs m)
  run_two [] ys m = refl
  run_two (x ∷ xs) ys m = run_two xs ys (run_op widths m x)

  pub same_run : (m : Machine) → FieldsFit widths m.fields → run widths (front ++ p ∷ back) m ≡ run widths (front ++ o ∷ back) m
  same_run m fit =
      let there = run widths front m in
      run_two front (p ∷ back) m
      ∙ ap (run widths back) (op_same there (run_fits widths front m fit) (fresh_after widths nodes front m (λ q i. facts.own q (in_left q front (o ∷ back) i)) parts.first))
      ∙ sym (run_two front (o ∷ back) m)

  -- ---- and it may replace the code

  written_same : written_by p.act ≡ written_by o.act
  written_same = sound.written (with_operands h o.act) ∙ written_with h o.act

  called_same : called_by p.act ≡ called_by o.act
  called_same = sound.called (with_operands h o.act) ∙ called_with h o.act

  slot_same : slot_of p.act ≡ slot_of o.act
  slot_same = sound.slot (with_operands h o.act) ∙ slot_with h o.act

  key_same : key_of p ≡ key_of o
  key_same = ap (λ c. option_map_or (λ array. 2 * array + 1) c (2 * o.level)) called_same

  -- a field that it reads through a move
  record Seen (j : ℕ) : Type 0 where
    pub writer : Op
    pub first : In writer front
    pub pure : called_by writer.act ≡ None
    pub reads : In j (read_by writer)
    pub field : ℕ
    pub read : In field (read_by o)
    pub writes : written_by writer.act ≡ Some field

  operand_reads : (j : ℕ) (x : Operand) → In x (operands_of o.act) → In j (field_of (h x)) → In j (read_by o) ⊎ Seen j
  operand_reads j (Fixed v) i r = absurd r
  operand_reads j (Field k) i t = looks put (front ++ o ∷ back) o.guard k (λ y. In j (field_of y) → In j (read_by o) ⊎ Seen j)
      (λ r. ⊎_elim (λ e. inl (subst (λ n. In n (read_by o)) (sym e) (reads_operand k i))) (λ n. absurd n) r)
      (λ a found r. ⊎_elim
      (λ e. inl (subst (λ n. In n (read_by o)) (sym e) (reads_operand k i)))
      (λ s. inr (record {
        writer = found.writer;
        first = in_front found.writer k found.there (writes_move k a found) (reads_operand k i);
        pure = ap called_by found.moves;
        reads = in_right j (map (λ (l : Literal). l.field) found.writer.guard) (flat_map field_of (operands_of found.writer.act))
            (subst (λ b. In j (flat_map field_of (operands_of b))) (sym found.moves) (in_left j (field_of a) [] s));
        field = k;
        read = reads_operand k i;
        writes = writes_move k a found;
      }))
      (sound.fields k a j r)) t

  reads_p : (j : ℕ) → In j (read_by p) → In j (read_by o) ⊎ Seen j
  reads_p j r = ⊎_elim
      (λ g. inl (in_left j (map (λ (l : Literal). l.field) o.guard) (flat_map field_of (operands_of o.act)) g))
      (λ s.
      let t = subst (λ l. In j (flat_map field_of l)) (operands_with h o.act) (sound.reads (with_operands h o.act) j s) in
      let y = in_flat field_of j (map h (operands_of o.act)) t in
      let x = in_map h y.0 (operands_of o.act) y.1 in
      operand_reads j x.0 x.1 (subst (λ z. In j (field_of z)) x.2 y.2))
      (in_either j (map (λ (l : Literal). l.field) o.guard) (flat_map field_of (operands_of p.act)) r)

  blind_p : (y : Op) → Blind o y → ((w : Op) → In w front → Blind w y) → Blind p y
  blind_p y b ws k r e = ⊎_elim (λ i. b k i e) (λ s. ws s.writer s.first k s.reads e) (reads_p k r)

  own_p : Blind p p
  own_p k r e = blind_p o own (λ w i. (before w i).blind) k r (sym written_same ∙ e)

  -- an operation before it whose field it reads
  reads_key : (x : Op) → In x front → (k : ℕ) → In k (read_by p) → written_by x.act ≡ Some k →
      (key_of x ≤ key_of o) × (nodes ≡ true → (g : ℕ) → called_by x.act ≡ Some g → called_by o.act ≡ Some g → ⊥)
  reads_key x i k r e = ⊎_elim
      (λ d. ((before x i).keys k d e, λ t g. (before x i).apart t k d e g))
      (λ s. let key = seen_key x i k s e in
      (omega (arith, key, (before s.writer s.first).keys s.field s.read s.writes), λ t g c d. parity (key_of s.writer) s.writer.level g (key_pure s.writer s.pure) (subst (λ n. n ≤ key_of s.writer) (key_call x g c) key) (subst (λ n. key_of s.writer ≤ n) (key_call o g d) ((before s.writer s.first).keys s.field s.read s.writes))))
      (reads_p k r)
    where
      key_call : (q : Op) (g : ℕ) → called_by q.act ≡ Some g → key_of q ≡ 2 * g + 1
      key_call q g c = ap (λ (z : Option ℕ). option_map_or (λ array. 2 * array + 1) z (2 * q.level)) c

      key_pure : (q : Op) → called_by q.act ≡ None → key_of q ≡ 2 * q.level
      key_pure q c = ap (λ (z : Option ℕ). option_map_or (λ array. 2 * array + 1) z (2 * q.level)) c

      parity : (n level g : ℕ) → n ≡ 2 * level → 2 * g + 1 ≤ n → n ≤ 2 * g + 1 → ⊥
      parity n level g a b c = absurd (omega (arith, a, b, c))

      two_keys : (xs : List Op) → Pairwise (Pair nodes) xs → ((q : Op) → In q xs → Blind q q) → (x w : Op) → In x xs → In w xs → (k : ℕ) → In k (read_by w) → written_by x.act ≡ Some k → key_of x ≤ key_of w
      two_keys [] f b x w i j k r e = absurd i
      two_keys (z ∷ xs) f b x w (inl i) (inl j) k r e = absurd (b w (inl j) k r (ap (λ (q : Op). written_by q.act) (j ∙ sym i) ∙ e))
      two_keys (z ∷ xs) f b x w (inl i) (inr j) k r e = subst (λ (q : Op). key_of q ≤ key_of w) (sym i) ((f.0 w j).keys k r (ap (λ (q : Op). written_by q.act) (sym i) ∙ e))
      two_keys (z ∷ xs) f b x w (inr i) (inl j) k r e = absurd ((f.0 x i).blind k (subst (λ (q : Op). In k (read_by q)) j r) e)
      two_keys (z ∷ xs) f b x w (inr i) (inr j) k r e = two_keys xs f.1 (λ q m. b q (inr m)) x w i j k r e

      -- the writer that is looked through follows one whose field it reads
      seen_key : (x : Op) → In x front → (k : ℕ) → (s : Seen k) → written_by x.act ≡ Some k → key_of x ≤ key_of s.writer
      seen_key x i k s e = two_keys front parts.first (λ q j. facts.own q (in_left q front (o ∷ back) j)) x s.writer i s.first k s.reads e

  before_p : (x : Op) → In x front → Pair nodes x p
  before_p x i = let b = before x i in record {
    fields = λ k e f. b.fields k e (sym written_same ∙ f);
    calls = λ k e f. b.calls k e (sym called_same ∙ f);
    slots = λ k e f. b.slots k e (sym slot_same ∙ f);
    blind = λ k r e. b.blind k r (sym written_same ∙ e);
    keys = λ k r e. subst (λ n. key_of x ≤ n) (sym key_same) (reads_key x i k r e).0;
    apart = λ t k r e g c d. (reads_key x i k r e).1 t g c (sym called_same ∙ d);
  }

  after_p : (y : Op) → In y back → Pair nodes p y
  after_p y i = let a = parts.second.0 y i in record {
    fields = λ k e f. a.fields k (sym written_same ∙ e) f;
    calls = λ k e f. a.calls k (sym called_same ∙ e) f;
    slots = λ k e f. a.slots k (sym slot_same ∙ e) f;
    blind = blind_p y a.blind (λ w j. (parts.across w j y (inr i)).blind);
    keys = λ k r e. subst (λ n. n ≤ key_of y) (sym key_same) (a.keys k r (sym written_same ∙ e));
    apart = λ t k r e g c. a.apart t k r (sym written_same ∙ e) g (sym called_same ∙ c);
  }

  pub put_facts : Facts nodes (front ++ p ∷ back)
  put_facts = record {
    own = λ q i. ⊎_elim
        (λ l. facts.own q (in_left q front (o ∷ back) l))
        (λ r. ⊎_elim (λ e. subst (λ z. Blind z z) (sym e) own_p) (λ j. facts.own q (in_right q front (o ∷ back) (inr j))) r)
        (in_either q front (p ∷ back) i);
    pairs = pairs_join (Pair nodes) front (p ∷ back) (record {
      first = parts.first;
      second = (after_p, parts.second.1);
      across = λ x i y j. ⊎_elim (λ e. subst (Pair nodes x) (sym e) (before_p x i)) (λ r. parts.across x i y (inr r)) j;
    });
  }

  -- ---- it is sound

  module _ (inputs : Inputs) (arrays : List ArrayDef) (each : (q : Op) → In q (front ++ o ∷ back) → op_is_sound widths inputs arrays q ≡ true) where
    below : (q : Op) → In q (front ++ o ∷ back) → (k : ℕ) → In k (read_by q) → nat_lt k (length widths) ≡ true
    below q i k r = all_in (λ k. nat_lt k (length widths)) (read_by q) (and_parts _ _ (and_parts _ _ (and_parts _ _ (and_parts _ _ (and_parts _ _ (and_parts _ _ (each q i)).0).0).0).0).0).0 k r

    here : In o (front ++ o ∷ back)
    here = in_right o front (o ∷ back) (inl refl)

    sound_p : op_is_sound widths inputs arrays p ≡ true
    sound_p =
        let a = and_parts _ _ (each o here) in
        let b = and_parts _ _ a.0 in
        let c = and_parts _ _ b.0 in
        let d = and_parts _ _ c.0 in
        let e = and_parts _ _ d.0 in
        let f = and_parts _ _ e.0 in
        and_from _ _
        (and_from _ _
        (and_from _ _
        (and_from _ _
        (and_from _ _
        (and_from _ _
        (all_from (λ k. nat_lt k (length widths)) (read_by p) (λ k r. ⊎_elim (λ i. below o here k i) (λ s. below s.writer (in_left s.writer front (o ∷ back) s.first) k s.reads) (reads_p k r)))
        (ap (λ x. option_map_or (λ k. nat_lt k (length widths)) x true) written_same ∙ f.1))
        (ap (λ x. option_map_or (λ k. nat_lt k (length arrays)) x true) called_same ∙ e.1))
        (ap (λ x. option_map_or (λ k. nat_le (3 + inputs.args) k) x true) written_same ∙ d.1))
        (sound.agrees widths arrays (with_operands h o.act) (widths_with widths arrays h o.act ∙ c.1)))
        (sound.limits (with_operands h o.act) (limits_with h o.act ∙ b.1)))
        a.1

    pub put_sound : (q : Op) → In q (front ++ p ∷ back) → op_is_sound widths inputs arrays q ≡ true
    put_sound q i = ⊎_elim
        (λ l. each q (in_left q front (o ∷ back) l))
        (λ r. ⊎_elim (λ e. ap (op_is_sound widths inputs arrays) e ∙ sound_p) (λ j. each q (in_right q front (o ∷ back) (inr j))) r)
        (in_either q front (p ∷ back) i)
