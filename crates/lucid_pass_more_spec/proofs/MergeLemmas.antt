-- Code whose calls write the fields that their answers are moved to does the same, and is valid.
use Rattle.std.proofs.Common.{◌≡◌, ◌≢◌, ℕ, zero, suc, ◌+◌, ◌*◌, ◌<◌, ◌≤◌, ◌^◌, List, [], ◌∷◌, ◌++◌, Bool, true, false, not, ◌&&◌, ◌⊎◌, Option, None, Some, inl, inr, if◌then◌else◌, map, length, slice_index, slice_get, nat_eq, nat_lt, nat_le, refl, sym, ap, ap₂, subst, ◌∙◌, ⊎_elim, true≢false, arith, append_assoc}
use Rattle.std.specs.List.{filter, list_all, list_any, flat_map, enumerate_from}
use Rattle.std.specs.Option.{option_and_then, option_map_or, option_eq}
use Rattle.std.proofs.Math.Nat.{mod-eq_of_lt}
use Rattle.std.proofs.lemmas.Bool.{and_parts, and_from, eqb-true, eq-eqb, ne_eqb, ltb-true, lt-ltb, cases_eq, cases_lt}
use Rattle.std.proofs.lemmas.List.{length-map}
use Rattle.lucid_base.specs.Ops.{low_of}
use Rattle.lucid_base.specs.declared.array.ArrayDef.{ArrayDef}
use Rattle.lucid_base.specs.declared.event.Out.{Out}
use Rattle.lucid_base.specs.declared.memory_alu.MemAlu.{MemAlu}
use Rattle.lucid_code.specs.declared.op.Act.{Act}
use Rattle.lucid_code.specs.declared.op.Act.TheVariants as act
use Rattle.lucid_code.specs.declared.op.Literal.{Literal}
use Rattle.lucid_code.specs.declared.op.Op.{Op}
use Rattle.lucid_code.specs.declared.op.Operand.{Operand}
use Rattle.lucid_code.specs.declared.op.Operand.TheVariants.{Fixed, Field}
use Rattle.lucid_code.specs.Guards.{Fields, all_hold, opposed, contradict}
use Rattle.lucid_code.specs.Nodes.{nodes_follow_writes}
use Rattle.lucid_code.specs.Parts.{CodeParts}
use Rattle.lucid_code.specs.Run.{Machine, begun, written, run_op, run, FieldsFit}
use Rattle.lucid_code.specs.Uses.{written_by, called_by, slot_of, operands_of, field_of, read_by, writes, key_of}
use Rattle.lucid_code.specs.Valid.{IsValid, op_is_sound, widths_agree, act_keeps_limits}
use Rattle.lucid_code.proofs.Acting.{Effect, effect, apply, act_applies, effect_by, put_same, op_fits, op_other, acts, rests, contradict_never}
use Rattle.lucid_code.proofs.Begun.{begun_fits}
use Rattle.lucid_code.proofs.Facts.{Blind, Pair, Facts, Goes, placed_goes, code_facts, is_same_some, sound_each, tests_of, nodes_of, facts_with_nodes}
use Rattle.lucid_code.proofs.Fresh.{Alike, alike, blind_alike}
use Rattle.lucid_code.proofs.Members.{In, Pairwise, Split, pairs_split, in_left, in_right, in_either, in_filter, all_in, all_from, any_from, any_gives, in_map, into_map, numbered, place_from, element_of}
use Rattle.lucid_pass_spec.specs.Dead.{reads}
use Rattle.lucid_pass_spec.specs.Looks.{includes, only, only_writer}
use Rattle.lucid_pass_spec.specs.Replace.{MayReplace}
use Rattle.lucid_pass_spec.proofs.DirectRuns.{into_filter}
use Rattle.lucid_pass_spec.proofs.Gone.{reads_it}
use Rattle.lucid_pass_spec.proofs.Replacing.{includes_in, includes_hold, only_one, only_in}
use Rattle.lucid_pass_more_spec.specs.Merge.{only_reader, is_call, moved_to, same_guards, answers_for, merged_act, merged_op, merged_ops, merged}

-- ---- guards

eq_turned : (a b : ℕ) → nat_eq a b ≡ true → nat_eq b a ≡ true
eq_turned a b e = eq-eqb b a (sym (eqb-true a b e))

opposed_turned : (l m : Literal) → opposed l m ≡ true → opposed m l ≡ true
opposed_turned l m e =
    let p = and_parts (nat_eq l.field m.field) (if l.equal then (if m.equal then not (nat_eq l.value m.value) else nat_eq l.value m.value) else m.equal && nat_eq l.value m.value) e in
    and_from (nat_eq m.field l.field) (if m.equal then (if l.equal then not (nat_eq m.value l.value) else nat_eq m.value l.value) else l.equal && nat_eq m.value l.value) (eq_turned l.field m.field p.0) (by l.equal m.equal (nat_eq l.value m.value) (nat_eq m.value l.value) same p.1)
  where
    same : nat_eq l.value m.value ≡ nat_eq m.value l.value
    same = ⊎_elim (λ s. eq-eqb l.value m.value s ∙ sym (eq-eqb m.value l.value (sym s))) (λ d. ne_eqb l.value m.value d ∙ sym (ne_eqb m.value l.value (λ s. d (sym s)))) (cases_eq l.value m.value)

    by : (t u a b : Bool) → a ≡ b → (if t then (if u then not a else a) else u && a) ≡ true → (if u then (if t then not b else b) else t && b) ≡ true
    by true true a b s h = ap not (sym s) ∙ h
    by true false a b s h = sym s ∙ h
    by false true a b s h = sym s ∙ h
    by false false a b s h = absurd (true≢false (sym h))

contradict_turned : (g h : List Literal) → contradict g h ≡ true → contradict h g ≡ true
contradict_turned g h e =
    let l = any_gives (λ l. list_any (opposed l) h) g e in
    let m = any_gives (opposed l.one) h l.passes in
    any_from (λ m. list_any (opposed m) g) h m.one m.there (any_from (opposed m.one) g l.one l.there (opposed_turned l.one m.one m.passes))

-- with more literals guards still contradict
contradict_more : (g h g' h' : List Literal) → ((l : Literal) → In l g → In l g') → ((l : Literal) → In l h → In l h') → contradict g h ≡ true → contradict g' h' ≡ true
contradict_more g h g' h' f k e =
    let l = any_gives (λ l. list_any (opposed l) h) g e in
    let m = any_gives (opposed l.one) h l.passes in
    any_from (λ l. list_any (opposed l) h') g' l.one (f l.one l.there) (any_from (opposed l.one) h' m.one (k m.one m.there) m.passes)

only_all : (xs : List Op) (w x : Op) → only xs ≡ Some w → In x xs → x ≡ w
only_all [] w x e i = absurd i
only_all (y ∷ []) w x e (inl s) = s ∙ (let z : y ≡ w = cc in z)
only_all (y ∷ []) w x e (inr i) = absurd i
only_all (y ∷ z ∷ xs) w x e i = absurd (cc)

none_by : (y : Option ℕ) → ((x : ℕ) → y ≡ Some x → ⊥) → y ≡ None
none_by None h = refl
none_by (Some x) h = absurd (h x refl)

some_one : (j k : ℕ) → Some j ≡ Some k → j ≡ k
some_one j k e = cc

some_none : (k : ℕ) (y : Option ℕ) → y ≡ Some k → y ≡ None → ⊥
some_none k y e f = absurd (cc)

-- operations at one place are one
at_one_place : (n : ℕ) (ops : List Op) (p q : ℕ × Op) → In p (enumerate_from n ops) → In q (enumerate_from n ops) → p.0 ≡ q.0 → p.1 ≡ q.1
at_one_place n [] p q i j e = absurd i
at_one_place n (o ∷ ops) p q (inl i) (inl j) e = ap (λ (z : ℕ × Op). z.1) i ∙ sym (ap (λ (z : ℕ × Op). z.1) j)
at_one_place n (o ∷ ops) p q (inl i) (inr j) e = let later = place_from (n + 1) ops q j in let here : p.0 ≡ n = ap (λ (z : ℕ × Op). z.0) i in absurd (omega (arith, later, here, e))
at_one_place n (o ∷ ops) p q (inr i) (inl j) e = let later = place_from (n + 1) ops p i in let here : q.0 ≡ n = ap (λ (z : ℕ × Op). z.0) j in absurd (omega (arith, later, here, e))
at_one_place n (o ∷ ops) p q (inr i) (inr j) e = at_one_place (n + 1) ops p q i j e

-- the pair of two operations, by their places
placed_pair : (nodes : Bool) (n : ℕ) (ops : List Op) → Pairwise (Pair nodes) ops → (p q : ℕ × Op) → In p (enumerate_from n ops) → In q (enumerate_from n ops) → p.0 < q.0 → Pair nodes p.1 q.1
placed_pair nodes n [] f p q i j lt = absurd i
placed_pair nodes n (o ∷ ops) f p q (inl i) (inl j) lt = let a : p.0 ≡ n = ap (λ (z : ℕ × Op). z.0) i in let b : q.0 ≡ n = ap (λ (z : ℕ × Op). z.0) j in absurd (omega (arith, a, b, lt))
placed_pair nodes n (o ∷ ops) f p q (inl i) (inr j) lt = subst (λ (z : ℕ × Op). Pair nodes z.1 q.1) (sym i) (f.0 q.1 (element_of (n + 1) ops q j))
placed_pair nodes n (o ∷ ops) f p q (inr i) (inl j) lt = let later = place_from (n + 1) ops p i in let here : q.0 ≡ n = ap (λ (z : ℕ × Op). z.0) j in absurd (omega (arith, later, here, lt))
placed_pair nodes n (o ∷ ops) f p q (inr i) (inr j) lt = placed_pair nodes (n + 1) ops f.1 p q i j lt

module _ (widths : List ℕ) (ops : List Op) where
  abbrev g : ℕ → Option ℕ
  g = answers_for widths ops

  abbrev g_of : ℕ → Option ℕ
  g_of = answers_for widths ops

  abbrev new : Op → Op
  new = merged_op g

  -- The answer of a call in field t is moved to field x.
  record Merges (w v : Op) (t x : ℕ) : Type 0 where
    pub writer : In w ops
    pub mover : In v ops
    pub call : is_call w.act ≡ true
    pub writes : written_by w.act ≡ Some t
    pub moves : v.act ≡ act.Move (Field t) x
    pub wide : slice_index widths t ≡ slice_index widths x
    pub over : includes w.guard v.guard ≡ true
    pub under : includes v.guard w.guard ≡ true
    pub goal : g t ≡ Some x
    pub only_call : (o : Op) → In o ops → written_by o.act ≡ Some t → o ≡ w
    pub only_move : (o : Op) → In o ops → In t (read_by o) → o ≡ v

  record Moved (t : ℕ) (a : Act) (x : ℕ) : Type 0 where
    pub is : a ≡ act.Move (Field t) x
    pub wide : slice_index widths t ≡ slice_index widths x

  moved_is : (t : ℕ) (a : Act) (x : ℕ) → moved_to widths t a ≡ Some x → Moved t a x
  moved_is t (act.Move (Field s) k) x e = by (nat_eq s t && nat_eq (slice_index widths t) (slice_index widths k)) refl e
    where
      by : (b : Bool) → (nat_eq s t && nat_eq (slice_index widths t) (slice_index widths k)) ≡ b → (if b then Some k else None) ≡ Some x → Moved t (act.Move (Field s) k) x
      by true h z =
          let p = and_parts (nat_eq s t) (nat_eq (slice_index widths t) (slice_index widths k)) h in
          let same : k ≡ x = some_one k x z in
          record { is = ap₂ (λ (i j : ℕ). act.Move (Field i) j) (eqb-true s t p.0) same; wide = eqb-true (slice_index widths t) (slice_index widths k) p.1 ∙ ap (slice_index widths) same }
      by false h z = absurd (cc)
  moved_is t (act.Move (Fixed s) k) x e = absurd (cc)
  moved_is t (act.Un op w a k) x e = absurd (cc)
  moved_is t (act.Bin op w a b k) x e = absurd (cc)
  moved_is t (act.Cmp op w a b k) x e = absurd (cc)
  moved_is t (act.Cast a k) x e = absurd (cc)
  moved_is t (act.Hash xs k) x e = absurd (cc)
  moved_is t (act.Touch array index get get_arg set set_arg to) x e = absurd (cc)
  moved_is t (act.Gen slot event args delay to) x e = absurd (cc)
  moved_is t (act.Say slot form args) x e = absurd (cc)

  record Goal (t x : ℕ) : Type 0 where
    pub writer : Op
    pub mover : Op
    pub merges : Merges writer mover t x

  goal_of : (t x : ℕ) → g t ≡ Some x → Goal t x
  goal_of t x e = by (only_writer ops t) refl e
    where
      last : (w v : Op) → only_writer ops t ≡ Some w → only_reader ops t ≡ Some v → (b : Bool) → (is_call w.act && same_guards w v) ≡ b → (if b then moved_to widths t v.act else None) ≡ Some x → Goal t x
      last w v p q true h s =
          let one = only_one ops t w p in
          let there = in_filter (λ o. reads o t) v ops (only_in (filter (λ o. reads o t) ops) v q) in
          let c = and_parts (is_call w.act) (same_guards w v) h in
          let guards = and_parts (includes w.guard v.guard) (includes v.guard w.guard) c.1 in
          let m = moved_is t v.act x s in
          record {
            writer = w;
            mover = v;
            merges = record {
              writer = one.0;
              mover = there.0;
              call = c.0;
              writes = one.1;
              moves = m.is;
              wide = m.wide;
              over = guards.0;
              under = guards.1;
              goal = e;
              only_call = λ o i z. only_all (filter (λ o. writes o t) ops) w o p (into_filter (λ o. writes o t) o ops i (is_same_some (written_by o.act) t z));
              only_move = λ o i r. only_all (filter (λ o. reads o t) ops) v o q (into_filter (λ o. reads o t) o ops i (reads_it o t r));
            };
          }
      last w v p q false h s = absurd (cc)

      thus : (w : Op) → only_writer ops t ≡ Some w → (y : Option Op) → only_reader ops t ≡ y → option_and_then (λ v. if is_call w.act && same_guards w v then moved_to widths t v.act else None) y ≡ Some x → Goal t x
      thus w p None q s = absurd (cc)
      thus w p (Some v) q s = last w v p q (is_call w.act && same_guards w v) refl s

      by : (y : Option Op) → only_writer ops t ≡ y → option_and_then (λ w. option_and_then (λ v. if is_call w.act && same_guards w v then moved_to widths t v.act else None) (only_reader ops t)) y ≡ Some x → Goal t x
      by None p s = absurd (cc)
      by (Some w) p s = thus w p (only_reader ops t) refl s

  -- what reads such an answer is its move, and what writes one is a call
  reads_goal : (o : Op) → In o ops → (k x : ℕ) → In k (read_by o) → g k ≡ Some x → o.act ≡ act.Move (Field k) x
  reads_goal o i k x r e = let m = (goal_of k x e) in ap (λ (q : Op). q.act) (m.merges.only_move o i r) ∙ m.merges.moves

  writes_goal : (o : Op) → In o ops → (k x : ℕ) → written_by o.act ≡ Some k → g k ≡ Some x → is_call o.act ≡ true
  writes_goal o i k x w e = let m = (goal_of k x e) in ap (λ (q : Op). is_call q.act) (m.merges.only_call o i w) ∙ m.merges.call

  -- ---- an operation stays, is such a call, or such a move

  record Call (o : Op) (b : Act) : Type 0 where
    pub from : ℕ
    pub to : ℕ
    pub mover : Op
    pub merges : Merges o mover from to
    pub written : written_by b ≡ Some to
    pub called : called_by b ≡ called_by o.act
    pub slot : slot_of b ≡ slot_of o.act
    pub operands : operands_of b ≡ operands_of o.act
    pub effects : (f : Fields) (cells : List (List ℕ)) → effect b f cells ≡ effect o.act f cells
    pub limits : act_keeps_limits b ≡ act_keeps_limits o.act
    pub agrees : (arrays : List ArrayDef) → slice_get widths from ≡ slice_get widths to → widths_agree widths arrays o.act ≡ true → widths_agree widths arrays b ≡ true

  record Plain (o : Op) (b : Act) : Type 0 where
    pub same : b ≡ o.act
    pub written : (k : ℕ) → written_by o.act ≡ Some k → g k ≡ None
    pub read : (k : ℕ) → In k (read_by o) → g k ≡ None

  record Gone (o : Op) (b : Act) : Type 0 where
    pub from : ℕ
    pub to : ℕ
    pub writer : Op
    pub merges : Merges writer o from to
    pub is : b ≡ act.Move (Fixed 0) from

  abbrev Kind : Op → Act → Type 0
  Kind o b = Plain o b ⊎ (Call o b ⊎ Gone o b)

  kind : (o : Op) → In o ops → Kind o (new o).act
  kind o i = by o.act refl
    where
      plain : (a : Act) → o.act ≡ a → is_call a ≡ false → ((k x : ℕ) → a ≡ act.Move (Field k) x → g k ≡ None) → Kind o a
      plain a e c h = inl (record {
        same = sym e;
        written = λ k w. none_by (g k) (λ x s. true≢false (sym (writes_goal o i k x w s) ∙ ap is_call e ∙ c));
        read = λ k r. none_by (g k) (λ x s. some_none x (g k) s (h k x (sym e ∙ reads_goal o i k x r s)));
      })

      touch : (array : ℕ) (index : Operand) (get : MemAlu) (get_arg : Operand) (set : MemAlu) (set_arg : Operand) (t : ℕ) → o.act ≡ act.Touch array index get get_arg set set_arg (Some t) → (y : Option ℕ) → g t ≡ y
          → Kind o (act.Touch array index get get_arg set set_arg (Some (option_map_or (λ x. x) y t)))
      touch array index get get_arg set set_arg t e None s = inl (record {
        same = sym e;
        written = λ k w. let same : t ≡ k = some_one t k (sym (ap written_by e) ∙ w) in ap g (sym same) ∙ s;
        read = λ k r. none_by (g k) (λ x z. let no : act.Touch array index get get_arg set set_arg (Some t) ≡ act.Move (Field k) x = sym e ∙ reads_goal o i k x r z in absurd (cc));
      })
      touch array index get get_arg set set_arg t e (Some x) s =
          let m = goal_of t x s in
          let same : o ≡ m.writer = m.merges.only_call o i (ap written_by e) in
          inr (inl (record {
            from = t;
            to = x;
            mover = m.mover;
            merges = subst (λ (q : Op). Merges q m.mover t x) (sym same) m.merges;
            written = refl;
            called = sym (ap called_by e);
            slot = sym (ap slot_of e);
            operands = sym (ap operands_of e);
            effects = λ f cells. sym (ap (λ (b : Act). effect b f cells) e);
            limits = sym (ap act_keeps_limits e);
            agrees = λ arrays w h. ap (λ (z : Option ℕ). option_map_or (λ a. nat_eq get.width a.width && nat_eq set.width a.width && option_eq nat_eq z (Some a.width)) (slice_get arrays array) false) (sym w) ∙ sym (ap (widths_agree widths arrays) e) ∙ h;
          }))

      silent : (array : ℕ) (index : Operand) (get : MemAlu) (get_arg : Operand) (set : MemAlu) (set_arg : Operand) → o.act ≡ act.Touch array index get get_arg set set_arg None → Kind o (act.Touch array index get get_arg set set_arg None)
      silent array index get get_arg set set_arg e = inl (record {
        same = sym e;
        written = λ k w. absurd (some_none k (written_by o.act) w (ap written_by e));
        read = λ k r. none_by (g k) (λ x z. let no : act.Touch array index get get_arg set set_arg None ≡ act.Move (Field k) x = sym e ∙ reads_goal o i k x r z in absurd (cc));
      })

      move : (t x : ℕ) → o.act ≡ act.Move (Field t) x → (y : Option ℕ) → g t ≡ y → Kind o (option_map_or (λ y. act.Move (Fixed 0) t) y (act.Move (Field t) x))
      move t x e None s = plain (act.Move (Field t) x) e refl (λ k z p. let same : t ≡ k = cc in ap g (sym same) ∙ s)
      move t x e (Some y) s =
          let m = goal_of t y s in
          let there : In t (read_by o) = in_right t (map (λ (l : Literal). l.field) o.guard) (flat_map field_of (operands_of o.act)) (subst (λ b. In t (flat_map field_of (operands_of b))) (sym e) (inl refl)) in
          let same : o ≡ m.mover = m.merges.only_move o i there in
          inr (inr (record { from = t; to = y; writer = m.writer; merges = subst (λ (q : Op). Merges m.writer q t y) (sym same) m.merges; is = refl }))

      by : (a : Act) → o.act ≡ a → Kind o (merged_act g a)
      by (act.Un op w a k) e = plain (act.Un op w a k) e refl (λ k x z. absurd (cc))
      by (act.Bin op w a b k) e = plain (act.Bin op w a b k) e refl (λ k x z. absurd (cc))
      by (act.Cmp op w a b k) e = plain (act.Cmp op w a b k) e refl (λ k x z. absurd (cc))
      by (act.Cast a k) e = plain (act.Cast a k) e refl (λ k x z. absurd (cc))
      by (act.Hash xs k) e = plain (act.Hash xs k) e refl (λ k x z. absurd (cc))
      by (act.Move (Fixed v) k) e = plain (act.Move (Fixed v) k) e refl (λ k x z. absurd (cc))
      by (act.Move (Field t) x) e = move t x e (g t) refl
      by (act.Touch array index get get_arg set set_arg None) e = silent array index get get_arg set set_arg e
      by (act.Touch array index get get_arg set set_arg (Some t)) e = touch array index get get_arg set set_arg t e (g t) refl
      by (act.Gen slot event args delay to) e = plain (act.Gen slot event args delay to) e refl (λ k x z. absurd (cc))
      by (act.Say slot form args) e = plain (act.Say slot form args) e refl (λ k x z. absurd (cc))

  not_move : (b : Act) (k x : ℕ) → is_call b ≡ true → b ≡ act.Move (Field k) x → ⊥
  not_move b k x c e = true≢false (sym c ∙ ap is_call e)

  mover_reads : (w v : Op) (t x : ℕ) → Merges w v t x → In t (read_by v)
  mover_reads w v t x m = in_right t (map (λ (l : Literal). l.field) v.guard) (flat_map field_of (operands_of v.act)) (subst (λ b. In t (flat_map field_of (operands_of b))) (sym m.moves) (inl refl))

  mover_writes : (w v : Op) (t x : ℕ) → Merges w v t x → written_by v.act ≡ Some x
  mover_writes w v t x m = ap written_by m.moves

  called_new : (o : Op) → In o ops → called_by (new o).act ≡ called_by o.act
  called_new o i = ⊎_elim (λ p. ap called_by p.same) (λ q. ⊎_elim (λ c. c.called) (λ z. ap called_by z.is ∙ sym (ap called_by z.merges.moves)) q) (kind o i)

  slot_new : (o : Op) → In o ops → slot_of (new o).act ≡ slot_of o.act
  slot_new o i = ⊎_elim (λ p. ap slot_of p.same) (λ q. ⊎_elim (λ c. c.slot) (λ z. ap slot_of z.is ∙ sym (ap slot_of z.merges.moves)) q) (kind o i)

  key_new : (o : Op) → In o ops → key_of (new o) ≡ key_of o
  key_new o i = ap (λ c. option_map_or (λ array. 2 * array + 1) c (2 * o.level)) (called_new o i)

  -- ---- what it writes

  record Same (o : Op) (k : ℕ) : Type 0 where
    pub was : written_by o.act ≡ Some k
    pub free : g k ≡ None
    pub read : (j : ℕ) → In j (read_by o) → g j ≡ None

  record From (o : Op) (k : ℕ) : Type 0 where
    pub from : ℕ
    pub mover : Op
    pub merges : Merges o mover from k

  record Spent (o : Op) (k : ℕ) : Type 0 where
    pub to : ℕ
    pub writer : Op
    pub merges : Merges writer o k to

  written_new : (o : Op) → In o ops → (k : ℕ) → written_by (new o).act ≡ Some k → Same o k ⊎ (From o k ⊎ Spent o k)
  written_new o i k e = ⊎_elim
      (λ p. let was : written_by o.act ≡ Some k = sym (ap written_by p.same) ∙ e in inl (record { was = was; free = p.written k was; read = p.read }))
      (λ q. ⊎_elim
      (λ c. let s : c.to ≡ k = some_one c.to k (sym c.written ∙ e) in inr (inl (record { from = c.from; mover = c.mover; merges = subst (Merges o c.mover c.from) s c.merges })))
      (λ z. let s : z.from ≡ k = some_one z.from k (sym (ap written_by z.is) ∙ e) in inr (inr (record { to = z.to; writer = z.writer; merges = subst (λ (t : ℕ). Merges z.writer o t z.to) s z.merges })))
      q)
      (kind o i)

  -- ---- it may replace the code

  module _ (nodes : Bool) (facts : Facts nodes ops) where
    reads_new : (o : Op) → In o ops → (k : ℕ) → In k (read_by (new o)) → In k (read_by o) × (g k ≡ None)
    reads_new o i k r = ⊎_elim
        (λ p. let s = as_before p.same in (s, p.read k s))
        (λ q. ⊎_elim
        (λ c. let s = by_operands c.operands in (s, none_by (g k) (λ x e. not_move o.act k x c.merges.call (reads_goal o i k x s e))))
        (λ z.
        let at : In k (map (λ (l : Literal). l.field) o.guard)
        = ⊎_elim (λ h. h) (λ h. absurd (subst (λ b. In k (flat_map field_of (operands_of b))) z.is h)) (in_either k (map (λ (l : Literal). l.field) o.guard) (flat_map field_of (operands_of (new o).act)) r) in
        let s : In k (read_by o) = in_left k (map (λ (l : Literal). l.field) o.guard) (flat_map field_of (operands_of o.act)) at in (
          s,
          none_by (g k) (λ x e.
              let moves : act.Move (Field k) x ≡ act.Move (Field z.from) z.to = sym (reads_goal o i k x s e) ∙ z.merges.moves in
              let same : k ≡ z.from = cc in
              let l = in_map (λ (l : Literal). l.field) k o.guard at in
              let there : In l.0 z.writer.guard = includes_in z.writer.guard o.guard z.merges.over l.0 l.1 in
              facts.own z.writer z.merges.writer k (in_left k (map (λ (l : Literal). l.field) z.writer.guard) (flat_map field_of (operands_of z.writer.act)) (subst (λ (n : ℕ). In n (map (λ (l : Literal). l.field) z.writer.guard)) (sym l.2) (into_map (λ (l : Literal). l.field) l.0 z.writer.guard there)))
              (z.merges.writes ∙ ap Some (sym same))),
        ))
        q)
        (kind o i)
      where
        by_operands : operands_of (new o).act ≡ operands_of o.act → In k (read_by o)
        by_operands e = subst (λ l. In k (map (λ (l : Literal). l.field) o.guard ++ flat_map field_of l)) e r

        as_before : (new o).act ≡ o.act → In k (read_by o)
        as_before e = by_operands (ap operands_of e)

    goes : (r w : ℕ × Op) → In r (enumerate_from 0 ops) → In w (enumerate_from 0 ops) → (k : ℕ) → In k (read_by r.1) → written_by w.1.act ≡ Some k → Goes nodes w r
    goes r w i j k h e = placed_goes nodes 0 ops facts r w i j k h e

    -- two that write one field contradict
    both : (p q : Op) → In p ops → In q ops → (k : ℕ) → written_by p.act ≡ Some k → written_by q.act ≡ Some k → p ≢ q → contradict p.guard q.guard ≡ true
    both p q i j k e f d =
        let a = numbered p 0 ops i in
        let b = numbered q 0 ops j in
        ⊎_elim
        (λ lt. (placed_pair nodes 0 ops facts.pairs (a.0, p) (b.0, q) a.1 b.1 lt).fields k e f)
        (λ ge. ⊎_elim
        (λ s. absurd (d (at_one_place 0 ops (a.0, p) (b.0, q) a.1 b.1 s)))
        (λ n. contradict_turned q.guard p.guard ((placed_pair nodes 0 ops facts.pairs (b.0, q) (a.0, p) b.1 a.1 (below b.0 a.0 ge (λ s. n (sym s)))).fields k f e))
        (cases_eq a.0 b.0))
        (cases_lt a.0 b.0)
      where
        below : (b a : ℕ) → b ≤ a → b ≢ a → b < a
        below b a le d = ⊎_elim (λ lt. lt) (λ ge. absurd (d (omega (arith, le, ge)))) (cases_lt b a)

    fields_new : (x y : Op) → In x ops → In y ops → Pair nodes x y → (k : ℕ) → written_by (new x).act ≡ Some k → written_by (new y).act ≡ Some k → contradict x.guard y.guard ≡ true
    fields_new x y i j p k e f = ⊎_elim
        (λ a. ⊎_elim
        (λ b. p.fields k a.was b.was)
        (λ q. ⊎_elim
        (λ b. contradict_more x.guard b.mover.guard x.guard y.guard (λ l h. h) (includes_in y.guard b.mover.guard b.merges.over)
        (both x b.mover i b.merges.mover k a.was (mover_writes y b.mover b.from k b.merges) (other x y a b)))
        (λ b. absurd (some_none b.to (g k) b.merges.goal a.free)) q)
        (written_new y j k f))
        (λ q. ⊎_elim
        (λ a. ⊎_elim
        (λ b. contradict_more a.mover.guard y.guard x.guard y.guard (includes_in x.guard a.mover.guard a.merges.over) (λ l h. h)
        (contradict_turned y.guard a.mover.guard (both y a.mover j a.merges.mover k b.was (mover_writes x a.mover a.from k a.merges) (other y x b a))))
        (λ q. ⊎_elim
        (λ b. two x y p k a b)
        (λ b. absurd (not_call a.mover a.from k a.merges.moves (writes_goal a.mover a.merges.mover k b.to (mover_writes x a.mover a.from k a.merges) b.merges.goal))) q)
        (written_new y j k f))
        (λ a. ⊎_elim
        (λ b. absurd (some_none a.to (g k) a.merges.goal b.free))
        (λ q. ⊎_elim
        (λ b. absurd (not_call b.mover b.from k b.merges.moves (writes_goal b.mover b.merges.mover k a.to (mover_writes y b.mover b.from k b.merges) a.merges.goal)))
        (λ b.
        let same : y ≡ x = a.merges.only_move y j (mover_reads b.writer y k b.to b.merges) in
        p.fields a.to (mover_writes a.writer x k a.to a.merges) (ap (λ (z : Op). written_by z.act) same ∙ mover_writes a.writer x k a.to a.merges)) q)
        (written_new y j k f)) q)
        (written_new x i k e)
      where
        not_call : (v : Op) (t x : ℕ) → v.act ≡ act.Move (Field t) x → is_call v.act ≡ true → ⊥
        not_call v t x e c = not_move v.act t x c e

        other : (x y : Op) → (a : Same x k) (b : From y k) → x ≢ b.mover
        other x y a b s = some_none k (g b.from) b.merges.goal (a.read b.from (subst (λ (z : Op). In b.from (read_by z)) (sym s) (mover_reads y b.mover b.from k b.merges)))

        two : (x y : Op) → Pair nodes x y → (k : ℕ) (a : From x k) (b : From y k) → contradict x.guard y.guard ≡ true
        two x y p k a b = ⊎_elim
            (λ s. p.fields a.from a.merges.writes (b.merges.writes ∙ ap Some (sym s)))
            (λ d. contradict_more a.mover.guard b.mover.guard x.guard y.guard (includes_in x.guard a.mover.guard a.merges.over) (includes_in y.guard b.mover.guard b.merges.over)
            (both a.mover b.mover a.merges.mover b.merges.mover k (mover_writes x a.mover a.from k a.merges) (mover_writes y b.mover b.from k b.merges) (λ s.
            let moves : act.Move (Field a.from) k ≡ act.Move (Field b.from) k = sym a.merges.moves ∙ ap (λ (z : Op). z.act) s ∙ b.merges.moves in
            let same : a.from ≡ b.from = cc in
            d same)))
            (cases_eq a.from b.from)

    -- the call whose answer is read now precedes the move, which precedes the reader
    through : (x y : ℕ × Op) → In x (enumerate_from 0 ops) → In y (enumerate_from 0 ops) → (k : ℕ) → In k (read_by x.1) → (a : From y.1 k)
        → (y.0 < x.0) × (key_of y.1 ≤ key_of x.1) × (nodes ≡ true → (g : ℕ) → called_by y.1.act ≡ Some g → called_by x.1.act ≡ Some g → ⊥)
    through x y i j k r a =
        let v = numbered a.mover 0 ops a.merges.mover in
        let first = goes x (v.0, a.mover) i v.1 k r (mover_writes y.1 a.mover a.from k a.merges) in
        let second = goes (v.0, a.mover) y v.1 j a.from (mover_reads y.1 a.mover a.from k a.merges) a.merges.writes in
        let pure : key_of a.mover ≡ 2 * a.mover.level = ap (λ c. option_map_or (λ array. 2 * array + 1) c (2 * a.mover.level)) (ap called_by a.merges.moves) in (
          omega (arith, first.place, second.place),
          omega (arith, first.key, second.key),
          λ n g c f. parity (key_of a.mover) a.mover.level g pure (subst (λ m. m ≤ key_of a.mover) (key_call y.1 g c) second.key) (subst (λ m. key_of a.mover ≤ m) (key_call x.1 g f) first.key),
        )
      where
        key_call : (q : Op) (g : ℕ) → called_by q.act ≡ Some g → key_of q ≡ 2 * g + 1
        key_call q g c = ap (λ (z : Option ℕ). option_map_or (λ array. 2 * array + 1) z (2 * q.level)) c

        parity : (n level g : ℕ) → n ≡ 2 * level → 2 * g + 1 ≤ n → n ≤ 2 * g + 1 → ⊥
        parity n level g a b c = absurd (omega (arith, a, b, c))

    blind_new : (x y : ℕ × Op) → In x (enumerate_from 0 ops) → In y (enumerate_from 0 ops) → x.0 ≤ y.0 → Blind x.1 y.1 → Blind (new x.1) (new y.1)
    blind_new x y i j le b k r e =
        let q = reads_new x.1 (element_of 0 ops x i) k r in
        ⊎_elim (λ a. b k q.0 a.was) (λ h. ⊎_elim (λ a. let p = (through x y i j k q.0 a).0 in absurd (omega (arith, p, le))) (λ a. some_none a.to (g k) a.merges.goal q.1) h) (written_new y.1 (element_of 0 ops y j) k e)

    pair_new : (x y : ℕ × Op) → In x (enumerate_from 0 ops) → In y (enumerate_from 0 ops) → x.0 < y.0 → Pair nodes x.1 y.1 → Pair nodes (new x.1) (new y.1)
    pair_new x y i j lt p =
        let ix = element_of 0 ops x i in
        let iy = element_of 0 ops y j in
        record {
          fields = λ k e f. fields_new x.1 y.1 ix iy p k e f;
          calls = λ k e f. p.calls k (sym (called_new x.1 ix) ∙ e) (sym (called_new y.1 iy) ∙ f);
          slots = λ k e f. p.slots k (sym (slot_new x.1 ix) ∙ e) (sym (slot_new y.1 iy) ∙ f);
          blind = blind_new x y i j (omega (arith, lt)) p.blind;
          keys = λ k r e.
              let q = reads_new y.1 iy k r in
              subst (λ n. key_of (new x.1) ≤ n) (sym (key_new y.1 iy)) (subst (λ n. n ≤ key_of y.1) (sym (key_new x.1 ix))
              (⊎_elim (λ a. p.keys k q.0 a.was) (λ h. ⊎_elim (λ a. (through y x j i k q.0 a).1) (λ a. absurd (some_none a.to (g k) a.merges.goal q.1)) h) (written_new x.1 ix k e)));
          apart = λ t k r e c d f.
              let q = reads_new y.1 iy k r in
              let d' = sym (called_new x.1 ix) ∙ d in
              let f' = sym (called_new y.1 iy) ∙ f in
              ⊎_elim (λ a. p.apart t k q.0 a.was c d' f') (λ h. ⊎_elim (λ a. (through y x j i k q.0 a).2 t c d' f') (λ a. some_none a.to (g k) a.merges.goal q.1) h) (written_new x.1 ix k e);
        }

    pairs_new : (n : ℕ) (rest : List Op) → ((p : ℕ × Op) → In p (enumerate_from n rest) → In p (enumerate_from 0 ops)) → Pairwise (Pair nodes) rest → Pairwise (Pair nodes) (map new rest)
    pairs_new n [] within p = tt
    pairs_new n (x ∷ rest) within p = (
      λ y' i.
          let y = in_map new y' rest i in
          let q = numbered y.0 (n + 1) rest y.1 in
          let later = place_from (n + 1) rest (q.0, y.0) q.1 in
          subst (Pair nodes (new x)) (sym y.2) (pair_new (n, x) (q.0, y.0) (within (n, x) (inl refl)) (within (q.0, y.0) (inr q.1)) (omega (arith, later)) (p.0 y.0 y.1)),
      pairs_new (n + 1) rest (λ q i. within q (inr i)) p.1,
    )

    pub merged_facts : Facts nodes (map new ops)
    merged_facts = record {
      own = λ o' i.
          let o = in_map new o' ops i in
          let q = numbered o.0 0 ops o.1 in
          subst (λ z. Blind z z) (sym o.2) (blind_new (q.0, o.0) (q.0, o.0) q.1 q.1 (omega arith) (facts.own o.0 o.1));
      pairs = pairs_new 0 ops (λ p i. i) facts.pairs;
    }

  -- ---- runs

  module _ (facts : Facts false ops) where
    -- The call acted, and the move is still to come.
    record Ahead (front rest : List Op) (f : Fields) (k : ℕ) : Type 0 where
      pub from : ℕ
      pub call : Op
      pub mover : Op
      pub merges : Merges call mover from k
      pub there : In call front
      pub later : In mover rest
      pub held : all_hold f call.guard ≡ true

    -- Between a call that acted and its move, the new run has the answer in the field that it is for.
    record Near (front rest : List Op) (m n : Machine) : Type 0 where
      pub ahead : (w v : Op) (t x : ℕ) → Merges w v t x → In w front → In v rest → all_hold m.fields w.guard ≡ true → slice_index n.fields x ≡ slice_index m.fields t
      pub fields : (k : ℕ) → g k ≡ None → (slice_index n.fields k ≡ slice_index m.fields k) ⊎ Ahead front rest m.fields k
      pub cells : n.cells ≡ m.cells
      pub outs : n.outs ≡ m.outs

    module _ (front : List Op) (o : Op) (rest : List Op) (e : ops ≡ front ++ o ∷ rest) (m n : Machine) (fit : FieldsFit widths m.fields) (near : Near front (o ∷ rest) m n) where
      abbrev more : List Op
      more = front ++ o ∷ []

      abbrev m' : Machine
      m' = run_op widths m o

      abbrev n' : Machine
      n' = run_op widths n (new o)

      parts : Split (Pair false) front (o ∷ rest)
      parts = pairs_split (Pair false) front (o ∷ rest) (subst (Pairwise (Pair false)) e facts.pairs)

      there : In o ops
      there = subst (In o) (sym e) (in_right o front (o ∷ rest) (inl refl))

      own : Blind o o
      own = facts.own o there

      in_more : (w : Op) → In w front → In w more
      in_more w i = in_left w front (o ∷ []) i

      before : (w : Op) → In w front → Pair false w o
      before w i = parts.across w i o (inl refl)

      behind : (v : Op) → In v rest → Pair false o v
      behind v i = parts.second.0 v i

      guard_stays : (w : Op) → In w front → all_hold m'.fields w.guard ≡ all_hold m.fields w.guard
      guard_stays w i = (blind_alike widths m w o (before w i).blind).guard

      own_stays : all_hold m'.fields o.guard ≡ all_hold m.fields o.guard
      own_stays = (blind_alike widths m o o own).guard

      old_field : (k : ℕ) → written_by o.act ≢ Some k → slice_index m'.fields k ≡ slice_index m.fields k
      old_field k d = op_other widths m o k d

      new_field : (k : ℕ) → written_by (new o).act ≢ Some k → slice_index n'.fields k ≡ slice_index n.fields k
      new_field k d = op_other widths n (new o) k d

      reads_alike : (k : ℕ) → In k (read_by (new o)) → slice_index n.fields k ≡ slice_index m.fields k
      reads_alike k r =
          let q = reads_new false facts o there k r in
          ⊎_elim (λ s. s) (λ a. absurd (⊎_elim
          (λ s. own k q.0 (ap (λ (z : Op). written_by z.act) (sym s) ∙ mover_writes a.call a.mover a.from k a.merges))
          (λ j. (behind a.mover j).blind k q.0 (mover_writes a.call a.mover a.from k a.merges)) a.later)) (near.fields k q.1)

      same : Alike m.fields n.fields (new o)
      same = alike m.fields n.fields (new o) reads_alike

      -- ahead still, where the move is not this operation
      still : (k : ℕ) (a : Ahead front (o ∷ rest) m.fields k) → a.mover ≢ o → Ahead more rest m'.fields k
      still k a d = record {
        from = a.from;
        call = a.call;
        mover = a.mover;
        merges = a.merges;
        there = in_more a.call a.there;
        later = ⊎_elim (λ s. absurd (d s)) (λ j. j) a.later;
        held = guard_stays a.call a.there ∙ a.held;
      }

      in_front : (w : Op) → In w more → (w ≢ o) → In w front
      in_front w i d = ⊎_elim (λ j. j) (λ j. ⊎_elim (λ s. absurd (d s)) (λ z. absurd z) j) (in_either w front (o ∷ []) i)

      either : (w : Op) → In w more → In w front ⊎ (w ≡ o)
      either w i = ⊎_elim (λ j. inl j) (λ j. ⊎_elim (λ s. inr s) (λ z. absurd z) j) (in_either w front (o ∷ []) i)

      -- none acts
      idle : all_hold m.fields o.guard ≡ false → Near more rest m' n'
      idle h =
          let left : m' ≡ m = rests widths m o h in
          let right : n' ≡ n = rests widths n (new o) (same.guard ∙ h) in
          let old : (k : ℕ) → slice_index m'.fields k ≡ slice_index m.fields k = λ k. ap (λ (z : Machine). slice_index z.fields k) left in
          let now : (k : ℕ) → slice_index n'.fields k ≡ slice_index n.fields k = λ k. ap (λ (z : Machine). slice_index z.fields k) right in
          record {
            ahead = λ w v t x g i j held. ⊎_elim
                (λ f. now x ∙ near.ahead w v t x g f (inr j) (sym (guard_stays w f) ∙ held) ∙ sym (old t))
                (λ s. absurd (true≢false (sym held ∙ ap (λ (z : Op). all_hold m'.fields z.guard) s ∙ own_stays ∙ h)))
                (either w i);
            fields = λ k free. ⊎_elim
                (λ s. inl (now k ∙ s ∙ sym (old k)))
                (λ a. inr (still k a (λ s. true≢false (sym (includes_hold m.fields a.call.guard o.guard (subst (λ (z : Op). includes a.call.guard z.guard ≡ true) s a.merges.over) a.held) ∙ h))))
                (near.fields k free);
            cells = ap (λ (z : Machine). z.cells) right ∙ near.cells ∙ sym (ap (λ (z : Machine). z.cells) left);
            outs = ap (λ (z : Machine). z.outs) right ∙ near.outs ∙ sym (ap (λ (z : Machine). z.outs) left);
          }

      module _ (h : all_hold m.fields o.guard ≡ true) where
        abbrev d : Effect
        d = effect o.act m.fields m.cells

        old_is : m' ≡ apply widths (written_by o.act) d m
        old_is = acts widths m o h ∙ act_applies widths m o.act

        new_is : n' ≡ apply widths (written_by (new o).act) (effect (new o).act n.fields n.cells) n
        new_is = acts widths n (new o) (same.guard ∙ h) ∙ act_applies widths n (new o).act

        new_effect : effect (new o).act n.fields n.cells ≡ effect (new o).act m.fields m.cells
        new_effect = ap (effect (new o).act n.fields) near.cells ∙ effect_by m.fields n.fields m.cells (new o).act same.operands

        old_made : (k : ℕ) → written_by o.act ≡ Some k → slice_index m'.fields k ≡ low_of (slice_index widths k) d.made
        old_made k w = ap (λ (z : Machine). slice_index z.fields k) old_is ∙ ap (λ to. slice_index (written widths to d.made m.fields) k) w ∙ put_same m.fields k (low_of (slice_index widths k) d.made)

        new_made : (k : ℕ) → written_by (new o).act ≡ Some k → slice_index n'.fields k ≡ low_of (slice_index widths k) (effect (new o).act m.fields m.cells).made
        new_made k w =
            ap (λ (z : Machine). slice_index z.fields k) new_is ∙ ap₂ (λ (to : Option ℕ) (d : Effect). slice_index (written widths to d.made n.fields) k) w new_effect
            ∙ put_same n.fields k (low_of (slice_index widths k) (effect (new o).act m.fields m.cells).made)

        -- the same cells and outs
        cells_same : effect (new o).act m.fields m.cells ≡ d → n'.cells ≡ m'.cells
        cells_same s =
            ap (λ (z : Machine). z.cells) new_is
            ∙ ap₂ (λ (d : Effect) (c : List (List ℕ)). (apply widths (written_by (new o).act) d (record n { cells = c })).cells) (new_effect ∙ s) near.cells
            ∙ sym (ap (λ (z : Machine). z.cells) old_is)

        outs_same : effect (new o).act m.fields m.cells ≡ d → n'.outs ≡ m'.outs
        outs_same s =
            ap (λ (z : Machine). z.outs) new_is
            ∙ ap₂ (λ (d : Effect) (c : List (ℕ × Out)). (apply widths (written_by (new o).act) d (record n { outs = c })).outs) (new_effect ∙ s) near.outs
            ∙ sym (ap (λ (z : Machine). z.outs) old_is)

        as_it_was : Plain o (new o).act → Near more rest m' n'
        as_it_was p =
            let s : effect (new o).act m.fields m.cells ≡ d = ap (λ b. effect b m.fields m.cells) p.same in
            let w_same : written_by (new o).act ≡ written_by o.act = ap written_by p.same in
            record {
              ahead = λ w v t x g i j held. ⊎_elim
                  (λ f.
                  let hm : all_hold m.fields w.guard ≡ true = sym (guard_stays w f) ∙ held in
                  let unwritten : written_by o.act ≢ Some x
                  = λ z. contradict_never m.fields o.guard v.guard ((behind v j).fields x z (mover_writes w v t x g)) h (includes_hold m.fields w.guard v.guard g.over hm) in
                  new_field x (λ z. unwritten (sym w_same ∙ z)) ∙ near.ahead w v t x g f (inr j) hm ∙ sym (old_field t (λ z. some_none x (g_of t) g.goal (p.written t z))))
                  (λ q. absurd (some_none x (g_of t) g.goal (p.written t (ap (λ (z : Op). written_by z.act) (sym q) ∙ g.writes))))
                  (either w i);
              fields = λ k free. by k free (written_by o.act) refl;
              cells = cells_same s;
              outs = outs_same s;
            }
          where
            other : (k : ℕ) → g_of k ≡ None → written_by o.act ≢ Some k → (slice_index n'.fields k ≡ slice_index m'.fields k) ⊎ Ahead more rest m'.fields k
            other k free u = ⊎_elim
                (λ s. inl (new_field k (λ z. u (sym (ap written_by p.same) ∙ z)) ∙ s ∙ sym (old_field k u)))
                (λ a. inr (still k a (λ s. some_none k (g_of a.from) a.merges.goal (p.read a.from (subst (λ (z : Op). In a.from (read_by z)) s (mover_reads a.call a.mover a.from k a.merges))))))
                (near.fields k free)

            by : (k : ℕ) → g_of k ≡ None → (to : Option ℕ) → written_by o.act ≡ to → (slice_index n'.fields k ≡ slice_index m'.fields k) ⊎ Ahead more rest m'.fields k
            by k free None w = other k free (λ z. some_none k (written_by o.act) z w)
            by k free (Some j) w = ⊎_elim
                (λ s.
                let wk : written_by o.act ≡ Some k = w ∙ ap Some (sym s) in
                inl (new_made k (ap written_by p.same ∙ wk) ∙ ap (λ (b : Act). low_of (slice_index widths k) (effect b m.fields m.cells).made) p.same ∙ sym (old_made k wk)))
                (λ c. other k free (λ z. c (some_one k j (sym z ∙ w))))
                (cases_eq k j)

        as_call : Call o (new o).act → Near more rest m' n'
        as_call c =
            let s : effect (new o).act m.fields m.cells ≡ d = c.effects m.fields m.cells in
            record {
              ahead = λ w v t x g i j held. ⊎_elim
                  (λ f. before_it w v t x g f j (sym (guard_stays w f) ∙ held))
                  (λ q. its_own v t x (subst (λ (z : Op). Merges z v t x) q g))
                  (either w i);
              fields = λ k free. ⊎_elim
                  (λ q. inr (subst (Ahead more rest m'.fields) (sym q) mine))
                  (λ u. ⊎_elim
                  (λ z. inl (new_field k (λ y. u (some_one k c.to (sym y ∙ c.written))) ∙ z ∙ sym (old_field k (not_from k free))))
                  (λ a. inr (still k a (λ q. not_move o.act a.from k c.merges.call (ap (λ (z : Op). z.act) (sym q) ∙ a.merges.moves))))
                  (near.fields k free))
                  (cases_eq k c.to);
              cells = cells_same s;
              outs = outs_same s;
            }
          where
            not_from : (k : ℕ) → g_of k ≡ None → written_by o.act ≢ Some k
            not_from k free z = let q : c.from ≡ k = some_one c.from k (sym c.merges.writes ∙ z) in some_none c.to (g_of k) (ap g_of (sym q) ∙ c.merges.goal) free

            at : slice_index n'.fields c.to ≡ slice_index m'.fields c.from
            at = new_made c.to c.written ∙ ap₂ (λ (w v : ℕ). low_of w v) (sym c.merges.wide) (ap (λ (z : Effect). z.made) (c.effects m.fields m.cells)) ∙ sym (old_made c.from c.merges.writes)

            its_own : (v : Op) (t x : ℕ) → Merges o v t x → slice_index n'.fields x ≡ slice_index m'.fields t
            its_own v t x g =
                let from : c.from ≡ t = some_one c.from t (sym c.merges.writes ∙ g.writes) in
                let one : v ≡ c.mover = c.merges.only_move v g.mover (subst (λ (k : ℕ). In k (read_by v)) (sym from) (mover_reads o v t x g)) in
                let moves : act.Move (Field c.from) c.to ≡ act.Move (Field t) x = sym c.merges.moves ∙ ap (λ (z : Op). z.act) (sym one) ∙ g.moves in
                let to : c.to ≡ x = cc in
                ap (slice_index n'.fields) (sym to) ∙ at ∙ ap (slice_index m'.fields) from

            before_it : (w v : Op) (t x : ℕ) → Merges w v t x → In w front → In v rest → all_hold m.fields w.guard ≡ true → slice_index n'.fields x ≡ slice_index m'.fields t
            before_it w v t x g f j hm =
                let apart : t ≢ c.from = λ q. contradict_never m.fields w.guard o.guard ((before w f).fields t g.writes (c.merges.writes ∙ ap Some (sym q))) hm h in
                let other : x ≢ c.to
                = λ q. contradict_never m.fields v.guard c.mover.guard
                (both false facts v c.mover g.mover c.merges.mover x (mover_writes w v t x g) (mover_writes o c.mover c.from c.to c.merges ∙ ap Some (sym q)) (λ z.
                let moves : act.Move (Field t) x ≡ act.Move (Field c.from) c.to = sym g.moves ∙ ap (λ (y : Op). y.act) z ∙ c.merges.moves in
                let from : t ≡ c.from = cc in
                apart from))
                (includes_hold m.fields w.guard v.guard g.over hm) (includes_hold m.fields o.guard c.mover.guard c.merges.over h) in
                new_field x (λ z. other (some_one x c.to (sym z ∙ c.written))) ∙ near.ahead w v t x g f (inr j) hm ∙ sym (old_field t (λ z. apart (some_one t c.from (sym z ∙ c.merges.writes))))

            mine : Ahead more rest m'.fields c.to
            mine = record {
              from = c.from;
              call = o;
              mover = c.mover;
              merges = c.merges;
              there = in_right o front (o ∷ []) (inl refl);
              later = ⊎_elim
                  (λ i. absurd ((before c.mover i).blind c.from (mover_reads o c.mover c.from c.to c.merges) c.merges.writes))
                  (λ i. ⊎_elim (λ q. absurd (not_move o.act c.from c.to c.merges.call (ap (λ (z : Op). z.act) (sym q) ∙ c.merges.moves))) (λ i. i) i)
                  (in_either c.mover front (o ∷ rest) (subst (In c.mover) e c.merges.mover));
              held = own_stays ∙ h;
            }

        as_gone : Gone o (new o).act → Near more rest m' n'
        as_gone z =
            record {
              ahead = λ w v t x g i j held. ⊎_elim
                  (λ f.
                  new_field x (λ y. not_move v.act t x (writes_goal v g.mover x z.to (mover_writes w v t x g) (ap g_of (some_one x z.from (sym y ∙ gone_writes)) ∙ z.merges.goal)) g.moves)
                  ∙ near.ahead w v t x g f (inr j) (sym (guard_stays w f) ∙ held)
                  ∙ sym (old_field t (λ y. not_move o.act z.from z.to (writes_goal o there t x y g.goal) z.merges.moves)))
                  (λ q. absurd (not_move o.act z.from z.to (ap (λ (y : Op). is_call y.act) (sym q) ∙ g.call) z.merges.moves))
                  (either w i);
              fields = λ k free. ⊎_elim
                  (λ q. inl (subst (λ (k : ℕ). slice_index n'.fields k ≡ slice_index m'.fields k) (sym q) arrived))
                  (λ u. ⊎_elim
                  (λ y. inl (new_field k (λ w. not_from k free w) ∙ y ∙ sym (old_field k (λ w. u (some_one k z.to (sym w ∙ mover_writes z.writer o z.from z.to z.merges))))))
                  (λ a. inr (still k a (λ q.
                  let moves : act.Move (Field a.from) k ≡ act.Move (Field z.from) z.to = sym a.merges.moves ∙ ap (λ (y : Op). y.act) q ∙ z.merges.moves in
                  let to : k ≡ z.to = cc in
                  u to)))
                  (near.fields k free))
                  (cases_eq k z.to);
              cells = ap (λ (y : Machine). y.cells) new_is ∙ ap (λ (b : Act). (apply widths (written_by b) (effect b n.fields n.cells) n).cells) z.is ∙ near.cells
                  ∙ sym (ap (λ (y : Machine). y.cells) old_is ∙ ap (λ (b : Act). (apply widths (written_by b) (effect b m.fields m.cells) m).cells) z.merges.moves);
              outs = ap (λ (y : Machine). y.outs) new_is ∙ ap (λ (b : Act). (apply widths (written_by b) (effect b n.fields n.cells) n).outs) z.is ∙ near.outs
                  ∙ sym (ap (λ (y : Machine). y.outs) old_is ∙ ap (λ (b : Act). (apply widths (written_by b) (effect b m.fields m.cells) m).outs) z.merges.moves);
            }
          where
            gone_writes : written_by (new o).act ≡ Some z.from
            gone_writes = ap written_by z.is

            not_from : (k : ℕ) → g_of k ≡ None → written_by (new o).act ≢ Some k
            not_from k free w = let q : z.from ≡ k = some_one z.from k (sym gone_writes ∙ w) in some_none z.to (g_of k) (ap g_of (sym q) ∙ z.merges.goal) free

            first : In z.writer front
            first = ⊎_elim (λ i. i)
                (λ i. ⊎_elim
                (λ q. absurd (not_move o.act z.from z.to (ap (λ (y : Op). is_call y.act) (sym q) ∙ z.merges.call) z.merges.moves))
                (λ j. absurd ((behind z.writer j).blind z.from (mover_reads z.writer o z.from z.to z.merges) z.merges.writes)) i)
                (in_either z.writer front (o ∷ rest) (subst (In z.writer) e z.merges.writer))

            arrived : slice_index n'.fields z.to ≡ slice_index m'.fields z.to
            arrived =
                let apart : z.to ≢ z.from = λ q. own z.from (mover_reads z.writer o z.from z.to z.merges) (mover_writes z.writer o z.from z.to z.merges ∙ ap Some q) in
                let low : low_of (slice_index widths z.to) (slice_index m.fields z.from) ≡ slice_index m.fields z.from
                = mod-eq_of_lt (subst (λ w. slice_index m.fields z.from < 2 ^ w) z.merges.wide (fit z.from)) in
                new_field z.to (λ y. apart (some_one z.to z.from (sym y ∙ gone_writes)))
                ∙ near.ahead z.writer o z.from z.to z.merges first (inl refl) (includes_hold m.fields o.guard z.writer.guard z.merges.under h)
                ∙ sym (old_made z.to (mover_writes z.writer o z.from z.to z.merges) ∙ ap (λ (b : Act). low_of (slice_index widths z.to) (effect b m.fields m.cells).made) z.merges.moves ∙ low)

      step : Near more rest m' n'
      step = by (all_hold m.fields o.guard) refl
        where
          by : (b : Bool) → all_hold m.fields o.guard ≡ b → Near more rest m' n'
          by true h = ⊎_elim (λ p. as_it_was h p) (λ q. ⊎_elim (λ c. as_call h c) (λ z. as_gone h z) q) (kind o there)
          by false h = idle h

    runs : (front rest : List Op) → ops ≡ front ++ rest → (m n : Machine) → FieldsFit widths m.fields → Near front rest m n
        → ((run widths (map new rest) n).cells ≡ (run widths rest m).cells) × ((run widths (map new rest) n).outs ≡ (run widths rest m).outs)
    runs front [] e m n fit near = (near.cells, near.outs)
    runs front (o ∷ rest) e m n fit near =
        runs (front ++ o ∷ []) rest (e ∙ sym (append_assoc front (o ∷ []) rest)) (run_op widths m o) (run_op widths n (new o)) (op_fits widths m o fit) (step front o rest e m n fit near)

-- ---- of valid code

module _ (code : CodeParts) (valid : IsValid code) where
  width_there : (ws : List ℕ) (k : ℕ) → k < length ws → slice_get ws k ≡ Some (slice_index ws k)
  width_there [] k h = absurd (omega arith)
  width_there (w ∷ ws) zero h = refl
  width_there (w ∷ ws) (suc k) h = width_there ws k (omega (arith, h))

  is_there : (o : Op) → In o code.ops → (k : ℕ) → written_by o.act ≡ Some k → k < length code.fields
  is_there o i k e =
      let test = (and_parts _ _ (and_parts _ _ (and_parts _ _ (and_parts _ _ (and_parts _ _ (and_parts _ _ (sound_each code valid o i)).0).0).0).0).0).1 in
      ltb-true k (length code.fields) (sym (ap (λ x. option_map_or (λ k. nat_lt k (length code.fields)) x true) e) ∙ test)

  sound_merged : (o : Op) → In o code.ops → op_is_sound code.fields code.inputs code.arrays (merged_op (answers_for code.fields code.ops) o) ≡ true
  sound_merged o i = ⊎_elim
      (λ p. ap (λ (b : Act). op_is_sound code.fields code.inputs code.arrays (record o { act = b })) p.same ∙ sound_each code valid o i)
      (λ q. ⊎_elim
      (λ c.
      let there = is_there c.mover c.merges.mover c.to (mover_writes code.fields code.ops o c.mover c.from c.to c.merges) in
      let here = is_there o i c.from c.merges.writes in
      let wide : slice_get code.fields c.from ≡ slice_get code.fields c.to = width_there code.fields c.from here ∙ ap Some c.merges.wide ∙ sym (width_there code.fields c.to there) in
      let a = and_parts _ _ (sound_each code valid o i) in
      let b = and_parts _ _ a.0 in
      let d = and_parts _ _ b.0 in
      let f = and_parts _ _ d.0 in
      let g = and_parts _ _ f.0 in
      let k = and_parts _ _ g.0 in
      let free = (and_parts _ _ (and_parts _ _ (and_parts _ _ (and_parts _ _ (sound_each code valid c.mover c.merges.mover)).0).0).0).1 in
      and_from _ _
      (and_from _ _
      (and_from _ _
      (and_from _ _
      (and_from _ _
      (and_from _ _
      (ap (λ l. list_all (λ k. nat_lt k (length code.fields)) (map (λ (l : Literal). l.field) o.guard ++ flat_map field_of l)) c.operands ∙ k.0)
      (ap (λ x. option_map_or (λ k. nat_lt k (length code.fields)) x true) c.written ∙ lt-ltb c.to (length code.fields) there))
      (ap (λ x. option_map_or (λ k. nat_lt k (length code.arrays)) x true) c.called ∙ g.1))
      (ap (λ x. option_map_or (λ k. nat_le (3 + code.inputs.args) k) x true) (c.written ∙ sym (mover_writes code.fields code.ops o c.mover c.from c.to c.merges)) ∙ free))
      (c.agrees code.arrays wide d.1))
      (c.limits ∙ b.1))
      a.1)
      (λ z.
      let a = and_parts _ _ (sound_each code valid o i) in
      let b = and_parts _ _ a.0 in
      let d = and_parts _ _ b.0 in
      let f = and_parts _ _ d.0 in
      let g = and_parts _ _ f.0 in
      let k = and_parts _ _ g.0 in
      let here = is_there z.writer z.merges.writer z.from z.merges.writes in
      let free = (and_parts _ _ (and_parts _ _ (and_parts _ _ (and_parts _ _ (sound_each code valid z.writer z.merges.writer)).0).0).0).1 in
      ap (λ (b : Act). op_is_sound code.fields code.inputs code.arrays (record o { act = b })) z.is ∙ and_from _ _
      (and_from _ _
      (and_from _ _
      (and_from _ _
      (and_from _ _
      (and_from _ _
      (all_from (λ k. nat_lt k (length code.fields)) (map (λ (l : Literal). l.field) o.guard ++ []) (λ j r. all_in (λ k. nat_lt k (length code.fields)) (read_by o) k.0 j
      (⊎_elim (λ h. in_left j (map (λ (l : Literal). l.field) o.guard) (flat_map field_of (operands_of o.act)) h) (λ h. absurd h) (in_either j (map (λ (l : Literal). l.field) o.guard) [] r))))
      (lt-ltb z.from (length code.fields) here))
      refl)
      (ap (λ x. option_map_or (λ k. nat_le (3 + code.inputs.args) k) x true) (sym z.merges.writes) ∙ free))
      refl)
      refl)
      a.1) q)
      (kind code.fields code.ops o i)

  pub merge_replaces : MayReplace code (merged code)
  merge_replaces =
      let t = tests_of false (merged_ops code.fields code.ops) (merged_facts code.fields code.ops false (code_facts code valid)) in
      record {
        valid = record {
          inputs = valid.inputs;
          arrays = valid.arrays;
          ops = all_from (op_is_sound code.fields code.inputs code.arrays) (merged_ops code.fields code.ops) (λ q i.
              let o = in_map (merged_op (answers_for code.fields code.ops)) q code.ops i in
              ap (op_is_sound code.fields code.inputs code.arrays) o.2 ∙ sound_merged o.0 o.1);
          fields = t.fields;
          calls = t.calls;
          slots = t.slots;
          reads = t.reads;
        };
        inputs = refl;
        widths = refl;
        arrays = refl;
        runs = λ cells now me event input.
            let m = begun cells now me event in
            let a = runs code.fields code.ops (code_facts code valid) [] code.ops refl m m (begun_fits code cells now me event valid input)
            (record { ahead = λ w v t x g i. absurd i; fields = λ k free. inl refl; cells = refl; outs = refl }) in
            ap₂ (λ (c : List (List ℕ)) (o : List (ℕ × Out)). record { cells = c; outs = map (λ x. x.1) o }) a.0 a.1;
        few = subst (λ n. n ≤ length code.ops) (sym (length-map code.ops (merged_op (answers_for code.fields code.ops)))) (omega arith);
        small = λ h. h;
      }

  pub merge_nodes : nodes_follow_writes code.ops ≡ true → nodes_follow_writes (merged code).ops ≡ true
  merge_nodes t = nodes_of (merged_ops code.fields code.ops) (merged_facts code.fields code.ops true (facts_with_nodes code.ops t (code_facts code valid)))
