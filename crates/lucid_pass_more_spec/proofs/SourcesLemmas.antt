-- Code whose guards test sources does the same, and is valid.
use Rattle.std.proofs.Common.{◌≡◌, ℕ, zero, suc, ◌+◌, ◌*◌, ◌<◌, ◌≤◌, ◌^◌, List, [], ◌∷◌, ◌++◌, Bool, true, false, not, ◌&&◌, ◌||◌, ◌⊎◌, Option, None, Some, inl, inr, if◌then◌else◌, map, length, slice_index, slice_get, nat_eq, nat_lt, refl, sym, ap, ap₂, subst, ◌∙◌, ⊎_elim, true≢false, arith, append_assoc}
use Rattle.std.specs.List.{list_any, flat_map, enumerate_from}
use Rattle.std.specs.Option.{option_and_then, option_map_or, option_eq}
use Rattle.std.proofs.Math.Nat.{mod-eq_of_lt}
use Rattle.std.proofs.lemmas.Bool.{and_parts, and_from, or_cases, eqb-true, eq-eqb, ltb-true, lt-ltb, not-true}
use Rattle.std.proofs.lemmas.List.{length-map}
use Rattle.std.proofs.lemmas.Option.{slice_get-get_or}
use Rattle.lucid_base.specs.Bool.{bit_of}
use Rattle.lucid_base.specs.Ops.{low_of}
use Rattle.lucid_base.specs.declared.array.ArrayDef.{ArrayDef}
use Rattle.lucid_base.specs.declared.ops.CmpOp.TheVariants.{Eq, Ne, Lt, Gt, Le, Ge}
use Rattle.lucid_code.specs.declared.op.Act.{Act}
use Rattle.lucid_code.specs.declared.op.Act.TheVariants as act
use Rattle.lucid_code.specs.declared.op.Literal.{Literal}
use Rattle.lucid_code.specs.declared.op.Op.{Op}
use Rattle.lucid_code.specs.declared.op.Operand.TheVariants.{Fixed, Field}
use Rattle.lucid_code.specs.Guards.{Fields, holds, all_hold, opposed, contradict}
use Rattle.lucid_code.specs.Nodes.{nodes_follow_writes}
use Rattle.lucid_code.specs.Parts.{CodeParts}
use Rattle.lucid_code.specs.Run.{Machine, begun, run_act, run_op, run, FieldsFit}
use Rattle.lucid_code.specs.Uses.{written_by, called_by, operands_of, field_of, read_by, only_writes, key_of}
use Rattle.lucid_code.specs.Valid.{IsValid, op_is_sound, literal_fits, widths_agree}
use Rattle.lucid_code.proofs.Acting.{op_fits}
use Rattle.lucid_code.proofs.Begun.{begun_fits}
use Rattle.lucid_code.proofs.Facts.{Blind, Pair, Facts, Goes, placed_goes, code_facts, sound_each, tests_of, nodes_of, facts_with_nodes}
use Rattle.lucid_code.proofs.Fresh.{Fresh, made, fresh_own, fresh_stays, blind_alike, only_written}
use Rattle.lucid_code.proofs.Members.{In, Pairwise, Split, pairs_split, in_left, in_right, in_either, all_in, all_from, any_from, any_gives, in_map, into_map, numbered, place_from, element_of}
use Rattle.lucid_pass_spec.specs.Direct.{tests, covers, says}
use Rattle.lucid_pass_spec.specs.Looks.{includes, only_writer}
use Rattle.lucid_pass_spec.specs.Replace.{MayReplace}
use Rattle.lucid_pass_spec.proofs.Directs.{iff}
use Rattle.lucid_pass_spec.proofs.Replacing.{includes_in, includes_hold, only_one}
use Rattle.lucid_pass_more_spec.specs.Sources.{has_source, of_source, source_of, source_literal, source_op, source_ops, sources}

-- ---- a literal of a bit

-- which one says that an inequality holds
truth : (b t : Bool) (v : ℕ) → v < 2 → (if not (if t then nat_eq v 1 else nat_eq v 0) then b else not b) ≡ (if t then nat_eq (bit_of (not b)) v else not (nat_eq (bit_of (not b)) v))
truth true true zero h = refl
truth true true (suc zero) h = refl
truth true false zero h = refl
truth true false (suc zero) h = refl
truth false true zero h = refl
truth false true (suc zero) h = refl
truth false false zero h = refl
truth false false (suc zero) h = refl
truth b t (suc (suc v)) h = absurd (omega (arith, h))

low_bit : (b : Bool) → low_of 1 (bit_of b) ≡ bit_of b
low_bit true = refl
low_bit false = refl

-- Two that are opposed say opposite things.
apart : (t u : Bool) (x y : ℕ) → x < 2 → y < 2 → (if t then (if u then not (nat_eq x y) else nat_eq x y) else u && nat_eq x y) ≡ true
    → (if not (if t then nat_eq x 1 else nat_eq x 0) then (if not (if u then nat_eq y 1 else nat_eq y 0) then false else true) else not (if u then nat_eq y 1 else nat_eq y 0) && true) ≡ true
apart t u zero zero a b e = by t u e
  where
    by : (t u : Bool) → (if t then (if u then false else true) else u && true) ≡ true → (if not (if t then false else true) then (if not (if u then false else true) then false else true) else not (if u then false else true) && true) ≡ true
    by true true e = absurd (true≢false (sym e))
    by true false e = refl
    by false true e = refl
    by false false e = absurd (true≢false (sym e))
apart t u zero (suc zero) a b e = by t u e
  where
    by : (t u : Bool) → (if t then (if u then true else false) else u && false) ≡ true → (if not (if t then false else true) then (if not (if u then true else false) then false else true) else not (if u then true else false) && true) ≡ true
    by true true e = refl
    by true false e = absurd (true≢false (sym e))
    by false true e = absurd (true≢false (sym e))
    by false false e = absurd (true≢false (sym e))
apart t u (suc zero) zero a b e = by t u e
  where
    by : (t u : Bool) → (if t then (if u then true else false) else u && false) ≡ true → (if not (if t then true else false) then (if not (if u then false else true) then false else true) else not (if u then false else true) && true) ≡ true
    by true true e = refl
    by true false e = absurd (true≢false (sym e))
    by false true e = absurd (true≢false (sym e))
    by false false e = absurd (true≢false (sym e))
apart t u (suc zero) (suc zero) a b e = by t u e
  where
    by : (t u : Bool) → (if t then (if u then false else true) else u && true) ≡ true → (if not (if t then true else false) then (if not (if u then true else false) then false else true) else not (if u then true else false) && true) ≡ true
    by true true e = absurd (true≢false (sym e))
    by true false e = refl
    by false true e = refl
    by false false e = absurd (true≢false (sym e))
apart t u (suc (suc x)) y a b e = absurd (omega (arith, a))
apart t u zero (suc (suc y)) a b e = absurd (omega (arith, b))
apart t u (suc zero) (suc (suc y)) a b e = absurd (omega (arith, b))

-- a literal's value fits its field
value_fits : (widths : List ℕ) (l : Literal) → literal_fits widths l ≡ true → l.value < 2 ^ slice_index widths l.field
value_fits widths l h = by (slice_get widths l.field) refl h
  where
    at : (ws : List ℕ) (k n : ℕ) → slice_get ws k ≡ Some n → slice_index ws k ≡ n
    at [] k n e = absurd (cc)
    at (w ∷ ws) zero n e = cc
    at (w ∷ ws) (suc k) n e = at ws k n e

    by : (o : Option ℕ) → slice_get widths l.field ≡ o → option_map_or (λ w. nat_lt l.value (2 ^ w)) o false ≡ true → l.value < 2 ^ slice_index widths l.field
    by None e h = absurd (true≢false (sym h))
    by (Some n) e h = subst (λ w. l.value < 2 ^ w) (sym (at widths l.field n e)) (ltb-true l.value (2 ^ n) h)

width_at : (ws : List ℕ) (k n : ℕ) → option_eq nat_eq (slice_get ws k) (Some n) ≡ true → slice_index ws k ≡ n
width_at [] k n e = absurd (true≢false (sym e))
width_at (w ∷ ws) zero n e = eqb-true w n e
width_at (w ∷ ws) (suc k) n e = width_at ws k n e

-- ---- an act that has a source

pub record Source (widths : List ℕ) (a : Act) (c : ℕ) : Type 0 where
  pub field : ℕ
  pub reads : In field (flat_map field_of (operands_of a))
  pub is : (l : Literal) → (of_source a l).field ≡ field
  pub only : only_writes a ≡ Some c
  pub called : called_by a ≡ None
  pub fits : (l : Literal) → l.value < 2 ^ slice_index widths c → (of_source a l).value < 2 ^ slice_index widths field
  pub same : (f : Fields) → FieldsFit widths f → slice_index f c ≡ low_of (slice_index widths c) (made a f) → (l : Literal) → l.field ≡ c → l.value < 2 ^ slice_index widths c → holds f (of_source a l) ≡ holds f l
  pub opposed : (l m : Literal) → l.value < 2 ^ slice_index widths c → m.value < 2 ^ slice_index widths c → opposed l m ≡ true → opposed (of_source a l) (of_source a m) ≡ true

some_one : (j k : ℕ) → Some j ≡ Some k → j ≡ k
some_one j k e = cc

holds_as : (f : Fields) (l : Literal) (v : ℕ) → slice_index f l.field ≡ v → (if l.equal then nat_eq v l.value else not (nat_eq v l.value)) ≡ holds f l
holds_as f l v e = sym (ap (λ v. if l.equal then nat_eq v l.value else not (nat_eq v l.value)) e)

moves : (widths : List ℕ) (s c : ℕ) → slice_index widths s ≡ slice_index widths c → Source widths (act.Move (Field s) c) c
moves widths s c w = record {
  field = s;
  reads = inl refl;
  is = λ l. refl;
  only = refl;
  called = refl;
  fits = λ l h. subst (λ n. l.value < 2 ^ n) (sym w) h;
  same = λ f fit e l k h.
      let low : low_of (slice_index widths c) (slice_index f s) ≡ slice_index f s = mod-eq_of_lt (subst (λ n. slice_index f s < 2 ^ n) w (fit s)) in
      holds_as f l (slice_index f s) (ap (slice_index f) k ∙ e ∙ low);
  opposed = λ l m x y e.
      let p = and_parts (nat_eq l.field m.field) (if l.equal then (if m.equal then not (nat_eq l.value m.value) else nat_eq l.value m.value) else m.equal && nat_eq l.value m.value) e in
      and_from (nat_eq s s) (if l.equal then (if m.equal then not (nat_eq l.value m.value) else nat_eq l.value m.value) else m.equal && nat_eq l.value m.value) (eq-eqb s s refl) p.1;
}

compares : (widths : List ℕ) (w s v c : ℕ) → w ≡ slice_index widths s → v < 2 ^ w → slice_index widths c ≡ 1 → Source widths (act.Cmp Ne w (Field s) (Fixed v) c) c
compares widths w s v c whole small one = record {
  field = s;
  reads = inl refl;
  is = λ l. refl;
  only = refl;
  called = refl;
  fits = λ l h. subst (λ n. v < 2 ^ n) whole small;
  same = λ f fit e l k h.
      let left : low_of w (slice_index f s) ≡ slice_index f s = mod-eq_of_lt (subst (λ n. slice_index f s < 2 ^ n) (sym whole) (fit s)) in
      let right : low_of w v ≡ v = mod-eq_of_lt small in
      let bit : slice_index f c ≡ bit_of (not (nat_eq (slice_index f s) v))
      = e ∙ ap₂ (λ (n : ℕ) (b : Bool). low_of n (bit_of (not b))) one (ap₂ nat_eq left right) ∙ low_bit (not (nat_eq (slice_index f s) v)) in
      truth (nat_eq (slice_index f s) v) l.equal l.value (subst (λ n. l.value < 2 ^ n) one h)
      ∙ holds_as f l (bit_of (not (nat_eq (slice_index f s) v))) (ap (slice_index f) k ∙ bit);
  opposed = λ l m x y e.
      let p = and_parts (nat_eq l.field m.field) (if l.equal then (if m.equal then not (nat_eq l.value m.value) else nat_eq l.value m.value) else m.equal && nat_eq l.value m.value) e in
      let flip : (b : Bool) → b ≡ true → (if not (says l) then (if not (says m) then not b else b) else not (says m) && b) ≡ true
      = λ b z. subst (λ b. (if not (says l) then (if not (says m) then not b else b) else not (says m) && b) ≡ true) (sym z) (apart l.equal m.equal l.value m.value (subst (λ n. l.value < 2 ^ n) one x) (subst (λ n. m.value < 2 ^ n) one y) p.1) in
      and_from (nat_eq s s) (if not (says l) then (if not (says m) then not (nat_eq v v) else nat_eq v v) else not (says m) && nat_eq v v) (eq-eqb s s refl) (flip (nat_eq v v) (eq-eqb v v refl));
}

pub source : (widths : List ℕ) (arrays : List ArrayDef) (a : Act) (c : ℕ) → has_source widths a ≡ true → widths_agree widths arrays a ≡ true → written_by a ≡ Some c → Source widths a c
source widths arrays (act.Move (Field s) k) c h w e = subst (Source widths (act.Move (Field s) k)) (some_one k c e) (moves widths s k (eqb-true (slice_index widths s) (slice_index widths k) h))
source widths arrays (act.Cmp Ne w (Field s) (Fixed v) k) c h n e =
    let p = and_parts (nat_eq w (slice_index widths s)) (nat_lt v (2 ^ w)) h in
    subst (Source widths (act.Cmp Ne w (Field s) (Fixed v) k)) (some_one k c e) (compares widths w s v k (eqb-true w (slice_index widths s) p.0) (ltb-true v (2 ^ w) p.1) (width_at widths k 1 n))
source widths arrays (act.Move (Fixed v) k) c h w e = absurd (true≢false (sym h))
source widths arrays (act.Cmp Ne w (Field s) (Field v) k) c h n e = absurd (true≢false (sym h))
source widths arrays (act.Cmp Ne w (Fixed s) b k) c h n e = absurd (true≢false (sym h))
source widths arrays (act.Cmp Eq w a b k) c h n e = absurd (true≢false (sym h))
source widths arrays (act.Cmp Lt w a b k) c h n e = absurd (true≢false (sym h))
source widths arrays (act.Cmp Gt w a b k) c h n e = absurd (true≢false (sym h))
source widths arrays (act.Cmp Le w a b k) c h n e = absurd (true≢false (sym h))
source widths arrays (act.Cmp Ge w a b k) c h n e = absurd (true≢false (sym h))
source widths arrays (act.Un op w a k) c h n e = absurd (true≢false (sym h))
source widths arrays (act.Bin op w a b k) c h n e = absurd (true≢false (sym h))
source widths arrays (act.Cast a k) c h n e = absurd (true≢false (sym h))
source widths arrays (act.Hash xs k) c h n e = absurd (true≢false (sym h))
source widths arrays (act.Touch array index get get_arg set set_arg to) c h n e = absurd (true≢false (sym h))
source widths arrays (act.Gen slot event args delay to) c h n e = absurd (true≢false (sym h))
source widths arrays (act.Say slot form args) c h n e = absurd (true≢false (sym h))

-- ---- the source of a field

pub record Stood (widths : List ℕ) (ops : List Op) (c : ℕ) (a : Act) : Type 0 where
  pub writer : Op
  pub there : In writer ops
  pub act : writer.act ≡ a
  pub covered : covers ops c writer.guard ≡ true
  pub source : Source widths a c

map_two : {A B : Type 0} (f : A → B) (xs ys : List A) → map f (xs ++ ys) ≡ map f xs ++ map f ys
map_two f [] ys = refl
map_two f (x ∷ xs) ys = ap (λ l. f x ∷ l) (map_two f xs ys)

module _ (widths : List ℕ) (arrays : List ArrayDef) (ops : List Op) (agree : (x : Op) → In x ops → widths_agree widths arrays x.act ≡ true) (fit : (x : Op) → In x ops → (l : Literal) → In l x.guard → literal_fits widths l ≡ true) where
  abbrev d : ℕ → Option Act
  d = source_of widths ops

  abbrev change : Literal → Literal
  change = source_literal d

  abbrev new : Op → Op
  new = source_op d

  stood : (c : ℕ) (a : Act) → d c ≡ Some a → Stood widths ops c a
  stood c a e = by (only_writer ops c) refl e
    where
      to_c : (w : Op) → only_writer ops c ≡ Some w → (b : Bool) → (covers ops c w.guard && has_source widths w.act) ≡ b → (if b then Some w.act else None) ≡ Some a → Stood widths ops c a
      to_c w o true h s =
          let one = only_one ops c w o in
          let p = and_parts (covers ops c w.guard) (has_source widths w.act) h in
          let is : w.act ≡ a = cc in
          record { writer = w; there = one.0; act = is; covered = p.0; source = subst (λ (b : Act). Source widths b c) is (source widths arrays w.act c p.1 (agree w one.0) one.1) }
      to_c w o false h s = absurd (cc)

      by : (x : Option Op) → only_writer ops c ≡ x → option_and_then (λ w. if covers ops c w.guard && has_source widths w.act then Some w.act else None) x ≡ Some a → Stood widths ops c a
      by None o s = absurd (cc)
      by (Some w) o s = to_c w o (covers ops c w.guard && has_source widths w.act) refl s

  -- a literal stays, or its field has a source
  literals : (P : Literal → Type 0) (l : Literal) → P l → ((a : Act) → Stood widths ops l.field a → P (of_source a l)) → P (change l)
  literals P l stays goes = by (d l.field) refl
    where
      by : (x : Option Act) → d l.field ≡ x → P (option_map_or (λ a. of_source a l) x l)
      by None e = stays
      by (Some a) e = goes a (stood l.field a e)

  -- ---- the reads then

  record Through (x : Op) (k : ℕ) : Type 0 where
    pub field : ℕ
    pub act : Act
    pub stands : Stood widths ops field act
    pub read : In field (read_by x)
    pub is : k ≡ stands.source.field

  reads_new : (x : Op) (k : ℕ) → In k (read_by (new x)) → In k (read_by x) ⊎ Through x k
  reads_new x k i = ⊎_elim
      (λ g.
      let l' = in_map (λ (l : Literal). l.field) k (map change x.guard) g in
      let l = in_map change l'.0 x.guard l'.1 in
      let there : In l.0.field (read_by x) = in_left l.0.field (map (λ (l : Literal). l.field) x.guard) (flat_map field_of (operands_of x.act)) (into_map (λ (l : Literal). l.field) l.0 x.guard l.1) in
      let by : (k ≡ (change l.0).field) → In k (read_by x) ⊎ Through x k
      = literals (λ m. k ≡ m.field → In k (read_by x) ⊎ Through x k) l.0 (λ e. inl (subst (λ n. In n (read_by x)) (sym e) there)) (λ a s e. inr (record { field = l.0.field; act = a; stands = s; read = there; is = e ∙ s.source.is l.0 })) in
      by (l'.2 ∙ ap (λ (m : Literal). m.field) l.2))
      (λ o. inl (in_right k (map (λ (l : Literal). l.field) x.guard) (flat_map field_of (operands_of x.act)) o))
      (in_either k (map (λ (l : Literal). l.field) (map change x.guard)) (flat_map field_of (operands_of x.act)) i)

  writer_reads : (c : ℕ) (a : Act) (s : Stood widths ops c a) → In s.source.field (read_by s.writer)
  writer_reads c a s = in_right s.source.field (map (λ (l : Literal). l.field) s.writer.guard) (flat_map field_of (operands_of s.writer.act)) (subst (λ b. In s.source.field (flat_map field_of (operands_of b))) (sym s.act) s.source.reads)

  writer_only : (c : ℕ) (a : Act) (s : Stood widths ops c a) → only_writes s.writer.act ≡ Some c
  writer_only c a s = ap only_writes s.act ∙ s.source.only

  writer_writes : (c : ℕ) (a : Act) (s : Stood widths ops c a) → written_by s.writer.act ≡ Some c
  writer_writes c a s = only_written s.writer.act c (writer_only c a s)

  small : (x : Op) → In x ops → (l : Literal) → In l x.guard → l.value < 2 ^ slice_index widths l.field
  small x i l j = value_fits widths l (fit x i l j)

  covered_in : (x : Op) → In x ops → (l : Literal) → In l x.guard → (a : Act) (s : Stood widths ops l.field a) → includes x.guard s.writer.guard ≡ true
  covered_in x i l j a s =
      let here = all_in (λ o. not (tests l.field o) || includes o.guard s.writer.guard) ops s.covered x i in
      let tested : tests l.field x ≡ true = any_from (λ (m : Literal). nat_eq m.field l.field) x.guard l j (eq-eqb l.field l.field refl) in
      ⊎_elim (λ n. absurd (true≢false (sym tested ∙ not-true (tests l.field x) n))) (λ y. y) (or_cases (not (tests l.field x)) (includes x.guard s.writer.guard) here)

  -- guards that contradict still do
  opposed_new : (x y : Op) → In x ops → In y ops → (l m : Literal) → In l x.guard → In m y.guard → opposed l m ≡ true → opposed (change l) (change m) ≡ true
  opposed_new x y ix iy l m il im e = by (d l.field) refl
    where
      one : l.field ≡ m.field
      one = eqb-true l.field m.field (and_parts (nat_eq l.field m.field) (if l.equal then (if m.equal then not (nat_eq l.value m.value) else nat_eq l.value m.value) else m.equal && nat_eq l.value m.value) e).0

      become : (o : Option Act) → d l.field ≡ o → opposed (option_map_or (λ a. of_source a l) o l) (option_map_or (λ a. of_source a m) o m) ≡ true → opposed (change l) (change m) ≡ true
      become o z h = ap₂ opposed (ap (λ o. option_map_or (λ a. of_source a l) o l) z) (ap (λ o. option_map_or (λ a. of_source a m) o m) (sym (ap d one) ∙ z)) ∙ h

      by : (o : Option Act) → d l.field ≡ o → opposed (change l) (change m) ≡ true
      by None z = become None z e
      by (Some a) z =
          let s = stood l.field a z in
          become (Some a) z (s.source.opposed l m (small x ix l il) (subst (λ (k : ℕ). m.value < 2 ^ slice_index widths k) (sym one) (small y iy m im)) e)

  contradict_new : (x y : Op) → In x ops → In y ops → contradict x.guard y.guard ≡ true → contradict (new x).guard (new y).guard ≡ true
  contradict_new x y ix iy e =
      let l = any_gives (λ l. list_any (opposed l) y.guard) x.guard e in
      let m = any_gives (opposed l.one) y.guard l.passes in
      any_from (λ l. list_any (opposed l) (new y).guard) (new x).guard (change l.one) (into_map change l.one x.guard l.there)
      (any_from (opposed (change l.one)) (new y).guard (change m.one) (into_map change m.one y.guard m.there) (opposed_new x y ix iy l.one m.one l.there m.there m.passes))

  -- ---- it may replace the code

  module _ (nodes : Bool) (facts : Facts nodes ops) where
    goes : (r w : ℕ × Op) → In r (enumerate_from 0 ops) → In w (enumerate_from 0 ops) → (k : ℕ) → In k (read_by r.1) → written_by w.1.act ≡ Some k → Goes nodes w r
    goes r w i j k h e = placed_goes nodes 0 ops facts r w i j k h e

    -- the writer of a read through a source precedes it, which precedes the reader
    through : (x y : ℕ × Op) → In x (enumerate_from 0 ops) → In y (enumerate_from 0 ops) → (k : ℕ) (t : Through x.1 k) → written_by y.1.act ≡ Some k
        → (y.0 < x.0) × (key_of y.1 ≤ key_of x.1) × (nodes ≡ true → (g : ℕ) → called_by y.1.act ≡ Some g → called_by x.1.act ≡ Some g → ⊥)
    through x y i j k t e =
        let w = numbered t.stands.writer 0 ops t.stands.there in
        let first = goes x (w.0, t.stands.writer) i w.1 t.field t.read (writer_writes t.field t.act t.stands) in
        let second = goes (w.0, t.stands.writer) y w.1 j k (subst (λ n. In n (read_by t.stands.writer)) (sym t.is) (writer_reads t.field t.act t.stands)) e in
        let pure : key_of t.stands.writer ≡ 2 * t.stands.writer.level = ap (λ c. option_map_or (λ array. 2 * array + 1) c (2 * t.stands.writer.level)) (ap called_by t.stands.act ∙ t.stands.source.called) in (
          omega (arith, first.place, second.place),
          omega (arith, first.key, second.key),
          λ n g c f. parity (key_of t.stands.writer) t.stands.writer.level g pure (subst (λ m. m ≤ key_of t.stands.writer) (key_call y.1 g c) second.key) (subst (λ m. key_of t.stands.writer ≤ m) (key_call x.1 g f) first.key),
        )
      where
        key_call : (q : Op) (g : ℕ) → called_by q.act ≡ Some g → key_of q ≡ 2 * g + 1
        key_call q g c = ap (λ (z : Option ℕ). option_map_or (λ array. 2 * array + 1) z (2 * q.level)) c

        parity : (n level g : ℕ) → n ≡ 2 * level → 2 * g + 1 ≤ n → n ≤ 2 * g + 1 → ⊥
        parity n level g a b c = absurd (omega (arith, a, b, c))

    blind_new : (x y : ℕ × Op) → In x (enumerate_from 0 ops) → In y (enumerate_from 0 ops) → x.0 ≤ y.0 → Blind x.1 y.1 → Blind (new x.1) y.1
    blind_new x y i j le b k r e = ⊎_elim (λ h. b k h e) (λ t. let p = (through x y i j k t e).0 in absurd (omega (arith, p, le))) (reads_new x.1 k r)

    pair_new : (x y : ℕ × Op) → In x (enumerate_from 0 ops) → In y (enumerate_from 0 ops) → x.0 < y.0 → Pair nodes x.1 y.1 → Pair nodes (new x.1) (new y.1)
    pair_new x y i j lt p =
        let ix = element_of 0 ops x i in
        let iy = element_of 0 ops y j in
        record {
          fields = λ k e f. contradict_new x.1 y.1 ix iy (p.fields k e f);
          calls = λ k e f. contradict_new x.1 y.1 ix iy (p.calls k e f);
          slots = λ k e f. contradict_new x.1 y.1 ix iy (p.slots k e f);
          blind = blind_new x y i j (omega (arith, lt)) p.blind;
          keys = λ k r e. ⊎_elim (λ h. p.keys k h e) (λ t. (through y x j i k t e).1) (reads_new y.1 k r);
          apart = λ n k r e. ⊎_elim (λ h. p.apart n k h e) (λ t. (through y x j i k t e).2 n) (reads_new y.1 k r);
        }

    pairs_new : (n : ℕ) (rest : List Op) → ((p : ℕ × Op) → In p (enumerate_from n rest) → In p (enumerate_from 0 ops)) → Pairwise (Pair nodes) rest → Pairwise (Pair nodes) (map new rest)
    pairs_new n [] within p = tt
    pairs_new n (x ∷ rest) within p = (
      λ y' i.
          let y = in_map new y' rest i in
          let q = numbered y.0 (n + 1) rest y.1 in
          let later = place_from (n + 1) rest (q.0, y.0) q.1 in
          subst (Pair nodes (new x)) (sym y.2) (pair_new (n, x) (q.0, y.0) (within (n, x) (inl refl)) (within (q.0, y.0) (inr q.1)) (omega (arith, later)) (p.0 y.0 y.1)),
      pairs_new (n + 1) rest (λ q i. within q (inr i)) p.1,
    )

    pub source_facts : Facts nodes (map new ops)
    source_facts = record {
      own = λ o' i.
          let o = in_map new o' ops i in
          let q = numbered o.0 0 ops o.1 in
          subst (λ z. Blind z z) (sym o.2) (blind_new (q.0, o.0) (q.0, o.0) q.1 q.1 (omega arith) (facts.own o.0 o.1));
      pairs = pairs_new 0 ops (λ p i. i) facts.pairs;
    }

  -- ---- runs

  module _ (facts : Facts false ops) where
    module _ (f : Fields) (fits : FieldsFit widths f) where
      literal_same : (x : Op) → In x ops → (l : Literal) → In l x.guard → (a : Act) (s : Stood widths ops l.field a) → Fresh widths f s.writer → all_hold f s.writer.guard ≡ true → holds f (of_source a l) ≡ holds f l
      literal_same x i l j a s fresh held =
          s.source.same f fits (fresh l.field (writer_only l.field a s) held ∙ ap (λ (b : Act). low_of (slice_index widths l.field) (made b f)) s.act) l refl (small x i l j)

      -- the guard holds exactly where it did, if so do those of the writers
      met : (x : Op) → In x ops → ((l : Literal) → In l x.guard → (a : Act) (s : Stood widths ops l.field a) → Fresh widths f s.writer × (all_hold f (new s.writer).guard ≡ all_hold f s.writer.guard))
          → all_hold f (new x).guard ≡ all_hold f x.guard
      met x i known = iff (all_hold f (map change x.guard)) (all_hold f x.guard)
          (λ h. all_from (holds f) x.guard (λ l j.
          let here : holds f (change l) ≡ true = all_in (holds f) (map change x.guard) h (change l) (into_map change l x.guard j) in
          literals (λ m. holds f m ≡ true → holds f l ≡ true) l (λ e. e) (λ a s e.
          let k = known l j a s in
          let under : all_hold f (map change s.writer.guard) ≡ true
          = all_from (holds f) (map change s.writer.guard) (λ m' q. let m = in_map change m' s.writer.guard q in ap (holds f) m.2 ∙ all_in (holds f) (map change x.guard) h (change m.0) (into_map change m.0 x.guard (includes_in x.guard s.writer.guard (covered_in x i l j a s) m.0 m.1))) in
          let held : all_hold f s.writer.guard ≡ true = sym k.1 ∙ under in
          sym (literal_same x i l j a s k.0 held) ∙ e) here))
          (λ h. all_from (holds f) (map change x.guard) (λ m q.
          let l = in_map change m x.guard q in
          ap (holds f) l.2 ∙ literals (λ m. holds f m ≡ true) l.0 (all_in (holds f) x.guard h l.0 l.1) (λ a s.
          let k = known l.0 l.1 a s in
          let held : all_hold f s.writer.guard ≡ true = includes_hold f x.guard s.writer.guard (covered_in x i l.0 l.1 a s) h in
          literal_same x i l.0 l.1 a s k.0 held ∙ all_in (holds f) x.guard h l.0 l.1)))

    record Met (m : Machine) (w : Op) : Type 0 where
      pub fresh : Fresh widths m.fields w
      pub same : all_hold m.fields (new w).guard ≡ all_hold m.fields w.guard

    runs : (front rest : List Op) → ops ≡ front ++ rest → (m : Machine) → FieldsFit widths m.fields → ((w : Op) → In w front → Met m w) → run widths (map new rest) m ≡ run widths rest m
    runs front [] e m fits known = refl
    runs front (o ∷ rest) e m fits known =
        ap (run widths (map new rest)) (ap (λ b. if b then run_act widths o.act m else m) here)
        ∙ runs (front ++ o ∷ []) rest (e ∙ sym (append_assoc front (o ∷ []) rest)) (run_op widths m o) (op_fits widths m o fits) after
      where
        parts : Split (Pair false) front (o ∷ rest)
        parts = pairs_split (Pair false) front (o ∷ rest) (subst (Pairwise (Pair false)) e facts.pairs)

        news : Split (Pair false) (map new front) (new o ∷ map new rest)
        news = pairs_split (Pair false) (map new front) (new o ∷ map new rest) (subst (Pairwise (Pair false)) (ap (map new) e ∙ map_two new front (o ∷ rest)) (source_facts false facts).pairs)

        there : In o ops
        there = subst (In o) (sym e) (in_right o front (o ∷ rest) (inl refl))

        first : (w : Op) (c : ℕ) → In w ops → written_by w.act ≡ Some c → In c (read_by o) → In w front
        first w c i v r = ⊎_elim (λ j. j) (λ j. absurd (behind j)) (in_either w front (o ∷ rest) (subst (In w) e i))
          where
            behind : In w (o ∷ rest) → ⊥
            behind (inl s) = facts.own o there c r (ap (λ (q : Op). written_by q.act) (sym s) ∙ v)
            behind (inr j) = (parts.second.0 w j).blind c r v

        here : all_hold m.fields (new o).guard ≡ all_hold m.fields o.guard
        here = met m.fields fits o there (λ l j a s.
            let k = known s.writer (first s.writer l.field s.there (writer_writes l.field a s) (in_left l.field (map (λ (l : Literal). l.field) o.guard) (flat_map field_of (operands_of o.act)) (into_map (λ (l : Literal). l.field) l o.guard j))) in
            (k.fresh, k.same))

        after : (w : Op) → In w (front ++ o ∷ []) → Met (run_op widths m o) w
        after w i = ⊎_elim
            (λ j.
            let p = parts.across w j o (inl refl) in
            let k = known w j in
            record {
              fresh = fresh_stays widths false m w o p k.fresh;
              same = (blind_alike widths m (new w) o (news.across (new w) (into_map new w front j) (new o) (inl refl)).blind).guard ∙ k.same ∙ sym (blind_alike widths m w o p.blind).guard;
            })
            (λ j. ⊎_elim
            (λ s. subst (Met (run_op widths m o)) (sym s) (record {
              fresh = fresh_own widths m o (facts.own o there);
              same = (blind_alike widths m (new o) o ((source_facts false facts).own (new o) (into_map new o ops there))).guard ∙ here ∙ sym (blind_alike widths m o o (facts.own o there)).guard;
            }))
            (λ n. absurd n) j)
            (in_either w front (o ∷ []) i)

    pub source_runs : (m : Machine) → FieldsFit widths m.fields → run widths (map new ops) m ≡ run widths ops m
    source_runs m fits = runs [] ops refl m fits (λ w i. absurd i)

-- ---- of valid code

module _ (code : CodeParts) (valid : IsValid code) where
  abbrev renewed : Op → Op
  renewed = source_op (source_of code.fields code.ops)

  literals_fit : (x : Op) → In x code.ops → (l : Literal) → In l x.guard → literal_fits code.fields l ≡ true
  literals_fit x i l j = all_in (literal_fits code.fields) x.guard (and_parts _ _ (sound_each code valid x i)).1 l j

  widths_fit : (x : Op) → In x code.ops → widths_agree code.fields code.arrays x.act ≡ true
  widths_fit x i = (and_parts _ _ (and_parts _ _ (and_parts _ _ (sound_each code valid x i)).0).0).1

  below : (q : Op) → In q code.ops → (k : ℕ) → In k (read_by q) → nat_lt k (length code.fields) ≡ true
  below q i k r = all_in (λ k. nat_lt k (length code.fields)) (read_by q) (and_parts _ _ (and_parts _ _ (and_parts _ _ (and_parts _ _ (and_parts _ _ (and_parts _ _ (sound_each code valid q i)).0).0).0).0).0).0 k r

  there : (c : ℕ) (a : Act) (s : Stood code.fields code.ops c a) → nat_lt s.source.field (length code.fields) ≡ true
  there c a s = below s.writer s.there s.source.field (writer_reads code.fields code.arrays code.ops widths_fit literals_fit c a s)

  fits_there : (x : Op) → In x code.ops → (l : Literal) → In l x.guard → (a : Act) (s : Stood code.fields code.ops l.field a) → literal_fits code.fields (of_source a l) ≡ true
  fits_there x i l j a s =
      let k = s.source.field in
      let at : k < length code.fields = ltb-true k (length code.fields) (there l.field a s) in
      ap (λ n. option_map_or (λ w. nat_lt (of_source a l).value (2 ^ w)) (slice_get code.fields n) false) (s.source.is l)
      ∙ ap (λ o. option_map_or (λ w. nat_lt (of_source a l).value (2 ^ w)) o false) (slice_get-get_or code.fields k 0 at)
      ∙ lt-ltb (of_source a l).value (2 ^ slice_index code.fields k) (s.source.fits l (value_fits code.fields l (literals_fit x i l j)))

  sound_new : (x : Op) → In x code.ops → op_is_sound code.fields code.inputs code.arrays (renewed x) ≡ true
  sound_new x i =
      let a = and_parts _ _ (sound_each code valid x i) in
      let b = and_parts _ _ a.0 in
      let c = and_parts _ _ b.0 in
      let e = and_parts _ _ c.0 in
      let g = and_parts _ _ e.0 in
      let h = and_parts _ _ g.0 in
      and_from _ _
      (and_from _ _
      (and_from _ _
      (and_from _ _
      (and_from _ _
      (and_from _ _
      (all_from (λ k. nat_lt k (length code.fields)) (read_by (renewed x)) (λ k r. ⊎_elim (λ j. below x i k j)
      (λ t. subst (λ n. nat_lt n (length code.fields) ≡ true) (sym t.is) (there t.field t.act t.stands))
      (reads_new code.fields code.arrays code.ops widths_fit literals_fit x k r)))
      h.1)
      g.1)
      e.1)
      c.1)
      b.1)
      (all_from (literal_fits code.fields) (renewed x).guard (λ m j.
      let l = in_map (source_literal (source_of code.fields code.ops)) m x.guard j in
      ap (literal_fits code.fields) l.2
      ∙ literals code.fields code.arrays code.ops widths_fit literals_fit (λ k. literal_fits code.fields k ≡ true) l.0 (literals_fit x i l.0 l.1) (λ a s. fits_there x i l.0 l.1 a s)))

  pub sources_replace : MayReplace code (sources code)
  sources_replace =
      let t = tests_of false (source_ops code.fields code.ops) (source_facts code.fields code.arrays code.ops widths_fit literals_fit false (code_facts code valid)) in
      record {
        valid = record {
          inputs = valid.inputs;
          arrays = valid.arrays;
          ops = all_from (op_is_sound code.fields code.inputs code.arrays) (source_ops code.fields code.ops) (λ q i.
              let x = in_map renewed q code.ops i in
              ap (op_is_sound code.fields code.inputs code.arrays) x.2 ∙ sound_new x.0 x.1);
          fields = t.fields;
          calls = t.calls;
          slots = t.slots;
          reads = t.reads;
        };
        inputs = refl;
        widths = refl;
        arrays = refl;
        runs = λ cells now me event input.
            let m = begun cells now me event in
            ap (λ (n : Machine). record { cells = n.cells; outs = map (λ o. o.1) n.outs })
            (source_runs code.fields code.arrays code.ops widths_fit literals_fit (code_facts code valid) m (begun_fits code cells now me event valid input));
        few = subst (λ n. n ≤ length code.ops) (sym (length-map code.ops renewed)) (omega arith);
        small = λ h. h;
      }

  pub sources_nodes : nodes_follow_writes code.ops ≡ true → nodes_follow_writes (sources code).ops ≡ true
  sources_nodes t = nodes_of (source_ops code.fields code.ops) (source_facts code.fields code.arrays code.ops widths_fit literals_fit true (facts_with_nodes code.ops t (code_facts code valid)))
