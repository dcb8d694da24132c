-- Code whose tests are direct does the same, and is valid.
use Rattle.std.proofs.Common.{◌≡◌, ℕ, zero, suc, ◌<◌, ◌≤◌, ◌^◌, List, [], ◌∷◌, ◌++◌, Bool, true, false, not, ◌||◌, Option, None, Some, inl, inr, if◌then◌else◌, map, length, slice_index, slice_get, nat_eq, nat_lt, refl, sym, ap, ap₂, subst, ◌∙◌, ⊎_elim, true≢false, arith, append_assoc}
use Rattle.std.specs.List.{filter, flat_map}
use Rattle.std.specs.Option.{option_map_or, option_eq}
use Rattle.std.proofs.Math.Nat.{mod-eq_of_lt}
use Rattle.std.proofs.lemmas.Bool.{and_parts, and_from, or_cases, eqb-true, eq-eqb, ltb-true, lt-ltb, not-true}
use Rattle.std.proofs.lemmas.List.{length-map}
use Rattle.std.proofs.lemmas.Option.{slice_get-get_or}
use Rattle.lucid_base.specs.Bool.{bit_of}
use Rattle.lucid_base.specs.Ops.{low_of}
use Rattle.lucid_base.specs.declared.event.Out.{Out}
use Rattle.lucid_base.specs.declared.ops.CmpOp.TheVariants.{Eq}
use Rattle.lucid_code.specs.declared.op.Act.{Act}
use Rattle.lucid_code.specs.declared.op.Act.TheVariants as act
use Rattle.lucid_code.specs.declared.op.Literal.{Literal}
use Rattle.lucid_code.specs.declared.op.Op.{Op}
use Rattle.lucid_code.specs.declared.op.Operand.TheVariants.{Fixed, Field}
use Rattle.lucid_code.specs.Guards.{Fields, holds, all_hold}
use Rattle.lucid_code.specs.Nodes.{nodes_follow_writes}
use Rattle.lucid_code.specs.Parts.{CodeParts}
use Rattle.lucid_code.specs.Run.{Machine, begun, run_act, run_op, run, FieldsFit}
use Rattle.lucid_code.specs.Uses.{written_by, operands_of, field_of, read_by, writes, only_writes}
use Rattle.lucid_code.specs.Valid.{IsValid, op_is_sound, literal_fits, widths_agree}
use Rattle.lucid_code.proofs.Facts.{code_facts, sound_each}
use Rattle.lucid_pass_spec.specs.Dead.{reads, is_read}
use Rattle.lucid_pass_spec.specs.declared.direct.Test.{Test}
use Rattle.lucid_pass_spec.specs.Direct.{tests, direct_from, says, direct_literal, direct_op, still_needed, direct_ops, direct}
use Rattle.lucid_pass_spec.specs.Looks.{includes, only, only_writer}
use Rattle.lucid_pass_spec.specs.Replace.{MayReplace}
use Rattle.lucid_code.proofs.Acting.{op_fits}
use Rattle.lucid_code.proofs.Begun.{begun_fits}
use Rattle.lucid_pass_spec.proofs.Directs.{Stood, stood, reads_direct, writer_reads, writer_writes, literals, kept_literal, without_in, iff, direct_facts}
use Rattle.lucid_code.proofs.Facts.{Pair, Facts, is_same_some, tests_of, nodes_of, facts_with_nodes}
use Rattle.lucid_code.proofs.Fresh.{Fresh, made, fresh_own, fresh_stays, blind_alike}
use Rattle.lucid_pass_spec.proofs.Gone.{Agree, Read, reads_it, kept_agrees, gone_agrees}
use Rattle.lucid_code.proofs.Members.{In, Pairwise, Split, pairs_split, pairs_filter, in_left, in_right, in_either, in_filter, all_in, all_from, any_from, in_map, into_map}
use Rattle.lucid_pass_spec.proofs.Replacing.{includes_in, includes_hold}

pub into_filter : {A : Type 0} (f : A → Bool) (x : A) (ys : List A) → In x ys → f x ≡ true → In x (filter f ys)
into_filter f x [] h t = absurd h
into_filter f x (y ∷ ys) h t = by (λ r. into_filter f x ys r t) (f y) refl h
  where
    by : (In x ys → In x (filter f ys)) → (b : Bool) → f y ≡ b → In x (y ∷ ys) → In x (if b then y ∷ filter f ys else filter f ys)
    by rest true e (inl s) = inl s
    by rest true e (inr r) = inr (rest r)
    by rest false e (inl s) = absurd (true≢false (sym t ∙ ap f s ∙ e))
    by rest false e (inr r) = rest r

only_all : (xs : List Op) (w x : Op) → only xs ≡ Some w → In x xs → x ≡ w
only_all [] w x e i = absurd i
only_all (y ∷ []) w x e (inl s) = s ∙ (let z : y ≡ w = cc in z)
only_all (y ∷ []) w x e (inr i) = absurd i
only_all (y ∷ z ∷ xs) w x e i = absurd (cc)

-- the one writer of a field is any writer of it
only_unique : (ops : List Op) (k : ℕ) (w x : Op) → only_writer ops k ≡ Some w → In x ops → written_by x.act ≡ Some k → x ≡ w
only_unique ops k w x o i e = only_all (filter (λ o. writes o k) ops) w x o (into_filter (λ o. writes o k) x ops i (is_same_some (written_by x.act) k e))

-- a literal of a bit says whether the comparison holds
truth : (b t : Bool) (v : ℕ) → v < 2 → (if (if t then nat_eq v 1 else nat_eq v 0) then b else not b) ≡ (if t then nat_eq (bit_of b) v else not (nat_eq (bit_of b) v))
truth true true zero h = refl
truth true true (suc zero) h = refl
truth true false zero h = refl
truth true false (suc zero) h = refl
truth false true zero h = refl
truth false true (suc zero) h = refl
truth false false zero h = refl
truth false false (suc zero) h = refl
truth b t (suc (suc v)) h = absurd (omega (arith, h))

low_bit : (b : Bool) → low_of 1 (bit_of b) ≡ bit_of b
low_bit true = refl
low_bit false = refl

map_two : {A B : Type 0} (f : A → B) (xs ys : List A) → map f (xs ++ ys) ≡ map f xs ++ map f ys
map_two f [] ys = refl
map_two f (x ∷ xs) ys = ap (λ l. f x ∷ l) (map_two f xs ys)

module _ (widths : List ℕ) (ops : List Op) (facts : Facts false ops) (fit : (x : Op) → In x ops → (l : Literal) → In l x.guard → literal_fits widths l ≡ true)
    (bits : (x : Op) → In x ops → (c : ℕ) (w : ℕ) → (t : Test) → x.act ≡ act.Cmp Eq w (Field t.field) (Fixed t.value) c → slice_index widths c ≡ 1)
    (small : (x : Op) → In x ops → (l : Literal) → In l x.guard → (t : Test) → Stood widths ops l.field t → l.value < 2) where
  abbrev new : Op → Op
  new = direct_op (direct_from widths ops)

  abbrev change : Literal → Literal
  change = direct_literal (direct_from widths ops)

  guard_is : (f : Fields) (x : Op) → all_hold f (new x).guard ≡ all_hold f (map change x.guard)
  guard_is f x = iff (all_hold f (new x).guard) (all_hold f (map change x.guard))
      (λ h. all_from (holds f) (map change x.guard) (λ l i. all_in (holds f) (new x).guard h l (kept_literal (map change x.guard) l i)))
      (λ h. all_from (holds f) (new x).guard (λ l i. all_in (holds f) (map change x.guard) h l (without_in [] (map change x.guard) l i)))

  covered_in : (x : Op) → In x ops → (l : Literal) → In l x.guard → (t : Test) (s : Stood widths ops l.field t) → includes x.guard s.writer.guard ≡ true
  covered_in x i l j t s =
      let here = all_in (λ o. not (tests l.field o) || includes o.guard s.writer.guard) ops s.covered x i in
      let tested : tests l.field x ≡ true = any_from (λ (m : Literal). nat_eq m.field l.field) x.guard l j (eq-eqb l.field l.field refl) in
      ⊎_elim (λ n. absurd (true≢false (sym tested ∙ not-true (tests l.field x) n))) (λ y. y) (or_cases (not (tests l.field x)) (includes x.guard s.writer.guard) here)

  module _ (f : Fields) (fits : FieldsFit widths f) where
    bit_is : (c : ℕ) (t : Test) (s : Stood widths ops c t) → Fresh widths f s.writer → all_hold f s.writer.guard ≡ true → slice_index f c ≡ bit_of (nat_eq (slice_index f t.field) t.value)
    bit_is c t s fresh held =
        let n = s.width in
        let one : slice_index widths c ≡ 1 = bits s.writer s.there c s.width t s.compares in
        let whole : low_of n (slice_index f t.field) ≡ slice_index f t.field = mod-eq_of_lt (subst (λ w. slice_index f t.field < 2 ^ w) (sym s.whole) (fits t.field)) in
        let fixed : low_of n t.value ≡ t.value = mod-eq_of_lt s.fits in
        fresh c (ap only_writes s.compares) held
        ∙ ap₂ (λ (w : ℕ) (a : Act). low_of w (made a f)) one s.compares
        ∙ ap₂ (λ (u v : ℕ). low_of 1 (bit_of (nat_eq u v))) whole fixed
        ∙ low_bit (nat_eq (slice_index f t.field) t.value)

    literal_same : (x : Op) → In x ops → (l : Literal) → In l x.guard → (t : Test) (s : Stood widths ops l.field t) → Fresh widths f s.writer → all_hold f s.writer.guard ≡ true
        → holds f (record { field = t.field; equal = says l; value = t.value }) ≡ holds f l
    literal_same x i l j t s fresh held =
        truth (nat_eq (slice_index f t.field) t.value) l.equal l.value (small x i l j t s)
        ∙ sym (ap (λ v. if l.equal then nat_eq v l.value else not (nat_eq v l.value)) (bit_is l.field t s fresh held))

    -- the guard holds exactly where it did, if so do those of the comparisons
    met : (x : Op) → In x ops → ((l : Literal) → In l x.guard → (t : Test) (s : Stood widths ops l.field t) → Fresh widths f s.writer × (all_hold f (new s.writer).guard ≡ all_hold f s.writer.guard))
        → all_hold f (new x).guard ≡ all_hold f x.guard
    met x i known = guard_is f x ∙ iff (all_hold f (map change x.guard)) (all_hold f x.guard)
        (λ h. all_from (holds f) x.guard (λ l j.
        let here : holds f (change l) ≡ true = all_in (holds f) (map change x.guard) h (change l) (into_map change l x.guard j) in
        literals widths ops (λ m. holds f m ≡ true → holds f l ≡ true) l (λ e. e) (λ t s e.
        let k = known l j t s in
        let under : all_hold f (map change s.writer.guard) ≡ true
        = all_from (holds f) (map change s.writer.guard) (λ m' a. let m = in_map change m' s.writer.guard a in ap (holds f) m.2 ∙ all_in (holds f) (map change x.guard) h (change m.0) (into_map change m.0 x.guard (includes_in x.guard s.writer.guard (covered_in x i l j t s) m.0 m.1))) in
        let held : all_hold f s.writer.guard ≡ true = sym k.1 ∙ guard_is f s.writer ∙ under in
        sym (literal_same x i l j t s k.0 held) ∙ e) here))
        (λ h. all_from (holds f) (map change x.guard) (λ m a.
        let l = in_map change m x.guard a in
        ap (holds f) l.2 ∙ literals widths ops (λ m. holds f m ≡ true) l.0 (all_in (holds f) x.guard h l.0 l.1) (λ t s.
        let k = known l.0 l.1 t s in
        let held : all_hold f s.writer.guard ≡ true = includes_hold f x.guard s.writer.guard (covered_in x i l.0 l.1 t s) h in
        literal_same x i l.0 l.1 t s k.0 held ∙ all_in (holds f) x.guard h l.0 l.1)))

  record Met (m : Machine) (w : Op) : Type 0 where
    pub fresh : Fresh widths m.fields w
    pub same : all_hold m.fields (new w).guard ≡ all_hold m.fields w.guard

  runs : (front rest : List Op) → ops ≡ front ++ rest → (m : Machine) → FieldsFit widths m.fields → ((w : Op) → In w front → Met m w) → run widths (map new rest) m ≡ run widths rest m
  runs front [] e m fits known = refl
  runs front (o ∷ rest) e m fits known =
      ap (run widths (map new rest)) (ap (λ b. if b then run_act widths o.act m else m) here)
      ∙ runs (front ++ o ∷ []) rest (e ∙ sym (append_assoc front (o ∷ []) rest)) (run_op widths m o) (op_fits widths m o fits) after
    where
      parts : Split (Pair false) front (o ∷ rest)
      parts = pairs_split (Pair false) front (o ∷ rest) (subst (Pairwise (Pair false)) e facts.pairs)

      news : Split (Pair false) (map new front) (new o ∷ map new rest)
      news = pairs_split (Pair false) (map new front) (new o ∷ map new rest) (subst (Pairwise (Pair false)) (ap (map new) e ∙ map_two new front (o ∷ rest)) (direct_facts widths ops false facts fit bits).pairs)

      there : In o ops
      there = subst (In o) (sym e) (in_right o front (o ∷ rest) (inl refl))

      first : (w : Op) (c : ℕ) → In w ops → written_by w.act ≡ Some c → In c (read_by o) → In w front
      first w c i v r = ⊎_elim (λ j. j) (λ j. absurd (behind j)) (in_either w front (o ∷ rest) (subst (In w) e i))
        where
          behind : In w (o ∷ rest) → ⊥
          behind (inl s) = facts.own o there c r (ap (λ (q : Op). written_by q.act) (sym s) ∙ v)
          behind (inr j) = (parts.second.0 w j).blind c r v

      here : all_hold m.fields (new o).guard ≡ all_hold m.fields o.guard
      here = met m.fields fits o there (λ l j t s.
          let k = known s.writer (first s.writer l.field s.there (writer_writes widths ops l.field t s) (in_left l.field (map (λ (l : Literal). l.field) o.guard) (flat_map field_of (operands_of o.act)) (into_map (λ (l : Literal). l.field) l o.guard j))) in
          (k.fresh, k.same))

      after : (w : Op) → In w (front ++ o ∷ []) → Met (run_op widths m o) w
      after w i = ⊎_elim
          (λ j.
          let p = parts.across w j o (inl refl) in
          let k = known w j in
          record {
            fresh = fresh_stays widths false m w o p k.fresh;
            same = (blind_alike widths m (new w) o (news.across (new w) (into_map new w front j) (new o) (inl refl)).blind).guard ∙ k.same ∙ sym (blind_alike widths m w o p.blind).guard;
          })
          (λ j. ⊎_elim
          (λ s. subst (Met (run_op widths m o)) (sym s) (record {
            fresh = fresh_own widths m o (facts.own o there);
            same = (blind_alike widths m (new o) o ((direct_facts widths ops false facts fit bits).own (new o) (into_map new o ops there))).guard ∙ here ∙ sym (blind_alike widths m o o (facts.own o there)).guard;
          }))
          (λ n. absurd n) j)
          (in_either w front (o ∷ []) i)

  pub direct_runs : (m : Machine) → FieldsFit widths m.fields → run widths (map new ops) m ≡ run widths ops m
  direct_runs m fits = runs [] ops refl m fits (λ w i. absurd i)

  -- ---- the comparisons that nobody reads go

  abbrev now : List Op
  now = map new ops

  abbrev stays : Op → Bool
  stays = still_needed (direct_from widths ops) now

  record Idle (o : Op) : Type 0 where
    pub field : ℕ
    pub only : only_writes o.act ≡ Some field
    pub unread : is_read now field ≡ false

  idle : (o : Op) → In o now → stays o ≡ false → Idle o
  idle o i e = by (written_by o.act) refl e
    where
      x : (x : Op) × In x ops × (o ≡ new x)
      x = in_map new o ops i

      to_k : (k : ℕ) → written_by o.act ≡ Some k → (t : Option Test) → direct_from widths ops k ≡ t → option_map_or (λ t. is_read now k) t true ≡ false → Idle o
      to_k k w None z u = absurd (true≢false u)
      to_k k w (Some t) z u =
          let s = stood widths ops k t z in
          let same : x.0 ≡ s.writer = only_unique ops k s.writer x.0 s.only x.1 (ap (λ (q : Op). written_by q.act) (sym x.2) ∙ w) in
          record { field = k; only = ap (λ (q : Op). only_writes q.act) x.2 ∙ ap (λ (q : Op). only_writes q.act) same ∙ ap only_writes s.compares; unread = u }

      by : (y : Option ℕ) → written_by o.act ≡ y → option_map_or (λ k. option_map_or (λ t. is_read now k) (direct_from widths ops k) true) y true ≡ false → Idle o
      by None w u = absurd (true≢false u)
      by (Some k) w u = to_k k w (direct_from widths ops k) refl u

  sift_runs : (xs : List Op) → ((o : Op) → In o xs → In o now) → (m n : Machine) → Agree (Read now) m n → Agree (Read now) (run widths xs m) (run widths (filter stays xs) n)
  sift_runs [] within m n a = a
  sift_runs (o ∷ xs) within m n a = by (λ m n a. sift_runs xs (λ q i. within q (inr i)) m n a) (stays o) refl
    where
      by : ((m n : Machine) → Agree (Read now) m n → Agree (Read now) (run widths xs m) (run widths (filter stays xs) n)) → (b : Bool) → stays o ≡ b
          → Agree (Read now) (run widths xs (run_op widths m o)) (run widths (if b then o ∷ filter stays xs else filter stays xs) n)
      by rest true e = rest (run_op widths m o) (run_op widths n o) (kept_agrees widths (Read now) o m n (λ k i. any_from (λ q. reads q k) now o (within o (inl refl)) (reads_it o k i)) a)
      by rest false e =
          let z = idle o (within o (inl refl)) e in
          rest (run_op widths m o) n (gone_agrees widths (Read now) o m n z.field z.only (λ r. true≢false (sym r ∙ z.unread)) a)

  pub whole_runs : (m : Machine) → FieldsFit widths m.fields → Agree (Read now) (run widths ops m) (run widths (direct_ops widths ops) m)
  whole_runs m fits = subst (λ n. Agree (Read now) n (run widths (direct_ops widths ops) m)) (direct_runs m fits) (sift_runs now (λ o i. i) m m (record { fields = λ k p. refl; cells = refl; outs = refl }))

filter_few : {A : Type 0} (f : A → Bool) (xs : List A) → length (filter f xs) ≤ length xs
filter_few f [] = omega arith
filter_few f (x ∷ xs) = by (filter_few f xs) (f x)
  where
    by : length (filter f xs) ≤ length xs → (b : Bool) → length (if b then x ∷ filter f xs else filter f xs) ≤ suc (length xs)
    by rest true = omega (arith, rest)
    by rest false = omega (arith, rest)

-- ---- of valid code

module _ (code : CodeParts) (valid : IsValid code) where
  literals_fit : (x : Op) → In x code.ops → (l : Literal) → In l x.guard → literal_fits code.fields l ≡ true
  literals_fit x i l j = all_in (literal_fits code.fields) x.guard (and_parts _ _ (sound_each code valid x i)).1 l j

  width_at : (ws : List ℕ) (k n : ℕ) → option_eq nat_eq (slice_get ws k) (Some n) ≡ true → slice_index ws k ≡ n
  width_at [] k n e = absurd (true≢false (sym e))
  width_at (w ∷ ws) zero n e = eqb-true w n e
  width_at (w ∷ ws) (suc k) n e = width_at ws k n e

  comparisons : (x : Op) → In x code.ops → (c : ℕ) (w : ℕ) → (t : Test) → x.act ≡ act.Cmp Eq w (Field t.field) (Fixed t.value) c → slice_index code.fields c ≡ 1
  comparisons x i c w t e = width_at code.fields c 1 (sym (ap (widths_agree code.fields code.arrays) e) ∙ (and_parts _ _ (and_parts _ _ (and_parts _ _ (sound_each code valid x i)).0).0).1)

  small_literal : (x : Op) → In x code.ops → (l : Literal) → In l x.guard → (t : Test) → Stood code.fields code.ops l.field t → l.value < 2
  small_literal x i l j t s = by (slice_get code.fields l.field) refl (literals_fit x i l j)
    where
      at : (ws : List ℕ) (k n : ℕ) → slice_get ws k ≡ Some n → slice_index ws k ≡ n
      at [] k n e = absurd (cc)
      at (w ∷ ws) zero n e = cc
      at (w ∷ ws) (suc k) n e = at ws k n e

      by : (o : Option ℕ) → slice_get code.fields l.field ≡ o → option_map_or (λ w. nat_lt l.value (2 ^ w)) o false ≡ true → l.value < 2
      by None e h = absurd (true≢false (sym h))
      by (Some n) e h = subst (λ w. l.value < 2 ^ w) (sym (at code.fields l.field n e) ∙ comparisons s.writer s.there l.field s.width t s.compares) (ltb-true l.value (2 ^ n) h)

  now_facts : (nodes : Bool) → Facts nodes code.ops → Facts nodes (direct_ops code.fields code.ops)
  now_facts nodes f =
      let all = direct_facts code.fields code.ops nodes f literals_fit comparisons in
      let d = direct_from code.fields code.ops in
      let now = map (direct_op d) code.ops in
      record { own = λ o i. all.own o (in_filter (still_needed d now) o now i).0; pairs = pairs_filter (Pair nodes) (still_needed d now) now all.pairs }

  below : (q : Op) → In q code.ops → (k : ℕ) → In k (read_by q) → nat_lt k (length code.fields) ≡ true
  below q i k r = all_in (λ k. nat_lt k (length code.fields)) (read_by q) (and_parts _ _ (and_parts _ _ (and_parts _ _ (and_parts _ _ (and_parts _ _ (and_parts _ _ (sound_each code valid q i)).0).0).0).0).0).0 k r

  fits_there : (t : Test) (c : ℕ) (s : Stood code.fields code.ops c t) (e : Bool) → literal_fits code.fields (record { field = t.field; equal = e; value = t.value }) ≡ true
  fits_there t c s e =
      let there : t.field < length code.fields = ltb-true t.field (length code.fields) (below s.writer s.there t.field (writer_reads code.fields code.ops c t s)) in
      ap (λ o. option_map_or (λ w. nat_lt t.value (2 ^ w)) o false) (slice_get-get_or code.fields t.field 0 there)
      ∙ lt-ltb t.value (2 ^ slice_index code.fields t.field) (subst (λ w. t.value < 2 ^ w) s.whole s.fits)

  sound_direct : (x : Op) → In x code.ops → op_is_sound code.fields code.inputs code.arrays (direct_op (direct_from code.fields code.ops) x) ≡ true
  sound_direct x i =
      let d = direct_from code.fields code.ops in
      let a = and_parts _ _ (sound_each code valid x i) in
      let b = and_parts _ _ a.0 in
      let c = and_parts _ _ b.0 in
      let e = and_parts _ _ c.0 in
      let g = and_parts _ _ e.0 in
      let h = and_parts _ _ g.0 in
      and_from _ _
      (and_from _ _
      (and_from _ _
      (and_from _ _
      (and_from _ _
      (and_from _ _
      (all_from (λ k. nat_lt k (length code.fields)) (read_by (direct_op d x)) (λ k r. ⊎_elim (λ j. below x i k j)
      (λ t. subst (λ n. nat_lt n (length code.fields) ≡ true) (sym t.is) (below t.stands.writer t.stands.there t.test.field (writer_reads code.fields code.ops t.field t.test t.stands)))
      (reads_direct code.fields code.ops x k r)))
      h.1)
      g.1)
      e.1)
      c.1)
      b.1)
      (all_from (literal_fits code.fields) (direct_op d x).guard (λ m j.
      let l = in_map (direct_literal d) m x.guard (without_in [] (map (direct_literal d) x.guard) m j) in
      ap (literal_fits code.fields) l.2
      ∙ literals code.fields code.ops (λ k. literal_fits code.fields k ≡ true) l.0 (literals_fit x i l.0 l.1) (λ t s. fits_there t l.0.field s (says l.0))))

  pub direct_replaces : MayReplace code (direct code)
  direct_replaces =
      let d = direct_from code.fields code.ops in
      let now = map (direct_op d) code.ops in
      let t = tests_of false (direct_ops code.fields code.ops) (now_facts false (code_facts code valid)) in
      record {
        valid = record {
          inputs = valid.inputs;
          arrays = valid.arrays;
          ops = all_from (op_is_sound code.fields code.inputs code.arrays) (direct_ops code.fields code.ops) (λ q i.
              let x = in_map (direct_op d) q code.ops (in_filter (still_needed d now) q now i).0 in
              ap (op_is_sound code.fields code.inputs code.arrays) x.2 ∙ sound_direct x.0 x.1);
          fields = t.fields;
          calls = t.calls;
          slots = t.slots;
          reads = t.reads;
        };
        inputs = refl;
        widths = refl;
        arrays = refl;
        runs = λ cells now me event input.
            let m = begun cells now me event in
            let a = whole_runs code.fields code.ops (code_facts code valid) literals_fit comparisons small_literal m (begun_fits code cells now me event valid input) in
            ap₂ (λ (c : List (List ℕ)) (o : List (ℕ × Out)). record { cells = c; outs = map (λ x. x.1) o }) a.cells a.outs;
        few = let f = filter_few (still_needed d now) now in let n = length-map code.ops (direct_op d) in subst (λ k. length (direct_ops code.fields code.ops) ≤ k) n f;
        small = λ h. h;
      }

  pub direct_nodes : nodes_follow_writes code.ops ≡ true → nodes_follow_writes (direct code).ops ≡ true
  direct_nodes t = nodes_of (direct_ops code.fields code.ops) (now_facts true (facts_with_nodes code.ops t (code_facts code valid)))
