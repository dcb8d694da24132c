-- Code without operations that write unread fields.
use Rattle.std.proofs.Common.{◌≡◌, ℕ, suc, ◌≤◌, List, [], ◌∷◌, Bool, true, false, Option, None, Some, inl, inr, map, length, slice_index, nat_eq, refl, sym, ap, ap₂, subst, ◌∙◌, ⊎_elim, true≢false, arith}
use Rattle.std.specs.Option.{option_map_or}
use Rattle.std.proofs.lemmas.Bool.{or_left, or_right, eq-eqb, cases_eq}
use Rattle.lucid_base.specs.Ops.{low_of}
use Rattle.lucid_base.specs.declared.event.Out.{Out}
use Rattle.lucid_code.specs.declared.op.Act.{Act}
use Rattle.lucid_code.specs.declared.op.Act.TheVariants as act
use Rattle.lucid_code.specs.declared.op.Op.{Op}
use Rattle.lucid_code.specs.Guards.{Fields, all_hold}
use Rattle.lucid_code.specs.Nodes.{nodes_follow_writes}
use Rattle.lucid_code.specs.Parts.{CodeParts}
use Rattle.lucid_code.specs.Run.{Machine, begun, put, stored, sent, written, run_op, run}
use Rattle.lucid_code.specs.Uses.{written_by, read_by, only_writes}
use Rattle.lucid_code.specs.Valid.{IsValid, op_is_sound}
use Rattle.lucid_code.proofs.Facts.{code_facts, sound_each}
use Rattle.lucid_pass_spec.specs.Dead.{reads, is_read, is_needed, kept_if, live, alive}
use Rattle.lucid_pass_spec.specs.Replace.{MayReplace}
use Rattle.lucid_code.proofs.Acting.{effect, effect_by, apply, act_applies, put_same, put_other, op_other, acts, rests}
use Rattle.lucid_code.proofs.Facts.{Pair, Facts, tests_of, nodes_of, facts_with_nodes}
use Rattle.lucid_code.proofs.Fresh.{Alike, alike, only_written}
use Rattle.lucid_code.proofs.Members.{In, Pairwise, all_from, any_from}

-- the same cells and outs, and the same in these fields
pub record Agree (P : ℕ → Type 0) (m n : Machine) : Type 0 where
  pub fields : (k : ℕ) → P k → slice_index n.fields k ≡ slice_index m.fields k
  pub cells : n.cells ≡ m.cells
  pub outs : n.outs ≡ m.outs

pub agree_less : (P Q : ℕ → Type 0) (m n : Machine) → ((k : ℕ) → Q k → P k) → Agree P m n → Agree Q m n
agree_less P Q m n h a = record { fields = λ k q. a.fields k (h k q); cells = a.cells; outs = a.outs }

module _ (widths : List ℕ) where
  written_agrees : (to : Option ℕ) (v : ℕ) (f g : Fields) (k : ℕ) → slice_index g k ≡ slice_index f k → slice_index (written widths to v g) k ≡ slice_index (written widths to v f) k
  written_agrees None v f g k e = e
  written_agrees (Some j) v f g k e = ⊎_elim
      (λ s. subst (λ i. slice_index (put g j (low_of (slice_index widths j) v)) i ≡ slice_index (put f j (low_of (slice_index widths j) v)) i) (sym s) (put_same g j (low_of (slice_index widths j) v) ∙ sym (put_same f j (low_of (slice_index widths j) v))))
      (λ n. put_other g j k (low_of (slice_index widths j) v) n ∙ e ∙ sym (put_other f j k (low_of (slice_index widths j) v) n))
      (cases_eq k j)

  module _ (P : ℕ → Type 0) (o : Op) (m n : Machine) where
    -- one that reads only these fields leaves machines alike
    pub kept_agrees : ((k : ℕ) → In k (read_by o) → P k) → Agree P m n → Agree P (run_op widths m o) (run_op widths n o)
    kept_agrees only a = by (all_hold m.fields o.guard) refl
      where
        same : Alike m.fields n.fields o
        same = alike m.fields n.fields o (λ k i. a.fields k (only k i))

        by : (b : Bool) → all_hold m.fields o.guard ≡ b → Agree P (run_op widths m o) (run_op widths n o)
        by true h =
            let e : effect o.act n.fields n.cells ≡ effect o.act m.fields m.cells = ap (effect o.act n.fields) a.cells ∙ effect_by m.fields n.fields m.cells o.act same.operands in
            let left : run_op widths m o ≡ apply widths (written_by o.act) (effect o.act m.fields m.cells) m = acts widths m o h ∙ act_applies widths m o.act in
            let right : run_op widths n o ≡ apply widths (written_by o.act) (effect o.act m.fields m.cells) n
            = acts widths n o (same.guard ∙ h) ∙ act_applies widths n o.act ∙ ap (λ d. apply widths (written_by o.act) d n) e in
            subst (λ x. Agree P x (run_op widths n o)) (sym left) (subst (Agree P (apply widths (written_by o.act) (effect o.act m.fields m.cells) m)) (sym right) (record {
              fields = λ k p. written_agrees (written_by o.act) (effect o.act m.fields m.cells).made m.fields n.fields k (a.fields k p);
              cells = ap (λ c. (apply widths (written_by o.act) (effect o.act m.fields m.cells) (record n { cells = c })).cells) a.cells;
              outs = ap (λ c. (apply widths (written_by o.act) (effect o.act m.fields m.cells) (record n { outs = c })).outs) a.outs;
            }))
        by false h = subst (λ x. Agree P x (run_op widths n o)) (sym (rests widths m o h)) (subst (Agree P m) (sym (rests widths n o (same.guard ∙ h))) a)

    only_stores : (a : Act) (k : ℕ) → only_writes a ≡ Some k → (stored a m ≡ m.cells) × (sent a m ≡ m.outs)
    only_stores (act.Touch array index get get_arg set set_arg to) k e = absurd (cc)
    only_stores (act.Gen slot event args delay to) k e = absurd (cc)
    only_stores (act.Say slot form args) k e = absurd (cc)
    only_stores _ k e = (refl, refl)

    -- and one that writes another field, and does nothing else, may be left out
    pub gone_agrees : (k : ℕ) → only_writes o.act ≡ Some k → (P k → ⊥) → Agree P m n → Agree P (run_op widths m o) n
    gone_agrees k e never a = by (all_hold m.fields o.guard) refl
      where
        some_same : (i j : ℕ) → Some i ≡ Some j → i ≡ j
        some_same i j s = cc

        by : (b : Bool) → all_hold m.fields o.guard ≡ b → Agree P (run_op widths m o) n
        by true h = record {
          fields = λ j p. a.fields j p ∙ sym (op_other widths m o j (λ w. never (subst P (some_same j k (sym w ∙ only_written o.act k e)) p)));
          cells = a.cells ∙ sym (ap (λ (x : Machine). x.cells) (acts widths m o h) ∙ (only_stores o.act k e).0);
          outs = a.outs ∙ sym (ap (λ (x : Machine). x.outs) (acts widths m o h) ∙ (only_stores o.act k e).1);
        }
        by false h = subst (λ x. Agree P x n) (sym (rests widths m o h)) a

abbrev pub Read : List Op → ℕ → Type 0
Read ops k = is_read ops k ≡ true

pub reads_it : (o : Op) (k : ℕ) → In k (read_by o) → reads o k ≡ true
reads_it o k i = any_from (λ j. nat_eq j k) (read_by o) k i (eq-eqb k k refl)

-- From the back, with no premise.
module _ (widths : List ℕ) where
  live_by : (o : Op) (ops : List Op) (m n : Machine) → ((m n : Machine) → Agree (Read (live ops)) m n → Agree (λ k. ⊥) (run widths ops m) (run widths (live ops) n))
      → (to : Option ℕ) → only_writes o.act ≡ to → (b : Bool) → option_map_or (is_read (live ops)) to true ≡ b
      → Agree (Read (kept_if b o (live ops))) m n → Agree (λ k. ⊥) (run widths ops (run_op widths m o)) (run widths (kept_if b o (live ops)) n)
  live_by o ops m n rest to e true q a =
      rest (run_op widths m o) (run_op widths n o)
      (agree_less (Read (o ∷ live ops)) (Read (live ops)) (run_op widths m o) (run_op widths n o) (λ k r. or_right (reads o k) (is_read (live ops) k) r)
      (kept_agrees widths (Read (o ∷ live ops)) o m n (λ k i. or_left (reads o k) (is_read (live ops) k) (reads_it o k i)) a))
  live_by o ops m n rest None e false q a = absurd (true≢false q)
  live_by o ops m n rest (Some k) e false q a = rest (run_op widths m o) n (gone_agrees widths (Read (live ops)) o m n k e (λ r. true≢false (sym r ∙ q)) a)

  pub live_runs : (ops : List Op) (m n : Machine) → Agree (Read (live ops)) m n → Agree (λ k. ⊥) (run widths ops m) (run widths (live ops) n)
  live_runs [] m n a = agree_less (Read []) (λ k. ⊥) m n (λ k b. absurd b) a
  live_runs (o ∷ ops) m n a = live_by o ops m n (live_runs ops) (only_writes o.act) refl (is_needed (live ops) o) refl a

-- The kept operations are some of the old ones.
pub live_in : (ops : List Op) (q : Op) → In q (live ops) → In q ops
live_in [] q i = i
live_in (o ∷ ops) q i = by (live_in ops q) (is_needed (live ops) o) i
  where
    by : (In q (live ops) → In q ops) → (b : Bool) → In q (kept_if b o (live ops)) → In q (o ∷ ops)
    by rest true (inl e) = inl e
    by rest true (inr j) = inr (rest j)
    by rest false j = inr (rest j)

live_pairs : (R : Op → Op → Type 0) (ops : List Op) → Pairwise R ops → Pairwise R (live ops)
live_pairs R [] h = tt
live_pairs R (o ∷ ops) h = by (live_pairs R ops h.1) (is_needed (live ops) o)
  where
    by : Pairwise R (live ops) → (b : Bool) → Pairwise R (kept_if b o (live ops))
    by rest true = ((λ y i. h.0 y (live_in ops y i)), rest)
    by rest false = rest

pub live_few : (ops : List Op) → length (live ops) ≤ length ops
live_few [] = omega arith
live_few (o ∷ ops) = by (live_few ops) (is_needed (live ops) o)
  where
    by : length (live ops) ≤ length ops → (b : Bool) → length (kept_if b o (live ops)) ≤ suc (length ops)
    by rest true = omega (arith, rest)
    by rest false = omega (arith, rest)

pub live_facts : (nodes : Bool) (ops : List Op) → Facts nodes ops → Facts nodes (live ops)
live_facts nodes ops f = record { own = λ o i. f.own o (live_in ops o i); pairs = live_pairs (Pair nodes) ops f.pairs }

pub dead_replaces : (code : CodeParts) → IsValid code → MayReplace code (alive code)
dead_replaces code valid = record {
  valid =
      let t = tests_of false (live code.ops) (live_facts false code.ops (code_facts code valid)) in
      record {
        inputs = valid.inputs;
        arrays = valid.arrays;
        ops = all_from (op_is_sound code.fields code.inputs code.arrays) (live code.ops) (λ q i. sound_each code valid q (live_in code.ops q i));
        fields = t.fields;
        calls = t.calls;
        slots = t.slots;
        reads = t.reads;
      };
  inputs = refl;
  widths = refl;
  arrays = refl;
  runs = λ cells now me event input.
      let m = begun cells now me event in
      let a = live_runs code.fields code.ops m m (record { fields = λ k p. refl; cells = refl; outs = refl }) in
      ap₂ (λ (c : List (List ℕ)) (o : List (ℕ × Out)). record { cells = c; outs = map (λ x. x.1) o }) a.cells a.outs;
  few = live_few code.ops;
  small = λ h. h;
}

pub dead_nodes : (code : CodeParts) → IsValid code → nodes_follow_writes code.ops ≡ true → nodes_follow_writes (alive code).ops ≡ true
dead_nodes code valid t = nodes_of (live code.ops) (live_facts true code.ops (facts_with_nodes code.ops t (code_facts code valid)))
