-- Code whose operations act under fewer literals does the same, and is valid.
use Rattle.std.proofs.Common.{◌≡◌, ◌≢◌, ℕ, ◌≤◌, List, [], ◌∷◌, ◌++◌, Bool, true, false, not, ◌&&◌, ◌||◌, ◌⊎◌, Option, None, Some, inl, inr, if◌then◌else◌, map, length, slice_index, nat_eq, nat_lt, refl, sym, ap, ap₂, subst, ◌∙◌, ⊎_elim, true≢false, arith, append_assoc}
use Rattle.std.specs.List.{flat_map, list_any}
use Rattle.std.specs.Option.{option_map_or, option_to_list}
use Rattle.std.proofs.lemmas.Bool.{and_parts, and_from, or_cases, eq-eqb, not-true, cases_eq}
use Rattle.std.proofs.lemmas.List.{length-map}
use Rattle.lucid_base.specs.Ops.{low_of}
use Rattle.lucid_base.specs.declared.event.Out.{Out}
use Rattle.lucid_code.specs.declared.op.Act.{Act}
use Rattle.lucid_code.specs.declared.op.Act.TheVariants as act
use Rattle.lucid_code.specs.declared.op.Literal.{Literal}
use Rattle.lucid_code.specs.declared.op.Op.{Op}
use Rattle.lucid_code.specs.Guards.{Fields, holds, all_hold, opposed, contradict}
use Rattle.lucid_code.specs.Nodes.{nodes_follow_writes}
use Rattle.lucid_code.specs.Parts.{CodeParts}
use Rattle.lucid_code.specs.Run.{Machine, begun, written, run_act, run_op, run}
use Rattle.lucid_code.specs.Uses.{written_by, called_by, slot_of, operands_of, field_of, read_by, key_of, only_writes}
use Rattle.lucid_code.specs.Valid.{IsValid, op_is_sound, literal_fits}
use Rattle.lucid_code.proofs.Acting.{apply, act_applies, effect, effect_by, put_same, op_other, acts, rests, holds_by}
use Rattle.lucid_code.proofs.Facts.{Blind, Pair, Facts, code_facts, sound_each, tests_of, nodes_of, facts_with_nodes}
use Rattle.lucid_code.proofs.Fresh.{Alike, alike, only_written}
use Rattle.lucid_code.proofs.Members.{In, Pairwise, Passes, pairs_split, in_left, in_right, in_either, in_filter, all_in, all_from, any_from, any_gives, in_map, into_map}
use Rattle.lucid_pass_spec.specs.Looks.{same_literal}
use Rattle.lucid_pass_spec.specs.Replace.{MayReplace}
use Rattle.lucid_pass_spec.proofs.DirectRuns.{into_filter}
use Rattle.lucid_pass_spec.proofs.Gone.{gone_agrees}
use Rattle.lucid_pass_spec.proofs.Replacing.{one_literal}
use Rattle.lucid_pass_more_spec.specs.Lift.{used_by, uses, usable, requires_it, is_shared, drops, lifted_guard, lift_op, lift_ops, lift}

-- ---- literals that are shared

-- The guard of an operation has the literal, and may hold.
record Required (l : Literal) (o : Op) : Type 0 where
  pub there : In l o.guard
  pub apart : contradict o.guard o.guard ≡ false

usable_in : (guard : List Literal) (l : Literal) → In l (usable guard) → In l guard × (contradict guard guard ≡ false)
usable_in guard l i = by (contradict guard guard) refl i
  where
    by : (b : Bool) → contradict guard guard ≡ b → In l (if b then [] else guard) → In l guard × (contradict guard guard ≡ false)
    by true e i = absurd i
    by false e i = (i, e)

required : (l : Literal) (o : Op) → requires_it l o ≡ true → Required l o
required l o e =
    let f = any_gives (same_literal l) (usable o.guard) e in
    let u = usable_in o.guard f.one f.there in
    record { there = subst (λ (k : Literal). In k o.guard) (sym (one_literal l f.one f.passes)) u.0; apart = u.1 }

use_of : (o : Op) (k : ℕ) → In k (used_by o) → uses o k ≡ true
use_of o k i = any_from (λ j. nat_eq j k) (used_by o) k i (eq-eqb k k refl)

uses_read : (o : Op) (k : ℕ) → In k (read_by o) → uses o k ≡ true
uses_read o k i = use_of o k (in_left k (read_by o) (option_to_list (written_by o.act)) i)

uses_written : (o : Op) (k : ℕ) → written_by o.act ≡ Some k → uses o k ≡ true
uses_written o k e = use_of o k (in_right k (read_by o) (option_to_list (written_by o.act)) (subst (λ (x : Option ℕ). In k (option_to_list x)) (sym e) (inl refl)))

shared_by : (ops : List Op) (k : ℕ) (l : Literal) → drops ops k l ≡ true → (o : Op) → In o ops → uses o k ≡ true → Required l o
shared_by ops k l e o i u =
    let all = (and_parts (not (nat_eq l.field 0)) (is_shared ops k l) e).1 in
    ⊎_elim (λ n. absurd (true≢false (sym u ∙ not-true (uses o k) n))) (required l o) (or_cases (not (uses o k)) (requires_it l o) (all_in (λ o. not (uses o k) || requires_it l o) ops all o i))

contradict_from : (g h : List Literal) (l m : Literal) → In l g → In m h → opposed l m ≡ true → contradict g h ≡ true
contradict_from g h l m i j e = any_from (λ l. list_any (opposed l) h) g l i (any_from (opposed l) h m j e)

-- ---- acts that only write

called_none : (a : Act) (k : ℕ) → only_writes a ≡ Some k → called_by a ≡ None
called_none (act.Touch array index get get_arg set set_arg to) k e = absurd (cc)
called_none _ k e = refl

slot_none : (a : Act) (k : ℕ) → only_writes a ≡ Some k → slot_of a ≡ None
slot_none (act.Gen slot event args delay to) k e = absurd (cc)
slot_none (act.Say slot form args) k e = absurd (cc)
slot_none _ k e = refl

some_none : {A : Type 0} (k : A) (x : Option A) → x ≡ Some k → x ≡ None → ⊥
some_none k x e f = absurd (cc)

some_same : (j k : ℕ) → Some j ≡ Some k → j ≡ k
some_same j k e = cc

-- ---- an operation

module _ (ops : List Op) where
  abbrev new : Op → Op
  new = lift_op ops

  lifts : (P : Op → Type 0) (o : Op) → P o → ((k : ℕ) → only_writes o.act ≡ Some k → P (record o { guard = lifted_guard ops k o.guard })) → P (new o)
  lifts P o stays goes = by (only_writes o.act) refl
    where
      by : (x : Option ℕ) → only_writes o.act ≡ x → P (option_map_or (λ k. record o { guard = lifted_guard ops k o.guard }) x o)
      by None e = stays
      by (Some k) e = goes k e

  act_same : (o : Op) → (new o).act ≡ o.act
  act_same o = lifts (λ p. p.act ≡ o.act) o refl (λ k e. refl)

  key_same : (o : Op) → key_of (new o) ≡ key_of o
  key_same o = lifts (λ p. key_of p ≡ key_of o) o refl (λ k e. refl)

  guard_in : (o : Op) (l : Literal) → In l (new o).guard → In l o.guard
  guard_in o l = lifts (λ p. In l p.guard → In l o.guard) o (λ i. i) (λ k e i. (in_filter (λ l. not (drops ops k l)) l o.guard i).0)

  record Dropped (o : Op) (l : Literal) : Type 0 where
    pub field : ℕ
    pub only : only_writes o.act ≡ Some field
    pub drops : drops ops field l ≡ true

  stays_or_goes : (o : Op) (l : Literal) → In l o.guard → In l (new o).guard ⊎ Dropped o l
  stays_or_goes o l i = lifts (λ p. In l p.guard ⊎ Dropped o l) o (inl i) (λ k e. by k e (drops ops k l) refl)
    where
      by : (k : ℕ) → only_writes o.act ≡ Some k → (b : Bool) → drops ops k l ≡ b → In l (lifted_guard ops k o.guard) ⊎ Dropped o l
      by k e true d = inr (record { field = k; only = e; drops = d })
      by k e false d = inl (into_filter (λ l. not (drops ops k l)) l o.guard i (ap not d))

  holds_then : (f : Fields) (o : Op) → all_hold f o.guard ≡ true → all_hold f (new o).guard ≡ true
  holds_then f o h = all_from (holds f) (new o).guard (λ l i. all_in (holds f) o.guard h l (guard_in o l i))

  reads_in : (o : Op) (k : ℕ) → In k (read_by (new o)) → In k (read_by o)
  reads_in o k i = ⊎_elim
      (λ g. let l = in_map (λ (l : Literal). l.field) k (new o).guard g in
      in_left k (map (λ (l : Literal). l.field) o.guard) (flat_map field_of (operands_of o.act)) (subst (λ (n : ℕ). In n (map (λ (l : Literal). l.field) o.guard)) (sym l.2) (into_map (λ (l : Literal). l.field) l.0 o.guard (guard_in o l.0 l.1))))
      (λ r. in_right k (map (λ (l : Literal). l.field) o.guard) (flat_map field_of (operands_of o.act)) (subst (λ a. In k (flat_map field_of (operands_of a))) (act_same o) r))
      (in_either k (map (λ (l : Literal). l.field) (new o).guard) (flat_map field_of (operands_of (new o).act)) i)

  -- ---- two operations

  -- guards of two writers of a field still contradict
  contradict_still : (x y : Op) → In x ops → In y ops → (k : ℕ) → written_by x.act ≡ Some k → written_by y.act ≡ Some k → contradict x.guard y.guard ≡ true → contradict (new x).guard (new y).guard ≡ true
  contradict_still x y ix iy k wx wy e = contradict_from (new x).guard (new y).guard l.one m.one first second m.passes
    where
      l : Passes (λ l. list_any (opposed l) y.guard) x.guard
      l = any_gives (λ l. list_any (opposed l) y.guard) x.guard e

      m : Passes (opposed l.one) y.guard
      m = any_gives (opposed l.one) y.guard l.passes

      first : In l.one (new x).guard
      first = ⊎_elim (λ i. i)
          (λ d.
          let same : k ≡ d.field = some_same k d.field (sym wx ∙ only_written x.act d.field d.only) in
          let r = shared_by ops d.field l.one d.drops y iy (subst (λ (n : ℕ). uses y n ≡ true) same (uses_written y k wy)) in
          absurd (true≢false (sym (contradict_from y.guard y.guard l.one m.one r.there m.there m.passes) ∙ r.apart)))
          (stays_or_goes x l.one l.there)

      second : In m.one (new y).guard
      second = ⊎_elim (λ i. i)
          (λ d.
          let same : k ≡ d.field = some_same k d.field (sym wy ∙ only_written y.act d.field d.only) in
          let r = shared_by ops d.field m.one d.drops x ix (subst (λ (n : ℕ). uses x n ≡ true) same (uses_written x k wx)) in
          absurd (true≢false (sym (contradict_from x.guard x.guard l.one m.one l.there r.there m.passes) ∙ r.apart)))
          (stays_or_goes y m.one m.there)

  -- one that calls or sends is as it was
  call_same : (o : Op) (g : ℕ) → called_by o.act ≡ Some g → (new o).guard ≡ o.guard
  call_same o g c = lifts (λ p. p.guard ≡ o.guard) o refl (λ k e. absurd (some_none g (called_by o.act) c (called_none o.act k e)))

  slot_same : (o : Op) (s : ℕ) → slot_of o.act ≡ Some s → (new o).guard ≡ o.guard
  slot_same o s c = lifts (λ p. p.guard ≡ o.guard) o refl (λ k e. absurd (some_none s (slot_of o.act) c (slot_none o.act k e)))

  was : (place : Act → Option ℕ) (o : Op) (k : ℕ) → place (new o).act ≡ Some k → place o.act ≡ Some k
  was place o k e = ap place (sym (act_same o)) ∙ e

  blind_still : (x y : Op) → Blind x y → Blind (new x) (new y)
  blind_still x y b k r e = b k (reads_in x k r) (was written_by y k e)

  pair_still : (nodes : Bool) (x y : Op) → In x ops → In y ops → Pair nodes x y → Pair nodes (new x) (new y)
  pair_still nodes x y ix iy p = record {
    fields = λ k e f. contradict_still x y ix iy k (was written_by x k e) (was written_by y k f) (p.fields k (was written_by x k e) (was written_by y k f));
    calls = λ k e f. ap₂ contradict (call_same x k (was called_by x k e)) (call_same y k (was called_by y k f)) ∙ p.calls k (was called_by x k e) (was called_by y k f);
    slots = λ k e f. ap₂ contradict (slot_same x k (was slot_of x k e)) (slot_same y k (was slot_of y k f)) ∙ p.slots k (was slot_of x k e) (was slot_of y k f);
    blind = blind_still x y p.blind;
    keys = λ k r e. subst (λ n. key_of (new x) ≤ n) (sym (key_same y)) (subst (λ n. n ≤ key_of y) (sym (key_same x)) (p.keys k (reads_in y k r) (was written_by x k e)));
    apart = λ t k r e g c d. p.apart t k (reads_in y k r) (was written_by x k e) g (was called_by x g c) (was called_by y g d);
  }

  pairs_still : (nodes : Bool) (rest : List Op) → ((o : Op) → In o rest → In o ops) → Pairwise (Pair nodes) rest → Pairwise (Pair nodes) (map new rest)
  pairs_still nodes [] within p = tt
  pairs_still nodes (x ∷ rest) within p = (
    λ z i. let y = in_map new z rest i in subst (Pair nodes (new x)) (sym y.2) (pair_still nodes x y.0 (within x (inl refl)) (within y.0 (inr y.1)) (p.0 y.0 y.1)),
    pairs_still nodes rest (λ o i. within o (inr i)) p.1,
  )

  pub lift_facts : (nodes : Bool) → Facts nodes ops → Facts nodes (lift_ops ops)
  lift_facts nodes f = record {
    own = λ z i. let o = in_map new z ops i in subst (λ q. Blind q q) (sym o.2) (blind_still o.0 o.0 (f.own o.0 o.1));
    pairs = pairs_still nodes ops (λ o i. i) f.pairs;
  }

  -- ---- runs

  -- A literal that all users of field k require is false in both runs, and an operation that acted already requires it.
  record Stale (front : List Op) (f g : Fields) (k : ℕ) : Type 0 where
    pub literal : Literal
    pub dropped : drops ops k literal ≡ true
    pub old : holds f literal ≡ false
    pub new : holds g literal ≡ false
    pub writer : Op
    pub there : In writer front
    pub needs : In literal writer.guard

  -- A field is the same in both runs, or nobody that uses it acts.
  abbrev Known : List Op → Fields → Fields → ℕ → Type 0
  Known front f g k = (slice_index g k ≡ slice_index f k) ⊎ Stale front f g k

  record Near (front : List Op) (m n : Machine) : Type 0 where
    pub fields : (k : ℕ) → Known front m.fields n.fields k
    pub cells : n.cells ≡ m.cells
    pub outs : n.outs ≡ m.outs

  record Read (front : List Op) (f g : Fields) (ks : List ℕ) : Type 0 where
    pub field : ℕ
    pub there : In field ks
    pub stale : Stale front f g field

  all_known : (front : List Op) (f g : Fields) → ((k : ℕ) → Known front f g k) → (ks : List ℕ) → ((k : ℕ) → In k ks → slice_index g k ≡ slice_index f k) ⊎ Read front f g ks
  all_known front f g known [] = inl (λ k i. absurd i)
  all_known front f g known (j ∷ ks) = ⊎_elim
      (λ e. ⊎_elim
      (λ es. inl (λ k i. ⊎_elim (λ s. subst (λ (n : ℕ). slice_index g n ≡ slice_index f n) (sym s) e) (es k) i))
      (λ r. inr (record { field = r.field; there = inr r.there; stale = r.stale }))
      (all_known front f g known ks))
      (λ s. inr (record { field = j; there = inl refl; stale = s }))
      (known j)

  some_fails : (f : Fields) (guard : List Literal) → all_hold f guard ≡ false → (l : Literal) × In l guard × (holds f l ≡ false)
  some_fails f [] h = absurd (true≢false h)
  some_fails f (l ∷ guard) h = by (some_fails f guard) (holds f l) refl h
    where
      by : (all_hold f guard ≡ false → (k : Literal) × In k guard × (holds f k ≡ false)) → (b : Bool) → holds f l ≡ b → (b && all_hold f guard) ≡ false
          → (k : Literal) × In k (l ∷ guard) × (holds f k ≡ false)
      by rest true e h = let r = rest h in (r.0, inr r.1, r.2)
      by rest false e h = (l, inl refl, e)

  fails_by : (f : Fields) (guard : List Literal) (l : Literal) → In l guard → holds f l ≡ false → all_hold f guard ≡ false
  fails_by f guard l i h = by (all_hold f guard) refl
    where
      by : (b : Bool) → all_hold f guard ≡ b → b ≡ false
      by true e = absurd (true≢false (sym (all_in (holds f) guard e l i) ∙ h))
      by false e = refl

  module _ (widths : List ℕ) (front : List Op) (o : Op) (there : In o ops) (before : (w : Op) → In w front → Blind w o) (own : Blind o o) (m n : Machine) (near : Near front m n) where
    abbrev more : List Op
    more = front ++ o ∷ []

    abbrev m' : Machine
    m' = run_op widths m o

    abbrev n' : Machine
    n' = run_op widths n (new o)

    old_field : (j : ℕ) → written_by o.act ≢ Some j → slice_index m'.fields j ≡ slice_index m.fields j
    old_field j d = op_other widths m o j d

    new_field : (j : ℕ) → written_by o.act ≢ Some j → slice_index n'.fields j ≡ slice_index n.fields j
    new_field j d = op_other widths n (new o) j (λ e. d (was written_by o j e))

    -- a literal of one that acted already stays false
    literal_stays : (w : Op) → In w front → (l : Literal) → In l w.guard → written_by o.act ≢ Some l.field
    literal_stays w i l j = before w i l.field (in_left l.field (map (λ (l : Literal). l.field) w.guard) (flat_map field_of (operands_of w.act)) (into_map (λ (l : Literal). l.field) l w.guard j))

    own_literal : (l : Literal) → In l o.guard → written_by o.act ≢ Some l.field
    own_literal l j = own l.field (in_left l.field (map (λ (l : Literal). l.field) o.guard) (flat_map field_of (operands_of o.act)) (into_map (λ (l : Literal). l.field) l o.guard j))

    stale_more : (k : ℕ) → Stale front m.fields n.fields k → Stale more m'.fields n'.fields k
    stale_more k s =
        let d = literal_stays s.writer s.there s.literal s.needs in
        record {
          literal = s.literal;
          dropped = s.dropped;
          old = holds_by m.fields m'.fields s.literal (old_field s.literal.field d) ∙ s.old;
          new = holds_by n.fields n'.fields s.literal (new_field s.literal.field d) ∙ s.new;
          writer = s.writer;
          there = in_left s.writer front (o ∷ []) s.there;
          needs = s.needs;
        }

    -- a field that neither run writes here
    other : (k : ℕ) → slice_index m'.fields k ≡ slice_index m.fields k → slice_index n'.fields k ≡ slice_index n.fields k → Known more m'.fields n'.fields k
    other k e f = ⊎_elim (λ s. inl (f ∙ s ∙ sym e)) (λ s. inr (stale_more k s)) (near.fields k)

    neither : m' ≡ m → n' ≡ n → Near more m' n'
    neither e f = record {
      fields = λ k. other k (ap (λ (x : Machine). slice_index x.fields k) e) (ap (λ (x : Machine). slice_index x.fields k) f);
      cells = ap (λ (x : Machine). x.cells) f ∙ near.cells ∙ sym (ap (λ (x : Machine). x.cells) e);
      outs = ap (λ (x : Machine). x.outs) f ∙ near.outs ∙ sym (ap (λ (x : Machine). x.outs) e);
    }

    -- where a literal of it is false in both runs, the old run rests, and what the new one may write is stale
    missed : (l : Literal) → In l o.guard → holds m.fields l ≡ false → holds n.fields l ≡ false → Near more m' n'
    missed l i f g = by (all_hold n.fields (new o).guard) refl
      where
        old : m' ≡ m
        old = rests widths m o (fails_by m.fields o.guard l i f)

        strays : all_hold n.fields (new o).guard ≡ true → Dropped o l → Near more m' n'
        strays h d =
            let a = gone_agrees widths (λ k. ⊥) (new o) n n d.field (ap only_writes (act_same o) ∙ d.only) (λ b. b) (record { fields = λ k p. refl; cells = refl; outs = refl }) in
            record {
              fields = λ k. ⊎_elim
                  (λ s. inr (record {
                    literal = l;
                    dropped = subst (λ (j : ℕ). drops ops j l ≡ true) (sym s) d.drops;
                    old = holds_by m.fields m'.fields l (old_field l.field (own_literal l i)) ∙ f;
                    new = holds_by n.fields n'.fields l (new_field l.field (own_literal l i)) ∙ g;
                    writer = o;
                    there = in_right o front (o ∷ []) (inl refl);
                    needs = i;
                  }))
                  (λ d'. let unwritten : written_by o.act ≢ Some k = λ e. d' (some_same k d.field (sym e ∙ only_written o.act d.field d.only)) in other k (old_field k unwritten) (new_field k unwritten))
                  (cases_eq k d.field);
              cells = sym a.cells ∙ near.cells ∙ sym (ap (λ (x : Machine). x.cells) old);
              outs = sym a.outs ∙ near.outs ∙ sym (ap (λ (x : Machine). x.outs) old);
            }

        by : (b : Bool) → all_hold n.fields (new o).guard ≡ b → Near more m' n'
        by true h = ⊎_elim (λ j. absurd (true≢false (sym (all_in (holds n.fields) (new o).guard h l j) ∙ g))) (strays h) (stays_or_goes o l i)
        by false h = neither old (rests widths n (new o) h)

    -- both act alike
    together : Alike m.fields n.fields o → all_hold m.fields o.guard ≡ true → Near more m' n'
    together same h =
        let e = effect o.act m.fields m.cells in
        let eq : effect o.act n.fields n.cells ≡ e = ap (effect o.act n.fields) near.cells ∙ effect_by m.fields n.fields m.cells o.act same.operands in
        let left : m' ≡ apply widths (written_by o.act) e m = acts widths m o h ∙ act_applies widths m o.act in
        let right : n' ≡ apply widths (written_by o.act) e n
        = acts widths n (new o) (holds_then n.fields o (same.guard ∙ h)) ∙ ap (λ a. run_act widths a n) (act_same o) ∙ act_applies widths n o.act ∙ ap (λ d. apply widths (written_by o.act) d n) eq in
        record {
          fields = λ k. by k left right (written_by o.act) refl;
          cells = ap (λ (x : Machine). x.cells) right ∙ ap (λ c. (apply widths (written_by o.act) e (record n { cells = c })).cells) near.cells ∙ sym (ap (λ (x : Machine). x.cells) left);
          outs = ap (λ (x : Machine). x.outs) right ∙ ap (λ c. (apply widths (written_by o.act) e (record n { outs = c })).outs) near.outs ∙ sym (ap (λ (x : Machine). x.outs) left);
        }
      where
        by : (k : ℕ) → m' ≡ apply widths (written_by o.act) (effect o.act m.fields m.cells) m → n' ≡ apply widths (written_by o.act) (effect o.act m.fields m.cells) n → (to : Option ℕ) → written_by o.act ≡ to → Known more m'.fields n'.fields k
        by k left right None w = other k (old_field k (λ e. some_none k (written_by o.act) e w)) (new_field k (λ e. some_none k (written_by o.act) e w))
        by k left right (Some j) w = ⊎_elim
            (λ s.
            let v = low_of (slice_index widths j) (effect o.act m.fields m.cells).made in
            let at : (x : Machine) → slice_index (apply widths (written_by o.act) (effect o.act m.fields m.cells) x).fields k ≡ v
            = λ x. ap₂ (λ (to : Option ℕ) (i : ℕ). slice_index (written widths to (effect o.act m.fields m.cells).made x.fields) i) w s ∙ put_same x.fields j v in
            inl (ap (λ (x : Machine). slice_index x.fields k) right ∙ at n ∙ sym (at m) ∙ sym (ap (λ (x : Machine). slice_index x.fields k) left)))
            (λ d. let unwritten : written_by o.act ≢ Some k = λ e. d (some_same k j (sym e ∙ w)) in other k (old_field k unwritten) (new_field k unwritten))
            (cases_eq k j)

    step : Near more m' n'
    step = ⊎_elim alike_step stale_step (all_known front m.fields n.fields near.fields (read_by o))
      where
        alike_step : ((k : ℕ) → In k (read_by o) → slice_index n.fields k ≡ slice_index m.fields k) → Near more m' n'
        alike_step h = by (all_hold m.fields o.guard) refl
          where
            same : Alike m.fields n.fields o
            same = alike m.fields n.fields o h

            by : (b : Bool) → all_hold m.fields o.guard ≡ b → Near more m' n'
            by true e = together same e
            by false e =
                let l = some_fails m.fields o.guard e in
                let there : In l.0.field (read_by o) = in_left l.0.field (map (λ (l : Literal). l.field) o.guard) (flat_map field_of (operands_of o.act)) (into_map (λ (l : Literal). l.field) l.0 o.guard l.1) in
                missed l.0 l.1 l.2 (holds_by m.fields n.fields l.0 (h l.0.field there) ∙ l.2)

        stale_step : Read front m.fields n.fields (read_by o) → Near more m' n'
        stale_step r = missed r.stale.literal (shared_by ops r.field r.stale.literal r.stale.dropped o there (uses_read o r.field r.there)).there r.stale.old r.stale.new

  runs : (widths : List ℕ) → Facts false ops → (front rest : List Op) → ops ≡ front ++ rest → (m n : Machine) → Near front m n → ((run widths (map new rest) n).cells ≡ (run widths rest m).cells) × ((run widths (map new rest) n).outs ≡ (run widths rest m).outs)
  runs widths facts front [] e m n near = (near.cells, near.outs)
  runs widths facts front (o ∷ rest) e m n near =
      let parts = pairs_split (Pair false) front (o ∷ rest) (subst (Pairwise (Pair false)) e facts.pairs) in
      let there : In o ops = subst (In o) (sym e) (in_right o front (o ∷ rest) (inl refl)) in
      runs widths facts (front ++ o ∷ []) rest (e ∙ sym (append_assoc front (o ∷ []) rest)) (run_op widths m o) (run_op widths n (new o))
      (step widths front o there (λ w i. (parts.across w i o (inl refl)).blind) (facts.own o there) m n near)

-- ---- of valid code

module _ (code : CodeParts) (valid : IsValid code) where
  sound_lifted : (o : Op) → In o code.ops → op_is_sound code.fields code.inputs code.arrays (lift_op code.ops o) ≡ true
  sound_lifted o i = lifts code.ops (λ p. op_is_sound code.fields code.inputs code.arrays p ≡ true) o (sound_each code valid o i) (λ k e.
      let p = record o { guard = lifted_guard code.ops k o.guard } in
      let within : (l : Literal) → In l p.guard → In l o.guard = λ l j. (in_filter (λ l. not (drops code.ops k l)) l o.guard j).0 in
      let a = and_parts _ _ (sound_each code valid o i) in
      let b = and_parts _ _ a.0 in
      let c = and_parts _ _ b.0 in
      let d = and_parts _ _ c.0 in
      let f = and_parts _ _ d.0 in
      let g = and_parts _ _ f.0 in
      and_from _ _
      (and_from _ _
      (and_from _ _
      (and_from _ _
      (and_from _ _
      (and_from _ _
      (all_from (λ k. nat_lt k (length code.fields)) (read_by p) (λ j r. all_in (λ k. nat_lt k (length code.fields)) (read_by o) g.0 j (⊎_elim
      (λ h. let l = in_map (λ (l : Literal). l.field) j p.guard h in
      in_left j (map (λ (l : Literal). l.field) o.guard) (flat_map field_of (operands_of o.act)) (subst (λ (n : ℕ). In n (map (λ (l : Literal). l.field) o.guard)) (sym l.2) (into_map (λ (l : Literal). l.field) l.0 o.guard (within l.0 l.1))))
      (λ h. in_right j (map (λ (l : Literal). l.field) o.guard) (flat_map field_of (operands_of o.act)) h)
      (in_either j (map (λ (l : Literal). l.field) p.guard) (flat_map field_of (operands_of o.act)) r))))
      g.1)
      f.1)
      d.1)
      c.1)
      b.1)
      (all_from (literal_fits code.fields) p.guard (λ l j. all_in (literal_fits code.fields) o.guard a.1 l (within l j))))

  pub lift_replaces : MayReplace code (lift code)
  lift_replaces =
      let t = tests_of false (lift_ops code.ops) (lift_facts code.ops false (code_facts code valid)) in
      record {
        valid = record {
          inputs = valid.inputs;
          arrays = valid.arrays;
          ops = all_from (op_is_sound code.fields code.inputs code.arrays) (lift_ops code.ops) (λ q i.
              let o = in_map (lift_op code.ops) q code.ops i in
              ap (op_is_sound code.fields code.inputs code.arrays) o.2 ∙ sound_lifted o.0 o.1);
          fields = t.fields;
          calls = t.calls;
          slots = t.slots;
          reads = t.reads;
        };
        inputs = refl;
        widths = refl;
        arrays = refl;
        runs = λ cells now me event input.
            let m = begun cells now me event in
            let a = runs code.ops code.fields (code_facts code valid) [] code.ops refl m m (record { fields = λ k. inl refl; cells = refl; outs = refl }) in
            ap₂ (λ (c : List (List ℕ)) (o : List (ℕ × Out)). record { cells = c; outs = map (λ x. x.1) o }) a.0 a.1;
        few = subst (λ n. n ≤ length code.ops) (sym (length-map code.ops (lift_op code.ops))) (omega arith);
        small = λ h. h;
      }

  pub lift_nodes : nodes_follow_writes code.ops ≡ true → nodes_follow_writes (lift code).ops ≡ true
  lift_nodes t = nodes_of (lift code).ops (lift_facts code.ops true (facts_with_nodes code.ops t (code_facts code valid)))
