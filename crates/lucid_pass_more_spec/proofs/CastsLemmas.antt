-- Code whose casts are moves does the same, and is valid.
use Rattle.std.proofs.Common.{◌≡◌, ℕ, ◌+◌, ◌*◌, ◌≤◌, List, [], ◌∷◌, ◌++◌, Bool, true, false, if◌then◌else◌, map, length, nat_le, nat_lt, refl, sym, ap, subst, ◌∙◌, arith}
use Rattle.std.specs.List.{flat_map, list_all}
use Rattle.std.specs.Option.{option_map_or}
use Rattle.std.proofs.lemmas.Bool.{and_parts, and_from}
use Rattle.std.proofs.lemmas.List.{length-map}
use Rattle.lucid_base.specs.declared.array.ArrayDef.{ArrayDef}
use Rattle.lucid_code.specs.declared.inputs.Inputs.{Inputs}
use Rattle.lucid_code.specs.declared.op.Act.{Act}
use Rattle.lucid_code.specs.declared.op.Act.TheVariants as act
use Rattle.lucid_code.specs.declared.op.Literal.{Literal}
use Rattle.lucid_code.specs.declared.op.Op.{Op}
use Rattle.lucid_code.specs.Guards.{all_hold}
use Rattle.lucid_code.specs.Nodes.{nodes_follow_writes}
use Rattle.lucid_code.specs.Parts.{CodeParts}
use Rattle.lucid_code.specs.Run.{Machine, begun, run_act, run_op, run}
use Rattle.lucid_code.specs.Uses.{written_by, called_by, slot_of, operands_of, field_of, read_by, key_of}
use Rattle.lucid_code.specs.Valid.{IsValid, op_is_sound, widths_agree, act_keeps_limits}
use Rattle.lucid_code.proofs.Facts.{Blind, Pair, Facts, code_facts, sound_each, tests_of, nodes_of, facts_with_nodes}
use Rattle.lucid_code.proofs.Members.{In, Pairwise, all_from, in_map}
use Rattle.lucid_pass_spec.specs.Replace.{MayReplace}
use Rattle.lucid_pass_more_spec.specs.Casts.{without_cast, uncast_op, uncast_ops, uncast}

-- ---- an act

-- The same fields are read and written, the same array is called, and the slot is the same.
record Like (a : Act) : Type 0 where
  pub runs : (widths : List ℕ) (m : Machine) → run_act widths (without_cast a) m ≡ run_act widths a m
  pub written : written_by (without_cast a) ≡ written_by a
  pub called : called_by (without_cast a) ≡ called_by a
  pub slot : slot_of (without_cast a) ≡ slot_of a
  pub operands : operands_of (without_cast a) ≡ operands_of a
  pub widths : (fields : List ℕ) (arrays : List ArrayDef) → widths_agree fields arrays (without_cast a) ≡ widths_agree fields arrays a
  pub limits : act_keeps_limits (without_cast a) ≡ act_keeps_limits a

like : (a : Act) → Like a
like (act.Cast x k) = record { runs = λ widths m. refl; written = refl; called = refl; slot = refl; operands = refl; widths = λ fields arrays. refl; limits = refl }
like _ = record { runs = λ widths m. refl; written = refl; called = refl; slot = refl; operands = refl; widths = λ fields arrays. refl; limits = refl }

-- ---- an operation

op_runs : (widths : List ℕ) (m : Machine) (o : Op) → run_op widths m (uncast_op o) ≡ run_op widths m o
op_runs widths m o = ap (λ (n : Machine). if all_hold m.fields o.guard then n else m) ((like o.act).runs widths m)

reads_same : (o : Op) → read_by (uncast_op o) ≡ read_by o
reads_same o = ap (λ l. map (λ (l : Literal). l.field) o.guard ++ flat_map field_of l) (like o.act).operands

key_same : (o : Op) → key_of (uncast_op o) ≡ key_of o
key_same o = ap (λ c. option_map_or (λ array. 2 * array + 1) c (2 * o.level)) (like o.act).called

sound_same : (fields : List ℕ) (inputs : Inputs) (arrays : List ArrayDef) (o : Op) → op_is_sound fields inputs arrays o ≡ true → op_is_sound fields inputs arrays (uncast_op o) ≡ true
sound_same fields inputs arrays o h =
    let a = and_parts _ _ h in
    let b = and_parts _ _ a.0 in
    let c = and_parts _ _ b.0 in
    let d = and_parts _ _ c.0 in
    let e = and_parts _ _ d.0 in
    let f = and_parts _ _ e.0 in
    let s = like o.act in
    and_from _ _
    (and_from _ _
    (and_from _ _
    (and_from _ _
    (and_from _ _
    (and_from _ _
    (ap (list_all (λ k. nat_lt k (length fields))) (reads_same o) ∙ f.0)
    (ap (λ x. option_map_or (λ k. nat_lt k (length fields)) x true) s.written ∙ f.1))
    (ap (λ x. option_map_or (λ k. nat_lt k (length arrays)) x true) s.called ∙ e.1))
    (ap (λ x. option_map_or (λ k. nat_le (3 + inputs.args) k) x true) s.written ∙ d.1))
    (s.widths fields arrays ∙ c.1))
    (s.limits ∙ b.1))
    a.1

-- ---- the list

runs : (widths : List ℕ) (ops : List Op) (m : Machine) → run widths (uncast_ops ops) m ≡ run widths ops m
runs widths [] m = refl
runs widths (o ∷ ops) m = ap (run widths (uncast_ops ops)) (op_runs widths m o) ∙ runs widths ops (run_op widths m o)

blind : (x y : Op) → Blind x y → Blind (uncast_op x) (uncast_op y)
blind x y b k r e = b k (subst (In k) (reads_same x) r) (sym (like y.act).written ∙ e)

pair : (nodes : Bool) (x y : Op) → Pair nodes x y → Pair nodes (uncast_op x) (uncast_op y)
pair nodes x y p =
    let a = like x.act in
    let b = like y.act in
    record {
      fields = λ k e f. p.fields k (sym a.written ∙ e) (sym b.written ∙ f);
      calls = λ k e f. p.calls k (sym a.called ∙ e) (sym b.called ∙ f);
      slots = λ k e f. p.slots k (sym a.slot ∙ e) (sym b.slot ∙ f);
      blind = blind x y p.blind;
      keys = λ k r e. subst (λ n. key_of (uncast_op x) ≤ n) (sym (key_same y)) (subst (λ n. n ≤ key_of y) (sym (key_same x)) (p.keys k (subst (In k) (reads_same y) r) (sym a.written ∙ e)));
      apart = λ t k r e g c d. p.apart t k (subst (In k) (reads_same y) r) (sym a.written ∙ e) g (sym a.called ∙ c) (sym b.called ∙ d);
    }

pairs : (nodes : Bool) (ops : List Op) → Pairwise (Pair nodes) ops → Pairwise (Pair nodes) (uncast_ops ops)
pairs nodes [] p = tt
pairs nodes (x ∷ ops) p = (
  λ z i. let y = in_map uncast_op z ops i in subst (Pair nodes (uncast_op x)) (sym y.2) (pair nodes x y.0 (p.0 y.0 y.1)),
  pairs nodes ops p.1,
)

facts : (nodes : Bool) (ops : List Op) → Facts nodes ops → Facts nodes (uncast_ops ops)
facts nodes ops f = record {
  own = λ z i. let o = in_map uncast_op z ops i in subst (λ q. Blind q q) (sym o.2) (blind o.0 o.0 (f.own o.0 o.1));
  pairs = pairs nodes ops f.pairs;
}

-- ---- of valid code

pub casts_replace : (code : CodeParts) → IsValid code → MayReplace code (uncast code)
casts_replace code valid =
    let t = tests_of false (uncast_ops code.ops) (facts false code.ops (code_facts code valid)) in
    record {
      valid = record {
        inputs = valid.inputs;
        arrays = valid.arrays;
        ops = all_from (op_is_sound code.fields code.inputs code.arrays) (uncast_ops code.ops) (λ z i.
            let o = in_map uncast_op z code.ops i in
            ap (op_is_sound code.fields code.inputs code.arrays) o.2 ∙ sound_same code.fields code.inputs code.arrays o.0 (sound_each code valid o.0 o.1));
        fields = t.fields;
        calls = t.calls;
        slots = t.slots;
        reads = t.reads;
      };
      inputs = refl;
      widths = refl;
      arrays = refl;
      runs = λ cells now me event input. ap (λ (m : Machine). record { cells = m.cells; outs = map (λ o. o.1) m.outs }) (runs code.fields code.ops (begun cells now me event));
      few = subst (λ n. n ≤ length code.ops) (sym (length-map code.ops uncast_op)) (omega arith);
      small = λ h. h;
    }

pub casts_nodes : (code : CodeParts) → IsValid code → nodes_follow_writes code.ops ≡ true → nodes_follow_writes (uncast code).ops ≡ true
casts_nodes code valid t = nodes_of (uncast code).ops (facts true code.ops (facts_with_nodes code.ops t (code_facts code valid)))
