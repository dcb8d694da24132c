-- The result of an operation stays valid as long as its guard holds.
use Rattle.std.proofs.Common.{◌≡◌, ℕ, List, [], ◌∷◌, Bool, true, false, Some, inl, inr, map, slice_index, refl, sym, ap, subst, ◌∙◌, true≢false}
use Rattle.std.specs.List.{AllByRecursion, flat_map}
use Rattle.lucid_base.specs.Ops.{low_of}
use Rattle.lucid_code.specs.declared.op.Act.{Act}
use Rattle.lucid_code.specs.declared.op.Act.TheVariants as act
use Rattle.lucid_code.specs.declared.op.Literal.{Literal}
use Rattle.lucid_code.specs.declared.op.Op.{Op}
use Rattle.lucid_code.specs.declared.op.Operand.{Operand}
use Rattle.lucid_code.specs.declared.op.Operand.TheVariants.{Fixed, Field}
use Rattle.lucid_code.specs.Guards.{Fields, all_hold}
use Rattle.lucid_code.specs.Run.{Machine, value, result, written, run_act, run_op, run}
use Rattle.lucid_code.specs.Uses.{written_by, only_writes, operands_of, field_of, read_by}
use Rattle.lucid_code.proofs.Acting.{Effect, effect_by, put_same, op_other, acts, rests, guards_by, contradict_never}
use Rattle.lucid_code.proofs.Facts.{Blind, Pair}
use Rattle.lucid_code.proofs.Members.{In, Pairwise, in_left, in_right, each_in, into_map, into_flat}

-- an operation that reads fields which agree acts in both, or in neither, with the same effect
pub record Alike (f g : Fields) (o : Op) : Type 0 where
  pub guard : all_hold g o.guard ≡ all_hold f o.guard
  pub operands : AllByRecursion (λ (x : Operand). value g x ≡ value f x) (operands_of o.act)

operand_alike : (f g : Fields) (o : Op) → ((k : ℕ) → In k (read_by o) → slice_index g k ≡ slice_index f k) → (x : Operand) → In x (operands_of o.act) → value g x ≡ value f x
operand_alike f g o h (Fixed v) i = refl
operand_alike f g o h (Field k) i = h k (in_right k (map (λ (l : Literal). l.field) o.guard) (flat_map field_of (operands_of o.act)) (into_flat field_of k (Field k) (operands_of o.act) i (inl refl)))

pub alike : (f g : Fields) (o : Op) → ((k : ℕ) → In k (read_by o) → slice_index g k ≡ slice_index f k) → Alike f g o
alike f g o h = record {
  guard = guards_by f g o.guard (each_in (λ (l : Literal). slice_index g l.field ≡ slice_index f l.field) o.guard (λ l i. h l.field (in_left l.field (map (λ (l : Literal). l.field) o.guard) (flat_map field_of (operands_of o.act)) (into_map (λ (l : Literal). l.field) l o.guard i))));
  operands = each_in (λ (x : Operand). value g x ≡ value f x) (operands_of o.act) (operand_alike f g o h);
}

-- one that reads nothing of another finds its fields as before
pub blind_alike : (widths : List ℕ) (m : Machine) (o p : Op) → Blind o p → Alike m.fields (run_op widths m p).fields o
blind_alike widths m o p b = alike m.fields (run_op widths m p).fields o (λ k i. op_other widths m p k (b k i))

-- the result of an act that only writes
abbrev pub made : Act → Fields → ℕ
made a f = result a (record { fields = f; cells = []; outs = [] })

pub made_is : (a : Act) (m : Machine) (k : ℕ) → only_writes a ≡ Some k → result a m ≡ made a m.fields
made_is (act.Touch array index get get_arg set set_arg to) m k e = absurd (cc)
made_is (act.Gen slot event args delay to) m k e = absurd (cc)
made_is (act.Say slot form args) m k e = absurd (cc)
made_is _ m k e = refl

pub made_by : (f g : Fields) (a : Act) → AllByRecursion (λ (x : Operand). value g x ≡ value f x) (operands_of a) → made a g ≡ made a f
made_by f g a h = ap (λ (e : Effect). e.made) (effect_by f g [] a h)

pub only_written : (a : Act) (k : ℕ) → only_writes a ≡ Some k → written_by a ≡ Some k
only_written (act.Touch array index get get_arg set set_arg to) k e = absurd (cc)
only_written (act.Gen slot event args delay to) k e = absurd (cc)
only_written (act.Say slot form args) k e = absurd (cc)
only_written (act.Un op w a j) k e = e
only_written (act.Bin op w a b j) k e = e
only_written (act.Cmp op w a b j) k e = e
only_written (act.Cast a j) k e = e
only_written (act.Hash xs j) k e = e
only_written (act.Move a j) k e = e

-- as long as its guard holds, the field that it writes has the value that it would write now
abbrev pub Fresh : List ℕ → Fields → Op → Type 0
Fresh widths f o = (k : ℕ) → only_writes o.act ≡ Some k → all_hold f o.guard ≡ true → slice_index f k ≡ low_of (slice_index widths k) (made o.act f)

module _ (widths : List ℕ) where
  written_at : (m : Machine) (a : Act) (k : ℕ) → written_by a ≡ Some k → slice_index (run_act widths a m).fields k ≡ low_of (slice_index widths k) (result a m)
  written_at m a k e = ap (λ to. slice_index (written widths to (result a m) m.fields) k) e ∙ put_same m.fields k (low_of (slice_index widths k) (result a m))

  pub fresh_own : (m : Machine) (o : Op) → Blind o o → Fresh widths (run_op widths m o).fields o
  fresh_own m o b k e h = by (all_hold m.fields o.guard) refl
    where
      same : Alike m.fields (run_op widths m o).fields o
      same = blind_alike widths m o o b

      by : (t : Bool) → all_hold m.fields o.guard ≡ t → slice_index (run_op widths m o).fields k ≡ low_of (slice_index widths k) (made o.act (run_op widths m o).fields)
      by true g =
          ap (λ (n : Machine). slice_index n.fields k) (acts widths m o g) ∙ written_at m o.act k (only_written o.act k e)
          ∙ ap (low_of (slice_index widths k)) (made_is o.act m k e ∙ sym (made_by m.fields (run_op widths m o).fields o.act same.operands))
      by false g = absurd (true≢false (sym h ∙ same.guard ∙ g))

  -- one behind it writes nothing that it reads, and its field only where its guard fails
  pub fresh_stays : (nodes : Bool) (m : Machine) (o p : Op) → Pair nodes o p → Fresh widths m.fields o → Fresh widths (run_op widths m p).fields o
  fresh_stays nodes m o p pair fresh k e h = by (all_hold m.fields p.guard) refl
    where
      same : Alike m.fields (run_op widths m p).fields o
      same = blind_alike widths m o p pair.blind

      held : all_hold m.fields o.guard ≡ true
      held = sym same.guard ∙ h

      by : (t : Bool) → all_hold m.fields p.guard ≡ t → slice_index (run_op widths m p).fields k ≡ low_of (slice_index widths k) (made o.act (run_op widths m p).fields)
      by true g =
          op_other widths m p k (λ w. contradict_never m.fields o.guard p.guard (pair.fields k (only_written o.act k e) w) held g)
          ∙ fresh k e held ∙ ap (low_of (slice_index widths k)) (sym (made_by m.fields (run_op widths m p).fields o.act same.operands))
      by false g = subst (λ (n : Machine). slice_index n.fields k ≡ low_of (slice_index widths k) (made o.act n.fields)) (sym (rests widths m p g)) (fresh k e held)

  pub fresh_over : (nodes : Bool) (ops : List Op) (m : Machine) (o : Op) → ((p : Op) → In p ops → Pair nodes o p) → Fresh widths m.fields o → Fresh widths (run widths ops m).fields o
  fresh_over nodes [] m o h fresh = fresh
  fresh_over nodes (p ∷ ops) m o h fresh = fresh_over nodes ops (run_op widths m p) o (λ q i. h q (inr i)) (fresh_stays nodes m o p (h p (inl refl)) fresh)

  -- after a run each operation is fresh
  pub fresh_after : (nodes : Bool) (ops : List Op) (m : Machine) → ((o : Op) → In o ops → Blind o o) → Pairwise (Pair nodes) ops → (o : Op) → In o ops → Fresh widths (run widths ops m).fields o
  fresh_after nodes [] m own pairs o i = absurd i
  fresh_after nodes (p ∷ ops) m own pairs o (inl e) =
      subst (λ q. Fresh widths (run widths ops (run_op widths m p)).fields q) (sym e) (fresh_over nodes ops (run_op widths m p) p pairs.0 (fresh_own m p (own p (inl refl))))
  fresh_after nodes (p ∷ ops) m own pairs o (inr i) = fresh_after nodes ops (run_op widths m p) (λ q j. own q (inr j)) pairs.1 o i
