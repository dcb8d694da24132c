-- The result of `Merge`: a call of an array writes the field that its answer is moved to.
use Rattle.std.specs.Prelude.{ℕ, List, Option, None, Some, Bool, true, false, ◌&&◌, if◌then◌else◌, map, nat_eq, slice_index}
use Rattle.std.specs.List.{filter}
use Rattle.std.specs.Option.{option_and_then, option_map_or}
use Rattle.lucid_code.specs.declared.op.Act.{Act}
use Rattle.lucid_code.specs.declared.op.Act.TheVariants as act
use Rattle.lucid_code.specs.declared.op.Op.{Op}
use Rattle.lucid_code.specs.declared.op.Operand.TheVariants.{Fixed, Field}
use Rattle.lucid_code.specs.Parts.{CodeParts}
use Rattle.lucid_pass_spec.specs.Dead.{reads}
use Rattle.lucid_pass_spec.specs.Looks.{includes, only, only_writer}

-- The one operation that reads field k, if just one does.
abbrev pub only_reader : List Op → ℕ → Option Op
only_reader ops k = only (filter (λ o. reads o k) ops)

abbrev pub is_call : Act → Bool
is_call (act.Touch array index get get_arg set set_arg to) = true
is_call _ = false

-- The field that field t is moved to, at the same width.
abbrev pub moved_to : List ℕ → ℕ → Act → Option ℕ
moved_to widths t (act.Move (Field s) x) = if nat_eq s t && nat_eq (slice_index widths t) (slice_index widths x) then Some x else None
moved_to widths t _ = None

-- Two guards have the same literals.
abbrev pub same_guards : Op → Op → Bool
same_guards o p = includes o.guard p.guard && includes p.guard o.guard

-- The field that the answer in field t is for: one call alone writes t, and one move alone reads it, under the same literals.
abbrev pub answers_for : List ℕ → List Op → ℕ → Option ℕ
answers_for widths ops t =
    option_and_then (λ w. option_and_then (λ v. if is_call w.act && same_guards w v then moved_to widths t v.act else None) (only_reader ops t)) (only_writer ops t)

-- The call writes that field, and the move becomes one of 0 to the field that nobody reads any more. So `Dead` removes it.
abbrev pub merged_act : (ℕ → Option ℕ) → Act → Act
merged_act g (act.Touch array index get get_arg set set_arg (Some t)) = act.Touch array index get get_arg set set_arg (Some (option_map_or (λ x. x) (g t) t))
merged_act g (act.Move (Field t) x) = option_map_or (λ y. act.Move (Fixed 0) t) (g t) (act.Move (Field t) x)
merged_act g a = a

abbrev pub merged_op : (ℕ → Option ℕ) → Op → Op
merged_op g o = record o { act = merged_act g o.act }

abbrev pub merged_ops : List ℕ → List Op → List Op
merged_ops widths ops = map (merged_op (answers_for widths ops)) ops

abbrev pub merged : CodeParts → CodeParts
merged code = record code { ops = merged_ops code.fields code.ops }
