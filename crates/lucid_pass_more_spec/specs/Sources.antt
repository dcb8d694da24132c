-- The result of `Sources`: a literal of a field that was moved, or that compares by `!=`, becomes a literal of its source.
use Rattle.std.specs.Prelude.{ℕ, ◌^◌, List, Option, None, Some, Bool, false, not, ◌&&◌, if◌then◌else◌, map, nat_eq, nat_lt, slice_index}
use Rattle.std.specs.Option.{option_and_then, option_map_or}
use Rattle.lucid_base.specs.declared.ops.CmpOp.TheVariants.{Ne}
use Rattle.lucid_code.specs.declared.op.Act.{Act}
use Rattle.lucid_code.specs.declared.op.Act.TheVariants as act
use Rattle.lucid_code.specs.declared.op.Literal.{Literal}
use Rattle.lucid_code.specs.declared.op.Op.{Op}
use Rattle.lucid_code.specs.declared.op.Operand.TheVariants.{Fixed, Field}
use Rattle.lucid_code.specs.Parts.{CodeParts}
use Rattle.lucid_pass_spec.specs.Direct.{covers, says}
use Rattle.lucid_pass_spec.specs.Looks.{only_writer}

-- The source determines every literal of the written field: a field of the same width that is moved, or a field that is compared by `!=`, at
-- its width, with a number that fits.
abbrev pub has_source : List ℕ → Act → Bool
has_source widths (act.Move (Field s) k) = nat_eq (slice_index widths s) (slice_index widths k)
has_source widths (act.Cmp Ne w (Field s) (Fixed v) k) = nat_eq w (slice_index widths s) && nat_lt v (2 ^ w)
has_source widths _ = false

-- The literal of the source that holds where this literal of the written field does.
abbrev pub of_source : Act → Literal → Literal
of_source (act.Move (Field s) k) l = record l { field = s }
of_source (act.Cmp Ne w (Field s) (Fixed v) k) l = record { field = s; equal = not (says l); value = v }
of_source _ l = l

-- The act through which literals of field c are seen: just one operation writes the field, it has a source, and its guard is part of that of
-- each operation that tests the field.
abbrev pub source_of : List ℕ → List Op → ℕ → Option Act
source_of widths ops c = option_and_then (λ w. if covers ops c w.guard && has_source widths w.act then Some w.act else None) (only_writer ops c)

abbrev pub source_literal : (ℕ → Option Act) → Literal → Literal
source_literal s l = option_map_or (λ a. of_source a l) (s l.field) l

abbrev pub source_op : (ℕ → Option Act) → Op → Op
source_op s o = record o { guard = map (source_literal s) o.guard }

-- The sources are those of the original code.
abbrev pub source_ops : List ℕ → List Op → List Op
source_ops widths ops = map (source_op (source_of widths ops)) ops

abbrev pub sources : CodeParts → CodeParts
sources code = record code { ops = source_ops code.fields code.ops }
