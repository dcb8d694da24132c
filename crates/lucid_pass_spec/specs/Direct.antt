-- The result of `Direct`: a test of a comparison's field becomes a test of the compared field.
use Rattle.std.specs.Prelude.{ℕ, ◌^◌, List, [], ◌∷◌, Option, None, Some, Bool, true, not, ◌&&◌, ◌||◌, if◌then◌else◌, map, nat_eq, nat_lt, slice_index}
use Rattle.std.specs.List.{filter, list_all, list_any}
use Rattle.std.specs.Option.{option_and_then, option_map_or}
use Rattle.lucid_base.specs.declared.ops.CmpOp.TheVariants.{Eq}
use Rattle.lucid_code.specs.declared.op.Act.{Act}
use Rattle.lucid_code.specs.declared.op.Act.TheVariants as act
use Rattle.lucid_code.specs.declared.op.Literal.{Literal}
use Rattle.lucid_code.specs.declared.op.Op.{Op}
use Rattle.lucid_code.specs.declared.op.Operand.TheVariants.{Fixed, Field}
use Rattle.lucid_code.specs.Parts.{CodeParts}
use Rattle.lucid_code.specs.Uses.{written_by}
use Rattle.lucid_pass_spec.specs.declared.direct.Test.{Test}
use Rattle.lucid_pass_spec.specs.Dead.{is_read}
use Rattle.lucid_pass_spec.specs.Looks.{same_literal, includes, only_writer}

-- A comparison of a field, at its width, with a number that fits, in this order.
abbrev pub tested : List ℕ → Act → Option Test
tested widths (act.Cmp Eq w (Field f) (Fixed v) k) = if nat_eq w (slice_index widths f) && nat_lt v (2 ^ w) then Some (record { field = f; value = v }) else None
tested widths _ = None

abbrev pub tests : ℕ → Op → Bool
tests c o = list_any (λ (l : Literal). nat_eq l.field c) o.guard

-- The guard of each operation that tests field c has all these literals.
abbrev pub covers : List Op → ℕ → List Literal → Bool
covers ops c guard = list_all (λ o. not (tests c o) || includes o.guard guard) ops

-- The test that field c represents: just one operation writes it, which compares a field, and whose guard is part of that of each that
-- tests c.
abbrev pub direct_from : List ℕ → List Op → ℕ → Option Test
direct_from widths ops c = option_and_then (λ w. if covers ops c w.guard then tested widths w.act else None) (only_writer ops c)

-- It says that the comparison holds: that its field is 1, or isn't 0.
abbrev pub says : Literal → Bool
says l = if l.equal then nat_eq l.value 1 else nat_eq l.value 0

abbrev pub direct_literal : (ℕ → Option Test) → Literal → Literal
direct_literal d l = option_map_or (λ (t : Test). record { field = t.field; equal = says l; value = t.value }) (d l.field) l

-- Of equal literals the first stays.
abbrev pub without_repeats : List Literal → List Literal → List Literal
without_repeats before [] = []
without_repeats before (l ∷ ls) = if list_any (same_literal l) before then without_repeats before ls else l ∷ without_repeats (l ∷ before) ls

abbrev pub direct_op : (ℕ → Option Test) → Op → Op
direct_op d o = record o { guard = without_repeats [] (map (direct_literal d) o.guard) }

-- The writer of a field that represents a test stays only if an operation reads the field.
abbrev pub still_needed : (ℕ → Option Test) → List Op → Op → Bool
still_needed d ops o = option_map_or (λ k. option_map_or (λ t. is_read ops k) (d k) true) (written_by o.act) true

abbrev pub direct_ops : List ℕ → List Op → List Op
direct_ops widths ops =
    let d = direct_from widths ops in
    let now = map (direct_op d) ops in
    filter (still_needed d now) now

abbrev pub direct : CodeParts → CodeParts
direct code = record code { ops = direct_ops code.fields code.ops }
