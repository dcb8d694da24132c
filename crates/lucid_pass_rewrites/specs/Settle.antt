-- The field written by an act that computes on numbers alone.
use Rattle.std.specs.Prelude.{ℕ, Option, None, Some, if◌then◌else◌}
use Rattle.std.specs.List.{list_all}
use Rattle.std.specs.Option.{option_and_then}
use Rattle.lucid_code.specs.declared.op.Act.{Act}
use Rattle.lucid_code.specs.Uses.{operands_of}
use Rattle.lucid_pass_spec.specs.Looks.{is_fixed, computes}

abbrev pub computed_field : Act → Option ℕ
computed_field a = option_and_then (λ k. if list_all is_fixed (operands_of a) then Some k else None) (computes a)
