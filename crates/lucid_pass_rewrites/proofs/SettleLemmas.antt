-- An act is settled by the field that it computes.
use Rattle.std.proofs.Common.{◌≡◌, ℕ, Bool, true, false, Option, None, Some, if◌then◌else◌, refl}
use Rattle.std.specs.List.{list_all}
use Rattle.std.specs.Option.{option_and_then, option_map_or}
use Rattle.lucid_code.specs.declared.op.Act.{Act}
use Rattle.lucid_code.specs.declared.op.Act.TheVariants as act
use Rattle.lucid_code.specs.declared.op.Operand.TheVariants.{Fixed}
use Rattle.lucid_code.specs.Run.{result}
use Rattle.lucid_code.specs.Uses.{operands_of}
use Rattle.lucid_pass_spec.specs.Looks.{is_fixed, computes, nowhere, settled}
use Rattle.lucid_pass_rewrites.specs.Settle.{computed_field}

pub settled_by : (a : Act) → settled a ≡ option_map_or (λ k. act.Move (Fixed (result a nowhere)) k) (computed_field a) a
settled_by a = by (computes a) (list_all is_fixed (operands_of a))
  where
    by : (x : Option ℕ) (b : Bool) → option_map_or (λ k. if b then act.Move (Fixed (result a nowhere)) k else a) x a ≡ option_map_or (λ k. act.Move (Fixed (result a nowhere)) k) (option_and_then (λ k. if b then Some k else None) x) a
    by None b = refl
    by (Some k) true = refl
    by (Some k) false = refl
