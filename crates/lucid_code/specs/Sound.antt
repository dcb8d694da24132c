-- The rules for the names of an act, apart from those of its guard.
use Rattle.std.specs.Prelude.{ℕ, List, Bool, true, ◌&&◌, length, nat_lt}
use Rattle.std.specs.List.{list_all, flat_map}
use Rattle.std.specs.Option.{option_map_or}
use Rattle.lucid_base.specs.declared.array.ArrayDef.{ArrayDef}
use Rattle.lucid_code.specs.declared.op.Act.{Act}
use Rattle.lucid_code.specs.Uses.{written_by, called_by, operands_of, field_of}

-- Every field and array that it names is there.
abbrev pub act_names_are_there : List ℕ → List ArrayDef → Act → Bool
act_names_are_there fields arrays a =
    list_all (λ k. nat_lt k (length fields)) (flat_map field_of (operands_of a))
    && option_map_or (λ k. nat_lt k (length fields)) (written_by a) true
    && option_map_or (λ k. nat_lt k (length arrays)) (called_by a) true
