-- Which fields are read, as a list of marks.
use Rattle.std.specs.Prelude.{ℕ, List, Bool, true, false, nat_lt, slice_index_or, slice_set}
use Rattle.std.specs.List.{fold}
use Rattle.std.specs.Option.{option_map_or}
use Rattle.lucid_code.specs.declared.op.Op.{Op}
use Rattle.lucid_code.specs.Uses.{written_by, only_writes}

abbrev pub marked : List ℕ → List Bool → List Bool
marked fields read = fold (λ (marks : List Bool) k. slice_set marks k true) read fields

-- An operation does more than write a field, or the field is marked.
abbrev pub is_marked : List Bool → Op → Bool
is_marked read o = option_map_or (λ k. slice_index_or read k false) (only_writes o.act) true

-- The field that it writes, if it writes one, is below this bound.
abbrev pub writes_below : ℕ → Op → Bool
writes_below fields o = option_map_or (λ k. nat_lt k fields) (written_by o.act) true
