-- The members of a group.
use Rattle.std.specs.Prelude.{ℕ, List, Option, nat_lt}
use Rattle.std.specs.List.{list_all}
use Rattle.lucid_types_laws.specs.Partial.{given}

-- These numbers, where each is below 64.
abbrev pub small_ones : List ℕ → Option (List ℕ)
small_ones members = given (list_all (λ m. nat_lt m 64) members) members
