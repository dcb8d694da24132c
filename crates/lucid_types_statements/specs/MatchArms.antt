-- The arms of a `match`, one after another, before they are put together.
use Rattle.std.specs.Prelude.{ℕ, ◌^◌, List, [], ◌∷◌, ◌++◌, Option, Some, map, nat_lt}
use Rattle.lucid_core.specs.Typing.{◌>>=◌}
use Rattle.lucid_parse_tree.specs.declared.tree.S.{S}
use Rattle.lucid_types_spec.specs.declared.scope.ValueType.{ValueType}
use Rattle.lucid_types_spec.specs.Block.{Numbered}
use Rattle.lucid_types_spec.specs.Names.{Names}
use Rattle.lucid_types_laws.specs.declared.part.Part.{Part}
use Rattle.lucid_types_laws.specs.Partial.{when}
use Rattle.lucid_types_laws.specs.Statement.{Taking, block, taking}
use Rattle.lucid_types_statements.specs.declared.arms.Arm.{Arm}

abbrev pub cases_taken : List (ℕ × List S) → List (ℕ × List Taking)
cases_taken cs = map (λ c. (c.0, map taking c.1)) cs

abbrev pub arms_of : List (ℕ × List Taking) → ℕ → Option ValueType → Names → Numbered → Option (List Arm × Numbered)
arms_of [] w a s m = Some ([], m)
arms_of (c ∷ cs) w a s m = do
  b ← when (nat_lt c.0 (2 ^ w)) (block c.1 a s m)
  rest ← arms_of cs w a s b.1
  Some (record { number = c.0; body = b.0 } ∷ rest.0, rest.1)

abbrev pub with_arms : List Arm → Option (List Arm × Numbered) → Option (List Arm × Numbered)
with_arms front o = o >>= (λ q. Some (front ++ q.0, q.1))

-- Parts before those of the rest.
abbrev pub with_parts : List Part → Option (List Part × Numbered) → Option (List Part × Numbered)
with_parts front o = o >>= (λ q. Some (front ++ q.0, q.1))
