-- The meaning of a name: the newest declaration of it that is in scope.
use Rattle.std.specs.Prelude.{ℕ, List, [], ◌∷◌, Option, None, Some, bytes_eq, if◌then◌else◌}
use Rattle.lucid_types_spec.specs.declared.scope.Entry.{Entry}
use Rattle.lucid_types_spec.specs.declared.scope.Named.{Named}

-- The names in scope, the newest first. Constants, arrays, memops, events, functions, groups, parameters and locals share one space.
abbrev pub Names : Type 0
Names = List Named

abbrev pub called : List ℕ → Entry → Named
called name entry = record { name = name; entry = entry }

-- A declaration hides earlier ones of its name.
abbrev pub seen : List ℕ → Names → Option Entry
seen name [] = None
seen name (d ∷ ds) = if bytes_eq d.name name then Some d.entry else seen name ds
