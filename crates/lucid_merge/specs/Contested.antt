-- Literals of fields of which other literals are known, too: of two that are opposed, one is contested.
use Rattle.std.specs.Prelude.{ℕ, ◌%◌, List, Option, Some, None, Bool, false, not, ◌&&◌, slice_get}
use Rattle.std.specs.List.{filter}
use Rattle.lucid_code.specs.declared.op.Literal.{Literal}
use Rattle.lucid_code.specs.Guards.{contradict, opposed}
use Rattle.lucid_tables.specs.declared.table.Row.{Row}
use Rattle.lucid_merge.specs.declared.contested.ContestedRow.{ContestedRow}
use Rattle.lucid_merge.specs.Product.{is_same, has}

-- Where a literal's field has its place.
abbrev pub field_slot : Literal → ℕ
field_slot l = l.field % 4096

abbrev pub is_found : Literal → Option Literal → Bool
is_found l None = false
is_found l (Some m) = is_same l m

-- By any list of literals: its field's place has another one.
abbrev pub is_contested : List Literal → Literal → Bool
is_contested lone l = not (is_found l (slice_get lone (field_slot l)))

-- The contested literals of a pattern.
abbrev pub contested : List Literal → List Literal → List Literal
contested lone p = filter (is_contested lone) p

-- Those of a row, and whether it contradicts itself.
abbrev pub contested_row : List Literal → Row → ContestedRow
contested_row lone r = record { literals = contested lone r.pattern; contradicts_itself = contradict r.pattern r.pattern }

abbrev pub opposes_found : List Literal → Literal → Option Literal → Bool
opposes_found p l None = false
opposes_found p l (Some m) = opposed l m && has p m

-- The literal is opposed to the one at its field's place, and the pattern has that.
abbrev pub opposes_lone : List Literal → List Literal → Literal → Bool
opposes_lone lone p l = opposes_found p l (slice_get lone (field_slot l))
