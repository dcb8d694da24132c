-- The rows of a table that are compatible with a row that tests a field for a value, by the value's remainder.
use Rattle.std.specs.Prelude.{◌≡◌, ◌≤◌, ◌%◌, ℕ, List, Bool, not, ◌&&◌, length, nat_eq, slice_get}
use Rattle.std.specs.List.{list_any, filter, filter_map}
use Rattle.lucid_code.specs.declared.op.Literal.{Literal}
use Rattle.lucid_tables.specs.declared.table.Row.{Row}
use Rattle.lucid_merge.specs.declared.near.Near.{Near}

abbrev pub asks : ℕ → ℕ → Literal → Bool
asks field rest l = l.equal && nat_eq l.field field && nat_eq (l.value % 32) rest

abbrev pub asks_other : ℕ → ℕ → Literal → Bool
asks_other field rest l = l.equal && nat_eq l.field field && not (nat_eq (l.value % 32) rest)

-- It asks the field for no value with another rest.
abbrev pub may_stand : ℕ → ℕ → Row → Bool
may_stand field rest r = not (list_any (asks_other field rest) r.pattern)

-- The rows at these places.
abbrev pub rows_at : List Row → List ℕ → List Row
rows_at rows places = filter_map (slice_get rows) places

-- The positions are those of the rows that are compatible with a test of the field for a value with this remainder.
abbrev pub IsNear : List Row → Near → Type 0
IsNear rows n = (rows_at rows n.places ≡ filter (may_stand n.field n.rest) rows) × (length n.places ≤ length rows)
