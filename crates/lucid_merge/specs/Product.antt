-- The product of two tables.
use Rattle.std.specs.Prelude.{ℕ, List, [], ◌∷◌, ◌++◌, Option, Some, None, Bool, not, ◌&&◌, ◌||◌, if◌then◌else◌, length, nat_eq, nat_le}
use Rattle.std.specs.List.{list_all, list_any, fold}
use Rattle.std.specs.Option.{option_map}
use Rattle.lucid_code.specs.declared.op.Literal.{Literal}
use Rattle.lucid_code.specs.Guards.{contradict}
use Rattle.lucid_tables.specs.declared.table.Row.{Row}
use Rattle.lucid_tables.specs.declared.table.Table.{Table}
use Rattle.lucid_tables.specs.Rows.{table}

abbrev pub is_same : Literal → Literal → Bool
is_same l m = nat_eq l.field m.field && (if l.equal then m.equal else not m.equal) && nat_eq l.value m.value

abbrev pub has : List Literal → Literal → Bool
has pattern l = list_any (is_same l) pattern

-- A pattern with one more literal, unless it has that.
abbrev pub with_literal : List Literal → Literal → List Literal
with_literal pattern l = if has pattern l then pattern else pattern ++ l ∷ []

-- The literals of both patterns, none twice.
abbrev pub union : List Literal → List Literal → List Literal
union p q = fold with_literal (fold with_literal [] p) q

-- Two rows as one: both patterns and both lists of operations.
abbrev pub pair : Row → Row → Row
pair a b = record { pattern = union a.pattern b.pattern; ops = a.ops ++ b.ops }

-- The effect of a table in which no row matches, as a last row.
abbrev pub default : Row
default = record { pattern = []; ops = [] }

-- Together the two patterns ask for two values of one field: some literal of both never holds with another of both.
abbrev pub clash : List Literal → List Literal → Bool
clash p q = contradict p p || contradict p q || contradict q q

-- A row with each of these, except the pairs that together test one field for two values.
abbrev pub pairs_with : Row → List Row → List Row
pairs_with a [] = []
pairs_with a (b ∷ rows) = if clash a.pattern b.pattern then pairs_with a rows else pair a b ∷ pairs_with a rows

-- Each row of the one table with each of the other, in lexicographic order, their defaults last; the pair of both defaults is left out.
abbrev pub pairs : List Row → List Row → List Row
pairs [] bs = pairs_with default bs
pairs (a ∷ rows) bs = pairs_with a (bs ++ default ∷ []) ++ pairs rows bs

-- All literals of the one pattern are in the other.
abbrev pub includes : List Literal → List Literal → Bool
includes p q = list_all (has p) q

-- A row is kept unless its pattern includes that of one kept before: it would never decide.
abbrev pub keep : List Row → Row → List Row
keep kept r = if list_any (λ (k : Row). includes r.pattern k.pattern) kept then kept else kept ++ r ∷ []

abbrev pub kept_of : List Row → List Row → List Row
kept_of kept rows = fold keep kept rows

unfoldable pub product : List Row → List Row → List Row
product a b = kept_of [] (pairs a b)

-- These rows, if there are no more than `rows`.
abbrev pub few_rows : ℕ → List Row → Option (List Row)
few_rows count rows = if nat_le (length rows) count then Some rows else None

-- The table of these rows, if there are no more than `rows`.
abbrev pub within : ℕ → List Row → Option Table
within count rows = option_map table (few_rows count rows)
