-- The rows of a table that a row of another goes with.
use Rattle.std.specs.Prelude.{◌≡◌, ◌≤◌, ℕ, List, Option, Some, None, Bool, true, false, not, ◌&&◌, length, map, slice_get}
use Rattle.lucid_code.specs.declared.op.Literal.{Literal}
use Rattle.lucid_code.specs.Guards.{contradict}
use Rattle.lucid_tables.specs.declared.table.Row.{Row}
use Rattle.lucid_merge.specs.Product.{pair, pairs_with}
use Rattle.lucid_merge.specs.Standing.{rows_at}

abbrev pub goes_with : List Literal → Option Row → Bool
goes_with p None = false
goes_with p (Some b) = not (contradict p b.pattern) && not (contradict b.pattern b.pattern)

-- The row at the position exists, and neither contradicts the pattern nor itself.
abbrev pub is_partner : List Row → List Literal → ℕ → Bool
is_partner rows p place = goes_with p (slice_get rows place)

-- These are the positions of all rows.
abbrev pub AreAll : List Row → List ℕ → Type 0
AreAll rows places = (rows_at rows places ≡ rows) × (length places ≡ length rows)

-- The row has no pair with a row at another position.
abbrev pub HaveAllPairs : Row → List Row → List ℕ → Type 0
HaveAllPairs a rows places = (pairs_with a (rows_at rows places) ≡ pairs_with a rows) × (length places ≤ length rows)

-- The row contradicts itself; or it makes all its pairs with the rows at these positions.
abbrev pub ArePartners : Row → List Row → Option (List ℕ) → Type 0
ArePartners a rows None = contradict a.pattern a.pattern ≡ true
ArePartners a rows (Some places) =
    (contradict a.pattern a.pattern ≡ false) × (map (pair a) (rows_at rows places) ≡ pairs_with a rows) × (length places ≤ length rows)
