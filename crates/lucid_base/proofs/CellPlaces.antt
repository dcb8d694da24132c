-- Where a cell lies: a cell below the size is its own place.
use Rattle.std.proofs.Common.{◌≡◌, ◌<◌, ℕ, List, length}
use Rattle.std.proofs.Math.Nat.{mod-eq_of_lt}
use Rattle.lucid_base.specs.Cells.{place_of}

pub below_is_place : (row : List ℕ) (cell : ℕ) → cell < length row → place_of row cell ≡ cell
below_is_place row cell below = mod-eq_of_lt below
