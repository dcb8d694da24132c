-- A table that records which of few places exist. Only contracts inside this crate cite this page.
use Rattle.std.specs.Prelude.{◌≡◌, ℕ, ◌<◌, Bool, false, List, [], ◌∷◌, ◌++◌, get_or, length, Some}
use Rattle.std.specs.List.{list_any}
use Rattle.lucid_constraints.specs.declared.pair.Atom.{Atom}
use Rattle.lucid_constraints.specs.Marks.{atom_number}
use Rattle.lucid_constraints.specs.Same.{same_atom}

-- of a place that has a number in the table it says whether the place is among these
abbrev pub Seen : List Bool → List Atom → Type 0
Seen seen places = (x : Atom) (n : ℕ) → atom_number x ≡ Some n → n < length seen → get_or seen n false ≡ list_any (same_atom x) places

-- the new table has this place besides
abbrev pub Adds : List Bool → Atom → List Bool → Type 0
Adds old place new = (places : List Atom) → Seen old places → Seen new (places ++ place ∷ [])
