-- Whether the tables of a caller and of a function show that the caller asks for all that the function asks. Only contracts inside this
-- crate cite this page.
use Rattle.std.specs.Prelude.{◌≡◌, ℕ, ◌+◌, ◌*◌, ◌<◌, ◌≤◌, Bool, true, false, if◌then◌else◌, nat_lt, List, [], ◌∷◌, get_or, Some}
use Rattle.lucid_base.specs.Arrays.{name_at}
use Rattle.lucid_base.specs.declared.array.ArrayName.{ArrayName}
use Rattle.lucid_base.specs.declared.array.ArrayName.TheVariants.{Param}
use Rattle.lucid_constraints.specs.declared.pair.Atom.{Atom}
use Rattle.lucid_constraints.specs.Marks.{atom_number, name_number}

-- the caller's number of a function's name, given the numbers of the arrays that the 8 parameters represent
abbrev pub moved : List ℕ → ℕ → ℕ
moved places n = if nat_lt n 8 then get_or places n 0 else n

-- these are, below this number
abbrev pub ArePlacesTo : List ArrayName → List ℕ → ℕ → Type 0
ArePlacesTo names places end = (i : ℕ) → i < end → name_number (name_at names (Param i)) ≡ Some (get_or places i 0)

-- each mark of the one table after `from` is in the other after `to`: declared arrays below this number
abbrev pub GlobalsHeld : List Bool → ℕ → List Bool → ℕ → ℕ → Type 0
GlobalsHeld theirs from ours to end = (n : ℕ) → 8 ≤ n → n < end → get_or theirs (from + n) false ≡ true → get_or ours (to + n) false ≡ true

-- and array parameters below this number
abbrev pub ParamsHeld : List ℕ → List Bool → ℕ → List Bool → ℕ → ℕ → Type 0
ParamsHeld places theirs from ours to end = (n : ℕ) → n < end → get_or theirs (from + n) false ≡ true → get_or ours (to + get_or places n 0) false ≡ true

-- each mark of the one table from the place `from` on is in the other from the place `to` on, by the caller's names
abbrev pub RowHeld : List ℕ → List Bool → ℕ → List Bool → ℕ → Type 0
RowHeld places theirs from ours to = (n : ℕ) → n < 72 → get_or theirs (from + n) false ≡ true → get_or ours (to + moved places n) false ≡ true

-- so are the pairs of a function's names
abbrev pub RowsHeldTo : List ℕ → List Bool → List Bool → ℕ → Type 0
RowsHeldTo places theirs ours end = (k : ℕ) → k < end → RowHeld places theirs ((1 + k) * 72) ours ((1 + moved places k) * 72)

-- and those with the start, at this place of the caller
abbrev pub StartHeld : List ℕ → List Bool → List Bool → Atom → Type 0
StartHeld places theirs ours x = (r : ℕ) × (atom_number x ≡ Some r) × RowHeld places theirs 0 ours (r * 72)

-- at each of these places
abbrev pub StartsHeld : List ℕ → List Bool → List Bool → List Atom → Type 0
StartsHeld places theirs ours [] = Unit {0}
StartsHeld places theirs ours (x ∷ xs) = StartHeld places theirs ours x × StartsHeld places theirs ours xs
