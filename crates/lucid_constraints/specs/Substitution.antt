-- A function's pairs and ends in the names of a caller, which passes it these arrays and calls it at the places `start`.
use Rattle.std.specs.Prelude.{List, [], ◌∷◌, map}
use Rattle.lucid_base.specs.Arrays.{name_at}
use Rattle.lucid_base.specs.declared.array.ArrayName.{ArrayName}
use Rattle.lucid_constraints.specs.declared.pair.Atom.{Atom}
use Rattle.lucid_constraints.specs.declared.pair.Atom.TheVariants.{Start, After}
use Rattle.lucid_constraints.specs.declared.pair.Pair.{Pair}
use Rattle.lucid_constraints.specs.Same.{same_atom, same_pair, join_all}

-- the place comes before the array
abbrev pub pair : ArrayName → Atom → Pair
pair array atom = record { atom = atom; array = array }

-- the caller's places for a place of the function
abbrev pub atoms_at : List ArrayName → List Atom → Atom → List Atom
atoms_at names start Start = start
atoms_at names start (After x) = After (name_at names x) ∷ []

-- the caller's pairs for a pair of the function
abbrev pub pairs_at : List ArrayName → List Atom → Pair → List Pair
pairs_at names start p = map (pair (name_at names p.array)) (atoms_at names start p.atom)

-- the caller's pairs for all of them, joined to those that are done
abbrev pub needs_from : List ArrayName → List Atom → List Pair → List Pair → List Pair
needs_from names start done [] = done
needs_from names start done (p ∷ ps) = needs_from names start (join_all same_pair done (pairs_at names start p)) ps

-- the caller's places for all of them, joined to those that are done
abbrev pub ends_from : List ArrayName → List Atom → List Atom → List Atom → List Atom
ends_from names start done [] = done
ends_from names start done (x ∷ xs) = ends_from names start (join_all same_atom done (atoms_at names start x)) xs
