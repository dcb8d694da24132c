-- Numbers of names that are raised until they rise along the constraints. Only contracts inside this crate cite this page.
use Rattle.std.specs.Prelude.{ℕ, zero, suc, ◌-◌, max, Bool, true, false, ◌&&◌, ◌||◌, nat_lt, List, fold, slice_index_or, slice_set}
use Rattle.std.specs.Option.{option_map_or}
use Rattle.lucid_base.specs.Saturating.{saturating_next}
use Rattle.lucid_base.specs.declared.array.ArrayName.{ArrayName}
use Rattle.lucid_base.specs.declared.array.ArrayName.TheVariants.{Global}
use Rattle.lucid_constraints.specs.declared.pair.Atom.{Atom}
use Rattle.lucid_constraints.specs.declared.pair.Atom.TheVariants.{Start, After}
use Rattle.lucid_constraints.specs.declared.pair.Pair.{Pair}
use Rattle.lucid_constraints.specs.Marks.{name_number}
use Rattle.lucid_constraints.specs.Means.{allow_all}

-- the number of a name, 0 where there is no place for it
abbrev pub number_of : List ℕ → ArrayName → ℕ
number_of numbers x = option_map_or (λ n. slice_index_or numbers n 0) (name_number x) 0

-- the second is moved above the first, unless it is there
abbrev pub lifted : ArrayName → ArrayName → List ℕ → List ℕ
lifted x y numbers = option_map_or (λ n. slice_set numbers n (max (slice_index_or numbers n 0) (saturating_next (number_of numbers x)))) (name_number y) numbers

-- so along a pair
abbrev pub lifted_by : Atom → ArrayName → List ℕ → List ℕ
lifted_by Start y numbers = numbers
lifted_by (After x) y numbers = lifted x y numbers

-- along all pairs
abbrev pub lifted_along : List ℕ → List Pair → List ℕ
lifted_along numbers pairs = fold (λ ns p. lifted_by p.atom p.array ns) numbers pairs

-- and along the declared arrays up to this one
abbrev pub lifted_to : ℕ → List ℕ → List ℕ
lifted_to zero numbers = numbers
lifted_to (suc a) numbers = lifted (Global a) (Global (suc a)) (lifted_to a numbers)

-- the numbers of the declared arrays up to this one rise
abbrev pub rise_to : List ℕ → ℕ → Bool
rise_to numbers zero = true
rise_to numbers (suc a) = rise_to numbers a && nat_lt (number_of numbers (Global a)) (number_of numbers (Global (suc a)))

-- they rise along all that must come first
abbrev pub rise : List ℕ → List Pair → ℕ → Bool
rise numbers pairs arrays = allow_all (number_of numbers) 0 pairs && rise_to numbers (arrays - 1)

-- they do once they were lifted fewer times than these
unfoldable pub settle : ℕ → List Pair → ℕ → List ℕ → Bool
settle zero pairs arrays numbers = false
settle (suc rounds) pairs arrays numbers = rise numbers pairs arrays || settle rounds pairs arrays (lifted_to (arrays - 1) (lifted_along numbers pairs))
