-- Lists of numbers: whether a number is in one, and whether no number occurs twice.
use Rattle.std.specs.Prelude.{ℕ, List, [], ◌∷◌, Bool, true, not, ◌&&◌, nat_eq}
use Rattle.std.specs.List.{list_any}

abbrev pub is_in : ℕ → List ℕ → Bool
is_in k numbers = list_any (λ j. nat_eq j k) numbers

abbrev pub all_differ : List ℕ → Bool
all_differ [] = true
all_differ (k ∷ numbers) = not (is_in k numbers) && all_differ numbers
