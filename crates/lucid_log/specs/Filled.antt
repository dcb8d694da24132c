-- The texts of prints.
use Rattle.std.specs.Prelude.{ℕ, List, [], ◌∷◌, ◌++◌, ◌&&◌, if◌then◌else◌, nat_eq, decimal}

-- The text with its first `%d` replaced by the first number, its next by the next, and so on; 37 is '%' and 100 is 'd'.
abbrev pub filled : List ℕ → List ℕ → List ℕ
filled [] numbers = []
filled (a ∷ []) numbers = a ∷ []
filled (a ∷ b ∷ rest) [] = a ∷ b ∷ rest
filled (a ∷ b ∷ rest) (n ∷ numbers) =
    if nat_eq a 37 && nat_eq b 100 then decimal n ++ filled rest numbers else a ∷ filled (b ∷ rest) (n ∷ numbers)
