-- Bools as numbers.
use Rattle.std.specs.Prelude.{ℕ, Bool, true, false}

-- 1 where it holds, else 0
abbrev pub bit_of : Bool → ℕ
bit_of false = 0
bit_of true = 1
