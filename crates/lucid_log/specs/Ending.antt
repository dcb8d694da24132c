-- The last line of a network's run.
use Rattle.std.specs.Prelude.{ℕ, List, ◌++◌, codes, decimal}

-- `entered N lost N pending N`
abbrev pub ending_text : ℕ → ℕ → ℕ → List ℕ
ending_text entered lost pending =
    codes "entered " ++ decimal entered ++ codes " lost " ++ decimal lost ++ codes " pending " ++ decimal pending ++ codes "\n"
