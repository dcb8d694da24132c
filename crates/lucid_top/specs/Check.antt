-- `check P`: the declarations of a program, if all its functions and handlers call arrays in order.
use Rattle.std.specs.Prelude.{◌≡◌, ◌++◌, Ok, codes, decimal, length}
use Rattle.lucid_core.specs.Parts.{CoreParts}
use Rattle.lucid_top_words.specs.Outcome.{Outcome, FollowedBy}
use Rattle.lucid_top_program.specs.Program.{IsProgram}
use Rattle.lucid_top_words.specs.Words.{Bytes}

-- how many declarations of each kind there are
abbrev pub counts_line : CoreParts → Bytes
counts_line core =
    codes "ok arrays " ++ decimal (length core.arrays)
    ++ codes " memops " ++ decimal (length core.memops)
    ++ codes " events " ++ decimal (length core.events)
    ++ codes " handlers " ++ decimal (length core.handlers)
    ++ codes " functions " ++ decimal (length core.funs)
    ++ codes "\n"

-- the line of the program of this text
abbrev pub CheckAnswers : Bytes → Outcome → Type 0
CheckAnswers text o = FollowedBy (IsProgram text) (λ core p. p ≡ Ok (counts_line core)) o
