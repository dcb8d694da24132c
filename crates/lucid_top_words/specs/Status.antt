-- The exit code of each status, and which statuses words and files determine.
use Rattle.std.specs.Prelude.{ℕ}
use Rattle.lucid_top_words.specs.declared.status.Status.{Status}
use Rattle.lucid_top_words.specs.declared.status.Status.TheVariants as status

-- the process's exit code
abbrev pub code_of : Status → ℕ
code_of status.Ok = 0
code_of status.Usage = 1
code_of status.ReadFault = 2
code_of status.TooLong = 3
code_of status.Syntax = 4
code_of status.Types = 5
code_of status.Order = 6
code_of status.NoFit = 7
code_of status.BadLimits = 8
code_of status.BadScene = 9
code_of status.WriteFault = 10
code_of status.Memory = 11
code_of status.BadPlacement = 12
code_of status.BadSizes = 13

-- words and files determine it: no call failed, and memory did not run out
abbrev pub IsDetermined : Status → Type 0
IsDetermined status.ReadFault = ⊥
IsDetermined status.WriteFault = ⊥
IsDetermined status.Memory = ⊥
IsDetermined other = Unit {0}
