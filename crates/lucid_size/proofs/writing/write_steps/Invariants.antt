use Rattle.std.proofs.Common.{◌≡◌, ◌++◌, [], drop}
use Rattle.lucid_lex.specs.Reading.{joined}
use Rattle.lucid_size.specs.Pieces.{pieces_of}
use Rattle.lucid_size.proofs.writing.write_steps.Given as goal

-- what is written so far, and then what is left
abbrev pub invariant-loop-step : goal.invariant-loop-step
invariant-loop-step l = l.out.items ++ joined (pieces_of l.text l.underscores l.width (drop l.step-index l.steps)) [] ≡ l.fn.out.items ++ joined (pieces_of l.text l.underscores l.width l.steps) []
