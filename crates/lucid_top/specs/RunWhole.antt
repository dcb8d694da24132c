-- `run whole P L T`: the log of the network of a scenario, whose switches run the handlers of a program whole, under the limits of a target.
use Rattle.std.specs.Prelude.{◌≡◌, Ok}
use Rattle.lucid_net_spec.specs.Log.{log, whole}
use Rattle.lucid_top.specs.Pipes.{IsTarget, Target}
use Rattle.lucid_top_program.specs.Settings.{IsScenario}
use Rattle.lucid_top_words.specs.Outcome.{Outcome, FollowedBy}
use Rattle.lucid_top_words.specs.Words.{Bytes}

-- the log of the network that the text of a scenario sets up, or why it sets up none
abbrev pub RunsUnder : Bytes → Target → Outcome → Type 0
RunsUnder scenario under o = FollowedBy (IsScenario under.core scenario) (λ scene p. p ≡ Ok (log (whole under.core scene under.limits))) o

-- the log by the texts of the three files
abbrev pub RunWholeAnswers : Bytes → Bytes → Bytes → Outcome → Type 0
RunWholeAnswers program limits scenario o = FollowedBy (IsTarget program limits) (RunsUnder scenario) o
