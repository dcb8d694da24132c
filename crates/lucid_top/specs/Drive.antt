-- `drive P L T`: the steps of a scenario on one pipeline. Its text is the log of handlers that run whole.
use Rattle.std.specs.Prelude.{◌≡◌, List, Result, Ok}
use Rattle.lucid_drive.specs.Drive.{Drive, drive_log}
use Rattle.lucid_drive.specs.Sights.{sights}
use Rattle.lucid_pipe.specs.declared.sight.Sight.{Sight}
use Rattle.lucid_top.specs.Pipes.{IsReady, Ready}
use Rattle.lucid_top_fit.specs.Passes.{PassView}
use Rattle.lucid_top_words.specs.declared.refusal.Refusal.{Refusal}
use Rattle.lucid_top_words.specs.Outcome.{FollowedBy, Outcome}
use Rattle.lucid_top_words.specs.Words.{Bytes}

-- the inputs of the drive
abbrev pub driven : Ready → Drive
driven r = record { parts = r.pipes.under.core; stages = r.pipes.fitted.placed.stages; scene = r.scene }

-- the log by the texts of the three files
abbrev pub DriveAnswers : Bytes → Bytes → Bytes → List PassView → Outcome → Type 0
DriveAnswers program limits scenario passes o = FollowedBy (IsReady program limits scenario passes) (λ r p. p ≡ Ok (drive_log (driven r))) o

-- the sights of a watch: after each step the pipe
abbrev pub DriveShows : Bytes → Bytes → Bytes → List PassView → Result (List Sight) Refusal → Type 0
DriveShows program limits scenario passes o = FollowedBy (IsReady program limits scenario passes) (λ r p. p ≡ Ok (sights (driven r))) o
