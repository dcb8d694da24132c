-- `snap P L T K`: `drive P L T` with a snapshot that is taken after K steps.
use Rattle.std.specs.Prelude.{◌≡◌, ℕ, List, Ok}
use Rattle.lucid_snap.specs.Log.{snap_log}
use Rattle.lucid_top.specs.Drive.{driven}
use Rattle.lucid_top.specs.Pipes.{IsReady}
use Rattle.lucid_top_fit.specs.Passes.{PassView}
use Rattle.lucid_top_words.specs.Outcome.{FollowedBy, Outcome}
use Rattle.lucid_top_words.specs.Words.{Bytes}

-- the log of the drive, and then the cells of the handlers of all events that had entered before the snapshot
abbrev pub SnapAnswers : ℕ → Bytes → Bytes → Bytes → List PassView → Outcome → Type 0
SnapAnswers steps program limits scenario passes o =
    FollowedBy (IsReady program limits scenario passes) (λ r p. p ≡ Ok (snap_log (driven r) steps)) o
