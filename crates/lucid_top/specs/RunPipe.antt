-- `run pipe P L T`: the network of a scenario on pipelines. Its text is the log of handlers that run whole.
use Rattle.std.specs.Prelude.{◌≡◌, List, Result, Ok}
use Rattle.lucid_net.specs.Wanting.{StopsAt}
use Rattle.lucid_net_spec.specs.Log.{log}
use Rattle.lucid_pipe.specs.declared.sight.Sight.{Sight}
use Rattle.lucid_top.specs.Pipes.{IsReady, Ready, network_of, sights_of}
use Rattle.lucid_top_fit.specs.Passes.{PassView}
use Rattle.lucid_top_words.specs.declared.refusal.Refusal.{Refusal}
use Rattle.lucid_top_words.specs.Outcome.{FollowedBy, IsTheAnswer, Outcome}
use Rattle.lucid_top_words.specs.Words.{Bytes}

-- the log by the texts of the three files
abbrev pub RunPipeAnswers : Bytes → Bytes → Bytes → List PassView → Outcome → Type 0
RunPipeAnswers program limits scenario passes o = FollowedBy (IsReady program limits scenario passes) (λ r p. p ≡ Ok (log (network_of r))) o

-- the run may run out of memory after these bytes of the log: at a tick at which an event has to wait
pub record StopsPiped (program limits scenario : Bytes) (passes : List PassView) (begun : Bytes) : Type 0 where
  pub runs : Ready
  pub is : IsTheAnswer (IsReady program limits scenario passes) (Ok runs)
  pub stops : StopsAt (network_of runs) begun

-- the sights of a watch
abbrev pub RunPipeShows : Bytes → Bytes → Bytes → List PassView → Result (List Sight) Refusal → Type 0
RunPipeShows program limits scenario passes o = FollowedBy (IsReady program limits scenario passes) (λ r p. p ≡ Ok (sights_of r)) o
