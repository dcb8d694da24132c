-- Placements from a file: `audit P L Q` prints them as a layout, and `run placed P L T Q` runs a network on them.
use Rattle.std.specs.Prelude.{◌≡◌, List, Result, Ok, length, map}
use Rattle.lucid_code.specs.Nodes.{nodes}
use Rattle.lucid_conf.specs.declared.scene.Scene.{Scene}
use Rattle.lucid_net.specs.Wanting.{StopsAt}
use Rattle.lucid_net_spec.specs.Log.{log}
use Rattle.lucid_pipe.specs.declared.sight.Sight.{Sight}
use Rattle.lucid_top.specs.Layout.{fit_text}
use Rattle.lucid_top.specs.Pipes.{IsTarget, Piped, Ready, Target, network_of, piped, ready, sights_of}
use Rattle.lucid_top_fit.specs.Fit.{IsComposed, Composed, fit_of}
use Rattle.lucid_top_fit.specs.Passes.{PassView}
use Rattle.lucid_top_fit.specs.Placing.{IsAudited, IsCounted, IsPlan}
use Rattle.lucid_top_program.specs.Settings.{IsScenario}
use Rattle.lucid_top_words.specs.declared.refusal.Refusal.{Refusal}
use Rattle.lucid_top_words.specs.Outcome.{FollowedBy, IsTheAnswer, Outcome}
use Rattle.lucid_top_words.specs.Words.{Bytes}

-- a target, and the code that passes make of its program, of which the counts keep their limits
pub record Measured : Type 0 where
  pub under : Target
  pub made : Composed

abbrev pub measured : Target → Composed → Measured
measured under made = record { under = under; made = made }

-- the counts of the code keep the limits of the target
abbrev pub IsMeasuredAs : Target → Composed → Result Measured Refusal → Type 0
IsMeasuredAs under made o = FollowedBy (IsCounted under.core under.limits made.code) (λ code p. p ≡ Ok (measured under made)) o

abbrev pub IsMeasuredIn : List PassView → Target → Result Measured Refusal → Type 0
IsMeasuredIn passes under o = FollowedBy (IsComposed under.core passes) (IsMeasuredAs under) o

abbrev pub IsMeasured : Bytes → Bytes → List PassView → Result Measured Refusal → Type 0
IsMeasured program limits passes o = FollowedBy (IsTarget program limits) (IsMeasuredIn passes) o

-- the placement file's places are those of this code, and keep the rules
abbrev pub IsAuditedIn : Bytes → Measured → Result Piped Refusal → Type 0
IsAuditedIn placement m o =
    FollowedBy (IsPlan placement (length (nodes m.made.code.ops)))
    (λ plan. FollowedBy (IsAudited m.under.limits m.made.code plan) (λ placed p. p ≡ Ok (piped m.under (fit_of m.made.gone placed)))) o

-- ---- `audit P L Q`

abbrev pub IsAudit : Bytes → Bytes → Bytes → List PassView → Result Piped Refusal → Type 0
IsAudit program limits placement passes o = FollowedBy (IsMeasured program limits passes) (IsAuditedIn placement) o

-- the lines of the accepted placement, as those of a layout
abbrev pub AuditAnswers : Bytes → Bytes → Bytes → List PassView → Outcome → Type 0
AuditAnswers program limits placement passes o =
    FollowedBy (IsAudit program limits placement passes) (λ p text. text ≡ Ok (fit_text (map PassView.name passes) p.fitted)) o

-- ---- `run placed P L T Q`

-- pipelines with these places, for this scenario
abbrev pub IsPlacedOn : Scene → Bytes → Measured → Result Ready Refusal → Type 0
IsPlacedOn scene placement m o = FollowedBy (IsAuditedIn placement m) (λ pipes p. p ≡ Ok (ready pipes scene)) o

-- the scenario comes before the places
abbrev pub IsReadyOn : Bytes → Bytes → Measured → Result Ready Refusal → Type 0
IsReadyOn scenario placement m o = FollowedBy (IsScenario m.under.core scenario) (λ scene. IsPlacedOn scene placement m) o

abbrev pub IsReadyPlaced : Bytes → Bytes → Bytes → Bytes → List PassView → Result Ready Refusal → Type 0
IsReadyPlaced program limits scenario placement passes o = FollowedBy (IsMeasured program limits passes) (IsReadyOn scenario placement) o

-- the log by the texts of the four files: that of handlers that run whole, as by `run pipe`
abbrev pub RunPlacedAnswers : Bytes → Bytes → Bytes → Bytes → List PassView → Outcome → Type 0
RunPlacedAnswers program limits scenario placement passes o =
    FollowedBy (IsReadyPlaced program limits scenario placement passes) (λ r p. p ≡ Ok (log (network_of r))) o

abbrev pub RunPlacedShows : Bytes → Bytes → Bytes → Bytes → List PassView → Result (List Sight) Refusal → Type 0
RunPlacedShows program limits scenario placement passes o =
    FollowedBy (IsReadyPlaced program limits scenario placement passes) (λ r p. p ≡ Ok (sights_of r)) o

-- the run may run out of memory after these bytes of the log
pub record StopsPlaced (program limits scenario placement : Bytes) (passes : List PassView) (begun : Bytes) : Type 0 where
  pub runs : Ready
  pub is : IsTheAnswer (IsReadyPlaced program limits scenario placement passes) (Ok runs)
  pub stops : StopsAt (network_of runs) begun
