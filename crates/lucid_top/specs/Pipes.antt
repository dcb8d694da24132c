-- The setup of commands over pipelines: a program under the limits of a target, its layout, and a scenario.
use Rattle.std.specs.Prelude.{◌≡◌, List, Some, Result, Ok}
use Rattle.lucid_code.specs.Parts as code
use Rattle.lucid_conf.specs.declared.limits.Limits.{Limits}
use Rattle.lucid_conf.specs.declared.scene.Scene.{Scene}
use Rattle.lucid_core.specs.Parts.{CoreParts}
use Rattle.lucid_net.specs.Sights.{sights_to}
use Rattle.lucid_net_spec.specs.Log.{whole}
use Rattle.lucid_net_spec.specs.Ways.{Network}
use Rattle.lucid_pipe.specs.declared.sight.Sight.{Sight}
use Rattle.lucid_top_fit.specs.Fit.{Fit, IsFitted, RunsOn}
use Rattle.lucid_top_fit.specs.Passes.{PassView}
use Rattle.lucid_top_program.specs.Program.{IsProgram}
use Rattle.lucid_top_program.specs.Settings.{IsLimits, IsScenario}
use Rattle.lucid_top_words.specs.declared.refusal.Refusal.{Refusal}
use Rattle.lucid_top_words.specs.Outcome.{FollowedBy}
use Rattle.lucid_top_words.specs.Words.{Bytes}

-- a program, and the limits of a target
pub record Target : Type 0 where
  pub core : CoreParts
  pub limits : Limits

abbrev pub target : CoreParts → Limits → Target
target core limits = record { core = core; limits = limits }

-- the program under the limits that a text writes
abbrev pub IsUnder : CoreParts → Bytes → Result Target Refusal → Type 0
IsUnder core limits o = FollowedBy (IsLimits limits) (λ l p. p ≡ Ok (target core l)) o

-- the setup of the texts of a program and of limits
abbrev pub IsTarget : Bytes → Bytes → Result Target Refusal → Type 0
IsTarget program limits o = FollowedBy (IsProgram program) (λ core. IsUnder core limits) o

-- the passes of a call with these texts are run on this code
pub record RunsCode (program limits : Bytes) (now : code.CodeParts) : Type 0 where
  pub under : Target
  pub is : IsTarget program limits (Ok under)
  pub runs : RunsOn under.core now

-- ---- pipelines

-- a program that is placed in the stages of a target
pub record Piped : Type 0 where
  pub under : Target
  pub fitted : Fit

abbrev pub piped : Target → Fit → Piped
piped under fitted = record { under = under; fitted = fitted }

-- first fit places the code that the passes make of the program
abbrev pub IsPlacedIn : List PassView → Target → Result Piped Refusal → Type 0
IsPlacedIn passes under o = FollowedBy (IsFitted under.core under.limits passes) (λ fitted p. p ≡ Ok (piped under fitted)) o

-- the pipeline that the texts of a program and of limits set up
abbrev pub IsPiped : Bytes → Bytes → List PassView → Result Piped Refusal → Type 0
IsPiped program limits passes o = FollowedBy (IsTarget program limits) (IsPlacedIn passes) o

-- ---- pipelines and a scenario

-- pipelines that are ready to run
pub record Ready : Type 0 where
  pub pipes : Piped
  pub scene : Scene

abbrev pub ready : Piped → Scene → Ready
ready pipes scene = record { pipes = pipes; scene = scene }

abbrev pub IsSet : Bytes → Piped → Result Ready Refusal → Type 0
IsSet scenario pipes o = FollowedBy (IsScenario pipes.under.core scenario) (λ scene p. p ≡ Ok (ready pipes scene)) o

-- the setup of the texts of a program, of limits and of a scenario
abbrev pub IsReady : Bytes → Bytes → Bytes → List PassView → Result Ready Refusal → Type 0
IsReady program limits scenario passes o = FollowedBy (IsPiped program limits passes) (IsSet scenario) o

-- the network that runs its events whole, one after another
abbrev pub network_of : Ready → Network
network_of r = whole r.pipes.under.core r.scene r.pipes.under.limits

-- the sights of a network: after each tick the pipe of each switch
abbrev pub sights_of : Ready → List Sight
sights_of r = sights_to (network_of r) (Some r.pipes.fitted.placed) r.scene.stop
