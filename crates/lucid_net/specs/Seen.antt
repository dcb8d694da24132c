-- The model of a network in code.
use Rattle.std.specs.Prelude.{◌≡◌, ℕ, List, ◌++◌, Option, None, Some, Bool, false}
use Rattle.lucid_conf.specs.declared.limits.Limits.{Limits}
use Rattle.lucid_conf.specs.declared.scene.Scene.{Scene}
use Rattle.lucid_core.specs.Parts.{CoreParts}
use Rattle.lucid_net_laws.specs.Runs.{late_text}
use Rattle.lucid_net_spec.specs.Log.{end_text, ticks, whole}
use Rattle.lucid_net_spec.specs.Pieces.{pieces}
use Rattle.lucid_net_spec.specs.Ways.{Network}
use Rattle.lucid_tables.specs.Placed.{PlacedParts}
use Rattle.lucid_net.specs.Stands.{placed_of}
use Rattle.lucid_net.specs.declared.machines.Machines.{Machines}
use Rattle.lucid_net.specs.declared.world.World.{World}

-- Its world, the placed code of its pipes, if it has pipes, the number of ticks done, and whether one failed.
pub record Seen : Type 0 where
  pub parts : CoreParts
  pub scene : Scene
  pub limits : Limits
  pub placed : Option PlacedParts
  pub at : ℕ
  pub failed : Bool

abbrev pub network : Seen → Network
network net = whole net.parts net.scene net.limits

-- The ticks between the entry of an event and its block: as many as there are stages, and none if handlers run whole.
abbrev pub lag_by : Limits → Option PlacedParts → ℕ
lag_by limits None = 0
lag_by limits (Some placed) = limits.stages

abbrev pub lag : Seen → ℕ
lag net = lag_by net.limits net.placed

abbrev pub seen : World → Machines → ℕ → Bool → Seen
seen world now at failed = record { parts = world.core.now; scene = world.scene.now; limits = world.limits.now; placed = placed_of now; at = at; failed = failed }

-- They run the same.
pub record AreSame (old new : Seen) : Type 0 where
  pub parts : new.parts ≡ old.parts
  pub scene : new.scene ≡ old.scene
  pub limits : new.limits ≡ old.limits
  pub placed : new.placed ≡ old.placed

-- It runs these, and no tick is done.
pub record IsStart (program : CoreParts) (scenario : Scene) (target : Limits) (code : Option PlacedParts) (net : Seen) : Type 0 where
  pub parts : net.parts ≡ program
  pub scene : net.scene ≡ scenario
  pub limits : net.limits ≡ target
  pub placed : net.placed ≡ code
  pub at : net.at ≡ 0
  pub failed : net.failed ≡ false

-- The text after the last tick: the packets in flight, and the end.
abbrev pub last_text : Network → ℕ → List ℕ
last_text net late = pieces (late_text net late) net.scene.stop late ++ end_text net (ticks net net.scene.stop)
