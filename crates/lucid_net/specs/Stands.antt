-- The invariant of a network in code: until a tick fails, its switches are those of the definition.
use Rattle.std.specs.Prelude.{◌≡◌, ℕ, ◌≤◌, [], Option, None, Some, Bool, false}
use Rattle.lucid_conf.specs.Kept.{IsScene}
use Rattle.lucid_net_spec.specs.Log.{State, ticks}
use Rattle.lucid_net_spec.specs.Pieces.{untold}
use Rattle.lucid_net_spec.specs.Ways.{Network}
use Rattle.lucid_tables.specs.Placed.{PlacedParts}
use Rattle.lucid_net.specs.Kept.{IsKept}
use Rattle.lucid_net.specs.Pipes.{IsPiped, IsReady, Piped, piped_of}
use Rattle.lucid_net.specs.Sent.{net_of}
use Rattle.lucid_net.specs.declared.machines.Machines.TheVariants as machines
use Rattle.lucid_net.specs.declared.machines.Machines.{Machines}
use Rattle.lucid_net.specs.declared.switches.Switches.{Switches}
use Rattle.lucid_net.specs.declared.world.World.{World}

-- The state of the switches, with nothing written.
abbrev pub state_of : Switches → State
state_of now = record { cells = now.cells.items; pending = now.queue; text = []; entered = now.entered; lost = now.lost }

abbrev pub placed_of : Machines → Option PlacedParts
placed_of (machines.Whole switches) = None
placed_of (machines.Piped pipes) = Some pipes.placed.now

-- The switches are those of the definition after this many ticks.
pub record IsWholeAt (net : Network) (tick : ℕ) (now : State) : Type 0 where
  pub state : now ≡ untold (ticks net tick)
  pub kept : IsKept net.parts net.scene.switches tick 0 now

pub record IsPipedAt (net : Network) (placed : PlacedParts) (tick : ℕ) (now : Piped) : Type 0 where
  pub ready : IsReady net placed
  pub piped : IsPiped net placed tick 0 now

abbrev pub IsAt : Network → ℕ → Machines → Type 0
IsAt net tick (machines.Whole switches) = IsWholeAt net tick (state_of switches)
IsAt net tick (machines.Piped pipes) = IsPipedAt net pipes.placed.now tick (piped_of pipes)

-- A network keeps the invariants of its scenario, and until a tick fails its switches are those of the definition.
pub record Stands (world : World) (now : Machines) (at : ℕ) (failed : Bool) : Type 0 where
  pub scene : IsScene world.core.now world.scene.now
  pub within : at ≤ world.scene.now.stop
  pub is : failed ≡ false → IsAt (net_of world) at now
