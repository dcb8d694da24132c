-- The pipe of a switch.
use Rattle.std.proofs.Common.{◌≡◌, ℕ, ◌<◌, ◌≤◌, Option, None, Some, IfSome}
use Rattle.lucid_pipe.specs.Pipe.{PipeParts}
use Rattle.lucid_pipe.specs.Sights.{sight_of}
use Rattle.lucid_net.specs.Holds.{Holds}
use Rattle.lucid_net.specs.Numbered.{PipeIs}
use Rattle.lucid_net.specs.Pipes.{piped_of}
use Rattle.lucid_net.specs.Rows.{PipeStands}
use Rattle.lucid_net.specs.Sent.{net_of}
use Rattle.lucid_net.specs.Sights.{sight_at}
use Rattle.lucid_net.specs.Stands.{IsAt, placed_of}
use Rattle.lucid_net.specs.declared.machines.Machines.TheVariants as machines
use Rattle.lucid_net.specs.declared.machines.Machines.{Machines}
use Rattle.lucid_net.specs.declared.world.World.{World}
use Rattle.lucid_net.proofs.Holding.{holds}
use Rattle.lucid_net.proofs.Piping.{pipe_between}
use Rattle.lucid_net.proofs.Sighting.{sight_between}

pub pipe_stands : {T : Type 0} (world : World) (now : Machines) (at switch : ℕ) (of : T → PipeParts) (o : Option T) → switch < world.scene.now.switches → IsAt (net_of world) at now → IfSome o (λ p. PipeIs now switch (of p)) →
    IfSome o (λ p. IfSome (placed_of now) (λ placed. PipeStands (net_of world) placed switch at (of p)))
pipe_stands world now at switch of None lt is pipe = tt
pipe_stands world (machines.Whole switches) at switch of (Some p) lt is pipe = tt
pipe_stands world (machines.Piped pipes) at switch of (Some p) lt is pipe = pipe_between (net_of world) pipes.placed.now at switch (piped_of pipes) (of p) lt is.piped pipe

pub pipe_holds : {T : Type 0} (world : World) (now : Machines) (at switch : ℕ) (of : T → PipeParts) (o : Option T) → switch < world.scene.now.switches → at ≤ world.scene.now.stop → IsAt (net_of world) at now → IfSome o (λ p. PipeIs now switch (of p)) →
    IfSome o (λ p. IfSome (placed_of now) (λ placed. Holds (net_of world) placed at switch (of p)))
pipe_holds world now at switch of None lt within is pipe = tt
pipe_holds world (machines.Whole switches) at switch of (Some p) lt within is pipe = tt
pipe_holds world (machines.Piped pipes) at switch of (Some p) lt within is pipe = holds (net_of world) pipes.placed.now at switch (piped_of pipes) (of p) is.ready lt within is.piped pipe

pub pipe_seen : {T : Type 0} (world : World) (now : Machines) (at switch : ℕ) (of : T → PipeParts) (o : Option T) → switch < world.scene.now.switches → at ≤ world.scene.now.stop → IsAt (net_of world) at now → IfSome o (λ p. PipeIs now switch (of p)) →
    IfSome o (λ p. IfSome (placed_of now) (λ placed. sight_of switch (of p) ≡ sight_at (net_of world) placed at switch))
pipe_seen world now at switch of None lt within is pipe = tt
pipe_seen world (machines.Whole switches) at switch of (Some p) lt within is pipe = tt
pipe_seen world (machines.Piped pipes) at switch of (Some p) lt within is pipe = sight_between (net_of world) pipes.placed.now at switch (piped_of pipes) (of p) is.ready lt within is.piped pipe
