-- The runs in code, as the definitions see them.
use Rattle.std.specs.Prelude.{Bool, false, not}
use Rattle.lucid_base.specs.declared.event.Out.TheVariants.{Gen, Say}
use Rattle.lucid_base.specs.declared.event.Out.{Out}
use Rattle.lucid_net_spec.specs.Log.{whole}
use Rattle.lucid_net_spec.specs.Ways.{Network, Run, is_lost}
use Rattle.lucid_net.specs.declared.world.Ran.{Ran}
use Rattle.lucid_net.specs.declared.world.World.{World}

abbrev pub net_of : World → Network
net_of world = whole world.core.now world.scene.now world.limits.now

abbrev pub run_of : Ran → Run
run_of ran = record { tick = ran.tick; switch = ran.switch; event = ran.event.now; outs = ran.outs.now }

-- Whether an out of a run waits: an event that isn't lost.
abbrev pub makes : Network → Run → Out → Bool
makes net run (Gen event delay to) = not (is_lost net run (Gen event delay to))
makes net run (Say form args) = false
