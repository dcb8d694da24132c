use Rattle.std.proofs.Common.{◌≡◌, ◌+◌, ◌-◌, ◌<◌, ℕ, refl, ◌∙◌, subst, arith}
use Rattle.std.proofs.lemmas.Grind.{moves}
use Rattle.lucid_io.proofs.Leaves.{Leaves-after}
use Rattle.lucid_net_laws.specs.Runs.{late_text, left_text}
use Rattle.lucid_net_spec.proofs.Telling.{pieces-next}
use Rattle.lucid_net_spec.specs.Pieces.{pieces}
use Rattle.lucid_tables.specs.Placed.{PlacedParts}
use Rattle.lucid_net.specs.Pipes.{IsPiped, piped_of}
use Rattle.lucid_net.specs.Sent.{net_of}
use Rattle.lucid_net.proofs.Loops.{tick_text_first}
use Rattle.lucid_net.proofs.Piping.{piped_next}
use Rattle.lucid_net.proofs.Telling.{Writes-stop}
use Rattle.lucid_net.proofs.pipes.all_turns.Goals as goal

pub loop-switch-init : goal.loop-switch-init
loop-switch-init g c =
    let soon : c.args.tick < c.args.world.now.scene.now.stop + c.args.world.now.limits.now.stages = omega (arith, c.requires.before) in
    record { same = refl; piped = c.requires.piped; text = tick_text_first (net_of c.args.world.now) c.args.tick soon }

pub returns-in-Err-clause-writes : goal.returns-in-Err-clause-writes
returns-in-Err-clause-writes g c =
    let net = net_of c.args.world.now in
    let piece = left_text net net.limits.stages c.args.tick in
    Writes-stop g.S.Sink.written g.S.Sink.faults c.args.sink.now c.loop-switch.sink c.turn.new.sink (late_text net net.limits.stages c.args.tick)
    (pieces piece c.loop-switch.switch (net.scene.switches - c.loop-switch.switch)) (piece c.loop-switch.switch) (pieces piece (c.loop-switch.switch + 1) (net.scene.switches - (c.loop-switch.switch + 1)))
    _ c.in-Err.error refl c.loop-switch.invariant.text c.in-Err.ensures.writes (pieces-next piece c.loop-switch.switch net.scene.switches c.loop-switch-test.true)

pub loop-switch-preserved : goal.loop-switch-preserved
loop-switch-preserved g c =
    let net = net_of c.args.world.now in
    record {
      same = c.turn.ensures.same ∙ c.loop-switch.invariant.same;
      piped = subst (λ (x : PlacedParts). IsPiped net x c.args.tick (c.loop-switch.switch + 1) (piped_of c.turn.new.now)) c.loop-switch.invariant.same c.in-Ok.ensures.piped;
      text = Leaves-after c.loop-switch.invariant.text c.in-Ok.ensures.writes (pieces-next (left_text net net.limits.stages c.args.tick) c.loop-switch.switch net.scene.switches c.loop-switch-test.true);
    }

pub returns-clause-piped : goal.returns-clause-piped
returns-clause-piped g c =
    let net = net_of c.args.world.now in
    let done : c.loop-switch.switch ≡ c.args.world.now.scene.now.switches = omega (arith, c.loop-switch-test.false, c.loop-switch.auto.switch-end) in
    piped_next net c.args.now.now.placed.now c.args.tick (piped_of c.loop-switch.now)
    (subst (λ (n : ℕ). IsPiped net c.args.now.now.placed.now c.args.tick n (piped_of c.loop-switch.now)) done c.loop-switch.invariant.piped)

pub turn-requires-clause-ready : goal.turn-requires-clause-ready
turn-requires-clause-ready g c = grind (arith, moves)
