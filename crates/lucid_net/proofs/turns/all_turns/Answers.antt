use Rattle.std.proofs.Common.{◌+◌, ◌-◌, ◌≡◌, ℕ, List, Err, rules, refl, subst, arith}
use Rattle.lucid_net_spec.proofs.Telling.{pieces-next}
use Rattle.lucid_net_spec.specs.Log.{turns}
use Rattle.lucid_net_spec.specs.Pieces.{pieces, turn_text}
use Rattle.lucid_net.specs.Kept.{IsKept}
use Rattle.lucid_net.specs.Sent.{net_of}
use Rattle.lucid_net.specs.Stands.{state_of}
use Rattle.lucid_net.specs.Writes.{Writes}
use Rattle.lucid_net.proofs.Telling.{Writes-stop}
use Rattle.lucid_net.proofs.Turning.{ticked_kept, turn_piece, turning_first, turning_next}
use Rattle.lucid_net.proofs.turns.all_turns.Goals as goal

pub loop-switch-init : goal.loop-switch-init
loop-switch-init g c = turning_first g.S.Sink.written g.S.Sink.faults c.args.sink.now (net_of c.args.world.now) c.args.tick (state_of c.args.now.now) refl c.requires.kept

pub returns-in_err-turn-clause-writes : goal.returns-in_err-turn-clause-writes
returns-in_err-turn-clause-writes g c =
    let net = net_of c.args.world.now in
    let text = turn_text net c.args.tick (state_of c.args.now.now) in
    Writes-stop g.S.Sink.written g.S.Sink.faults c.args.sink.now c.loop-switch.sink c.turn.new.sink (turns net c.args.tick c.args.world.now.scene.now.switches (state_of c.args.now.now)).text
    (pieces text c.loop-switch.switch (c.args.world.now.scene.now.switches - c.loop-switch.switch)) (text c.loop-switch.switch)
    (pieces text (c.loop-switch.switch + 1) (c.args.world.now.scene.now.switches - (c.loop-switch.switch + 1))) c.from_residual.result c.in_err-turn.field-0.0 (search rules) c.loop-switch.invariant.text
    (subst (λ (l : List ℕ). Writes g.S.Sink.written g.S.Sink.faults c.loop-switch.sink c.turn.new.sink l (Err c.in_err-turn.field-0.0))
    (turn_piece net c.args.tick c.loop-switch.switch (state_of c.args.now.now) (state_of c.loop-switch.now) c.loop-switch.invariant.state) c.in_err-turn.ensures.writes)
    (pieces-next text c.loop-switch.switch c.args.world.now.scene.now.switches c.loop-switch-test.true)

pub loop-switch-preserved : goal.loop-switch-preserved
loop-switch-preserved g c =
    turning_next (net_of c.args.world.now) c.args.tick (state_of c.args.now.now) (state_of c.loop-switch.now) (state_of c.turn.new.now) c.loop-switch.switch c.loop-switch-test.true
    c.loop-switch.invariant c.in_ok-turn.ensures.writes c.in_ok-turn.ensures.after c.in_ok-turn.ensures.kept

pub returns-clause-kept : goal.returns-clause-kept
returns-clause-kept g c =
    let done : c.loop-switch.switch ≡ c.args.world.now.scene.now.switches = omega (arith, c.loop-switch-test.false, c.loop-switch.auto.switch-end) in
    ticked_kept c.args.world.now.core.now c.args.world.now.scene.now.switches c.args.tick (state_of c.loop-switch.now)
    (subst (λ (n : ℕ). IsKept c.args.world.now.core.now c.args.world.now.scene.now.switches c.args.tick n (state_of c.loop-switch.now)) done c.loop-switch.invariant.kept)
