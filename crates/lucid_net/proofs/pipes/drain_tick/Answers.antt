use Rattle.std.proofs.Common.{◌≡◌, ◌+◌, ◌-◌, ℕ, refl, ◌∙◌, subst, arith}
use Rattle.std.proofs.lemmas.Grind.{moves}
use Rattle.lucid_io.proofs.Leaves.{Leaves-after, PutsPart-at, on_err}
use Rattle.lucid_net_laws.specs.Runs.{left_text}
use Rattle.lucid_net_spec.proofs.Telling.{pieces-next}
use Rattle.lucid_net_spec.specs.Pieces.{pieces}
use Rattle.lucid_tables.specs.Placed.{PlacedParts}
use Rattle.lucid_net.specs.Pipes.{IsDrained, piped_of}
use Rattle.lucid_net.specs.Sent.{net_of}
use Rattle.lucid_net.proofs.Drained.{drained_next}
use Rattle.lucid_net.proofs.Loops.{tick_text_all, tick_text_first}
use Rattle.lucid_net.proofs.pipes.drain_tick.Goals as goal

pub loop-switch-init : goal.loop-switch-init
loop-switch-init g c = record { same = refl; drained = c.requires.drained; text = tick_text_first (net_of c.args.world.now) c.args.tick c.requires.soon }

pub returns-in_err-count-clause-part : goal.returns-in_err-count-clause-part
returns-in_err-count-clause-part g c =
    let net = net_of c.args.world.now in
    on_err _ (PutsPart-at (pieces (left_text net net.limits.stages c.args.tick) (c.loop-switch.switch + 1) (net.scene.switches - (c.loop-switch.switch + 1))) c.loop-switch.invariant.text c.in_err-count.ensures.part
    (pieces-next (left_text net net.limits.stages c.args.tick) c.loop-switch.switch net.scene.switches c.loop-switch-test.true))

pub loop-switch-preserved : goal.loop-switch-preserved
loop-switch-preserved g c =
    let net = net_of c.args.world.now in
    record {
      same = c.drain_turn.ensures.same ∙ c.loop-switch.invariant.same;
      drained = subst (λ (x : PlacedParts). IsDrained net x c.args.tick (c.loop-switch.switch + 1) (piped_of c.drain_turn.new.now) c.in_ok-count.count) c.loop-switch.invariant.same c.in_ok-count.ensures.drained;
      text = Leaves-after c.loop-switch.invariant.text c.in_ok-count.ensures.all (pieces-next (left_text net net.limits.stages c.args.tick) c.loop-switch.switch net.scene.switches c.loop-switch-test.true);
    }

pub returns-clause-same : goal.returns-clause-same
returns-clause-same g c = c.loop-switch.invariant.same

pub returns-clause-drained : goal.returns-clause-drained
returns-clause-drained g c =
    let net = net_of c.args.world.now in
    let done : c.loop-switch.switch ≡ c.args.world.now.scene.now.switches = omega (arith, c.loop-switch-test.false, c.loop-switch.auto.switch-end) in
    drained_next net c.args.now.now.placed.now c.args.tick c.loop-switch.count (piped_of c.loop-switch.now)
    (subst (λ (n : ℕ). IsDrained net c.args.now.now.placed.now c.args.tick n (piped_of c.loop-switch.now) c.loop-switch.count) done c.loop-switch.invariant.drained)

pub returns-clause-all : goal.returns-clause-all
returns-clause-all g c = tick_text_all (net_of c.args.world.now) c.args.tick c.loop-switch.switch c.loop-switch-test.false c.loop-switch.invariant.text

pub returns-in_err-count-clause-same : goal.returns-in_err-count-clause-same
returns-in_err-count-clause-same g c = c.drain_turn.ensures.same ∙ c.loop-switch.invariant.same

pub drain_turn-requires-clause-ready : goal.drain_turn-requires-clause-ready
drain_turn-requires-clause-ready g c = grind (arith, moves)
