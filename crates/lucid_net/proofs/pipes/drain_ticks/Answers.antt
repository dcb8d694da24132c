use Rattle.std.proofs.Common.{◌≡◌, ◌+◌, ◌-◌, ◌≤◌, ℕ, refl, sym, ◌∙◌, subst, arith}
use Rattle.std.proofs.lemmas.Grind.{moves}
use Rattle.lucid_io.proofs.Leaves.{Leaves-after, Leaves-nothing, PutsPart-at, on_err}
use Rattle.lucid_net_laws.specs.Runs.{late_text}
use Rattle.lucid_net_spec.proofs.Telling.{pieces-next, pieces-none}
use Rattle.lucid_net_spec.specs.Pieces.{pieces}
use Rattle.lucid_tables.specs.Placed.{PlacedParts}
use Rattle.lucid_net.specs.Pipes.{IsDrained, piped_of}
use Rattle.lucid_net.specs.Sent.{net_of}
use Rattle.lucid_net.proofs.Drained.{drained_first}
use Rattle.lucid_net.proofs.Loops.{end_text_first}
use Rattle.lucid_net.proofs.pipes.drain_ticks.Goals as goal

pub overflow_add-tick-end : goal.overflow_add-tick-end
overflow_add-tick-end g c = omega (arith, c.requires.ready.short, c.requires.ready.stages)

pub loop-tick-init : goal.loop-tick-init
loop-tick-init g c = record {
  same = refl;
  from = omega arith;
  drained = subst (λ (w : ℕ). IsDrained (net_of c.args.world.now) c.args.now.now.placed.now c.args.world.now.scene.now.stop 0 (piped_of c.args.now.now) w) (sym c.len-waiting.ensures.len)
      (drained_first (net_of c.args.world.now) c.args.now.now.placed.now (piped_of c.args.now.now) c.requires.piped);
  text = end_text_first (net_of c.args.world.now);
}

pub returns-in_err-waiting-clause-part : goal.returns-in_err-waiting-clause-part
returns-in_err-waiting-clause-part g c =
    let net = net_of c.args.world.now in
    let end = net.scene.stop + net.limits.stages in
    on_err _ (PutsPart-at (pieces (late_text net net.limits.stages) (c.loop-tick.tick + 1) (end - (c.loop-tick.tick + 1))) c.loop-tick.invariant.text c.in_err-waiting.ensures.part
    (pieces-next (late_text net net.limits.stages) c.loop-tick.tick end c.loop-tick-test.true))

pub loop-tick-preserved : goal.loop-tick-preserved
loop-tick-preserved g c =
    let net = net_of c.args.world.now in
    let from : c.args.world.now.scene.now.stop ≤ c.loop-tick.tick + 1 = omega (arith, c.loop-tick.invariant.from) in
    record {
      same = c.drain_tick.ensures.same ∙ c.loop-tick.invariant.same;
      from = from;
      drained = subst (λ (x : PlacedParts). IsDrained net x (c.loop-tick.tick + 1) 0 (piped_of c.drain_tick.new.now) c.in_ok-waiting.waiting) c.loop-tick.invariant.same c.in_ok-waiting.ensures.drained;
      text = Leaves-after c.loop-tick.invariant.text c.in_ok-waiting.ensures.all (pieces-next (late_text net net.limits.stages) c.loop-tick.tick (net.scene.stop + net.limits.stages) c.loop-tick-test.true);
    }

pub returns-clause-same : goal.returns-clause-same
returns-clause-same g c = c.loop-tick.invariant.same

pub returns-clause-drained : goal.returns-clause-drained
returns-clause-drained g c =
    let net = net_of c.args.world.now in
    let done : c.loop-tick.tick ≡ net.scene.stop + net.limits.stages = omega (arith, c.loop-tick-test.false, c.loop-tick.auto.tick-end) in
    subst (λ (n : ℕ). IsDrained net c.args.now.now.placed.now n 0 (piped_of c.loop-tick.now) c.loop-tick.waiting) done c.loop-tick.invariant.drained

pub returns-clause-all : goal.returns-clause-all
returns-clause-all g c =
    let net = net_of c.args.world.now in
    Leaves-nothing c.loop-tick.invariant.text (pieces-none (late_text net net.limits.stages) c.loop-tick.tick (net.scene.stop + net.limits.stages) c.loop-tick-test.false)

pub returns-in_err-waiting-clause-same : goal.returns-in_err-waiting-clause-same
returns-in_err-waiting-clause-same g c = c.drain_tick.ensures.same ∙ c.loop-tick.invariant.same

pub drain_tick-requires-clause-ready : goal.drain_tick-requires-clause-ready
drain_tick-requires-clause-ready g c = grind (arith, moves)
