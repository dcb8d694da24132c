use Rattle.std.proofs.Common.{ℕ, ◌<◌, ◌≤◌, subst}
use Rattle.lucid_io.proofs.Leaves.{on_err}
use Rattle.lucid_snap.proofs.Trailing.{follows_some, trail_below, trailing_all, trailing_cut, trailing_first, trailing_next}
use Rattle.lucid_snap.proofs.driven.follow_steps.Goals as goal

pub loop-step-init : goal.loop-step-init
loop-step-init g c = trailing_first g.S.Sink.written g.S.Sink.faults c.args.sink.now c.args.core.now c.args.scene.now c.args.pipe.now c.args.state.now c.args.snap.now c.done-step.result c.done-step.ensures c.requires.at

pub follow_step-requires-clause-at : goal.follow_step-requires-clause-at
follow_step-requires-clause-at g c = c.loop-step.invariant.at

pub follow_step-requires-clause-there : goal.follow_step-requires-clause-there
follow_step-requires-clause-there g c =
    trail_below c.args.sink.now c.loop-step.sink c.args.core.now c.args.scene.now c.args.pipe.now c.loop-step.pipe c.loop-step.state c.args.snap.now c.loop-step.snap c.args.state.now.done c.loop-step._step (subst (λ (n : ℕ). c.loop-step._step < n) c.len-step-end.ensures c.loop-step-test.true) c.loop-step.invariant

pub follow_step-requires-clause-follows : goal.follow_step-requires-clause-follows
follow_step-requires-clause-follows g c = follows_some c.args.snap.now c.loop-step.snap c.args.pipe.now c.loop-step.pipe c.loop-step.invariant.follows c.requires.follows

pub loop-step-preserved : goal.loop-step-preserved
loop-step-preserved g c =
    trailing_next c.args.sink.now c.loop-step.sink c.args.core.now c.args.scene.now c.args.pipe.now c.loop-step.pipe c.loop-step.state c.args.snap.now c.loop-step.snap c.args.state.now.done c.loop-step._step (subst (λ (n : ℕ). c.loop-step._step < n) c.len-step-end.ensures c.loop-step-test.true) c.loop-step.invariant
    c.follow_step.new.sink c.follow_step.new.pipe c.follow_step.new.state c.follow_step.new.snap c.in_ok-follow_step.ensures.placed c.in_ok-follow_step.ensures.done c.in_ok-follow_step.ensures.at c.in_ok-follow_step.ensures.all c.in_ok-follow_step.ensures.follows

pub returns-in_err-follow_step-clause-part : goal.returns-in_err-follow_step-clause-part
returns-in_err-follow_step-clause-part g c =
    on_err c.from_residual.result
    (trailing_cut c.args.sink.now c.loop-step.sink c.args.core.now c.args.scene.now c.args.pipe.now c.loop-step.pipe c.loop-step.state c.args.snap.now c.loop-step.snap c.args.state.now.done c.loop-step._step (subst (λ (n : ℕ). c.loop-step._step < n) c.len-step-end.ensures c.loop-step-test.true) c.loop-step.invariant
    c.follow_step.new.sink c.in_err-follow_step.ensures.part)

pub returns-clause-all : goal.returns-clause-all
returns-clause-all g c =
    trailing_all c.args.core.now c.args.scene.now c.args.pipe.now c.loop-step.pipe c.loop-step.state c.args.snap.now c.loop-step.snap c.args.state.now.done c.loop-step._step (subst (λ (n : ℕ). n ≤ c.loop-step._step) c.len-step-end.ensures c.loop-step-test.false) c.loop-step.invariant
