use Rattle.lucid_snap.proofs.Trailing.{Trailing}
use Rattle.lucid_snap.proofs.driven.follow_steps.Given as goal

-- So many steps are done.
abbrev pub invariant-loop-step : goal.invariant-loop-step
invariant-loop-step g l = Trailing g.S.Sink.written g.S.Sink.faults l.fn.sink l.sink l.core l.scene l.fn.pipe l.pipe l.state l.fn.snap l.snap l.fn.state.done l._step
