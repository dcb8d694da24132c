use Rattle.lucid_drive.proofs.Running.{Stepping}
use Rattle.lucid_drive.proofs.whole.drive_steps.Given as goal

-- The number of done steps.
abbrev pub invariant-loop-step : goal.invariant-loop-step
invariant-loop-step g l = Stepping g.S.Sink.written g.S.Sink.faults l.fn.sink l.sink (g.V.Watch.seen l.fn.watch) (g.V.Watch.seen l.watch) l.core l.scene l.fn.pipe l.pipe l.state l.count l._step
