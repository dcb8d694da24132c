use Rattle.lucid_drive.proofs.Flushing.{work}
use Rattle.lucid_drive.proofs.Running.{Flushing}
use Rattle.lucid_snap.specs.Snap.{KeepsFollowing}
use Rattle.lucid_snap.proofs.driven.follow_rest.Given as goal

-- The oldest packet moved so often.
abbrev pub invariant-flush : goal.invariant-flush
invariant-flush g l = KeepsFollowing l.fn.snap l.fn.pipe l.snap l.pipe × Flushing g.S.Sink.written g.S.Sink.faults l.fn.sink l.sink l.core l.scene l.fn.pipe l.pipe l.state

-- Each move is a stage less to execute.
abbrev pub decreases-flush : goal.decreases-flush
decreases-flush g l = work l.pipe.slots
