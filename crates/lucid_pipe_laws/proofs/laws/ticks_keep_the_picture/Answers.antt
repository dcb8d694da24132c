use Rattle.lucid_pipe_laws.proofs.Stream.{advances, passes, settles_to}
use Rattle.lucid_pipe_laws.proofs.Sights.{flight_law, stage_law, snap_law}
use Rattle.lucid_pipe_laws.proofs.laws.ticks_keep_the_picture.Goals as goal

pub returns-clause-advances : goal.returns-clause-advances
returns-clause-advances c = advances

pub returns-clause-passes : goal.returns-clause-passes
returns-clause-passes c = passes

pub returns-clause-settles : goal.returns-clause-settles
returns-clause-settles c = settles_to

pub returns-clause-flight : goal.returns-clause-flight
returns-clause-flight c = flight_law

pub returns-clause-cells : goal.returns-clause-cells
returns-clause-cells c = stage_law

pub returns-clause-copies : goal.returns-clause-copies
returns-clause-copies c = snap_law
