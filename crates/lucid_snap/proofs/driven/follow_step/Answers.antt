use Rattle.lucid_snap.proofs.Trailing.{keeps_none}
use Rattle.lucid_snap.proofs.driven.follow_step.Goals as goal

pub returns-in-None-clause-follows : goal.returns-in-None-clause-follows
returns-in-None-clause-follows g c = keeps_none c.args.pipe.now c.drive_step.new.pipe c.args.snap.now _ c.in-None.is c.in_ok-drive_step.ensures.changes
