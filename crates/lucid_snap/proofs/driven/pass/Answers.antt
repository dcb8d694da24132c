use Rattle.lucid_snap.proofs.Trailing.{sized_alike}
use Rattle.lucid_snap.proofs.driven.pass.Goals as goal

pub passed-requires : goal.passed-requires
passed-requires c = record { sized = sized_alike c.args.snap.now c.requires.0 c.args.pipe.now c.args.k c.requires.1 c.requires.2 c.requires.3 c.keeps_laws.ensures.sized }

pub returns : goal.returns
returns c = λ before p moved cells f. c.passed.ensures before p cells moved f
