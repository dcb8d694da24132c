use Rattle.lucid_parse.proofs.Programs.{first_rises}
use Rattle.lucid_parse.proofs.program.start_of.Goals as goal

pub returns-clause-order : goal.returns-clause-order
returns-clause-order c = (first_rises c.args.text.now c.args.tokens.now c.args.at c.args.from _ c.requires.within c.requires.order).2
