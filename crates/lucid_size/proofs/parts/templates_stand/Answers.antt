use Rattle.lucid_size.proofs.InText.{are_whole, in_order, read_placed}
use Rattle.lucid_size.proofs.parts.templates_stand.Goals as goal

pub returns-clause-order : goal.returns-clause-order
returns-clause-order c = in_order c.args.tokens.now 0 c.args.templates.now (read_placed c.args.tokens.now c.args.templates.now c.requires.whole)

pub returns-clause-whole : goal.returns-clause-whole
returns-clause-whole c = are_whole c.args.tokens.now 0 c.args.templates.now (in_order c.args.tokens.now 0 c.args.templates.now (read_placed c.args.tokens.now c.args.templates.now c.requires.whole))
