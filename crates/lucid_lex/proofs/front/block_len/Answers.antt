use Rattle.std.proofs.Common.{sym, ◌∙◌}
use Rattle.lucid_lex.proofs.Comments.{end_of_block-later, end_of_block-all}
use Rattle.lucid_lex.proofs.front.block_len.Goals as goal

pub loop-at-preserved : goal.loop-at-preserved
loop-at-preserved c = end_of_block-later c.loop-at.at c.args.text.now c.loop-at.auto.at c.loop-at-test.true c.if-ends_block.ensures ∙ c.loop-at.invariant

pub returns-clause-len : goal.returns-clause-len
returns-clause-len c = sym (end_of_block-all c.loop-at.at c.args.text.now c.loop-at-test.false) ∙ c.loop-at.invariant
