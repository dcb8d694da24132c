use Rattle.std.proofs.Common.{◌∙◌}
use Rattle.lucid_pass_rewrites.proofs.MergeLemmas.{answer_is}
use Rattle.lucid_pass_rewrites.proofs.merge.answers_for.Goals as goal

pub returns : goal.returns
returns c = c.answer_by.ensures ∙ answer_is c.args.uses.widths.now c.args.uses.ops.now c.args.t c.args.uses.writers.now c.args.uses.readers.now _ _ c.requires.all c.requires.writers c.requires.readers c.who_writes.ensures c.who_writes-2.ensures
