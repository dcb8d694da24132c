use Rattle.std.proofs.Common.{◌∙◌, sym}
use Rattle.lucid_pass_rewrites.proofs.SourcesLemmas.{literal_is}
use Rattle.lucid_pass_rewrites.proofs.sources.source_literal.Goals as goal

pub returns-in-One : goal.returns-in-One
returns-in-One c = c.literal_at.ensures ∙ literal_is c.args.seen.widths.now c.args.seen.ops.now c.args.seen.writers.now c.args.seen.uncovered.now c.requires.tells c.requires.uncovered c.args.l _ (sym c.in-One.is ∙ c.who_writes.ensures)

pub returns-in-Nobody : goal.returns-in-Nobody
returns-in-Nobody c = literal_is c.args.seen.widths.now c.args.seen.ops.now c.args.seen.writers.now c.args.seen.uncovered.now c.requires.tells c.requires.uncovered c.args.l _ (sym c.in-Nobody.is ∙ c.who_writes.ensures)

pub returns-in-Many : goal.returns-in-Many
returns-in-Many c = literal_is c.args.seen.widths.now c.args.seen.ops.now c.args.seen.writers.now c.args.seen.uncovered.now c.requires.tells c.requires.uncovered c.args.l _ (sym c.in-Many.is ∙ c.who_writes.ensures)
