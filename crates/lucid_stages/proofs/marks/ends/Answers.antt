use Rattle.std.proofs.lemmas.Grind.{common_steps}
use Rattle.std.proofs.Common.{ap, ◌∙◌, ◌+◌, arith}
use Rattle.lucid_stages.specs.Marks.{raised}
use Rattle.lucid_stages.proofs.MarksLemmas.{ends_turn}
use Rattle.lucid_stages.proofs.marks.ends.Goals as goal

pub loop-at-preserved : goal.loop-at-preserved
loop-at-preserved c = ends_turn c.args.fields c.loop-at.at c.args.nodes.now c.loop-at.ends.items c.raise.new.marks.items _ c.index-nodes-at.result c.loop-at-test.true c.index-nodes-at.is c.loop-at.invariant.0 c.loop-at.invariant.1 c.loop-at.invariant.2
    (c.raise.ensures ∙ ap (λ ws. raised c.loop-at.ends.items ws (c.loop-at.at + 1)) c.as_slice.ensures)

pub loop-at-init : goal.loop-at-init
loop-at-init c = grind (arith, common_steps)

pub raise-requires : goal.raise-requires
raise-requires c = grind (arith, common_steps)

pub returns : goal.returns
returns c = grind (arith, common_steps)
