use Rattle.std.proofs.Common.{◌∙◌}
use Rattle.lucid_net.specs.Leaving.{gone_run}
use Rattle.lucid_net.proofs.Moved.{move_all, move_first, move_free, move_inside, move_next}
use Rattle.lucid_net.proofs.Went.{none_past}
use Rattle.lucid_net.proofs.moving.move_on.Goals as goal

pub loop-i-init : goal.loop-i-init
loop-i-init c =
    move_first c.args.pipe.now c.move_at.new.pipe (gone_run c.move_at.new.gone) c.stages-stages.result c.stages-stages.ensures.value c.requires.some
    c.move_at.ensures.placed c.move_at.ensures.long c.move_at.ensures.moved c.move_at.ensures.left

pub move_at-requires-clause-free : goal.move_at-requires-clause-free
move_at-requires-clause-free c = none_past c.args.pipe.now c.stages-stages.result c.stages-stages.ensures.value c.requires.some c.stages-stages.ensures.long

pub move_within-requires-clause-same : goal.move_within-requires-clause-same
move_within-requires-clause-same c = c.loop-i.invariant.placed ∙ c.requires.same

pub move_within-requires-clause-within : goal.move_within-requires-clause-within
move_within-requires-clause-within c =
    move_inside c.args.pipe.now c.loop-i.pipe (gone_run c.move_at.new.gone) c.stages-stages.result c.loop-i.i c.loop-i-test.true c.stages-stages.ensures.value c.stages-stages.ensures.long c.loop-i.invariant

pub move_within-requires-clause-free : goal.move_within-requires-clause-free
move_within-requires-clause-free c = move_free c.args.pipe.now c.loop-i.pipe (gone_run c.move_at.new.gone) c.stages-stages.result c.loop-i.i c.loop-i-test.true c.loop-i.invariant

pub loop-i-preserved : goal.loop-i-preserved
loop-i-preserved c =
    move_next c.args.pipe.now c.loop-i.pipe c.move_within.new.pipe (gone_run c.move_at.new.gone) c.stages-stages.result c.loop-i.i c.loop-i-test.true c.stages-stages.ensures.value
    c.loop-i.invariant c.move_within.ensures.placed c.move_within.ensures.long c.move_within.ensures.moved

pub returns-clause-moved : goal.returns-clause-moved
returns-clause-moved c = (move_all c.args.pipe.now c.loop-i.pipe (gone_run c.move_at.new.gone) c.stages-stages.result c.loop-i.i c.loop-i-test.false c.loop-i.invariant).0

pub returns-clause-left : goal.returns-clause-left
returns-clause-left c = (move_all c.args.pipe.now c.loop-i.pipe (gone_run c.move_at.new.gone) c.stages-stages.result c.loop-i.i c.loop-i-test.false c.loop-i.invariant).1
