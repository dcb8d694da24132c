use Rattle.std.proofs.lemmas.Grind.{common_steps}
use Rattle.std.proofs.Common.{◌∙◌, arith}
use Rattle.lucid_normal.proofs.Fields.{ops_next, widths_next}
use Rattle.lucid_normal.proofs.handlers.build.Goals as goal

pub loop-handler-preserved : goal.loop-handler-preserved
loop-handler-preserved c =
    let l = c.loop-handler in
    let items = c.handlers-handler-items in
    let built = c.in_ok-built.built in
    record {
      ops = ops_next c.args.flat.now items.result.now c.args.flat.now.handlers items.ensures.value l.handler-index c.handler-item.result c.loop-handler-test.true c.handler-item.is
          l.built.widths built.widths c.in_ok-built.ensures.widths l.built.ops.items built.ops.items c.in_ok-built.ensures.ops ∙ l.invariant.ops;
      widths = widths_next c.args.flat.now items.result.now c.args.flat.now.handlers items.ensures.value l.handler-index c.handler-item.result c.loop-handler-test.true c.handler-item.is
          l.built.widths built.widths c.in_ok-built.ensures.widths ∙ l.invariant.widths;
    }

pub returns-clause-ops : goal.returns-clause-ops
returns-clause-ops c = grind (arith, common_steps)

pub returns-clause-widths : goal.returns-clause-widths
returns-clause-widths c = grind (arith, common_steps)
