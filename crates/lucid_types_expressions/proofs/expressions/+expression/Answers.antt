-- Fewer arguments than parameters.
use Rattle.std.proofs.Common.{sym, ◌∙◌}
use Rattle.lucid_types_expressions.proofs.Few.{too_few}
use Rattle.lucid_types_expressions.proofs.expressions.+expression.Goals as goal

pub given-returns : goal.given-returns
given-returns t c = sym c.loop-x.invariant.left ∙ too_few _ c.args.params.now c.args.xs.now c.loop-x.i c.loop-x.x-index c.args.scope.now c.loop-x.invariant.within c.if-i-params-2.false c.loop-x-test.false
