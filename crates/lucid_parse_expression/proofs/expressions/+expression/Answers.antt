use Rattle.std.proofs.Common.{arith, rules}
use Rattle.std.proofs.lemmas.Grind.{common_steps}
use Rattle.lucid_parse_expression.specs.Tokens.{said}
use Rattle.lucid_parse_spec.specs.Reader.{after_comma, repeat}
use Rattle.lucid_parse_spec.specs.ReadExpression.{climb, expression_at}
use Rattle.lucid_parse_expression.proofs.Turns.{one_more}
use Rattle.lucid_parse_expression.proofs.expressions.+expression.Goals as goal

pub climb-loop-turn-preserved : goal.climb-loop-turn-preserved
unfolding climb
climb-loop-turn-preserved t c =
    let turn = one_more
    (λ n. climb (expression_at c.args.depth) c.args.least n c.loop-turn.tight c.loop-turn.left (said c.loop-turn.rest))
    _ c.loop-turn._turn c.loop-turn-test.true c.loop-turn.invariant in
    first_of (search rules, grind (arith, common_steps))

pub expressions-loop-turn-preserved : goal.expressions-loop-turn-preserved
unfolding repeat
expressions-loop-turn-preserved t c =
    let turn = one_more
    (λ n. repeat (after_comma (expression_at c.args.depth 1)) n c.loop-turn.all (said c.loop-turn.rest))
    _ c.loop-turn._turn c.loop-turn-test.true c.loop-turn.invariant in
    first_of (search rules, grind (arith, common_steps))

pub expressions-returns-in-Err : goal.expressions-returns-in-Err
unfolding repeat
expressions-returns-in-Err t c =
    let turn = one_more
    (λ n. repeat (after_comma (expression_at c.args.depth 1)) n c.loop-turn.all (said c.loop-turn.rest))
    _ c.loop-turn._turn c.loop-turn-test.true c.loop-turn.invariant in
    first_of (search rules, grind (arith, common_steps))
