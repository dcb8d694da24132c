use Rattle.std.proofs.Common.{◌<◌, arith, rules}
use Rattle.std.proofs.lemmas.Grind.{common_steps}
use Rattle.lucid_parse_expression.specs.Tokens.{said}
use Rattle.lucid_parse_spec.specs.Reader.{repeat}
use Rattle.lucid_parse_spec.specs.ReadStatement.{before_brace, one_case, choice_within, inner_at}
use Rattle.lucid_parse_expression.proofs.Turns.{one_more}
use Rattle.lucid_parse.proofs.StatementLemmas.{deeper}
use Rattle.lucid_parse.proofs.statement.+statement.Goals as goal

pub statements-loop-turn-preserved : goal.statements-loop-turn-preserved
unfolding repeat
statements-loop-turn-preserved t c =
    let turn = one_more (λ n. repeat (before_brace (inner_at c.args.depth).statement) n c.loop-turn.all (said c.loop-turn.rest)) _ c.loop-turn._turn c.loop-turn-test.true c.loop-turn.invariant in
    first_of (search rules, grind (arith, common_steps))

pub cases-loop-turn-preserved : goal.cases-loop-turn-preserved
unfolding repeat
cases-loop-turn-preserved t c =
    let turn = one_more (λ n. repeat (one_case (inner_at c.args.depth).statement) n c.loop-turn.all (said c.loop-turn.rest)) _ c.loop-turn._turn c.loop-turn-test.true c.loop-turn.invariant in
    first_of (search rules, grind (arith, common_steps))

pub choice-returns : goal.choice-returns
unfolding inner_at choice_within
choice-returns t c =
    let above : 0 < c.args.depth = omega arith in
    let here = deeper (λ n. (inner_at n).choice (said c.args.tokens)) c.args.depth above in
    first_of (search rules, grind (arith, common_steps))

pub choice-returns-in_err-no : goal.choice-returns-in_err-no
unfolding inner_at choice_within
choice-returns-in_err-no t c =
    let above : 0 < c.args.depth = omega arith in
    let here = deeper (λ n. (inner_at n).choice (said c.args.tokens)) c.args.depth above in
    first_of (search rules, grind (arith, common_steps))
