use Rattle.std.proofs.Common.{arith, rules}
use Rattle.std.proofs.lemmas.Grind.{common_steps}
use Rattle.lucid_parse_expression.specs.Tokens.{said}
use Rattle.lucid_parse_spec.specs.Reader.{after_comma, repeat}
use Rattle.lucid_parse_expression.proofs.Turns.{one_more}
use Rattle.lucid_parse_expression.proofs.commas.separated.Goals as goal

pub returns-in-None : goal.returns-in-None
unfolding repeat
returns-in-None g c = λ reads are.
    let turn = one_more (λ n. repeat (after_comma reads) n c.loop-turn.all (said c.loop-turn.rest)) _ c.loop-turn._turn c.loop-turn-test.true (c.loop-turn.invariant reads are) in
    first_of (search rules, grind (arith, common_steps))

pub returns-in-Err : goal.returns-in-Err
unfolding repeat
returns-in-Err g c = λ reads are.
    let turn = one_more (λ n. repeat (after_comma reads) n c.loop-turn.all (said c.loop-turn.rest)) _ c.loop-turn._turn c.loop-turn-test.true (c.loop-turn.invariant reads are) in
    let read = are c.in-Some.more c.part-in-Some.result c.part-in-Some.ensures in
    first_of (search rules, grind (arith, common_steps))

pub loop-turn-preserved : goal.loop-turn-preserved
unfolding repeat
loop-turn-preserved g c = λ reads are.
    let turn = one_more (λ n. repeat (after_comma reads) n c.loop-turn.all (said c.loop-turn.rest)) _ c.loop-turn._turn c.loop-turn-test.true (c.loop-turn.invariant reads are) in
    let read = are c.in-Some.more c.part-in-Some.result c.part-in-Some.ensures in
    first_of (search rules, grind (arith, common_steps))
