use Rattle.std.proofs.Common.{◌≡◌, ◌+◌, ◌-◌, ◌*◌, length}
use Rattle.lucid_parse_expression.specs.Tokens.{said}
use Rattle.lucid_parse_spec.specs.Operators.{tightest}
use Rattle.lucid_parse_spec.specs.Reader.{after_comma, repeat, separated}
use Rattle.lucid_parse_spec.specs.ReadExpression.{climb, expression_at}
use Rattle.lucid_parse_expression.proofs.expressions.+expression.Given as goal

-- within one depth the functions call one another downwards, and an expression goes one deeper

abbrev pub decreases-expression_at : goal.decreases-expression_at
decreases-expression_at l = 5 * l.depth

abbrev pub decreases-grown : goal.decreases-grown
decreases-grown l = 5 * l.depth + 1

abbrev pub decreases-signed : goal.decreases-signed
decreases-signed l = 5 * l.depth + 1

abbrev pub decreases-climb : goal.decreases-climb
decreases-climb l = 5 * l.depth + 2

abbrev pub decreases-expressions : goal.decreases-expressions
decreases-expressions l = 5 * l.depth + 1

abbrev pub decreases-in_parens : goal.decreases-in_parens
decreases-in_parens l = 5 * l.depth + 1

abbrev pub decreases-arguments : goal.decreases-arguments
decreases-arguments l = 5 * l.depth + 2

abbrev pub decreases-named : goal.decreases-named
decreases-named l = 5 * l.depth + 3

abbrev pub decreases-hash_value : goal.decreases-hash_value
decreases-hash_value l = 5 * l.depth + 3

abbrev pub decreases-array_value : goal.decreases-array_value
decreases-array_value l = 5 * l.depth + 3

abbrev pub decreases-operand : goal.decreases-operand
decreases-operand l = 5 * l.depth + 4

-- the rest gives the result of the whole

abbrev pub invariant-climb-loop-turn : goal.invariant-climb-loop-turn
invariant-climb-loop-turn l =
    climb (expression_at l.depth) l.least (l._turn-end - l._turn) l.tight l.left (said l.rest)
    ≡ climb (expression_at l.depth) l.least (length (said l.fn.first.1)) tightest l.fn.first.0 (said l.fn.first.1)

abbrev pub invariant-expressions-loop-turn : goal.invariant-expressions-loop-turn
invariant-expressions-loop-turn l = repeat (after_comma (expression_at l.depth 1)) (l._turn-end - l._turn) l.all (said l.rest) ≡ separated (expression_at l.depth 1) (said l.fn.tokens)
