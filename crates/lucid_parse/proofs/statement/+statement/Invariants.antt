use Rattle.std.proofs.Common.{◌≡◌, ◌+◌, ◌-◌, ◌*◌}
use Rattle.lucid_parse_expression.specs.Tokens.{said}
use Rattle.lucid_parse_spec.specs.Reader.{repeat}
use Rattle.lucid_parse_spec.specs.ReadStatement.{before_brace, one_case, statements, cases, inner_at}
use Rattle.lucid_parse.proofs.statement.+statement.Given as goal

-- within one depth the functions call one another downwards, and a statement goes one deeper

abbrev pub decreases-statement : goal.decreases-statement
decreases-statement l = 6 * l.depth

abbrev pub decreases-choice : goal.decreases-choice
decreases-choice l = 6 * l.depth

abbrev pub decreases-statements : goal.decreases-statements
decreases-statements l = 6 * l.depth + 1

abbrev pub decreases-block : goal.decreases-block
decreases-block l = 6 * l.depth + 2

abbrev pub decreases-alternative : goal.decreases-alternative
decreases-alternative l = 6 * l.depth + 3

abbrev pub decreases-cases : goal.decreases-cases
decreases-cases l = 6 * l.depth + 3

abbrev pub decreases-last_arm : goal.decreases-last_arm
decreases-last_arm l = 6 * l.depth + 3

abbrev pub decreases-matched : goal.decreases-matched
decreases-matched l = 6 * l.depth + 4

abbrev pub decreases-statement_within : goal.decreases-statement_within
decreases-statement_within l = 6 * l.depth + 5

-- the rest gives the result of the whole

abbrev pub invariant-statements-loop-turn : goal.invariant-statements-loop-turn
invariant-statements-loop-turn l = repeat (before_brace (inner_at l.depth).statement) (l._turn-end - l._turn) l.all (said l.rest) ≡ statements (inner_at l.depth).statement (said l.fn.tokens)

abbrev pub invariant-cases-loop-turn : goal.invariant-cases-loop-turn
invariant-cases-loop-turn l = repeat (one_case (inner_at l.depth).statement) (l._turn-end - l._turn) l.all (said l.rest) ≡ cases (inner_at l.depth).statement (said l.fn.tokens)
