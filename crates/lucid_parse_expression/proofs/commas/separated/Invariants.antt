use Rattle.std.proofs.Common.{◌≡◌, ◌-◌}
use Rattle.lucid_parse_expression.specs.Tokens.{said}
use Rattle.lucid_parse_spec.specs.Reader.{after_comma, repeat, separated}
use Rattle.lucid_parse_expression.specs.Reads.{ReadsAll}
use Rattle.lucid_parse_expression.proofs.commas.separated.Given as goal

-- the rest gives the result of the whole
abbrev pub invariant-loop-turn : goal.invariant-loop-turn
invariant-loop-turn g l = (reads : _) → ReadsAll (goal.F-post g l.fn.part) reads → repeat (after_comma reads) (l._turn-end - l._turn) l.all (said l.rest) ≡ separated reads (said l.fn.tokens)
