use Rattle.std.proofs.Common.{◌-◌, ◌≤◌, length, drop}
use Rattle.lucid_lex.specs.Reading.{ReadsUpTo}
use Rattle.lucid_lex.proofs.lexer.lex.Given as goal

-- the text is read up to this offset
abbrev pub invariant-loop-at : goal.invariant-loop-at
invariant-loop-at l = (l.at ≤ length l.text) × ReadsUpTo l.text l.tokens.items (drop l.at l.text)

abbrev pub decreases-loop-at : goal.decreases-loop-at
decreases-loop-at l = length l.text - l.at
