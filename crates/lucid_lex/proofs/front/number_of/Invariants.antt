use Rattle.std.proofs.Common.{◌≡◌, ◌^◌, ◌<◌, drop}
use Rattle.lucid_lex.specs.Piece.{number_of}
use Rattle.lucid_lex.proofs.Numerals.{with_digits}
use Rattle.lucid_lex.proofs.front.number_of.Given as goal

-- the number so far, continued with the rest, is the number of the digits
abbrev pub invariant-loop-digit : goal.invariant-loop-digit
invariant-loop-digit l = (l.number < 2 ^ 64) × (with_digits l.base l.number (drop l.digit-index l.digits) ≡ number_of l.base l.digits)
