use Rattle.lucid_lex.proofs.Numerals.{too_large}
use Rattle.lucid_lex.proofs.front.number_of.Goals as goal

pub returns-in_err-number : goal.returns-in_err-number
returns-in_err-number c =
    rw c.from_residual.ensures (too_large c.args.base c.loop-digit.number c.loop-digit.digit-index c.args.digits.now c.requires c.loop-digit-test.true c.loop-digit.invariant.1 c.in_err-number.ensures)
