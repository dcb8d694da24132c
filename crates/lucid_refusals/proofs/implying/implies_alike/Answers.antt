use Rattle.lucid_refusals.proofs.ReadingsLemmas.{fitting_of}
use Rattle.lucid_refusals.proofs.implying.implies_alike.Goals as goal

pub returns-then-branch : goal.returns-then-branch
returns-then-branch c = λ _ rows patterns e refuses.
    fitting_of c.rows_are_counted.ensures rows patterns c.args.literals.now c.args.known.now c.args.shape.now e
    (c.in_ok-fits.ensures c.if-branch.true).0
    (c.in_ok-fits.ensures c.if-branch.true).1
    refuses
