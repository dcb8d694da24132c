use Rattle.lucid_effects.proofs.Rising.{begun_left}
use Rattle.lucid_effects.proofs.declaration.scheme.Goals as goal

pub returns-in_err-ends-clause-most : goal.returns-in_err-ends-clause-most
returns-in_err-ends-clause-most g c = begun_left c.args.stmts.now c.args.schemes.now c.args.steps.now c.tick.new.self c.tick.ensures
