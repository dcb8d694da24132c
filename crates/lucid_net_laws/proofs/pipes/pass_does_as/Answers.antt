use Rattle.lucid_net_laws.proofs.Doing.{does_as, steps_as}
use Rattle.lucid_net_laws.proofs.Inputs.{takes_all}
use Rattle.lucid_net_laws.proofs.pipes.pass_does_as.Goals as goal

pub returns-clause-steps : goal.returns-clause-steps
returns-clause-steps c = steps_as c.args.core.now c.args.placed.now c.cells_stay_fit.ensures c.code-code.ensures.pass c.moves_as_rows.ensures

pub returns-clause-does : goal.returns-clause-does
returns-clause-does c = does_as c.args.core.now c.args.placed.now (steps_as c.args.core.now c.args.placed.now c.cells_stay_fit.ensures c.code-code.ensures.pass c.moves_as_rows.ensures)

pub returns-clause-takes : goal.returns-clause-takes
returns-clause-takes c = takes_all c.args.core.now c.args.placed.now
