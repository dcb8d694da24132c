use Rattle.lucid_drive.proofs.Changing.{within_changes}
use Rattle.lucid_drive.proofs.Steps.{did_within}
use Rattle.lucid_drive.proofs.moves.go_within.Goals as goal

pub returns-clause-did : goal.returns-clause-did
returns-clause-did c = λ p is.
    did_within c.args.core.now c.args.scene.now p c.args.pipe.now c.go_within.new.self c.args.k is
    (record { rows = c.keeps_laws.ensures.rows; pass = c.keeps_laws.ensures.pass; idle = c.keeps_laws.ensures.idle; sized = c.keeps_laws.ensures.sized })
    c.cells_stay_fit.ensures c.outs_fit.ensures c.go_within.result c.go_within.ensures.empty c.go_within.ensures.ahead c.go_within.ensures.stuck c.go_within.ensures.goes

pub returns-clause-changes : goal.returns-clause-changes
returns-clause-changes c =
    within_changes c.args.pipe.now c.go_within.new.self c.args.k c.go_within.result c.go_within.ensures.empty c.go_within.ensures.ahead c.go_within.ensures.stuck c.go_within.ensures.goes
