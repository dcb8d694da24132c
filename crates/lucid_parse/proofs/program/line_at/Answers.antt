use Rattle.std.proofs.Common.{arith}
use Rattle.lucid_parse.proofs.Programs.{breaks_between}
use Rattle.lucid_parse.proofs.program.line_at.Goals as goal

pub returns-in-Ok : goal.returns-in-Ok
returns-in-Ok c =
    let between = breaks_between c.args.text.now c.args.from c.args.to c.requires.order in
    omega (arith, c.in-Ok.ensures)

pub returns-in-Err : goal.returns-in-Err
returns-in-Err c =
    let between = breaks_between c.args.text.now c.args.from c.args.to c.requires.order in
    omega (arith, c.in-Err.ensures)
