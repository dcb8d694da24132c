-- The test is typed after the branches.
use Rattle.std.proofs.Common.{Option, option_map, sym, subst}
use Rattle.lucid_core.specs.declared.body.Expr.{Expr}
use Rattle.lucid_types_laws.specs.Statement.{chosen}
use Rattle.lucid_types_expressions.specs.Gives.{Gives}
use Rattle.lucid_types_statements.proofs.Assembled.{adds_gives}
use Rattle.lucid_types_statements.proofs.assembly.chosen.Goals as goal

pub returns-in-Ok : goal.returns-in-Ok
returns-in-Ok c =
    subst (λ (o : Option Expr). Gives c.branched.result (option_map (λ (e : Expr). chosen e c.args.yes c.args.no) o)) (sym c.in-Ok.ensures)
    (adds_gives c.branched.result (chosen c.in-Ok.test c.args.yes c.args.no) c.branched.ensures)
