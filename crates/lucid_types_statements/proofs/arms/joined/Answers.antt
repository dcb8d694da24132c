-- The value is typed before the choices are put behind it.
use Rattle.std.proofs.Common.{[], ◌∷◌, Option, option_map, sym, subst}
use Rattle.lucid_core.specs.declared.body.Expr.{Expr}
use Rattle.lucid_core.specs.declared.body.Stmt.TheVariants.{Assign}
use Rattle.lucid_types_spec.specs.Block.{before}
use Rattle.lucid_types_spec.specs.declared.body.Body.{Body}
use Rattle.lucid_types_laws.specs.declared.part.Part.TheVariants.{Does}
use Rattle.lucid_types_expressions.specs.Gives.{Gives}
use Rattle.lucid_types_statements.specs.Assembly.{chained}
use Rattle.lucid_types_statements.specs.Bodies.{Adds}
use Rattle.lucid_types_statements.proofs.Assembled.{adds_gives}
use Rattle.lucid_types_statements.proofs.arms.joined.Goals as goal

pub returns-in-Ok-chain : goal.returns-in-Ok-chain
returns-in-Ok-chain c =
    let all = chained c.args.tested.local c.args.tested.width c.args.arms c.args.last in
    subst (λ (o : Option Expr). Gives c.behind_test.result (option_map (λ (e : Expr). Does (before (Assign c.args.tested.local e ∷ []) all)) o))
    (sym c.in-Ok.ensures)
    (adds_gives c.behind_test.result (Does (before (Assign c.args.tested.local c.in-Ok.value ∷ []) all))
    (subst (λ (b : Body). Adds c.behind_test.result (Does (before (Assign c.args.tested.local c.in-Ok.value ∷ []) b))) c.in-Ok-chain.ensures
    c.behind_test.ensures))
