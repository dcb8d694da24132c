-- Expressions without parts.
use Rattle.std.proofs.Common.{◌∙◌, ap, refl, sym}
use Rattle.lucid_core.specs.declared.body.Expr.TheOpen.{Expr-F}
use Rattle.lucid_core.specs.declared.body.Expr.TheVariants as e
use Rattle.lucid_normal.specs.Bodies.{after_all, walk}
use Rattle.lucid_normal.proofs.ExpressionsLemmas.{plain}
use Rattle.lucid_normal.proofs.expressions.express.Goals as goal

pub returns-in-Fixed : goal.returns-in-Fixed
returns-in-Fixed c =
    let a = c.in-Fixed in
    ap (after_all c.args.tasks.now)
    (plain (Expr-F.Fixed a.n) (e.rolls-Fixed a.n ∙ sym a.is) (walk c.args.machine.now) _ refl refl refl)

pub returns-in-Local : goal.returns-in-Local
returns-in-Local c =
    let a = c.in-Local in
    ap (after_all c.args.tasks.now)
    (plain (Expr-F.Local a.i) (e.rolls-Local a.i ∙ sym a.is) (walk c.args.machine.now) c.held_at-machine.result
    (rw c.as_slice.ensures at c.held_at-machine.ensures) refl refl)

pub returns-in-Now : goal.returns-in-Now
returns-in-Now c =
    ap (after_all c.args.tasks.now)
    (plain Expr-F.Now (e.rolls-Now ∙ sym c.in-Now.is) (walk c.args.machine.now) c.input-machine.result c.input-machine.ensures refl refl)

pub returns-in-Me : goal.returns-in-Me
returns-in-Me c =
    ap (after_all c.args.tasks.now)
    (plain Expr-F.Me (e.rolls-Me ∙ sym c.in-Me.is) (walk c.args.machine.now) c.input-machine-in-Me.result c.input-machine-in-Me.ensures
    refl refl)
