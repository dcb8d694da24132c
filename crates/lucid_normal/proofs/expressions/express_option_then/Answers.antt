use Rattle.std.proofs.Common.{◌∙◌, ◌∷◌, Option, None, ap, ap₂, refl, sym}
use Rattle.lucid_core.specs.declared.body.Expr.{Expr}
use Rattle.lucid_normal.specs.Bodies.{after_all, expressed, optional, walk}
use Rattle.lucid_normal.proofs.BodiesLemmas.{idle}
use Rattle.lucid_normal.proofs.expressions.express_option_then.Goals as goal

pub returns-in-None : goal.returns-in-None
returns-in-None c =
    let a = c.args in
    let s = walk a.machine.now in
    ap₂ after_all c.in_ok-push.ensures (idle (λ v. v) (optional None) s None refl refl refl)
    ∙ ap (λ (o : Option Expr). after_all (a.task ∷ a.tasks.now) (expressed (optional o) s)) (sym c.in-None.is)
