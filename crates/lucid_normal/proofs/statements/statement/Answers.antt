-- Each form from its parts.
use Rattle.std.proofs.Common.{◌∙◌, [], List, None, Some, ap, refl, sym}
use Rattle.std.proofs.lemmas.Result.{on_ok_weaker}
use Rattle.lucid_core.specs.declared.body.Expr.{Expr}
use Rattle.lucid_core.specs.declared.body.Stmt.TheVariants as s
use Rattle.lucid_normal.specs.Bodies.{after_all, listed, walk}
use Rattle.lucid_normal.specs.declared.task.Purpose.TheVariants.{Say}
use Rattle.lucid_normal.proofs.ListsLemmas.{generated, said}
use Rattle.lucid_normal.proofs.StatementsLemmas.{absent, assigned, dropped, returned, returned_none, tested}
use Rattle.lucid_normal.proofs.statements.statement.Goals as goal

pub returns-in-Assign : goal.returns-in-Assign
returns-in-Assign c =
    let a = c.in-Assign in
    on_ok_weaker c.express_then.result
    (λ h. h ∙ ap (after_all c.args.tasks.now)
    (assigned a.i a.e (s.rolls-Assign a.i a.e ∙ sym a.is) (walk c.args.machine.now)))
    c.express_then.ensures

pub returns-in-Drop : goal.returns-in-Drop
returns-in-Drop c =
    let a = c.in-Drop in
    on_ok_weaker c.express_then-in-Drop.result
    (λ h. h ∙ ap (after_all c.args.tasks.now)
    (dropped a.e (s.rolls-Drop a.e ∙ sym a.is) (walk c.args.machine.now)))
    c.express_then-in-Drop.ensures

pub returns-in-If : goal.returns-in-If
returns-in-If c =
    let a = c.in-If in
    on_ok_weaker c.express_then-in-If.result
    (λ h. h ∙ ap (after_all c.args.tasks.now)
    (tested a.e a.yes a.no (s.rolls-If a.e a.yes a.no ∙ sym a.is) c.needs_move.result c.needs_move.ensures
    c.as_slice.result c.as_slice-in-If.result c.as_slice.ensures c.as_slice-in-If.ensures (walk c.args.machine.now)))
    c.express_then-in-If.ensures

pub returns-in-Gen : goal.returns-in-Gen
returns-in-Gen c =
    let a = c.in-Gen in
    on_ok_weaker c.begin_event.result
    (λ h. h ∙ ap (after_all c.args.tasks.now)
    (generated a.event a.args a.delay a.to a.delay_first (s.rolls-Gen a.event a.args a.delay a.to a.delay_first ∙ sym a.is)
    _ _ refl refl (walk c.args.machine.now)))
    c.begin_event.ensures

pub returns-in-Multi : goal.returns-in-Multi
returns-in-Multi c =
    let a = c.in-Multi in
    ap (after_all c.args.tasks.now)
    (absent a.event a.args a.delay a.members (s.rolls-Multi a.event a.args a.delay a.members ∙ sym a.is) (walk c.args.machine.now))

pub returns-in-Say : goal.returns-in-Say
returns-in-Say c =
    let a = c.in-Say in
    on_ok_weaker c.list.result
    (λ h. h ∙ ap (after_all c.args.tasks.now)
    (ap (λ (xs : List Expr). listed [] xs (Say a.form) (walk c.args.machine.now)) c.as_slice-in-Say.ensures
    ∙ said a.form a.args (s.rolls-Say a.form a.args ∙ sym a.is) (walk c.args.machine.now)))
    c.list.ensures

pub returns-in-None : goal.returns-in-None
returns-in-None c =
    let a = c.in-Return in
    on_ok_weaker c.return_nothing.result
    (λ h. ap (after_all c.args.tasks.now)
    (h ∙ returned_none (s.rolls-Return None ∙ ap s.Return (sym c.in-None.is) ∙ sym a.is) (walk c.args.machine.now)))
    c.return_nothing.ensures

pub returns-in-Some : goal.returns-in-Some
returns-in-Some c =
    let a = c.in-Return in
    on_ok_weaker c.express_then-in-Some.result
    (λ h. h ∙ ap (after_all c.args.tasks.now)
    (returned c.in-Some.e (s.rolls-Return (Some c.in-Some.e) ∙ ap s.Return (sym c.in-Some.is) ∙ sym a.is) (walk c.args.machine.now)))
    c.express_then-in-Some.ensures
