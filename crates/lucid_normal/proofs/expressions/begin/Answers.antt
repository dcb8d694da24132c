-- Each form from its parts.
use Rattle.std.proofs.Common.{◌∙◌, ℕ, List, [], ap, ap₂, refl, sym}
use Rattle.std.proofs.lemmas.Result.{on_ok_weaker}
use Rattle.lucid_core.specs.declared.body.Expr.{Expr}
use Rattle.lucid_core.specs.declared.body.Stmt.{Stmt}
use Rattle.lucid_core.specs.declared.body.Touch.{Touch}
use Rattle.lucid_core.specs.declared.body.Expr.TheOpen.{Expr-F}
use Rattle.lucid_core.specs.declared.body.Expr.TheVariants as e
use Rattle.lucid_normal_spec.specs.Translate.{touch_code}
use Rattle.lucid_normal.specs.Bodies.{after_all, expressed, inlined, listed, walk}
use Rattle.lucid_normal.specs.declared.task.Purpose.TheVariants.{Hash}
use Rattle.lucid_normal.proofs.BodiesLemmas.{of_expr}
use Rattle.lucid_normal.proofs.ExpressionsLemmas.{bin, cast, cmp, plain, un}
use Rattle.lucid_normal.proofs.ListsLemmas.{called, hashed}
use Rattle.lucid_normal.proofs.expressions.begin.Goals as goal

pub returns-in-Un : goal.returns-in-Un
returns-in-Un c =
    let a = c.in-Un in
    on_ok_weaker c.express_then.result
    (λ h. h ∙ ap (after_all c.args.tasks.now)
    (un a.x c.get.result.now c.get.ensures (walk c.args.machine.now) a.op (e.rolls-Un a.op a.x ∙ sym a.is)))
    c.express_then.ensures

pub returns-in-Bin : goal.returns-in-Bin
returns-in-Bin c =
    let a = c.in-Bin in
    on_ok_weaker c.express_then-in-Bin.result
    (λ h. h ∙ ap (after_all c.args.tasks.now)
    (bin a.x c.get-in-Bin.result.now c.get-in-Bin.ensures (walk c.args.machine.now) a.y c.get-in-Bin-2.result c.get-in-Bin-2.ensures
    a.op (e.rolls-Bin a.op a.x a.y ∙ sym a.is)))
    c.express_then-in-Bin.ensures

pub returns-in-Cmp : goal.returns-in-Cmp
returns-in-Cmp c =
    let a = c.in-Cmp in
    on_ok_weaker c.express_then-in-Cmp.result
    (λ h. h ∙ ap (after_all c.args.tasks.now)
    (cmp a.x c.get-in-Cmp.result.now c.get-in-Cmp.ensures (walk c.args.machine.now) a.y c.get-in-Cmp-2.result c.get-in-Cmp-2.ensures
    a.op (e.rolls-Cmp a.op a.x a.y ∙ sym a.is)))
    c.express_then-in-Cmp.ensures

pub returns-in-Cast : goal.returns-in-Cast
returns-in-Cast c =
    let a = c.in-Cast in
    on_ok_weaker c.express_then-in-Cast.result
    (λ h. h ∙ ap (after_all c.args.tasks.now)
    (cast a.x c.get-in-Cast.result.now c.get-in-Cast.ensures (walk c.args.machine.now) a.width (e.rolls-Cast a.width a.x ∙ sym a.is)))
    c.express_then-in-Cast.ensures

pub returns-in-Hash : goal.returns-in-Hash
returns-in-Hash c =
    let a = c.in-Hash in
    let s = walk c.args.machine.now in
    on_ok_weaker c.list.result
    (λ h. h ∙ ap (after_all c.args.tasks.now)
    (ap (λ (xs : List Expr). listed [] xs (Hash a.width) s) c.as_slice.ensures
    ∙ hashed a.width a.xs (e.rolls-Hash a.width a.xs ∙ sym a.is) s))
    c.list.ensures

pub returns-in-Array : goal.returns-in-Array
returns-in-Array c =
    let a = c.in-Array in
    let s = walk c.args.machine.now in
    on_ok_weaker c.touch.result
    (λ h. h ∙ ap (after_all c.args.tasks.now)
    (ap (λ (t : Touch). expressed (touch_code t).made s) c.get-in-Array.ensures
    ∙ of_expr (Expr-F.Array a.t) (e.rolls-Array a.t ∙ sym a.is) s))
    c.touch.ensures

pub returns-in-Fun : goal.returns-in-Fun
returns-in-Fun c =
    let a = c.in-Fun in
    ap (after_all c.args.tasks.now)
    (plain (Expr-F.Fun a.field-0 a.field-1 a.field-2) (e.rolls-Fun a.field-0 a.field-1 a.field-2 ∙ sym a.is) (walk c.args.machine.now) _
    refl refl refl)

pub returns-in-Inlined : goal.returns-in-Inlined
returns-in-Inlined c =
    let a = c.in-Inlined in
    let s = walk c.args.machine.now in
    on_ok_weaker c.begin_inlined.result
    (λ h. h ∙ ap (after_all c.args.tasks.now)
    (ap₂ (λ (gs : List (ℕ × Expr)) (ss : List Stmt). inlined [] gs ss s) c.as_slice-in-Inlined.ensures c.as_slice-in-Inlined-2.ensures
    ∙ called a.given a.stmts (e.rolls-Inlined a.given a.stmts ∙ sym a.is) s))
    c.begin_inlined.ensures
