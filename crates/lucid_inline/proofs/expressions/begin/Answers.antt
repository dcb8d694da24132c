use Rattle.std.proofs.Common.{◌∙◌, [], ◌∷◌, ap, sym}
use Rattle.lucid_core.specs.declared.body.Expr.{Expr}
use Rattle.lucid_core.specs.declared.body.Expr.TheVariants as e
use Rattle.lucid_inline.specs.Bodies.{after_all, all_valued, valued, with_call}
use Rattle.lucid_inline.proofs.BodiesLemmas.{after_push, leads, leads_to}
use Rattle.lucid_inline.proofs.ExpressionsLemmas.{bin_valued, cast_valued, cmp_valued, fun_valued, hash_valued, inlined_valued, un_valued}
use Rattle.lucid_inline.proofs.expressions.begin.Goals as goal

pub returns-in_ok-push-in-Un : goal.returns-in_ok-push-in-Un
returns-in_ok-push-in-Un c =
    let m = c.args.machine.now in
    let tasks = c.args.tasks.now in
    leads_to (after_all c.push.new.self (valued c.in-Un.a m)) (after_all tasks (valued c.args.e.now m)) c.evaluate.new.machine c.evaluate.new.tasks c.evaluate.result
    (after_push tasks c.push.new.self _ (valued c.in-Un.a m) c.in_ok-push-in-Un.ensures
    ∙ ap (after_all tasks) (un_valued m c.in-Un.op c.in-Un.a ∙ ap (λ (x : Expr). valued x m) (sym c.in-Un.is)))
    (rw c.get.ensures at c.evaluate.ensures)

pub returns-in_ok-push-in-Cast : goal.returns-in_ok-push-in-Cast
returns-in_ok-push-in-Cast c =
    let m = c.args.machine.now in
    let tasks = c.args.tasks.now in
    leads_to (after_all c.push-in-Cast.new.self (valued c.in-Cast.a m)) (after_all tasks (valued c.args.e.now m)) c.evaluate-in-Cast.new.machine c.evaluate-in-Cast.new.tasks c.evaluate-in-Cast.result
    (after_push tasks c.push-in-Cast.new.self _ (valued c.in-Cast.a m) c.in_ok-push-in-Cast.ensures
    ∙ ap (after_all tasks) (cast_valued m c.in-Cast.width c.in-Cast.a ∙ ap (λ (x : Expr). valued x m) (sym c.in-Cast.is)))
    (rw c.get-in-Cast.ensures at c.evaluate-in-Cast.ensures)

pub returns-in_ok-push-in-Bin : goal.returns-in_ok-push-in-Bin
returns-in_ok-push-in-Bin c =
    let m = c.args.machine.now in
    let tasks = c.args.tasks.now in
    let both = valued c.in-Bin.b (valued c.in-Bin.a m) in
    leads_to (after_all c.push-in-Bin.new.self both) (after_all tasks (valued c.args.e.now m)) c.evaluate_both.new.machine c.evaluate_both.new.tasks c.evaluate_both.result
    (after_push tasks c.push-in-Bin.new.self _ both c.in_ok-push-in-Bin.ensures
    ∙ ap (after_all tasks) (bin_valued m c.in-Bin.op c.in-Bin.a c.in-Bin.b ∙ ap (λ (x : Expr). valued x m) (sym c.in-Bin.is)))
    (rw (c.get-in-Bin.ensures, c.get-in-Bin-2.ensures) at c.evaluate_both.ensures)

pub returns-in_ok-push-in-Cmp : goal.returns-in_ok-push-in-Cmp
returns-in_ok-push-in-Cmp c =
    let m = c.args.machine.now in
    let tasks = c.args.tasks.now in
    let both = valued c.in-Cmp.b (valued c.in-Cmp.a m) in
    leads_to (after_all c.push-in-Cmp.new.self both) (after_all tasks (valued c.args.e.now m)) c.evaluate_both-in-Cmp.new.machine c.evaluate_both-in-Cmp.new.tasks c.evaluate_both-in-Cmp.result
    (after_push tasks c.push-in-Cmp.new.self _ both c.in_ok-push-in-Cmp.ensures
    ∙ ap (after_all tasks) (cmp_valued m c.in-Cmp.op c.in-Cmp.a c.in-Cmp.b ∙ ap (λ (x : Expr). valued x m) (sym c.in-Cmp.is)))
    (rw (c.get-in-Cmp.ensures, c.get-in-Cmp-2.ensures) at c.evaluate_both-in-Cmp.ensures)

pub returns-in_ok-push-in-Hash : goal.returns-in_ok-push-in-Hash
returns-in_ok-push-in-Hash c =
    let m = c.args.machine.now in
    let tasks = c.args.tasks.now in
    let operands = all_valued c.in-Hash.xs m in
    leads_to (after_all c.push-in-Hash.new.self operands) (after_all tasks (valued c.args.e.now m)) c.evaluate_all.new.machine c.evaluate_all.new.tasks c.evaluate_all.result
    (after_push tasks c.push-in-Hash.new.self _ operands c.in_ok-push-in-Hash.ensures
    ∙ ap (after_all tasks) (hash_valued m c.in-Hash.width c.len.result c.in-Hash.xs c.len.ensures ∙ ap (λ (x : Expr). valued x m) (sym c.in-Hash.is)))
    (rw c.as_slice.ensures at c.evaluate_all.ensures)

pub returns-in_ok-push-in-Fun : goal.returns-in_ok-push-in-Fun
returns-in_ok-push-in-Fun c =
    let m = c.args.machine.now in
    let tasks = c.args.tasks.now in
    let operands = all_valued c.in-Fun.args m in
    leads_to (after_all c.push-in-Fun.new.self operands) (after_all tasks (valued c.args.e.now m)) c.evaluate_all-in-Fun.new.machine c.evaluate_all-in-Fun.new.tasks c.evaluate_all-in-Fun.result
    (after_push tasks c.push-in-Fun.new.self _ operands c.in_ok-push-in-Fun.ensures
    ∙ ap (λ names. after_all tasks (with_call c.in-Fun.k names c.len-in-Fun.result operands)) c.as_slice-in-Fun.ensures
    ∙ ap (after_all tasks) (fun_valued m c.in-Fun.k c.len-in-Fun.result c.in-Fun.names c.in-Fun.args c.len-in-Fun.ensures ∙ ap (λ (x : Expr). valued x m) (sym c.in-Fun.is)))
    (rw c.as_slice-in-Fun-2.ensures at c.evaluate_all-in-Fun.ensures)

pub returns-in-Array : goal.returns-in-Array
returns-in-Array c = rw c.in-Array.is (rw c.get-in-Array.ensures at c.touch.ensures)

pub returns-in-Inlined : goal.returns-in-Inlined
returns-in-Inlined c =
    let m = c.args.machine.now in
    let tasks = c.args.tasks.now in
    leads (after_all tasks (valued c.args.e.now m)) c.inlined.new.machine tasks c.inlined.result _ c.inlined.ensures
    (λ is. ap (after_all tasks) (is ∙ ap (λ given. record m { operands = e.Inlined given [] ∷ m.operands }) c.new-given.ensures
    ∙ inlined_valued m _ _ ∙ ap (λ (x : Expr). valued x m) (sym c.in-Inlined.is)))

pub returns-in_default : goal.returns-in_default
returns-in_default c = c.evaluate-in_default.ensures
