use Rattle.std.proofs.Common.{◌≡◌, ◌+◌, ◌&&◌, [], ◌∷◌, ◌++◌, true, arith, map, nat_le, rules, sym, ap, ◌∙◌}
use Rattle.lucid_core.specs.declared.body.Stmt.{Stmt}
use Rattle.lucid_core.specs.declared.body.Stmt.TheVariants as s
use Rattle.lucid_core.specs.Numbers.{all_hold}
use Rattle.lucid_core.specs.OutCount.{expr_outs, stmt_outs, total}
use Rattle.lucid_core.specs.Few.{expr_few, stmt_few}
use Rattle.lucid_types_limits.specs.Tally.{in_turn, tally}
use Rattle.lucid_types_limits.proofs.Chain.{parts_are_less, stepped}
use Rattle.lucid_types_limits.proofs.Forms.{assign_is, bin_is, call_is, cast_is, cmp_is, drop_is, expr_tally, gen_is, inlined_is}
use Rattle.lucid_types_limits.proofs.Forms.{left_out_few, left_out_outs, multi_is, say_is, stmt_tally, un_is}
use Rattle.lucid_types_limits.proofs.Tallies.{next}
use Rattle.lucid_types_limits.proofs.body.+body.Goals as goal

pub stmts-loop-e-preserved : goal.stmts-loop-e-preserved
stmts-loop-e-preserved t c =
    let funs = c.args.funs.now in
    let last = c.in-Some-If-default in
    let split : c.loop-e.left.now ≡ last.front.now ++ s.If last.e last.yes last.no ∷ [] = last.ensures.cases.0
    ∙ ap (λ (x : Stmt). last.front.now ++ x ∷ []) last.field-0-0-is in
    let less = parts_are_less _ _ _ _ _ split in
    let test : c.expr.result ≡ tally (expr_outs last.e funs) (expr_few last.e) = search rules in
    let branch : c.stmts.result ≡ in_turn stmt_outs stmt_few funs last.yes = search rules in
    let behind : c.as_slice-left.result.now ≡ last.no = search rules in
    rw behind (
      omega (arith, less, c.loop-e.invariant.0),
      stepped funs c.args.ss.now c.loop-e.left.now last.front.now last.e last.yes last.no _ _ _ _ _ _ _ _ _ split
          c.and.ensures c.and-before.ensures c.and-in-Some-If-default.ensures c.or-most.ensures
          c.each.ensures test branch c.loop-e.invariant.1,
    )

pub each-loop-s-preserved : goal.each-loop-s-preserved
each-loop-s-preserved t c =
    next stmt_outs stmt_few c.args.funs.now c.args.ss.now c.loop-s.s-index c.s-item.result c.loop-s.sum c.stmt.result c.and-sum.result
    c.loop-s-test.true (sym c.s-item.is) c.and-sum.ensures c.loop-s.invariant c.stmt.ensures

pub exprs-loop-e-preserved : goal.exprs-loop-e-preserved
exprs-loop-e-preserved t c =
    next expr_outs expr_few c.args.funs.now c.args.es.now c.loop-e.e-index c.e-item.result c.loop-e.sum c.expr.result c.and-sum.result
    c.loop-e-test.true (sym c.e-item.is) c.and-sum.ensures c.loop-e.invariant c.expr.ensures

pub arguments-loop-e-preserved : goal.arguments-loop-e-preserved
arguments-loop-e-preserved t c =
    next (λ g. expr_outs g.1) (λ g. expr_few g.1) c.args.funs.now c.args.given.now c.loop-e.e-index c.loop-e-item.result
    c.loop-e.sum c.expr.result c.and-sum.result c.loop-e-test.true
    (sym c.loop-e-item.is) c.and-sum.ensures c.loop-e.invariant c.expr.ensures

pub stmt-returns-in-Gen : goal.stmt-returns-in-Gen
stmt-returns-in-Gen t c =
    let funs = c.args.funs.now in
    let args : c.exprs.result ≡ in_turn expr_outs expr_few funs c.in-Gen.args = search rules in
    let two = c.and-in-Gen.ensures _ _ _ _ args c.optional.ensures in
    let three = c.and-in-Gen-2.ensures _ _ _ _ two c.optional-in-Gen.ensures in
    c.and-in-Gen-3.ensures _ _ _ _ three c.outs.ensures
    ∙ sym (gen_is funs c.in-Gen.event c.in-Gen.args c.in-Gen.delay c.in-Gen.to c.in-Gen.delay_first)
    ∙ ap (λ (s : Stmt). tally (stmt_outs s funs) (stmt_few s)) (sym c.in-Gen.is)

pub stmt-returns-in-Multi : goal.stmt-returns-in-Multi
stmt-returns-in-Multi t c =
    let funs = c.args.funs.now in
    let args : c.exprs-in-Multi.result ≡ in_turn expr_outs expr_few funs c.in-Multi.args = search rules in
    let two = c.and-in-Multi.ensures _ _ _ _ args c.optional-in-Multi.ensures in
    c.and-in-Multi-2.ensures _ _ _ _ two c.outs-in-Multi.ensures
    ∙ ap (λ n. tally (total (map expr_outs c.in-Multi.args) funs + left_out_outs c.in-Multi.delay funs + n)
    (all_hold (map expr_few c.in-Multi.args) && left_out_few c.in-Multi.delay && true)) c.len.ensures
    ∙ sym (multi_is funs c.in-Multi.event c.in-Multi.args c.in-Multi.delay c.in-Multi.members)
    ∙ ap (λ (s : Stmt). tally (stmt_outs s funs) (stmt_few s)) (sym c.in-Multi.is)

pub stmt-returns-in-Assign : goal.stmt-returns-in-Assign
stmt-returns-in-Assign t c =
    let funs = c.args.funs.now in
    let value : c.expr.result ≡ expr_tally funs c.in-Assign.e = search rules in
    value ∙ sym (assign_is funs c.in-Assign.field-0 c.in-Assign.e) ∙ ap (stmt_tally funs) (sym c.in-Assign.is)

pub stmt-returns-in-Drop : goal.stmt-returns-in-Drop
stmt-returns-in-Drop t c =
    let funs = c.args.funs.now in
    let value : c.expr-in-Drop.result ≡ expr_tally funs c.in-Drop.e = search rules in
    value ∙ sym (drop_is funs c.in-Drop.e) ∙ ap (stmt_tally funs) (sym c.in-Drop.is)

pub stmt-returns-in-Say : goal.stmt-returns-in-Say
stmt-returns-in-Say t c =
    let funs = c.args.funs.now in
    let args : c.exprs-in-Say.result ≡ in_turn expr_outs expr_few funs c.in-Say.args = search rules in
    c.and-in-Say.ensures _ _ _ _ (c.at_most.ensures _ _ args) c.outs-in-Say.ensures
    ∙ ap (λ n. tally (total (map expr_outs c.in-Say.args) funs + 1) (nat_le n 8 && all_hold (map expr_few c.in-Say.args) && true))
    c.len-in-Say.ensures
    ∙ sym (say_is funs c.in-Say.form c.in-Say.args) ∙ ap (stmt_tally funs) (sym c.in-Say.is)

pub expr-returns-in-Un : goal.expr-returns-in-Un
expr-returns-in-Un t c =
    let funs = c.args.funs.now in
    let x : c.expr.result ≡ expr_tally funs c.in-Un.x = search rules in
    x ∙ sym (un_is funs c.in-Un.field-0 c.in-Un.x) ∙ ap (expr_tally funs) (sym c.in-Un.is)

pub expr-returns-in-Cast : goal.expr-returns-in-Cast
expr-returns-in-Cast t c =
    let funs = c.args.funs.now in
    let x : c.expr-in-Cast.result ≡ expr_tally funs c.in-Cast.x = search rules in
    x ∙ sym (cast_is funs c.in-Cast.field-0 c.in-Cast.x) ∙ ap (expr_tally funs) (sym c.in-Cast.is)

pub expr-returns-in-Bin : goal.expr-returns-in-Bin
expr-returns-in-Bin t c =
    let funs = c.args.funs.now in
    let x : c.expr-in-Bin.result ≡ expr_tally funs c.in-Bin.x = search rules in
    let y : c.expr-in-Bin-2.result ≡ expr_tally funs c.in-Bin.y = search rules in
    c.and.ensures _ _ _ _ x y ∙ sym (bin_is funs c.in-Bin.field-0 c.in-Bin.x c.in-Bin.y) ∙ ap (expr_tally funs) (sym c.in-Bin.is)

pub expr-returns-in-Cmp : goal.expr-returns-in-Cmp
expr-returns-in-Cmp t c =
    let funs = c.args.funs.now in
    let x : c.expr-in-Cmp.result ≡ expr_tally funs c.in-Cmp.x = search rules in
    let y : c.expr-in-Cmp-2.result ≡ expr_tally funs c.in-Cmp.y = search rules in
    c.and-in-Cmp.ensures _ _ _ _ x y ∙ sym (cmp_is funs c.in-Cmp.field-0 c.in-Cmp.x c.in-Cmp.y) ∙ ap (expr_tally funs) (sym c.in-Cmp.is)

pub expr-returns-in-Fun : goal.expr-returns-in-Fun
expr-returns-in-Fun t c =
    let funs = c.args.funs.now in
    let xs : c.exprs-in-Fun.result ≡ in_turn expr_outs expr_few funs c.in-Fun.xs = search rules in
    c.and-in-Fun.ensures _ _ _ _ xs c.of_function.ensures
    ∙ sym (call_is funs c.in-Fun.k c.in-Fun.field-1 c.in-Fun.xs) ∙ ap (expr_tally funs) (sym c.in-Fun.is)

pub expr-returns-in-Inlined : goal.expr-returns-in-Inlined
expr-returns-in-Inlined t c =
    let funs = c.args.funs.now in
    let outs : c.arguments-given.result ≡ in_turn (λ g. expr_outs g.1) (λ g. expr_few g.1) funs c.in-Inlined.given = search rules in
    let ss : c.stmts.result ≡ in_turn stmt_outs stmt_few funs c.in-Inlined.ss = search rules in
    c.and-in-Inlined.ensures _ _ _ _ outs ss ∙ sym (inlined_is funs c.in-Inlined.given c.in-Inlined.ss)
    ∙ ap (expr_tally funs) (sym c.in-Inlined.is)
