-- A walk goes on along the parts of a form, and takes no more steps than the whole if memory stops it.
use Rattle.std.proofs.Common.{List, true, false, Option, arith, rules, refl, sym, subst, ◌≡◌, ◌∙◌, ◌+◌, ◌≤◌, [], ◌∷◌, ◌++◌, ap, map}
use denote.Param.Weighed.{most}
use Rattle.std.proofs.lemmas.Result.{IfOk-from_err}
use Rattle.lucid_core.specs.declared.body.Expr.{Expr}
use Rattle.lucid_core.specs.declared.body.Expr.TheViews.{size-Stmt}
use Rattle.lucid_core.specs.declared.body.Stmt.{Stmt}
use Rattle.lucid_core.specs.declared.body.Stmt.TheVariants as s
use Rattle.lucid_constraints.specs.Same.{same_atom, join_all}
use Rattle.lucid_effects_spec.specs.Evaluation.{sequence}
use Rattle.lucid_effects.specs.Walk.{asked_found, back_from, behind, closed}
use Rattle.lucid_effects.specs.Goes.{walked}
use Rattle.lucid_effects_spec.specs.Schemes.{Walked, body_found, either, expr_found, finds, given_found, stmt_found}
use Rattle.lucid_effects_spec.specs.Schemes.{touch_found}
use Rattle.lucid_effects.proofs.Rising.{expr_left, get_left, given_all, given_left, given_next, next_item, no_item, stmt_left}
use Rattle.lucid_effects.proofs.WalkLemmas.{array_goes, assign_goes, behind_goes, bin_goes, branch_ends, branch_is, branch_most, both_stop, call_goes, call_stops, closes, either_joins}
use Rattle.lucid_effects.proofs.WalkLemmas.{either_left, ends_there, first_back, first_left, front_left, gen_goes, gen_stops}
use Rattle.lucid_effects.proofs.WalkLemmas.{goes_on, hash_goes, if_goes, inlined_goes, inlined_stops, multi_goes, multi_stops, no_deeper, none_left}
use Rattle.lucid_effects.proofs.WalkLemmas.{parts_are_less, return_goes, say_goes, stepped_by, stops, tested_left, touch_goes, touch_stops, two_stop, un_goes}
use Rattle.lucid_effects.proofs.walk.+walk.Goals as goal

pub expr-returns-in-Hash : goal.expr-returns-in-Hash
expr-returns-in-Hash g t c =
    hash_goes c.exprs.result c.args.schemes.now c.args.at.now c.args.steps.now c.tick.new.self c.tick.ensures (walked c.exprs.new.at c.exprs.new.steps)
    _ c.args.e.now c.in-Hash.operands c.as_slice.result.now c.in-Hash.is c.as_slice.ensures c.exprs.ensures

pub expr-returns-in-Array : goal.expr-returns-in-Array
expr-returns-in-Array g t c =
    array_goes c.touch.result c.args.schemes.now c.args.at.now c.args.steps.now c.tick-in-Array.new.self c.tick-in-Array.ensures (walked c.touch.new.at c.touch.new.steps)
    c.args.e.now c.in-Array.t c.get.result.now c.in-Array.is c.get.ensures c.touch.ensures

pub expr-returns-in_err-exprs-in-Fun : goal.expr-returns-in_err-exprs-in-Fun
expr-returns-in_err-exprs-in-Fun g t c =
    call_stops c.from_residual.result c.args.schemes.now (walked c.args.at.now c.args.steps.now) (walked c.exprs-in-Fun.new.at c.exprs-in-Fun.new.steps)
    c.args.e.now c.in-Fun.k c.in-Fun.names c.in-Fun.args c.as_slice-in-Fun.result.now c.in-Fun.is c.as_slice-in-Fun.ensures
    c.from_residual.ensures.0 c.in_err-exprs-in-Fun.ensures

pub expr-returns-in_ok-exprs-in-Fun : goal.expr-returns-in_ok-exprs-in-Fun
expr-returns-in_ok-exprs-in-Fun g t c =
    call_goes c.goes_through.result c.args.schemes.now (walked c.args.at.now c.args.steps.now) (walked c.goes_through.new.at c.goes_through.new.steps)
    c.args.e.now c.in-Fun.k c.in-Fun.names c.in-Fun.args c.as_slice-in-Fun.result.now c.in-Fun.is c.as_slice-in-Fun.ensures
    (walked c.exprs-in-Fun.new.at c.exprs-in-Fun.new.steps) c.as_slice-in-Fun-2.result.now c.as_slice-in-Fun-2.ensures c.in_ok-exprs-in-Fun.ensures c.goes_through.ensures

pub expr-returns-in_err-givens-in-Inlined : goal.expr-returns-in_err-givens-in-Inlined
expr-returns-in_err-givens-in-Inlined g t c =
    inlined_stops c.from_residual-in_err-givens-in-Inlined.result c.args.schemes.now c.args.at.now c.args.steps.now c.tick-in-Inlined.new.self c.tick-in-Inlined.ensures (walked c.givens.new.at c.givens.new.steps)
    c.args.e.now c.in-Inlined.given c.as_slice-in-Inlined.result.now c.in-Inlined.stmts c.in-Inlined.is c.as_slice-in-Inlined.ensures
    c.from_residual-in_err-givens-in-Inlined.ensures.0 c.in_err-givens-in-Inlined.ensures

pub expr-returns-in_ok-givens-in-Inlined : goal.expr-returns-in_ok-givens-in-Inlined
expr-returns-in_ok-givens-in-Inlined g t c =
    inlined_goes c.body.result c.args.schemes.now c.args.at.now c.args.steps.now c.tick-in-Inlined.new.self c.tick-in-Inlined.ensures (walked c.body.new.at c.body.new.steps)
    c.args.e.now c.in-Inlined.given c.as_slice-in-Inlined.result.now c.in-Inlined.stmts c.as_slice-in-Inlined-2.result.now (walked c.givens.new.at c.givens.new.steps)
    c.in-Inlined.is c.as_slice-in-Inlined.ensures c.as_slice-in-Inlined-2.ensures c.in_ok-givens-in-Inlined.ensures c.body.ensures

pub two-returns-in_err-expr : goal.two-returns-in_err-expr
two-returns-in_err-expr g t c =
    two_stop c.from_residual.result c.args.schemes.now (walked c.args.at.now c.args.steps.now) (walked c.args.at.now c.args.steps.now) (walked c.expr.new.at c.expr.new.steps)
    c.args.first.now c.args.last.now c.from_residual.ensures.0 c.in_err-expr.ensures

pub two-returns : goal.two-returns
two-returns g t c =
    behind_goes c.expr-2.result c.args.schemes.now (walked c.args.at.now c.args.steps.now) (walked c.expr.new.at c.expr.new.steps) (walked c.expr-2.new.at c.expr-2.new.steps)
    (expr_found c.args.first.now) (expr_found c.args.last.now) c.in_ok-expr.ensures c.expr-2.ensures

pub exprs-loop-e-init : goal.exprs-loop-e-init
exprs-loop-e-init g t c =
    refl

pub exprs-loop-e-preserved : goal.exprs-loop-e-preserved
exprs-loop-e-preserved g t c =
    next_item expr_found c.args.es.now c.loop-e.e-index c.args.schemes.now (walked c.loop-e.at c.loop-e.steps)
    (sequence finds (map expr_found c.args.es.now) c.args.schemes.now (walked c.args.at.now c.args.steps.now))
    c.loop-e.invariant c.e-item.result (walked c.expr.new.at c.expr.new.steps) c.loop-e-test.true c.e-item.is c.in_ok-expr.ensures

pub exprs-returns : goal.exprs-returns
exprs-returns g t c =
    no_item expr_found c.args.es.now c.loop-e.e-index c.args.schemes.now (walked c.loop-e.at c.loop-e.steps)
    (sequence finds (map expr_found c.args.es.now) c.args.schemes.now (walked c.args.at.now c.args.steps.now))
    c.loop-e.invariant c.loop-e-test.false

pub exprs-returns-in_err-expr : goal.exprs-returns-in_err-expr
exprs-returns-in_err-expr g t c =
    let most = expr_left c.args.es.now c.loop-e.e-index c.e-item.result c.args.schemes.now (walked c.loop-e.at c.loop-e.steps)
    (walked c.args.at.now c.args.steps.now) c.expr.new.steps
    c.loop-e-test.true c.e-item.is c.loop-e.invariant c.in_err-expr.ensures in
    stops c.from_residual.result (sequence finds (map expr_found c.args.es.now) c.args.schemes.now (walked c.args.at.now c.args.steps.now))
    (walked c.expr.new.at c.expr.new.steps) c.from_residual.ensures.0 most

pub each-loop-one-init : goal.each-loop-one-init
each-loop-one-init g t c =
    refl

pub each-loop-one-preserved : goal.each-loop-one-preserved
each-loop-one-preserved g t c =
    next_item stmt_found c.args.stmts.now c.loop-one.one-index c.args.schemes.now (walked c.loop-one.at c.loop-one.steps)
    (sequence finds (map stmt_found c.args.stmts.now) c.args.schemes.now (walked c.args.at.now c.args.steps.now))
    c.loop-one.invariant c.one-item.result (walked c.stmt.new.at c.stmt.new.steps) c.loop-one-test.true c.one-item.is c.in_ok-stmt.ensures

pub each-returns : goal.each-returns
each-returns g t c =
    no_item stmt_found c.args.stmts.now c.loop-one.one-index c.args.schemes.now (walked c.loop-one.at c.loop-one.steps)
    (sequence finds (map stmt_found c.args.stmts.now) c.args.schemes.now (walked c.args.at.now c.args.steps.now))
    c.loop-one.invariant c.loop-one-test.false

pub each-returns-in_err-stmt : goal.each-returns-in_err-stmt
each-returns-in_err-stmt g t c =
    let most = stmt_left c.args.stmts.now c.loop-one.one-index c.one-item.result c.args.schemes.now (walked c.loop-one.at c.loop-one.steps)
    (walked c.args.at.now c.args.steps.now) c.stmt.new.steps
    c.loop-one-test.true c.one-item.is c.loop-one.invariant c.in_err-stmt.ensures in
    stops c.from_residual.result
    (sequence finds (map stmt_found c.args.stmts.now) c.args.schemes.now (walked c.args.at.now c.args.steps.now))
    (walked c.stmt.new.at c.stmt.new.steps) c.from_residual.ensures.0 most

pub givens-loop-e-init : goal.givens-loop-e-init
givens-loop-e-init g t c =
    refl

pub givens-loop-e-preserved : goal.givens-loop-e-preserved
givens-loop-e-preserved g t c =
    given_next c.args.given.now c.loop-e.e-index c.args.schemes.now (walked c.loop-e.at c.loop-e.steps)
    (given_found c.args.given.now c.args.schemes.now (walked c.args.at.now c.args.steps.now)) c.loop-e.invariant
    c.loop-e-item.result (walked c.expr.new.at c.expr.new.steps) c.loop-e-test.true c.loop-e-item.is c.in_ok-expr.ensures

pub givens-returns : goal.givens-returns
givens-returns g t c =
    given_all c.args.given.now c.loop-e.e-index c.args.schemes.now (walked c.loop-e.at c.loop-e.steps)
    (given_found c.args.given.now c.args.schemes.now (walked c.args.at.now c.args.steps.now)) c.loop-e.invariant c.loop-e-test.false

pub givens-returns-in_err-expr : goal.givens-returns-in_err-expr
givens-returns-in_err-expr g t c =
    let most = given_left c.args.given.now c.loop-e.e-index c.loop-e-item.result c.args.schemes.now (walked c.loop-e.at c.loop-e.steps)
    (walked c.args.at.now c.args.steps.now) c.expr.new.steps
    c.loop-e-test.true c.loop-e-item.is c.loop-e.invariant c.in_err-expr.ensures in
    stops c.from_residual.result (given_found c.args.given.now c.args.schemes.now (walked c.args.at.now c.args.steps.now))
    (walked c.expr.new.at c.expr.new.steps) c.from_residual.ensures.0 most

pub touch-returns-in_err-two : goal.touch-returns-in_err-two
touch-returns-in_err-two g t c =
    stops c.from_residual.result (touch_found c.args.t.now c.args.schemes.now (walked c.args.at.now c.args.steps.now)) (walked c.two.new.at c.two.new.steps) c.from_residual.ensures.0
    (get_left c.args.t.now c.args.schemes.now (walked c.args.at.now c.args.steps.now) c.two.new.steps c.in_err-two.ensures)

pub touch-returns-in_err-expr : goal.touch-returns-in_err-expr
touch-returns-in_err-expr g t c =
    touch_stops c.from_residual-in_err-expr.result c.args.t.now c.args.schemes.now (walked c.args.at.now c.args.steps.now) (walked c.two.new.at c.two.new.steps) (walked c.expr.new.at c.expr.new.steps) c.in_ok-two.ensures
    c.from_residual-in_err-expr.ensures.0 c.in_err-expr.ensures

pub touch-returns : goal.touch-returns
touch-returns g t c =
    touch_goes c.passes.result c.args.t.now c.args.schemes.now (walked c.args.at.now c.args.steps.now) (walked c.two.new.at c.two.new.steps) (walked c.passes.new.at c.passes.new.steps) c.in_ok-two.ensures
    (walked c.expr.new.at c.expr.new.steps) c.in_ok-expr.ensures c.passes.ensures

pub along-loop-last-init : goal.along-loop-last-init
along-loop-last-init g t c =
    (omega arith, refl)

pub along-loop-last-preserved : goal.along-loop-last-preserved
along-loop-last-preserved g t c =
    let split : c.loop-last.left.now ≡ c.in-Some.front.now ++ s.If c.in-If.e c.in-If.a c.in-If.b ∷ [] =
    c.in-Some.ensures.cases.0 ∙ ap (λ (x : Stmt). c.in-Some.front.now ++ x ∷ []) c.in-If.is in
    let deep = no_deeper c.loop-last.left.now c.in-Some.front.now c.args.stmts.now c.as_slice-left.result.now c.in-If.e c.in-If.a c.in-If.b split c.as_slice-left.ensures c.loop-last.invariant.0 in
    let two = branch_is c.in-If.e c.in-If.a c.as_slice.result.now c.args.schemes.now c.each-in-Some.new.at c.each-in-Some.new.steps c.tick.new.self c.as_slice.ensures c.tick.ensures
    (walked c.first_branch.new.at c.first_branch.new.steps) c.in_ok-ends.ensures.found in
    let ends = branch_ends c.in-If.e c.in-If.a c.as_slice.result.now c.args.schemes.now c.each-in-Some.new.at c.each-in-Some.new.steps c.tick.new.self c.as_slice.ensures c.tick.ensures c.in_ok-ends.ends c.in_ok-ends.ensures.ends in (
      deep.0,
      stepped_by c.loop-last.left.now c.in-Some.front.now c.in-If.e c.in-If.a c.in-If.b split c.args.schemes.now (walked c.loop-last.at c.loop-last.steps)
          c.loop-last.firsts (closed c.args.firsts.now (body_found c.args.stmts.now c.args.schemes.now (walked c.args.at.now c.args.steps.now))) c.loop-last.invariant.1
          (walked c.each-in-Some.new.at c.each-in-Some.new.steps) (walked c.first_branch.new.at c.first_branch.new.steps) c.in_ok-ends.ends c.keep.new.firsts
          c.as_slice-left.result.now c.in_ok-each.ensures two ends c.in_ok-keep.ensures c.as_slice-left.ensures,
    )

pub along-loop-last-smaller : goal.along-loop-last-smaller
along-loop-last-smaller g t c =
    let split : c.loop-last.left.now ≡ c.in-Some.front.now ++ s.If c.in-If.e c.in-If.a c.in-If.b ∷ [] =
    c.in-Some.ensures.cases.0 ∙ ap (λ (x : Stmt). c.in-Some.front.now ++ x ∷ []) c.in-If.is in
    (no_deeper c.loop-last.left.now c.in-Some.front.now c.args.stmts.now c.as_slice-left.result.now c.in-If.e c.in-If.a c.in-If.b split c.as_slice-left.ensures c.loop-last.invariant.0).1

pub along-first_branch-requires : goal.along-first_branch-requires
along-first_branch-requires g t c =
    let split : c.loop-last.left.now ≡ c.in-Some.front.now ++ s.If c.in-If.e c.in-If.a c.in-If.b ∷ [] =
    c.in-Some.ensures.cases.0 ∙ ap (λ (x : Stmt). c.in-Some.front.now ++ x ∷ []) c.in-If.is in
    let less = parts_are_less _ _ _ _ _ split in
    let slice = ap (λ (ss : List Stmt). most (λ x. size-Stmt x) ss) c.as_slice.ensures in
    search (rules, less, slice)

pub along-returns-in_err-each : goal.along-returns-in_err-each
along-returns-in_err-each g t c =
    let split : c.loop-last.left.now ≡ c.in-Some.front.now ++ s.If c.in-If.e c.in-If.a c.in-If.b ∷ [] =
    c.in-Some.ensures.cases.0 ∙ ap (λ (x : Stmt). c.in-Some.front.now ++ x ∷ []) c.in-If.is in
    stops c.from_residual.result (closed c.args.firsts.now (body_found c.args.stmts.now c.args.schemes.now (walked c.args.at.now c.args.steps.now))) (closed c.loop-last.firsts (walked c.each-in-Some.new.at c.each-in-Some.new.steps)) c.from_residual.ensures.0
    (front_left c.loop-last.left.now c.in-Some.front.now c.in-If.e c.in-If.a c.in-If.b split c.args.schemes.now (walked c.loop-last.at c.loop-last.steps)
    c.loop-last.firsts (closed c.args.firsts.now (body_found c.args.stmts.now c.args.schemes.now (walked c.args.at.now c.args.steps.now))) c.loop-last.invariant.1 c.each-in-Some.new.steps c.in_err-each.ensures)

pub along-returns-in_err-ends : goal.along-returns-in_err-ends
along-returns-in_err-ends g t c =
    let split : c.loop-last.left.now ≡ c.in-Some.front.now ++ s.If c.in-If.e c.in-If.a c.in-If.b ∷ [] =
    c.in-Some.ensures.cases.0 ∙ ap (λ (x : Stmt). c.in-Some.front.now ++ x ∷ []) c.in-If.is in
    let low = branch_most c.in-If.e c.in-If.a c.as_slice.result.now c.args.schemes.now c.each-in-Some.new.at c.each-in-Some.new.steps c.tick.new.self c.as_slice.ensures c.tick.ensures c.first_branch.new.steps c.in_err-ends.ensures.found in
    stops c.from_residual-in_err-ends.result (closed c.args.firsts.now (body_found c.args.stmts.now c.args.schemes.now (walked c.args.at.now c.args.steps.now))) (closed c.loop-last.firsts (walked c.first_branch.new.at c.first_branch.new.steps)) c.from_residual-in_err-ends.ensures.0
    (first_left c.loop-last.left.now c.in-Some.front.now c.in-If.e c.in-If.a c.in-If.b split c.args.schemes.now (walked c.loop-last.at c.loop-last.steps)
    c.loop-last.firsts (closed c.args.firsts.now (body_found c.args.stmts.now c.args.schemes.now (walked c.args.at.now c.args.steps.now))) c.loop-last.invariant.1 (walked c.each-in-Some.new.at c.each-in-Some.new.steps) c.first_branch.new.steps c.in_ok-each.ensures low)

pub along-returns-in_err-keep : goal.along-returns-in_err-keep
along-returns-in_err-keep g t c =
    let split : c.loop-last.left.now ≡ c.in-Some.front.now ++ s.If c.in-If.e c.in-If.a c.in-If.b ∷ [] =
    c.in-Some.ensures.cases.0 ∙ ap (λ (x : Stmt). c.in-Some.front.now ++ x ∷ []) c.in-If.is in
    let two = branch_is c.in-If.e c.in-If.a c.as_slice.result.now c.args.schemes.now c.each-in-Some.new.at c.each-in-Some.new.steps c.tick.new.self c.as_slice.ensures c.tick.ensures
    (walked c.first_branch.new.at c.first_branch.new.steps) c.in_ok-ends.ensures.found in
    stops c.from_residual-in_err-keep.result (closed c.args.firsts.now (body_found c.args.stmts.now c.args.schemes.now (walked c.args.at.now c.args.steps.now))) (closed c.keep.new.firsts (walked c.first_branch.new.at c.first_branch.new.steps)) c.from_residual-in_err-keep.ensures.0
    (first_left c.loop-last.left.now c.in-Some.front.now c.in-If.e c.in-If.a c.in-If.b split c.args.schemes.now (walked c.loop-last.at c.loop-last.steps)
    c.loop-last.firsts (closed c.args.firsts.now (body_found c.args.stmts.now c.args.schemes.now (walked c.args.at.now c.args.steps.now))) c.loop-last.invariant.1 (walked c.each-in-Some.new.at c.each-in-Some.new.steps) c.first_branch.new.steps c.in_ok-each.ensures (first_back c.in-If.e c.in-If.a c.args.schemes.now (walked c.each-in-Some.new.at (c.each-in-Some.new.steps + 1)) (walked c.first_branch.new.at c.first_branch.new.steps) two))

pub along-returns : goal.along-returns
along-returns g t c =
    none_left c.loop-last.left.now c.args.schemes.now (walked c.loop-last.at c.loop-last.steps) c.loop-last.firsts (closed c.args.firsts.now (body_found c.args.stmts.now c.args.schemes.now (walked c.args.at.now c.args.steps.now)))
    c.in_default.ensures.cases c.loop-last.invariant.1

pub along-returns-in_default-last : goal.along-returns-in_default-last
along-returns-in_default-last g t c =
    closes c.each.result c.loop-last.firsts (body_found c.loop-last.left.now c.args.schemes.now (walked c.loop-last.at c.loop-last.steps)) (walked c.each.new.at c.each.new.steps) (closed c.args.firsts.now (body_found c.args.stmts.now c.args.schemes.now (walked c.args.at.now c.args.steps.now)))
    c.loop-last.invariant.1 c.each.ensures

pub body-returns-in-Ok : goal.body-returns-in-Ok
body-returns-in-Ok g t c =
    ends_there c.stand_behind.result (behind c.along.new.firsts c.along.new.at.ends) c.along.new.at c.stand_behind.new.at c.along.new.steps (body_found c.args.stmts.now c.args.schemes.now (walked c.args.at.now c.args.steps.now))
    c.stand_behind.ensures c.in-Ok.ensures

pub body-returns-in-Err : goal.body-returns-in-Err
body-returns-in-Err g t c =
    c.in-Err.ensures

pub branches-returns-in_err-left : goal.branches-returns-in_err-left
branches-returns-in_err-left g t c =
    stops c.from_residual.result (either (body_found c.args.a.now) (body_found c.args.b.now) c.args.schemes.now (expr_found c.args.e.now c.args.schemes.now (walked c.args.at.now c.args.steps.now))) (walked c.first_branch.new.at c.first_branch.new.steps) c.from_residual.ensures.0
    (either_left c.args.e.now c.args.a.now c.args.b.now c.args.schemes.now (walked c.args.at.now c.args.steps.now) c.first_branch.new.steps c.in_err-left.ensures.found)

pub branches-returns-in-Ok : goal.branches-returns-in-Ok
branches-returns-in-Ok g t c =
    ends_there c.stand_at_both.result (join_all same_atom c.in_ok-left.left c.body.new.at.ends) c.body.new.at c.stand_at_both.new.at c.body.new.steps (either (body_found c.args.a.now) (body_found c.args.b.now) c.args.schemes.now (expr_found c.args.e.now c.args.schemes.now (walked c.args.at.now c.args.steps.now)))
    c.stand_at_both.ensures
    (either_joins c.args.e.now c.args.a.now c.args.b.now c.args.schemes.now (walked c.args.at.now c.args.steps.now) (walked c.first_branch.new.at c.first_branch.new.steps) (walked c.body.new.at c.body.new.steps) c.in_ok-left.left
    c.in_ok-left.ensures.ends c.in_ok-left.ensures.found c.in-Ok.ensures)

pub branches-returns-in-Err : goal.branches-returns-in-Err
branches-returns-in-Err g t c =
    subst (λ (w : Walked). c.body.new.steps ≤ (body_found c.args.b.now c.args.schemes.now w).steps) c.in_ok-left.ensures.found c.in-Err.ensures

pub both-returns-in_err-asked : goal.both-returns-in_err-asked
both-returns-in_err-asked g t c =
    both_stop c.from_residual.result c.args.schemes.now (walked c.args.at.now c.args.steps.now) (walked c.args.at.now c.args.steps.now) (walked c.asked.new.at c.asked.new.steps)
    c.args.first.now c.args.last.now c.from_residual.ensures.0 c.in_err-asked.ensures

pub both-returns : goal.both-returns
both-returns g t c =
    behind_goes c.asked-2.result c.args.schemes.now (walked c.args.at.now c.args.steps.now) (walked c.asked.new.at c.asked.new.steps) (walked c.asked-2.new.at c.asked-2.new.steps)
    (asked_found c.args.first.now) (asked_found c.args.last.now) c.in_ok-asked.ensures c.asked-2.ensures

pub asked-returns-in-None : goal.asked-returns-in-None
asked-returns-in-None g t c =
    ap (λ (x : Option Expr). asked_found x c.args.schemes.now (walked c.args.at.now c.args.steps.now)) (sym c.in-None.is)

pub asked-returns-in-Some : goal.asked-returns-in-Some
asked-returns-in-Some g t c =
    let is = ap (λ (x : Option Expr). asked_found x c.args.schemes.now (walked c.args.at.now c.args.steps.now)) c.in-Some.is in
    goes_on c.expr.result (expr_found c.in-Some.e c.args.schemes.now (walked c.args.at.now c.args.steps.now)) (asked_found c.args.e.now c.args.schemes.now (walked c.args.at.now c.args.steps.now)) (walked c.expr.new.at c.expr.new.steps) (sym is) c.expr.ensures

pub stmt-returns-in-If : goal.stmt-returns-in-If
stmt-returns-in-If g t c =
    if_goes c.branches.result c.args.schemes.now c.args.at.now c.args.steps.now c.tick.new.self c.tick.ensures (walked c.branches.new.at c.branches.new.steps)
    c.args.s.now c.in-If.e c.in-If.a c.in-If.b c.as_slice.result.now c.as_slice-in-If.result.now c.in-If.is c.as_slice.ensures c.as_slice-in-If.ensures c.branches.ensures

pub stmt-returns-in_err-exprs-in-Gen : goal.stmt-returns-in_err-exprs-in-Gen
stmt-returns-in_err-exprs-in-Gen g t c =
    gen_stops c.from_residual.result c.args.schemes.now c.args.at.now c.args.steps.now c.tick.new.self c.tick.ensures (walked c.exprs.new.at c.exprs.new.steps)
    c.in-Gen.args c.as_slice-in-Gen.result.now c.as_slice-in-Gen.ensures _ c.args.s.now c.in-Gen.delay c.in-Gen.to c.in-Gen.delay_first c.in-Gen.is c.from_residual.ensures.0 c.in_err-exprs-in-Gen.ensures

pub stmt-returns-then-delay_first : goal.stmt-returns-then-delay_first
stmt-returns-then-delay_first g t c =
    gen_goes c.both.result c.args.schemes.now c.args.at.now c.args.steps.now c.tick.new.self c.tick.ensures (walked c.both.new.at c.both.new.steps)
    c.in-Gen.args c.as_slice-in-Gen.result.now c.as_slice-in-Gen.ensures c.in-Gen.event c.args.s.now c.in-Gen.delay c.in-Gen.to c.in-Gen.delay_first true (walked c.exprs.new.at c.exprs.new.steps) c.in-Gen.is c.if-delay_first.true c.in_ok-exprs-in-Gen.ensures c.both.ensures

pub stmt-returns-else-delay_first : goal.stmt-returns-else-delay_first
stmt-returns-else-delay_first g t c =
    gen_goes c.both-else-delay_first.result c.args.schemes.now c.args.at.now c.args.steps.now c.tick.new.self c.tick.ensures (walked c.both-else-delay_first.new.at c.both-else-delay_first.new.steps)
    c.in-Gen.args c.as_slice-in-Gen.result.now c.as_slice-in-Gen.ensures c.in-Gen.event c.args.s.now c.in-Gen.delay c.in-Gen.to c.in-Gen.delay_first false (walked c.exprs.new.at c.exprs.new.steps) c.in-Gen.is c.if-delay_first.false c.in_ok-exprs-in-Gen.ensures c.both-else-delay_first.ensures

pub stmt-returns-in_err-exprs-in-Multi : goal.stmt-returns-in_err-exprs-in-Multi
stmt-returns-in_err-exprs-in-Multi g t c =
    multi_stops c.from_residual-in_err-exprs-in-Multi.result c.args.schemes.now c.args.at.now c.args.steps.now c.tick.new.self c.tick.ensures (walked c.exprs-in-Multi.new.at c.exprs-in-Multi.new.steps)
    c.in-Multi.args c.as_slice-in-Multi.result.now c.as_slice-in-Multi.ensures _ c.args.s.now c.in-Multi.delay _ c.in-Multi.is c.from_residual-in_err-exprs-in-Multi.ensures.0 c.in_err-exprs-in-Multi.ensures

pub stmt-returns-in_ok-exprs-in-Multi : goal.stmt-returns-in_ok-exprs-in-Multi
stmt-returns-in_ok-exprs-in-Multi g t c =
    multi_goes c.asked.result c.args.schemes.now c.args.at.now c.args.steps.now c.tick.new.self c.tick.ensures (walked c.asked.new.at c.asked.new.steps)
    c.in-Multi.args c.as_slice-in-Multi.result.now c.as_slice-in-Multi.ensures _ c.args.s.now c.in-Multi.delay _ (walked c.exprs-in-Multi.new.at c.exprs-in-Multi.new.steps) c.in-Multi.is c.in_ok-exprs-in-Multi.ensures c.asked.ensures

pub stmt-returns-in-Say : goal.stmt-returns-in-Say
stmt-returns-in-Say g t c =
    say_goes c.exprs-in-Say.result c.args.schemes.now c.args.at.now c.args.steps.now c.tick.new.self c.tick.ensures (walked c.exprs-in-Say.new.at c.exprs-in-Say.new.steps)
    _ c.args.s.now c.in-Say.args c.as_slice-in-Say.result.now c.in-Say.is c.as_slice-in-Say.ensures c.exprs-in-Say.ensures

pub stmt-returns-in-Return : goal.stmt-returns-in-Return
stmt-returns-in-Return g t c =
    return_goes c.asked-in-Return.result c.args.schemes.now c.args.at.now c.args.steps.now c.tick.new.self c.tick.ensures (walked c.asked-in-Return.new.at c.asked-in-Return.new.steps)
    c.args.s.now c.in-Return.e c.in-Return.is c.asked-in-Return.ensures

pub first_branch-returns-in_err-expr-clause-found : goal.first_branch-returns-in_err-expr-clause-found
first_branch-returns-in_err-expr-clause-found g t c =
    stops c.from_residual.result (back_from c.args.e.now c.args.a.now c.args.schemes.now (walked c.args.at.now c.args.steps.now))
    (walked c.expr.new.at c.expr.new.steps) c.from_residual.ensures.0
    (tested_left c.args.e.now c.args.a.now c.args.schemes.now (walked c.args.at.now c.args.steps.now) c.expr.new.steps
    c.in_err-expr.ensures)

pub first_branch-returns-in_err-expr-clause-ends : goal.first_branch-returns-in_err-expr-clause-ends
first_branch-returns-in_err-expr-clause-ends g t c =
    IfOk-from_err c.from_residual.result _ c.from_residual.ensures.0

pub first_branch-returns-in_err-began-clause-found : goal.first_branch-returns-in_err-began-clause-found
first_branch-returns-in_err-began-clause-found g t c =
    let same : (walked c.expr.new.at c.expr.new.steps) ≡ expr_found c.args.e.now c.args.schemes.now (walked c.args.at.now c.args.steps.now)
    = c.in_ok-expr.ensures in
    let steps = ap (λ (w : Walked). w.steps) same in
    let low : c.expr.new.steps ≤ (expr_found c.args.e.now c.args.schemes.now (walked c.args.at.now c.args.steps.now)).steps =
    omega (arith, steps) in
    stops c.from_residual-in_err-began.result
    (back_from c.args.e.now c.args.a.now c.args.schemes.now (walked c.args.at.now c.args.steps.now))
    (walked c.expr.new.at c.expr.new.steps) c.from_residual-in_err-began.ensures.0
    (tested_left c.args.e.now c.args.a.now c.args.schemes.now (walked c.args.at.now c.args.steps.now) c.expr.new.steps low)

pub first_branch-returns-in_err-began-clause-ends : goal.first_branch-returns-in_err-began-clause-ends
first_branch-returns-in_err-began-clause-ends g t c =
    IfOk-from_err c.from_residual-in_err-began.result _ c.from_residual-in_err-began.ensures.0

pub first_branch-returns-in-Err-clause-found : goal.first_branch-returns-in-Err-clause-found
first_branch-returns-in-Err-clause-found g t c =
    subst (λ (w : Walked). c.body.new.steps ≤ (body_found c.args.a.now c.args.schemes.now w).steps) c.in_ok-expr.ensures c.in-Err.ensures

pub expr-returns-in-Un : goal.expr-returns-in-Un
expr-returns-in-Un g t c =
    un_goes c.expr.result c.args.schemes.now c.args.at.now c.args.steps.now c.tick-in-Un.new.self c.tick-in-Un.ensures (walked c.expr.new.at c.expr.new.steps)
    c.args.e.now c.in-Un.a c.get-in-Un.result.now c.in-Un.is c.get-in-Un.ensures c.expr.ensures

pub expr-returns-in-Bin : goal.expr-returns-in-Bin
expr-returns-in-Bin g t c =
    bin_goes c.two.result c.args.schemes.now c.args.at.now c.args.steps.now c.tick-in-Bin.new.self c.tick-in-Bin.ensures (walked c.two.new.at c.two.new.steps)
    c.args.e.now c.in-Bin.a c.in-Bin.b c.get-in-Bin.result.now c.get-in-Bin-2.result.now c.in-Bin.is c.get-in-Bin.ensures c.get-in-Bin-2.ensures c.two.ensures

pub stmt-returns-in-Assign : goal.stmt-returns-in-Assign
stmt-returns-in-Assign g t c =
    assign_goes c.expr.result c.args.schemes.now c.args.at.now c.args.steps.now c.tick.new.self c.tick.ensures (walked c.expr.new.at c.expr.new.steps)
    c.args.s.now c.in-Assign.e c.in-Assign.is c.expr.ensures
