-- One step along the second branches, and one back.
use Rattle.std.proofs.Common.{◌≡◌, ◌+◌, [], ◌∷◌, ◌++◌, Bool, List, ℕ, ◌||◌, arith, rules, drop, fold, length, map, refl, sym, subst, ap, ◌∙◌}
use Rattle.std.proofs.lemmas.List.{drop_all}
use Rattle.std.proofs.lemmas.Result.{IfOk-weaker, on_ok_weaker}
use Rattle.lucid_core.specs.declared.body.Expr.TheOpen.{Stmt-F}
use Rattle.lucid_core.specs.declared.body.Stmt.{Stmt}
use Rattle.lucid_core.specs.declared.body.Stmt.TheVariants as s
use Rattle.lucid_inline_count.specs.declared.body.Part.{Part}
use Rattle.lucid_inline_count.specs.Branches.{chosen, followed}
use Rattle.lucid_inline_count.specs.Counts.{counted, plus}
use Rattle.lucid_inline_count.specs.Found.{Running, Tally, any_returns, any_value, block_part, condition, expr_found, held_with, names_of, one_more, part_of, stmt_step, stmt_tally, without_returns}
use Rattle.lucid_inline_count.specs.Held.{AreHeld, Assigns, Keeps}
use Rattle.lucid_inline_count.specs.Rounds.{round}
use Rattle.lucid_inline_count.proofs.HeldLemmas.{assigns_none, held_with_more}
use Rattle.lucid_inline_count.proofs.BlocksLemmas.{Opened, all_any, all_run, closed_all, closed_one, each_any, each_more, each_run, if_assigns, if_counted, if_is, opens, parts_are_less, part_is, place, tallies_split}
use Rattle.lucid_inline_count.proofs.blocks.+blocks.Goals as goal

pub block-loop-e-preserved : goal.block-loop-e-preserved
block-loop-e-preserved t c =
    let last = c.in-Some-If-default in
    let split : c.loop-e.left.now ≡ last.front.now ++ s.If last.e last.yes last.no ∷ [] = last.ensures.cases.0 ∙ ap (λ (x : Stmt). last.front.now ++ x ∷ []) last.field-0-0-is in
    let less = parts_are_less _ _ _ _ _ split in
    let rest : c.as_slice-left.result.now ≡ last.no = search rules in
    let funs = c.args.funs.now in
    let old = c.loop-e.body in
    let new = c.first_branch.new.body in
    let first = c.in_ok-first.first in
    let pushed : c.push.new.self.items ≡ c.loop-e.waiting.items ++ first ∷ [] = search rules in
    let opened : Opened funs first (place c.loop-e.left.now old) (place last.no new) = record {
      front = map stmt_tally last.front.now;
      x = expr_found last.e;
      first = map stmt_tally last.yes;
      rest_is = tallies_split c.loop-e.left.now last.front.now last.e last.yes last.no split;
      front_is = search rules;
      yes_is = search rules;
      tested_is = search rules;
      back = search rules;
      held_is = search rules;
      both = search rules;
    } in record {
      shallow = rw rest (omega (arith, less, c.loop-e.invariant.shallow));
      waits = rw (pushed, rest) (opens funs c.loop-e.waiting.items first (place c.args.stmts.now c.args.body.now) (place c.loop-e.left.now old) (place last.no new) c.loop-e.invariant.waits opened);
    }

pub block-loop-e-smaller : goal.block-loop-e-smaller
block-loop-e-smaller t c =
    let last = c.in-Some-If-default in
    let split : c.loop-e.left.now ≡ last.front.now ++ s.If last.e last.yes last.no ∷ [] = last.ensures.cases.0 ∙ ap (λ (x : Stmt). last.front.now ++ x ∷ []) last.field-0-0-is in
    let less = parts_are_less _ _ _ _ _ split in
    let rest : c.as_slice-left.result.now ≡ last.no = search rules in
    rw rest (omega (arith, less))

pub block-loop-one-init : goal.block-loop-one-init
block-loop-one-init t c = record { there = place c.loop-e.left.now c.loop-e.body; waits = c.loop-e.invariant.waits; held_is = search rules; part_is = search rules; assigns = search rules }

pub block-loop-one-preserved : goal.block-loop-one-preserved
block-loop-one-preserved t c =
    closed_one c.args.funs.now (place c.args.stmts.now c.args.body.now) c.loop-one.waiting.items c.pop.new.self.items c.in-Some.one c.loop-one.part c.in_ok-part-2.part
    c.loop-one.body.held.items c.close.new.body.held.items c.loop-one.body.assigned.items c.close.new.body.assigned.items c.loop-one.invariant
    (search rules) (search rules) (search rules) (search rules)

pub block-returns-clause-part : goal.block-returns-clause-part
block-returns-clause-part t c = (closed_all c.args.funs.now (place c.args.stmts.now c.args.body.now) _ _ _ _ c.loop-one.invariant (search rules)).0

pub block-returns-clause-held : goal.block-returns-clause-held
block-returns-clause-held t c = (closed_all c.args.funs.now (place c.args.stmts.now c.args.body.now) _ _ _ _ c.loop-one.invariant (search rules)).1

pub block-returns-clause-assigned : goal.block-returns-clause-assigned
block-returns-clause-assigned t c = (closed_all c.args.funs.now (place c.args.stmts.now c.args.body.now) _ _ _ _ c.loop-one.invariant (search rules)).2

pub first_branch-returns-clause-assigned : goal.first_branch-returns-clause-assigned
first_branch-returns-clause-assigned t c = record { between = c.each.new.body.assigned.items; from_is = search rules; one = search rules; two = search rules }

pub each-loop-s-init : goal.each-loop-s-init
each-loop-s-init t c =
    let none : c.plainly-all.result ≡ without_returns (counted 0 0) = search rules in record {
      run = ap (λ (p : Part). fold (one_more c.args.funs.now) (record { counts = p.counts; held = c.args.body.now.held.items }) (map stmt_tally c.args.stmts.now)) none;
      sets = ap (λ (p : Part). p.sets) none;
      returns = ap (λ (p : Part). p.returns || any_returns (map stmt_tally c.args.stmts.now)) none;
      value = ap (λ (p : Part). p.value || any_value (map stmt_tally c.args.stmts.now)) none;
      assigned = λ later more. more;
      back = refl;
    }

pub each-loop-s-preserved : goal.each-loop-s-preserved
each-loop-s-preserved t c =
    let stmts = c.args.stmts.now in
    let i = c.loop-s.s-index in
    let x = c.s-item.result in
    let within = c.loop-s-test.true in
    let is = sym c.s-item.is in
    let old = c.loop-s.body in
    let new = c.match-part.body in
    let part = c.in_ok-part.part in
    let held_is : new.held.items ≡ held_with old.held.items part.sets = search rules in
    let assigned_is : new.assigned.items ≡ c.stmt.new.body.assigned.items = search rules in
    let all_is : c.and-all.result ≡ followed c.loop-s.all part = c.and-all.ensures in
    let here : part ≡ part_of (stmt_tally x) (round c.args.funs.now old) = c.in_ok-part.ensures.part in
    let are = subst (λ (h : List Bool). AreHeld old.held.items h) (sym held_is) (held_with_more old.held.items part.sets) in
    let one = subst (λ (ns : List ℕ). Assigns old.held.items old.assigned.items ns (stmt_tally x).names) (sym assigned_is) c.in_ok-part.ensures.assigned in record {
      run = ap (λ (p : Part). fold (one_more c.args.funs.now) (record { counts = p.counts; held = new.held.items }) (map stmt_tally (drop (i + 1) stmts))) all_is
          ∙ each_run stmts i x within is c.args.funs.now c.loop-s.all.counts part old.held.items new.held.items _ here held_is c.loop-s.invariant.run;
      sets = ap (λ (p : Part). p.sets) all_is;
      returns = ap (λ (p : Part). p.returns || any_returns (map stmt_tally (drop (i + 1) stmts))) all_is
          ∙ each_any stmts i x within is (λ (u : Tally). u.returns) c.loop-s.all.returns part.returns _ (ap (λ (p : Part). p.returns) here) c.loop-s.invariant.returns;
      value = ap (λ (p : Part). p.value || any_value (map stmt_tally (drop (i + 1) stmts))) all_is
          ∙ each_any stmts i x within is (λ (u : Tally). u.value) c.loop-s.all.value part.value _ (ap (λ (p : Part). p.value) here) c.loop-s.invariant.value;
      assigned = λ later more.
          c.loop-s.invariant.assigned later (each_more stmts i x within is old.held.items new.held.items old.assigned.items new.assigned.items later are one more);
      back = search rules;
    }

pub each-returns-clause-part : goal.each-returns-clause-part
each-returns-clause-part t c =
    let is = c.loop-s.invariant in
    let run = all_run c.args.stmts.now c.loop-s.s-index c.loop-s-test.false c.args.funs.now c.loop-s.all.counts c.loop-s.body.held.items _ is.run in
    part_is c.loop-s.all _ _ _ (ap (λ (r : Running). r.counts) run) is.sets
    (all_any c.args.stmts.now c.loop-s.s-index c.loop-s-test.false (λ (u : Tally). u.returns) c.loop-s.all.returns _ is.returns)
    (all_any c.args.stmts.now c.loop-s.s-index c.loop-s-test.false (λ (u : Tally). u.value) c.loop-s.all.value _ is.value)

pub each-returns-clause-held : goal.each-returns-clause-held
each-returns-clause-held t c =
    ap (λ (r : Running). r.held) (all_run c.args.stmts.now c.loop-s.s-index c.loop-s-test.false c.args.funs.now c.loop-s.all.counts c.loop-s.body.held.items _ c.loop-s.invariant.run)

pub each-returns-clause-assigned : goal.each-returns-clause-assigned
each-returns-clause-assigned t c =
    let last = c.loop-s.body in
    let none = subst (λ (us : List Stmt). Assigns last.held.items last.assigned.items last.assigned.items (names_of (map stmt_tally us)))
    (sym (drop_all c.loop-s.s-index c.args.stmts.now c.loop-s-test.false)) (assigns_none last.held.items last.assigned.items) in
    c.loop-s.invariant.assigned last.assigned.items none

-- Both branches of an `if` are counted.
both : (t : ℕ) (c : goal.stmt-After-either t) →
    (chosen c.and-tested.result c.in_ok-yes-in-If.yes c.in_ok-no-in-If.no c.block-in-If.new.body.held.items (drop c.len-from.result c.block-in-If.new.body.assigned.items)
    ≡ part_of (stmt_tally c.args.s.now) (round c.args.funs.now c.args.body.now))
    × ((kept : List ℕ) → Keeps c.block-in-If.new.body.held.items c.len-from.result c.block-in-If.new.body.assigned.items kept
    → Assigns c.args.body.now.held.items c.args.body.now.assigned.items kept (stmt_tally c.args.s.now).names)
both t c =
    let funs = c.args.funs.now in
    let body = c.args.body.now in
    let middle = c.block.new.body in
    let last = c.block-in-If.new.body in
    let x = expr_found c.in-If.e in
    let ss = map stmt_tally c.in-If.yes in
    let ts = map stmt_tally c.in-If.no in
    let tally_is : stmt_tally c.args.s.now ≡ stmt_step (Stmt-F.If x ss ts) = ap stmt_tally c.in-If.is ∙ if_is c.in-If.e c.in-If.yes c.in-If.no in
    let middle_is : middle.held.items ≡ body.held.items = search rules in
    let last_is : last.held.items ≡ middle.held.items = search rules in
    let from_is : c.len-from.result ≡ length body.assigned.items = search rules in
    let tested_is : c.and-tested.result ≡ plus (condition x funs) c.in_ok-yes-in-If.yes.counts = search rules in
    let yes_is : c.in_ok-yes-in-If.yes ≡ block_part ss (round funs body) = search rules in
    let no_is : c.in_ok-no-in-If.no ≡ block_part ts (round funs middle) = search rules in
    let one : Assigns body.held.items body.assigned.items middle.assigned.items (names_of ss) = search rules in
    let two : Assigns middle.held.items middle.assigned.items last.assigned.items (names_of ts) = search rules in
    let other = subst (λ (h : List Bool). Assigns h middle.assigned.items last.assigned.items (names_of ts)) middle_is two in
    let whole = if_counted x ss ts body.held.items c.len-from.result body.assigned.items middle.assigned.items last.assigned.items from_is one other funs
    c.and-tested.result c.in_ok-yes-in-If.yes c.in_ok-no-in-If.no yes_is (no_is ∙ ap (λ (h : List Bool). block_part ts (record { funs = funs; held = h })) middle_is) tested_is in (
      ap (λ (h : List Bool). chosen c.and-tested.result c.in_ok-yes-in-If.yes c.in_ok-no-in-If.no h (drop c.len-from.result last.assigned.items)) (last_is ∙ middle_is)
          ∙ whole ∙ sym (ap (λ (u : Tally). part_of u (round funs body)) tally_is),
      λ kept keeps. subst (λ (u : Tally). Assigns body.held.items body.assigned.items kept u.names) (sym tally_is)
          (if_assigns x ss ts body.held.items c.len-from.result body.assigned.items middle.assigned.items last.assigned.items from_is one other kept
          (subst (λ (h : List Bool). Keeps h c.len-from.result last.assigned.items kept) (last_is ∙ middle_is) keeps)),
    )

pub stmt-returns-in_ok-no-in-If-clause-part : goal.stmt-returns-in_ok-no-in-If-clause-part
stmt-returns-in_ok-no-in-If-clause-part t c = IfOk-weaker c.either.result _ _ (λ p is. is ∙ (both t c).0) c.either.ensures.part

pub stmt-returns-in_ok-no-in-If-clause-assigned : goal.stmt-returns-in_ok-no-in-If-clause-assigned
stmt-returns-in_ok-no-in-If-clause-assigned t c = on_ok_weaker c.either.result (λ keeps. (both t c).1 c.either.new.body.assigned.items keeps) c.either.ensures.assigned
