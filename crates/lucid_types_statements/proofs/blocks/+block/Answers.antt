-- The ways out of each function of the cycle, and the steps of its loops.
use Rattle.std.proofs.Common.{ℕ, ◌-◌, List, rules, drop, length, map, refl, sym, ap, ◌∙◌}
use Rattle.std.proofs.lemmas.Result.{on_ok_weaker}
use Rattle.lucid_parse_tree.specs.declared.tree.S.{S}
use Rattle.lucid_parse_tree.specs.declared.tree.S.TheVariants as form
use Rattle.lucid_types_laws.specs.Statement.{parts, taking}
use Rattle.lucid_types_laws.proofs.StatementForms.{absent_is, array_is, assign_is, call_is, cond_is, declare_is, generate_is, printf_is, return_is}
use Rattle.lucid_types_scope.specs.Numbered.{numbered_of}
use Rattle.lucid_types_statements.proofs.Assembled.{assembled, block_done, block_fails, chain_chosen, chain_fails, choice_done, last_part, next_part}
use Rattle.lucid_types_statements.proofs.Assembled.{no_fails, no_part, on_ok_always, parts_fail, yes_fails}
use Rattle.lucid_types_statements.proofs.Kept.{declare_keeps, keeps_all, keeps_more, keeps_same}
use Rattle.lucid_types_statements.proofs.Matches.{arms_fail, begin_fails, last_fails, last_of_arms, match_done, next_arm, no_arm}
use Rattle.lucid_types_statements.proofs.blocks.+block.Goals as goal

-- ---- statements

pub statement-returns-in-Declare : goal.statement-returns-in-Declare
statement-returns-in-Declare t c = record {
  gives = rw (c.in-Declare.is, declare_is) c.declare.ensures;
  kept = declare_keeps c.declare.result c.in-Declare.t c.in-Declare.n c.in-Declare.x c.args.scope.now c.declare.new.scope
      (numbered_of c.args.numbering.now) (numbered_of c.declare.new.numbering) c.declare.ensures;
}

pub statement-returns-in-Assign : goal.statement-returns-in-Assign
statement-returns-in-Assign t c = record {
  gives = rw (c.in-Assign.is, assign_is) (c.assign.ensures _);
  kept = on_ok_always _ (keeps_same c.args.scope.now);
}

pub statement-returns-in-Call : goal.statement-returns-in-Call
statement-returns-in-Call t c = record {
  gives = rw (c.in-Call.is, call_is) (rw c.as_slice.ensures at c.drop_call.ensures _);
  kept = on_ok_always _ (keeps_same c.args.scope.now);
}

pub statement-returns-in-Array : goal.statement-returns-in-Array
statement-returns-in-Array t c = record {
  gives = rw (c.in-Array.is, array_is) (rw c.get.ensures at c.drop_touch.ensures _);
  kept = on_ok_always _ (keeps_same c.args.scope.now);
}

pub statement-returns-in-Cond : goal.statement-returns-in-Cond
statement-returns-in-Cond t c = record {
  gives = rw (c.in-Cond.is, cond_is) (rw c.get-in-Cond.ensures at c.choice.ensures.gives);
  kept = on_ok_weaker _ (keeps_all _ _) c.choice.ensures.kept;
}

pub statement-returns-in-Return : goal.statement-returns-in-Return
statement-returns-in-Return t c = record {
  gives = rw (c.in-Return.is, return_is) (c.give_back.ensures _);
  kept = on_ok_always _ (keeps_same c.args.scope.now);
}

pub statement-returns-in-Generate : goal.statement-returns-in-Generate
statement-returns-in-Generate t c = record {
  gives = rw (c.in-Generate.is, generate_is) (c.generate.ensures _);
  kept = on_ok_always _ (keeps_same c.args.scope.now);
}

pub statement-returns-in-Printf : goal.statement-returns-in-Printf
statement-returns-in-Printf t c = record {
  gives = rw (c.in-Printf.is, printf_is) (rw c.as_slice-in-Printf.ensures at c.print.ensures);
  kept = on_ok_always _ (keeps_same c.args.scope.now);
}

pub statement-returns-in-Err-clause-gives : goal.statement-returns-in-Err-clause-gives
statement-returns-in-Err-clause-gives t c =
    begin_fails c.in-Err.fault c.args.x.now c.in-Match.test c.as_slice-cases.result.now c.in-Match.last c.args.answer.now c.args.scope.now
    (numbered_of c.args.numbering.now)
    (c.in-Match.is ∙ ap (λ (z : List (ℕ × List S)). form.Match c.in-Match.test z c.in-Match.last) (sym c.as_slice-cases.ensures)) c.in-Err.ensures

pub statement-returns-in-Err-arms-clause-gives : goal.statement-returns-in-Err-arms-clause-gives
statement-returns-in-Err-arms-clause-gives t c =
    arms_fail c.in-Err-arms.fault c.args.x.now c.in-Match.test c.as_slice-cases.result.now c.in-Match.last c.args.answer.now c.args.scope.now
    (numbered_of c.args.numbering.now) (numbered_of c.begin.new.numbering) c.in-Ok.tested
    (c.in-Match.is ∙ ap (λ (z : List (ℕ × List S)). form.Match c.in-Match.test z c.in-Match.last) (sym c.as_slice-cases.ensures)) c.in-Ok.ensures
    c.in-Err-arms.ensures.gives

pub statement-returns-in-Err-last_arm-clause-gives : goal.statement-returns-in-Err-last_arm-clause-gives
statement-returns-in-Err-last_arm-clause-gives t c =
    last_fails c.in-Err-last_arm.fault c.args.x.now c.in-Match.test c.as_slice-cases.result.now c.in-Match.last c.args.answer.now
    c.args.scope.now c.arms.new.scope (numbered_of c.args.numbering.now) (numbered_of c.begin.new.numbering) (numbered_of c.arms.new.numbering)
    c.in-Ok.tested c.in-Ok-arms.arms
    (c.in-Match.is ∙ ap (λ (z : List (ℕ × List S)). form.Match c.in-Match.test z c.in-Match.last) (sym c.as_slice-cases.ensures)) c.in-Ok.ensures
    c.in-Ok-arms.ensures.gives c.in-Ok-arms.ensures.kept c.in-Err-last_arm.ensures.gives

pub statement-returns-in-Ok-last_arm : goal.statement-returns-in-Ok-last_arm
statement-returns-in-Ok-last_arm t c = record {
  gives = match_done c.joined.result c.args.x.now c.in-Match.test c.as_slice-cases.result.now c.in-Match.last c.args.answer.now
      c.args.scope.now c.arms.new.scope c.last_arm.new.scope (numbered_of c.args.numbering.now) (numbered_of c.begin.new.numbering)
      (numbered_of c.arms.new.numbering) (numbered_of c.last_arm.new.numbering) c.in-Ok.tested c.in-Ok-arms.arms c.in-Ok-last_arm.last
      (c.in-Match.is ∙ ap (λ (z : List (ℕ × List S)). form.Match c.in-Match.test z c.in-Match.last) (sym c.as_slice-cases.ensures))
      c.in-Ok.ensures c.in-Ok-arms.ensures.gives c.in-Ok-arms.ensures.kept c.in-Ok-last_arm.ensures.gives c.in-Ok-last_arm.ensures.kept
      c.joined.ensures;
  kept = on_ok_always _ (keeps_all _ _ (c.in-Ok-last_arm.ensures.kept ∙ c.in-Ok-arms.ensures.kept));
}

-- ---- blocks

pub block-returns-in-Ok-clause-gives : goal.block-returns-in-Ok-clause-gives
block-returns-in-Ok-clause-gives t c =
    assembled c.assemble.result c.in-Ok.parts (map taking c.args.xs.now) c.args.answer.now c.args.scope.now (numbered_of c.args.numbering.now)
    (numbered_of c.statements.new.numbering) c.in-Ok.ensures.gives c.assemble.ensures

pub block-returns-in-Ok-clause-kept : goal.block-returns-in-Ok-clause-kept
block-returns-in-Ok-clause-kept t c =
    on_ok_always _ (c.leave.ensures
    ∙ ap (λ (k : ℕ). drop (length c.statements.new.scope - k) c.statements.new.scope) c.len-mark.ensures ∙ c.in-Ok.ensures.kept)

pub block-returns-in-Err-clause-gives : goal.block-returns-in-Err-clause-gives
block-returns-in-Err-clause-gives t c =
    parts_fail c.in-Err.fault (map taking c.args.xs.now) c.args.answer.now c.args.scope.now (numbered_of c.args.numbering.now) c.in-Err.ensures.gives

pub statements-returns-in-Err-clause-gives : goal.statements-returns-in-Err-clause-gives
statements-returns-in-Err-clause-gives t c =
    no_part c.in-Err.fault c.args.xs.now c.loop-x.x-index c.x-item.result c.loop-x.parts c.args.answer.now c.loop-x.scope
    (numbered_of c.loop-x.numbering) (parts (map taking c.args.xs.now) c.args.answer.now c.args.scope.now (numbered_of c.args.numbering.now)) c.loop-x-test.true c.x-item.is c.loop-x.invariant.left c.in-Err.ensures.gives

pub statements-loop-x-preserved : goal.statements-loop-x-preserved
statements-loop-x-preserved t c = record {
  left = next_part c.args.xs.now c.loop-x.x-index c.x-item.result c.loop-x.parts _ c.in-Ok.part c.args.answer.now c.loop-x.scope
      c.statement.new.scope (numbered_of c.loop-x.numbering) (numbered_of c.statement.new.numbering)
      (parts (map taking c.args.xs.now) c.args.answer.now c.args.scope.now (numbered_of c.args.numbering.now)) c.loop-x-test.true
      c.x-item.is c.loop-x.invariant.left c.in-Ok.ensures.gives c.in_ok-add_part-in-Ok.ensures;
  kept = keeps_more _ _ _ c.loop-x.invariant.kept c.in-Ok.ensures.kept;
}

pub statements-returns-clause-gives : goal.statements-returns-clause-gives
statements-returns-clause-gives t c =
    last_part c.args.xs.now c.loop-x.x-index c.loop-x.parts c.args.answer.now c.loop-x.scope (numbered_of c.loop-x.numbering)
    (parts (map taking c.args.xs.now) c.args.answer.now c.args.scope.now (numbered_of c.args.numbering.now)) c.loop-x-test.false c.loop-x.invariant.left

-- ---- choices

pub choice-returns-in-Ok-second : goal.choice-returns-in-Ok-second
choice-returns-in-Ok-second t c = record {
  gives = choice_done c.chosen.result c.args.c.now c.as_slice.result.now c.args.answer.now c.args.scope.now c.block.new.scope c.second.new.scope
      (numbered_of c.args.numbering.now) (numbered_of c.block.new.numbering) (numbered_of c.second.new.numbering) c.in-Ok.yes c.in-Ok-second.no
      c.as_slice.ensures c.in-Ok.ensures.gives c.in-Ok.ensures.kept c.in-Ok-second.ensures.gives c.in-Ok-second.ensures.kept c.chosen.ensures;
  kept = on_ok_always _ (c.in-Ok-second.ensures.kept ∙ c.in-Ok.ensures.kept);
}

pub choice-returns-in-Err-second-clause-gives : goal.choice-returns-in-Err-second-clause-gives
choice-returns-in-Err-second-clause-gives t c =
    no_fails c.in-Err-second.fault c.args.c.now c.as_slice.result.now c.args.answer.now c.args.scope.now c.block.new.scope
    (numbered_of c.args.numbering.now) (numbered_of c.block.new.numbering) c.in-Ok.yes c.as_slice.ensures c.in-Ok.ensures.gives
    c.in-Ok.ensures.kept c.in-Err-second.ensures.gives

pub choice-returns-in-Err-clause-gives : goal.choice-returns-in-Err-clause-gives
choice-returns-in-Err-clause-gives t c =
    yes_fails c.in-Err.fault c.args.c.now c.as_slice.result.now c.args.answer.now c.args.scope.now (numbered_of c.args.numbering.now)
    c.as_slice.ensures c.in-Err.ensures.gives

pub second-returns-in-Absent : goal.second-returns-in-Absent
second-returns-in-Absent t c = record { gives = rw (c.in-Absent.is, absent_is) refl; kept = refl }

pub second-returns-in-Ok : goal.second-returns-in-Ok
second-returns-in-Ok t c = record {
  gives = block_done c.args.no.now c.in-Block.xs c.as_slice.result.now c.args.answer.now c.args.scope.now (numbered_of c.args.numbering.now)
      (numbered_of c.block.new.numbering) c.in-Ok.body c.in-Block.is c.as_slice.ensures c.in-Ok.ensures.gives;
  kept = c.in-Ok.ensures.kept;
}

pub second-returns-in-Err-clause-gives : goal.second-returns-in-Err-clause-gives
second-returns-in-Err-clause-gives t c =
    block_fails c.in-Err.fault c.args.no.now c.in-Block.xs c.as_slice.result.now c.args.answer.now c.args.scope.now
    (numbered_of c.args.numbering.now) c.in-Block.is c.as_slice.ensures c.in-Err.ensures.gives

pub second-returns-in-Ok-second : goal.second-returns-in-Ok-second
second-returns-in-Ok-second t c = record {
  gives = chain_chosen c.chosen_alone.result c.args.no.now c.in-Cond.c c.get-c.result.now c.as_slice-in-Cond.result.now c.args.answer.now
      c.args.scope.now c.block-in-Cond.new.scope c.second.new.scope (numbered_of c.args.numbering.now) (numbered_of c.block-in-Cond.new.numbering)
      (numbered_of c.second.new.numbering) c.in-Ok-block.yes c.in-Ok-second.no c.in-Cond.is c.get-c.ensures c.as_slice-in-Cond.ensures
      c.in-Ok-block.ensures.gives c.in-Ok-block.ensures.kept c.in-Ok-second.ensures.gives c.in-Ok-second.ensures.kept c.chosen_alone.ensures;
  kept = on_ok_always _ (c.in-Ok-second.ensures.kept ∙ c.in-Ok-block.ensures.kept);
}

pub second-returns-in-Err-second-clause-gives : goal.second-returns-in-Err-second-clause-gives
second-returns-in-Err-second-clause-gives t c =
    chain_fails c.in-Err-second.fault c.args.no.now c.in-Cond.c c.get-c.result.now c.args.answer.now c.args.scope.now
    (numbered_of c.args.numbering.now) c.in-Cond.is c.get-c.ensures
    (no_fails c.in-Err-second.fault c.get-c.result.now c.as_slice-in-Cond.result.now c.args.answer.now c.args.scope.now
    c.block-in-Cond.new.scope (numbered_of c.args.numbering.now) (numbered_of c.block-in-Cond.new.numbering) c.in-Ok-block.yes
    c.as_slice-in-Cond.ensures c.in-Ok-block.ensures.gives c.in-Ok-block.ensures.kept c.in-Err-second.ensures.gives)

pub second-returns-in-Err-block-clause-gives : goal.second-returns-in-Err-block-clause-gives
second-returns-in-Err-block-clause-gives t c =
    chain_fails c.in-Err-block.fault c.args.no.now c.in-Cond.c c.get-c.result.now c.args.answer.now c.args.scope.now
    (numbered_of c.args.numbering.now) c.in-Cond.is c.get-c.ensures
    (yes_fails c.in-Err-block.fault c.get-c.result.now c.as_slice-in-Cond.result.now c.args.answer.now c.args.scope.now
    (numbered_of c.args.numbering.now) c.as_slice-in-Cond.ensures c.in-Err-block.ensures.gives)

-- ---- arms

pub arms-returns-in-Err-clause-gives : goal.arms-returns-in-Err-clause-gives
arms-returns-in-Err-clause-gives t c =
    no_arm c.in-Err.fault c.args.cases.now c.loop-case.case-index c.case-item.result c.loop-case.arms c.args.width c.args.answer.now
    c.loop-case.scope (numbered_of c.loop-case.numbering) _ c.as_slice.result.now c.loop-case-test.true c.case-item.is
    c.loop-case.invariant.left (search rules) c.as_slice.ensures c.in-Err.ensures.gives

pub arms-loop-case-preserved : goal.arms-loop-case-preserved
arms-loop-case-preserved t c = record {
  left = next_arm c.args.cases.now c.loop-case.case-index c.case-item.result c.loop-case.arms _ c.in-Ok.body c.args.width c.args.answer.now
      c.loop-case.scope (numbered_of c.loop-case.numbering) (numbered_of c.block.new.numbering) _ c.block.new.scope
      c.as_slice.result.now c.loop-case-test.true c.case-item.is c.loop-case.invariant.left (search rules) c.as_slice.ensures
      c.in-Ok.ensures.gives c.in_ok-push-in-Ok.ensures.ok c.in-Ok.ensures.kept;
  kept = c.in-Ok.ensures.kept ∙ c.loop-case.invariant.kept;
}

pub arms-returns-clause-gives : goal.arms-returns-clause-gives
arms-returns-clause-gives t c =
    last_of_arms c.args.cases.now c.loop-case.case-index c.loop-case.arms c.args.width c.args.answer.now c.loop-case.scope
    (numbered_of c.loop-case.numbering) _ c.loop-case-test.false c.loop-case.invariant.left
