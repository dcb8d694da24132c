use Rattle.std.proofs.Common.{◌∙◌, List, ap}
use Rattle.std.proofs.lemmas.Result.{on_ok_weaker}
use Rattle.lucid_normal_spec.specs.Translate.{stmt_code}
use Rattle.lucid_normal.specs.declared.task.Task.{Task}
use Rattle.lucid_normal.specs.Bodies.{after_all, finished, walk}
use Rattle.lucid_normal.proofs.StatementsLemmas.{block_end, block_more, block_one}
use Rattle.lucid_normal.proofs.statements.begin_block.Goals as goal

pub returns-in-None : goal.returns-in-None
returns-in-None c = ap (after_all c.args.tasks.now) (block_end c.args.stmts.now (walk c.args.machine.now) c.in-None.ensures.cases)

pub returns-in-None-split_first : goal.returns-in-None-split_first
returns-in-None-split_first c =
    let a = c.args in
    on_ok_weaker c.statement.result
    (λ h. h ∙ ap (after_all a.tasks.now)
    (block_one a.stmts.now c.in-Some.stmt.now c.in-Some.rest.now (walk a.machine.now) c.in-Some.ensures.cases.0
    c.in-None-split_first.ensures.cases))
    c.statement.ensures

pub returns-in_ok-push-in-Some-split_first : goal.returns-in_ok-push-in-Some-split_first
returns-in_ok-push-in-Some-split_first c =
    let a = c.args in
    let s = walk a.machine.now in
    on_ok_weaker c.statement-in-Some-split_first.result
    (λ h. h ∙ ap (λ (us : List Task). after_all us (finished (stmt_code c.in-Some.stmt.now) s)) c.in_ok-push-in-Some-split_first.ensures
    ∙ ap (after_all a.tasks.now) (block_more a.stmts.now c.in-Some.stmt.now c.in-Some.rest.now s c.in-Some.ensures.cases.0))
    c.statement-in-Some-split_first.ensures
