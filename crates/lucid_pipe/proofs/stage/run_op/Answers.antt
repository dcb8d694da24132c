use Rattle.std.proofs.Common.{◌∙◌, ◌<◌, ◌≤◌, List, ap, sym, subst, length, slice_index_or}
use Rattle.lucid_code.specs.declared.op.Act.{Act}
use Rattle.lucid_code.specs.Valid.{IsValid}
use Rattle.lucid_pipe.specs.Blocks.{on_registers}
use Rattle.lucid_pipe.proofs.Carried.{can_act_at, runs_at, runs_past, width_each}
use Rattle.lucid_pipe.proofs.stage.run_op.Goals as goal

pub act-requires-clause-can : goal.act-requires-clause-can
act-requires-clause-can c =
    let acts = c.acts_by_register-acts.ensures in
    can_act_at c.args.placed.now.code c.args.number _ _ (subst IsValid c.code.ensures.value c.ops-valid.ensures.valid) c.requires.long
    (subst (λ (them : List Act). c.args.number < length them) acts c.if-at-acts.true)
    (c.index-acts-at.is ∙ ap (λ (them : List Act). slice_index_or them c.args.number c.index-acts-at.result) acts)

pub act-requires-clause-long : goal.act-requires-clause-long
act-requires-clause-long c = width_each c.args.placed.now.code c.widths_by_register-widths.result.now c.widths_by_register-widths.ensures ∙ sym c.requires.long

pub returns-then-at-acts-clause-machine : goal.returns-then-at-acts-clause-machine
returns-then-at-acts-clause-machine c =
    let acts = c.acts_by_register-acts.ensures in
    rw c.widths_by_register-widths.ensures at c.act.ensures.machine
    ∙ sym (runs_at c.args.placed.now.code c.args.number c.index-acts-at.result (on_registers c.args.registers.now c.args.cells.now c.args.sent.now)
    (subst (λ (them : List Act). c.args.number < length them) acts c.if-at-acts.true)
    (c.index-acts-at.is ∙ ap (λ (them : List Act). slice_index_or them c.args.number c.index-acts-at.result) acts))

pub returns-else-at-acts-clause-machine : goal.returns-else-at-acts-clause-machine
returns-else-at-acts-clause-machine c =
    sym (runs_past c.args.placed.now.code c.args.number (on_registers c.args.registers.now c.args.cells.now c.args.sent.now)
    (subst (λ (them : List Act). length them ≤ c.args.number) c.acts_by_register-acts.ensures c.if-at-acts.false))
