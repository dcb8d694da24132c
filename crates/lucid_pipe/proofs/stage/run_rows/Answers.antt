use Rattle.std.proofs.Common.{◌≡◌, ◌∙◌, [], ap, sym}
use Rattle.std.specs.List.{fold}
use Rattle.std.proofs.lemmas.List.{at_drop_all}
use Rattle.lucid_code.specs.Guards.{all_hold}
use Rattle.lucid_tables.specs.Rows.{acts}
use Rattle.lucid_pipe.specs.Blocks.{on_registers}
use Rattle.lucid_pipe.specs.InPlace.{run_number}
use Rattle.lucid_pipe.proofs.StageLemmas.{acts_here, acts_next}
use Rattle.lucid_pipe.proofs.stage.run_rows.Goals as goal

pub returns-then-all_hold-clause-machine : goal.returns-then-all_hold-clause-machine
returns-then-all_hold-clause-machine c =
    let same = c.loop-row.invariant in
    let m = on_registers c.loop-row.registers c.loop-row.cells c.loop-row.sent in
    let holds = ap (all_hold c.loop-row.registers) (sym c.as_slice.ensures) ∙ sym c.all_hold.ensures ∙ c.if-all_hold.true in
    let here = acts_here c.loop-row.registers c.args.rows.now c.loop-row.row-index c.row-item.result c.loop-row-test.true c.row-item.is holds in
    let done = c.run_ops.ensures.machine ∙ ap (fold (run_number c.args.placed.now.code) m) (c.as_slice-then-all_hold.ensures ∙ sym here ∙ same.3) in
    rw (same.0, same.1, same.2) at done

pub loop-row-preserved : goal.loop-row-preserved
loop-row-preserved c =
    let same = c.loop-row.invariant in
    let fails = ap (all_hold c.loop-row.registers) (sym c.as_slice.ensures) ∙ sym c.all_hold.ensures ∙ c.if-all_hold.false in
    (same.0, same.1, same.2, acts_next c.loop-row.registers c.args.rows.now c.loop-row.row-index c.row-item.result c.loop-row-test.true c.row-item.is fails ∙ same.3)

pub returns-clause-machine : goal.returns-clause-machine
returns-clause-machine c =
    let same = c.loop-row.invariant in
    let m = on_registers c.loop-row.registers c.loop-row.cells c.loop-row.sent in
    let none : acts c.loop-row.registers c.args.rows.now ≡ [] = sym same.3 ∙ at_drop_all (acts c.loop-row.registers) c.args.rows.now c.loop-row.row-index c.loop-row-test.false in
    let done = sym (ap (fold (run_number c.args.placed.now.code) m) none) in
    rw (← same.0, ← same.1, ← same.2) done
