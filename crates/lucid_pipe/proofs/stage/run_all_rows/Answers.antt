use Rattle.std.proofs.Common.{◌+◌, ◌∙◌, drop, ap, sym}
use Rattle.std.specs.List.{fold}
use Rattle.std.proofs.lemmas.List.{at_drop_more, at_drop_all}
use Rattle.lucid_code.specs.Run.{Machine}
use Rattle.lucid_pipe.specs.Blocks.{on_registers}
use Rattle.lucid_pipe.specs.InPlace.{run_rows}
use Rattle.lucid_pipe.proofs.stage.run_all_rows.Goals as goal

pub loop-rows-preserved : goal.loop-rows-preserved
loop-rows-preserved c =
    let f = run_rows c.args.placed.now.code in
    let tables = c.args.tables.now in
    let i = c.loop-rows.rows-index in
    let m = on_registers c.loop-rows.registers c.loop-rows.cells c.loop-rows.sent in
    let rows = c.as_slice.ensures ∙ c.rows-item.is in (
      ap (λ (n : Machine). fold f n (drop (i + 1) tables)) (c.run_rows.ensures.machine ∙ ap (f m) rows)
          ∙ sym (at_drop_more (fold f m) tables i c.rows-item.result c.loop-rows-test.true) ∙ c.loop-rows.invariant.0,
      c.run_rows.ensures.long ∙ c.loop-rows.invariant.1,
    )

pub returns-clause-machine : goal.returns-clause-machine
returns-clause-machine c =
    let m = on_registers c.loop-rows.registers c.loop-rows.cells c.loop-rows.sent in
    sym (at_drop_all (fold (run_rows c.args.placed.now.code) m) c.args.tables.now c.loop-rows.rows-index c.loop-rows-test.false) ∙ c.loop-rows.invariant.0
