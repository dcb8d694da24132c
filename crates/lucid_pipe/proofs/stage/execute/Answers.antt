use Rattle.std.proofs.Common.{◌∙◌, List, ap, subst, slice_index_or}
use Rattle.lucid_code.specs.Valid.{IsValid}
use Rattle.lucid_tables.specs.declared.table.Row.{Row}
use Rattle.lucid_pipe.specs.Blocks.{on_registers}
use Rattle.lucid_pipe.specs.InPlace.{run_all_rows}
use Rattle.lucid_pipe.proofs.ByRegister.{stage_by_register}
use Rattle.lucid_pipe.proofs.stage.execute.Goals as goal

pub returns-clause-machine : goal.returns-clause-machine
returns-clause-machine c =
    let code = c.args.placed.now.code in
    let before = on_registers c.args.registers.now c.args.cells.now c.args.sent.now in
    stage_by_register code c.args.placed.now.stages c.args.k c.index-stages-k.result _ _ _ _ _ _ (subst IsValid c.code.ensures.value c.ops-valid.ensures.valid) c.stages-placed.ensures.placed c.requires.long c.requires.there
    (c.index-stages-k.is ∙ ap (λ (them : List (List (List Row))). slice_index_or them c.args.k c.index-stages-k.result) c.stages_by_register-stages.ensures)
    (c.run_all_rows.ensures.machine ∙ ap (run_all_rows code before) c.as_slice.ensures)
