use Rattle.std.proofs.Common.{◌≡◌, drop, length}
use Rattle.lucid_pipe.specs.Blocks.{on_registers}
use Rattle.lucid_pipe.specs.InPlace.{run_all_rows}
use Rattle.lucid_pipe.proofs.stage.run_all_rows.Given as goal

-- the done part and the rest are the whole
abbrev pub invariant-loop-rows : goal.invariant-loop-rows
invariant-loop-rows l =
    (run_all_rows l.placed.code (on_registers l.registers l.cells l.sent) (drop l.rows-index l.tables)
    ≡ run_all_rows l.placed.code (on_registers l.initial.registers l.initial.cells l.initial.sent) l.tables)
    × (length l.registers ≡ length l.initial.registers)
