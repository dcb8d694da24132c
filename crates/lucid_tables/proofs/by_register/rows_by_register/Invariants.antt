use Rattle.std.proofs.Common.{◌≡◌, ◌++◌, drop}
use Rattle.lucid_tables.specs.ByRegister.{rows_by_register}
use Rattle.lucid_tables.proofs.by_register.rows_by_register.Given as goal

-- what was made and what is left is the whole
abbrev pub invariant-loop-row : goal.invariant-loop-row
invariant-loop-row l =
    l.made ++ rows_by_register l.numbering.code.now (drop l.row-index l.rows) ≡ rows_by_register l.numbering.code.now l.rows
