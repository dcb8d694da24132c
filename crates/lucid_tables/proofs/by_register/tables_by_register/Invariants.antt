use Rattle.std.proofs.Common.{◌≡◌, ◌++◌, drop}
use Rattle.lucid_tables.specs.ByRegister.{tables_by_register}
use Rattle.lucid_tables.proofs.by_register.tables_by_register.Given as goal

-- what was made and what is left is the whole
abbrev pub invariant-loop-table : goal.invariant-loop-table
invariant-loop-table l =
    l.made ++ tables_by_register l.numbering.code.now (drop l.table-index l.tables) ≡ tables_by_register l.numbering.code.now l.tables
