use Rattle.std.proofs.Common.{◌≡◌, ◌++◌, drop}
use Rattle.lucid_tables.specs.ByRegister.{stages_by_register}
use Rattle.lucid_tables.proofs.by_register.stages_by_register.Given as goal

-- what was made and what is left is the whole
abbrev pub invariant-loop-stage : goal.invariant-loop-stage
invariant-loop-stage l =
    l.made.items ++ stages_by_register l.numbering.code.now (drop l.stage-index l.stages) ≡ stages_by_register l.numbering.code.now l.stages
