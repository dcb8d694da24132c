use Rattle.std.proofs.Common.{◌≡◌, ◌++◌, drop}
use Rattle.lucid_tables.specs.ByRegister.{acts_by_register}
use Rattle.lucid_tables.proofs.by_register.acts_by_register.Given as goal

-- what was made and what is left is the whole
abbrev pub invariant-loop-op : goal.invariant-loop-op
invariant-loop-op l =
    l.made.items ++ acts_by_register l.numbering.code.now (drop l.op-index l.ops) ≡ acts_by_register l.numbering.code.now l.ops
