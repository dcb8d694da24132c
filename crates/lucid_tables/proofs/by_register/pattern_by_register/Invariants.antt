use Rattle.std.proofs.Common.{◌≡◌, ◌++◌, drop}
use Rattle.lucid_tables.specs.ByRegister.{pattern_by_register}
use Rattle.lucid_tables.proofs.by_register.pattern_by_register.Given as goal

-- what was made and what is left is the whole
abbrev pub invariant-loop-literal : goal.invariant-loop-literal
invariant-loop-literal l =
    l.made ++ pattern_by_register l.numbering.code.now (drop l.literal-index l.pattern) ≡ pattern_by_register l.numbering.code.now l.pattern
