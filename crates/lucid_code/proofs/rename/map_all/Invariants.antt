use Rattle.std.proofs.Common.{◌≡◌, map, take}
use Rattle.lucid_code.proofs.rename.map_all.Given as goal

abbrev pub invariant-loop-operand : goal.invariant-loop-operand
invariant-loop-operand g l = l.new ≡ map (g.R.Rename.operand_of l.names) (take l.operand-index l.operands)
