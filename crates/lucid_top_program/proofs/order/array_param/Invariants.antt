use Rattle.std.proofs.Common.{◌≡◌, drop}
use Rattle.lucid_top_program.specs.Program.{array_param}
use Rattle.lucid_top_program.proofs.order.array_param.Given as goal

-- what is left decides
abbrev pub invariant-loop-param : goal.invariant-loop-param
invariant-loop-param l = array_param l.before (drop l.param-index l.params) ≡ array_param l.i l.params
