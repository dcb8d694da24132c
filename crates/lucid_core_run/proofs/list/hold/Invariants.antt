use Rattle.std.proofs.Common.{◌≡◌, drop}
use Rattle.lucid_core.specs.Meaning.{holding}
use Rattle.lucid_core_run.proofs.list.hold.Given as goal

abbrev pub invariant-loop-i : goal.invariant-loop-i
invariant-loop-i l = holding l.locals (drop l.i-index l.held) ≡ holding l.fn.locals l.held
