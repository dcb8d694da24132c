use Rattle.std.proofs.Common.{◌≡◌, ◌++◌}
use Rattle.lucid_core.specs.Step.{taken_at}
use Rattle.lucid_core_run.proofs.whole.taken.Given as goal

abbrev pub invariant-loop-width : goal.invariant-loop-width
invariant-loop-width l = l.values ++ taken_at l.width-iterator.a.rest.now l.width-iterator.b.rest.now ≡ taken_at l.fn.widths l.fn.args
