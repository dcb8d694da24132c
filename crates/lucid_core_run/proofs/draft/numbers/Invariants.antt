use Rattle.std.proofs.Common.{◌≡◌, take}
use Rattle.lucid_core.specs.Values.{numbers}
use Rattle.lucid_core_run.proofs.draft.numbers.Given as goal

abbrev pub invariant-loop-value : goal.invariant-loop-value
invariant-loop-value l = l.args ≡ numbers (take l.value-index l.values)
