use Rattle.lucid_pass_rewrites.proofs.ChangedLemmas.{Turn}
use Rattle.lucid_pass_rewrites.proofs.changed.changed.Given as goal

abbrev pub invariant-loop-op : goal.invariant-loop-op
invariant-loop-op l = Turn l.looks l.widths l.ops l.writers.items l.done.items l.op-index
