use Rattle.lucid_pass_rewrites.proofs.WritersLemmas.{Counted}
use Rattle.lucid_pass_rewrites.proofs.writers.writers_of.Given as goal

abbrev pub invariant-loop-at : goal.invariant-loop-at
invariant-loop-at l = Counted l.fields l.ops l.at l.writers.items
