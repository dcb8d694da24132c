use Rattle.lucid_pass_rewrites.proofs.ComparisonsLemmas.{Tested}
use Rattle.lucid_pass_rewrites.proofs.comparisons.tests_of.Given as goal

abbrev pub invariant-loop-c : goal.invariant-loop-c
invariant-loop-c l = Tested l.widths l.ops l.writers l.table.items l.c
