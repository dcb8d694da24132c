use Rattle.lucid_pass_rewrites.proofs.ReadersLemmas.{ReadTo}
use Rattle.lucid_pass_rewrites.proofs.readers.readers_of.Given as goal

abbrev pub invariant-loop-at : goal.invariant-loop-at
invariant-loop-at l = ReadTo l.fields l.ops l.at l.readers.items
