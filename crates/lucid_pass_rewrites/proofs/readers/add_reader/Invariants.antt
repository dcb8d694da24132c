use Rattle.std.proofs.Common.{◌≡◌, drop}
use Rattle.lucid_pass_rewrites.specs.Readers.{with_readers}
use Rattle.lucid_pass_rewrites.proofs.readers.add_reader.Given as goal

abbrev pub invariant-loop-k : goal.invariant-loop-k
invariant-loop-k l = with_readers l.readers.items (drop l.k-index l.fields) l.at ≡ with_readers l.initial.readers.items l.initial.fields l.at
