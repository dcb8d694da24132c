use Rattle.std.specs.Fmt.{digits}
use Rattle.lucid_top_laws.proofs.BenchExamples.{bench_is}
use Rattle.lucid_top_laws.proofs.worked.bench_is_answered.Goals as goal

pub returns : goal.returns
unfolding digits
returns c = bench_is c.declarations_are_read_as_spelled.ensures c.roomy_code_is_placed.ensures
