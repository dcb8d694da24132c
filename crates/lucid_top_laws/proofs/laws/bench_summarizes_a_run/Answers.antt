use Rattle.lucid_top_laws.proofs.SummariesLemmas.{bench_summarizes}
use Rattle.lucid_top_laws.proofs.laws.bench_summarizes_a_run.Goals as goal

pub returns : goal.returns
returns c = bench_summarizes
