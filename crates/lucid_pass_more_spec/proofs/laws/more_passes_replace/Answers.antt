use Rattle.lucid_pass_more_spec.proofs.CastsLemmas.{casts_replace}
use Rattle.lucid_pass_more_spec.proofs.LiftLemmas.{lift_replaces}
use Rattle.lucid_pass_more_spec.proofs.MergeLemmas.{merge_replaces}
use Rattle.lucid_pass_more_spec.proofs.SourcesLemmas.{sources_replace}
use Rattle.lucid_pass_more_spec.proofs.laws.more_passes_replace.Goals as goal

pub returns-clause-casts : goal.returns-clause-casts
returns-clause-casts c = casts_replace

pub returns-clause-sources : goal.returns-clause-sources
returns-clause-sources c = sources_replace

pub returns-clause-merge : goal.returns-clause-merge
returns-clause-merge c = merge_replaces

pub returns-clause-lift : goal.returns-clause-lift
returns-clause-lift c = lift_replaces
