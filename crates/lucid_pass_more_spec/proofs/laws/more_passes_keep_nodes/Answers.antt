use Rattle.lucid_pass_more_spec.proofs.CastsLemmas.{casts_nodes}
use Rattle.lucid_pass_more_spec.proofs.LiftLemmas.{lift_nodes}
use Rattle.lucid_pass_more_spec.proofs.MergeLemmas.{merge_nodes}
use Rattle.lucid_pass_more_spec.proofs.SourcesLemmas.{sources_nodes}
use Rattle.lucid_pass_more_spec.proofs.laws.more_passes_keep_nodes.Goals as goal

pub returns-clause-casts : goal.returns-clause-casts
returns-clause-casts c = casts_nodes

pub returns-clause-sources : goal.returns-clause-sources
returns-clause-sources c = sources_nodes

pub returns-clause-merge : goal.returns-clause-merge
returns-clause-merge c = merge_nodes

pub returns-clause-lift : goal.returns-clause-lift
returns-clause-lift c = lift_nodes
