use Rattle.lucid_stages.proofs.NodeTablesLaws.{few_follow}
use Rattle.lucid_layout_laws.proofs.laws.products_on_the_way_fit.Goals as goal

pub returns : goal.returns
returns c = few_follow
