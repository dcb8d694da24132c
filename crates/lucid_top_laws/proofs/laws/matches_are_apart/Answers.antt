use Rattle.lucid_top_laws.proofs.MatchesLemmas.{apart}
use Rattle.lucid_top_laws.proofs.laws.matches_are_apart.Goals as goal

pub returns : goal.returns
returns c = apart c.blocks_are_computed.ensures c.programs_are_decided.ensures
