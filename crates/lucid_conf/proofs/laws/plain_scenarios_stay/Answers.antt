use Rattle.lucid_conf.proofs.PlainScenarios as plain
use Rattle.lucid_conf.proofs.laws.plain_scenarios_stay.Goals as goal

pub returns : goal.returns
returns c = plain.stay
