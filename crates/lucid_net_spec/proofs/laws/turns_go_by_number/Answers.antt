use Rattle.lucid_net_spec.proofs.Numbers.{by_number}
use Rattle.lucid_net_spec.proofs.laws.turns_go_by_number.Goals as goal

pub returns : goal.returns
returns c = by_number
