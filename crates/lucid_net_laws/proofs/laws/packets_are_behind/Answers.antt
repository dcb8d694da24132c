use Rattle.lucid_net_laws.proofs.Behind.{stays_behind}
use Rattle.lucid_net_laws.proofs.laws.packets_are_behind.Goals as goal

pub returns : goal.returns
returns c = stays_behind
