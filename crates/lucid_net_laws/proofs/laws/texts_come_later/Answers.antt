use Rattle.lucid_net_laws.proofs.Texts.{late_ticks}
use Rattle.lucid_net_laws.proofs.laws.texts_come_later.Goals as goal

pub returns : goal.returns
returns c = late_ticks
