use Rattle.lucid_drive.proofs.States.{new_stands}
use Rattle.lucid_drive.proofs.laws.new_stands.Goals as goal

pub returns : goal.returns
returns c = new_stands
