use Rattle.lucid_top.proofs.RoomLemmas.{commands_lack_room}
use Rattle.lucid_top.proofs.room.commands_lack_room.Goals as goal

pub returns : goal.returns
returns c = commands_lack_room c.touches_rise_in_texts.ensures c.programs_lack_room.ensures
