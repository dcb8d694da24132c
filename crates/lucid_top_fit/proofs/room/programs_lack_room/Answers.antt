use Rattle.lucid_top_fit.proofs.RoomLemmas.{programs_lack_room}
use Rattle.lucid_top_fit.proofs.room.programs_lack_room.Goals as goal

pub returns : goal.returns
returns c = programs_lack_room c.stuck_for_room.ensures c.lists_keep_the_laws.ensures.nodes
