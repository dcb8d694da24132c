-- Both ways.
use Rattle.lucid_types_laws.proofs.StatementComplete as complete
use Rattle.lucid_types_laws.proofs.StatementSound as sound
use Rattle.lucid_types_laws.proofs.laws.blocks_are_computed.Goals as goal

pub returns : goal.returns
returns c = λ a s m xs b k. (sound.block_of a s m xs b k, complete.block_made)
