use Rattle.lucid_core.proofs.Handlers as handlers
use Rattle.lucid_core.proofs.laws.one_handler.Goals as goal

pub returns : goal.returns
returns c = handlers.one_handler c.args.core.now c.arrays-valid.ensures.valid.sound
