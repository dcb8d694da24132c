use Rattle.lucid_gen.specs.Program.{handler}
use Rattle.lucid_gen.proofs.Texts.{none_written, one_more}
use Rattle.lucid_gen.proofs.program.write_handlers.Goals as goal

pub loop-j-init : goal.loop-j-init
loop-j-init c = none_written handler

pub loop-j-preserved : goal.loop-j-preserved
loop-j-preserved c = one_more handler c.loop-j.invariant c.in_ok-write_handler.ensures.gives c.in_ok-write_handler.ensures.after
