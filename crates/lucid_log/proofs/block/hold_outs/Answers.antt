use Rattle.std.proofs.Common.{List, ap, drop_of_length-le}
use Rattle.lucid_base.specs.declared.event.Out.{Out}
use Rattle.lucid_io.proofs.Leaves.{Leaves-held, Leaves-held_all, PutsPart-held, on_err}
use Rattle.lucid_log.specs.Block.{outs_text}
use Rattle.lucid_log.proofs.Outs.{outs_text-drop}
use Rattle.lucid_log.proofs.block.hold_outs.Goals as goal

pub returns-in_err-hold_out-clause-part : goal.returns-in_err-hold_out-clause-part
returns-in_err-hold_out-clause-part g c =
    on_err _ (PutsPart-held c.loop-i.room _ _ c.loop-i.invariant c.in_err-hold_out.ensures.part
    (outs_text-drop c.args.core.now c.args.lost c.args.outs.now c.loop-i.i _ _ c.loop-i-test.true c.index-outs-i.is c.is_set.ensures))

pub loop-i-preserved : goal.loop-i-preserved
loop-i-preserved g c =
    Leaves-held c.loop-i.room _ _ _ c.loop-i.invariant c.in_ok-hold_out.ensures.all
    (outs_text-drop c.args.core.now c.args.lost c.args.outs.now c.loop-i.i _ _ c.loop-i-test.true c.index-outs-i.is c.is_set.ensures)

pub returns-clause-all : goal.returns-clause-all
returns-clause-all g c =
    Leaves-held_all c.loop-i.room c.loop-i.invariant
    (ap (λ (l : List Out). outs_text c.args.core.now c.args.lost c.loop-i.i l) (drop_of_length-le c.args.outs.now c.loop-i-test.false))
