use Rattle.std.proofs.Common.{◌<◌, length, sym, subst}
use Rattle.lucid_io.proofs.Leaves.{on_err}
use Rattle.lucid_tables.specs.Placed.{PlacedParts}
use Rattle.lucid_drive.proofs.Joining.{changes_less, flushing_end, flushing_on}
use Rattle.lucid_drive.proofs.Running.{flushing_cut, flushing_first}
use Rattle.lucid_drive.proofs.whole.drive_rest.Goals as goal

pub flush-init : goal.flush-init
flush-init g c = flushing_first g.S.Sink.written g.S.Sink.faults c.args.sink.now c.args.core.now c.args.scene.now c.args.pipe.now c.args.state.now c.requires.at c.requires.all_done

pub returns-in_err-_slot-clause-part : goal.returns-in_err-_slot-clause-part
returns-in_err-_slot-clause-part g c =
    on_err c.from_residual.result
    (flushing_cut c.args.sink.now c.flush.sink c.args.core.now c.args.scene.now c.args.pipe.now c.flush.pipe c.flush.state c.flush.invariant c.drive_flush.new.sink
    (c.in_err-_slot.ensures.part c.flush.invariant.moves c.flush.invariant.at))

pub flush-smaller : goal.flush-smaller
flush-smaller g c = changes_less c.flush.pipe c.drive_flush.new.pipe _ c.in-Some._slot c.in-Some.is c.in_ok-_slot.ensures.changes

pub flush-preserved : goal.flush-preserved
flush-preserved g c =
    flushing_on c.args.sink.now c.flush.sink c.args.core.now c.args.scene.now c.args.pipe.now c.flush.pipe c.flush.state c.flush.invariant c.drive_flush.new.sink c.drive_flush.new.pipe c.drive_flush.new.state _ c.in-Some._slot c.in-Some.is
    c.in_ok-_slot.ensures.placed c.in_ok-_slot.ensures.done (c.in_ok-_slot.ensures.at c.flush.invariant.moves c.flush.invariant.at) (c.in_ok-_slot.ensures.all c.flush.invariant.moves c.flush.invariant.at)

pub returns-clause-all : goal.returns-clause-all
returns-clause-all g c =
    flushing_end c.args.sink.now c.flush.sink c.args.core.now c.args.scene.now c.args.pipe.now c.flush.pipe c.flush.state c.flush.invariant c.drive_flush.new.sink
    (c.in_ok-_slot.ensures.empty.0 c.in_default.is)
    (subst (λ (q : PlacedParts). 0 < length q.stages) (sym c.flush.invariant.same) c.keeps_laws.ensures.placed.some)
    (c.in_ok-_slot.ensures.all c.flush.invariant.moves c.flush.invariant.at)
