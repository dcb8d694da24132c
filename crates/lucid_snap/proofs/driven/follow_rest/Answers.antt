use Rattle.std.proofs.Common.{◌<◌, length, sym, subst}
use Rattle.lucid_io.proofs.Leaves.{on_err}
use Rattle.lucid_tables.specs.Placed.{PlacedParts}
use Rattle.lucid_drive.proofs.Joining.{changes_less, flushing_end, flushing_on}
use Rattle.lucid_drive.proofs.Running.{flushing_cut, flushing_first}
use Rattle.lucid_snap.proofs.Trailing.{follows_some, moved_by, unmoved}
use Rattle.lucid_snap.proofs.driven.follow_rest.Goals as goal

pub flush-init : goal.flush-init
flush-init g c = (
  λ cells f. f,
  flushing_first g.S.Sink.written g.S.Sink.faults c.args.sink.now c.args.core.now c.args.scene.now c.args.pipe.now c.args.state.now c.requires.at c.requires.all_done,
)

pub pass-requires : goal.pass-requires
pass-requires g c =
    let one = moved_by c.flush.pipe c.drive_flush.new.pipe _ c.in-Some.k c.in-Some.is c.in_ok-k.ensures.changes in
    (c.flush.pipe, one.0, one.1, follows_some c.args.snap.now c.flush.snap c.args.pipe.now c.flush.pipe c.flush.invariant.0 c.requires.follows)

pub returns-in_err-k-clause-part : goal.returns-in_err-k-clause-part
returns-in_err-k-clause-part g c =
    on_err c.from_residual.result
    (flushing_cut c.args.sink.now c.flush.sink c.args.core.now c.args.scene.now c.args.pipe.now c.flush.pipe c.flush.state c.flush.invariant.1 c.drive_flush.new.sink
    (c.in_err-k.ensures.part c.flush.invariant.1.moves c.flush.invariant.1.at))

pub flush-smaller : goal.flush-smaller
flush-smaller g c = changes_less c.flush.pipe c.drive_flush.new.pipe _ c.in-Some.k c.in-Some.is c.in_ok-k.ensures.changes

pub flush-preserved : goal.flush-preserved
flush-preserved g c =
    let one = moved_by c.flush.pipe c.drive_flush.new.pipe _ c.in-Some.k c.in-Some.is c.in_ok-k.ensures.changes in (
      λ cells f. c.pass.ensures c.flush.pipe one.0 one.1 cells (c.flush.invariant.0 cells f),
      flushing_on c.args.sink.now c.flush.sink c.args.core.now c.args.scene.now c.args.pipe.now c.flush.pipe c.flush.state c.flush.invariant.1 c.drive_flush.new.sink c.drive_flush.new.pipe c.drive_flush.new.state _ c.in-Some.k c.in-Some.is
          c.in_ok-k.ensures.placed c.in_ok-k.ensures.done (c.in_ok-k.ensures.at c.flush.invariant.1.moves c.flush.invariant.1.at) (c.in_ok-k.ensures.all c.flush.invariant.1.moves c.flush.invariant.1.at),
    )

pub returns-clause-all : goal.returns-clause-all
returns-clause-all g c =
    flushing_end c.args.sink.now c.flush.sink c.args.core.now c.args.scene.now c.args.pipe.now c.flush.pipe c.flush.state c.flush.invariant.1 c.drive_flush.new.sink
    (c.in_ok-k.ensures.empty.0 c.in_default.is)
    (subst (λ (q : PlacedParts). 0 < length q.stages) (sym c.flush.invariant.1.same) c.keeps_laws.ensures.placed.some)
    (c.in_ok-k.ensures.all c.flush.invariant.1.moves c.flush.invariant.1.at)

pub returns-clause-follows : goal.returns-clause-follows
returns-clause-follows g c = unmoved c.args.snap.now c.flush.snap c.args.pipe.now c.flush.pipe c.drive_flush.new.pipe c.flush.invariant.0 (c.in_ok-k.ensures.still c.in_default.is)
