use Rattle.std.proofs.Common.{◌≡◌, ◌+◌, ◌∙◌, if◌then◌else◌, Bool, ap, arith, sym}
use Rattle.lucid_net.specs.Sent.{net_of, run_of}
use Rattle.lucid_net.proofs.Outgoing.{tells_all, tells_next}
use Rattle.lucid_net.proofs.sending.tell.Goals as goal
use Rattle.lucid_net.proofs.sending.tell.Goals.{then-is_made, else-is_made}

pub loop-index-preserved : goal.loop-index-preserved
loop-index-preserved c =
    let m = c.loop-index.made in
    let none : m ≡ m + 0 = omega arith in
    let made : c.if-is_made.made ≡ m + (if c.is_made.result then 1 else 0) = elim c.if-is_made.branch [
      | then-is_made w ↦ w.made-is ∙ ap (λ (b : Bool). m + (if b then 1 else 0)) (sym w.if-is_made.true)
      | else-is_made w ↦ w.made-is ∙ none ∙ ap (λ (b : Bool). m + (if b then 1 else 0)) (sym w.if-is_made.false)
    ] in
    tells_next (net_of c.args.world.now) (run_of c.args.ran.now) c.loop-index.lost.count c.loop-index.lost.marks m c.with-lost.result.count c.with-lost.result.marks c.if-is_made.made
    c.loop-index.index c.out-item.result c.is_lost.result c.is_made.result c.loop-index-test.true c.out-item.is c.loop-index.invariant
    c.is_lost.ensures c.is_made.ensures c.with-lost.ensures.count c.with-lost.ensures.marks made

pub returns-clause-made : goal.returns-clause-made
returns-clause-made c =
    (tells_all (net_of c.args.world.now) (run_of c.args.ran.now) c.loop-index.lost.count c.loop-index.lost.marks c.loop-index.made c.loop-index.index c.loop-index-test.false c.loop-index.invariant).0

pub returns-clause-count : goal.returns-clause-count
returns-clause-count c =
    (tells_all (net_of c.args.world.now) (run_of c.args.ran.now) c.loop-index.lost.count c.loop-index.lost.marks c.loop-index.made c.loop-index.index c.loop-index-test.false c.loop-index.invariant).1

pub returns-clause-marks : goal.returns-clause-marks
returns-clause-marks c =
    (tells_all (net_of c.args.world.now) (run_of c.args.ran.now) c.loop-index.lost.count c.loop-index.lost.marks c.loop-index.made c.loop-index.index c.loop-index-test.false c.loop-index.invariant).2
