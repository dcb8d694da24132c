use Rattle.std.proofs.Common.{arith, length-drop}
use Rattle.std.proofs.lemmas.Result.{on_ok_weaker, on_err_weaker}
use Rattle.lucid_io.proofs.Leaves.{Leaves-held, Leaves-held_last, PutsPart-held, PutsPart-held_last, on_err}
use Rattle.lucid_log.proofs.Holes.{filled-next, filled-last, holes_of-next}
use Rattle.lucid_log.proofs.filled.hold_filled.Goals as goal

pub split_at_hole-requires : goal.split_at_hole-requires
split_at_hole-requires g c = omega (arith, c.loop-number.invariant.holes, c.loop-number-test.true, length-drop c.loop-number.number-index c.args.numbers.now)

pub returns-in_err-hold_pieces-clause-part : goal.returns-in_err-hold_pieces-clause-part
returns-in_err-hold_pieces-clause-part g c =
    on_err _ (PutsPart-held c.loop-number.room _ _ c.loop-number.invariant.left c.in_err-hold_pieces.ensures.part
    (filled-next _ _ _ c.args.numbers.now c.loop-number.number-index _ c.loop-number-test.true c.split_at_hole.ensures.none_before c.split_at_hole.ensures.parts))

pub loop-number-preserved : goal.loop-number-preserved
loop-number-preserved g c = record {
  left =
      Leaves-held c.loop-number.room _ _ _ c.loop-number.invariant.left c.in_ok-hold_pieces.ensures.all
      (filled-next _ _ _ c.args.numbers.now c.loop-number.number-index _ c.loop-number-test.true c.split_at_hole.ensures.none_before c.split_at_hole.ensures.parts);
  holes =
      holes_of-next _ _ _ c.args.numbers.now c.loop-number.number-index c.loop-number-test.true c.split_at_hole.ensures.none_before c.split_at_hole.ensures.parts
      c.loop-number.invariant.holes;
}

pub returns-clause-all : goal.returns-clause-all
returns-clause-all g c =
    on_ok_weaker c.hold.result
    (λ held. Leaves-held_last c.loop-number.room _ _ c.loop-number.invariant.left held (filled-last _ c.args.numbers.now c.loop-number.number-index c.loop-number-test.false))
    c.hold.ensures.all

pub returns-clause-part : goal.returns-clause-part
returns-clause-part g c =
    on_err_weaker c.hold.result
    (λ cut. PutsPart-held_last c.loop-number.room _ c.loop-number.invariant.left cut (filled-last _ c.args.numbers.now c.loop-number.number-index c.loop-number-test.false))
    c.hold.ensures.part
