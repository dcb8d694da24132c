use Rattle.std.proofs.Common.{List, ℕ, arith, refl, ap, drop_of_length-le}
use Rattle.lucid_io.proofs.Leaves.{Leaves-whole, Leaves-held, Leaves-held_all, PutsPart-held, on_err}
use Rattle.lucid_log.proofs.Numbers.{after_commas, numbers_text-rest, after_commas-drop}
use Rattle.lucid_log.proofs.pieces.hold_numbers.Goals as goal

pub loop-number-init : goal.loop-number-init
loop-number-init g c = Leaves-held c.args.room.now _ _ _ Leaves-whole c.in_ok-hold_number.ensures.all (numbers_text-rest c.args.numbers.now (omega arith))

pub returns-in_err-hold_number-clause-part : goal.returns-in_err-hold_number-clause-part
returns-in_err-hold_number-clause-part g c =
    on_err _ (PutsPart-held c.args.room.now _ _ Leaves-whole c.in_err-hold_number.ensures.part (numbers_text-rest c.args.numbers.now (omega arith)))

pub returns-in_err-hold-clause-part : goal.returns-in_err-hold-clause-part
returns-in_err-hold-clause-part g c =
    on_err _ (PutsPart-held c.loop-number.room _ _ c.loop-number.invariant c.in_err-hold.ensures.part
    (after_commas-drop _ c.loop-number.number-index c.loop-number-test.true))

pub returns-in_err-hold_number-2-clause-part : goal.returns-in_err-hold_number-2-clause-part
returns-in_err-hold_number-2-clause-part g c =
    on_err _ (PutsPart-held c.hold.new.room _ _
    (Leaves-held c.loop-number.room _ _ _ c.loop-number.invariant c.in_ok-hold.ensures.all (after_commas-drop _ c.loop-number.number-index c.loop-number-test.true))
    c.in_err-hold_number-2.ensures.part refl)

pub loop-number-preserved : goal.loop-number-preserved
loop-number-preserved g c =
    Leaves-held c.hold.new.room _ _ _
    (Leaves-held c.loop-number.room _ _ _ c.loop-number.invariant c.in_ok-hold.ensures.all (after_commas-drop _ c.loop-number.number-index c.loop-number-test.true))
    c.in_ok-hold_number-2.ensures.all refl

pub returns-clause-all : goal.returns-clause-all
returns-clause-all g c =
    Leaves-held_all c.loop-number.room c.loop-number.invariant (ap (λ (l : List ℕ). after_commas l) (drop_of_length-le _ c.loop-number-test.false))
