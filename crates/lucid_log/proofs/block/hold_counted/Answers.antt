use Rattle.std.proofs.Common.{decimal, refl}
use Rattle.std.proofs.lemmas.Result.{on_ok_weaker, on_err_weaker}
use Rattle.lucid_io.proofs.Leaves.{Leaves-whole, Leaves-held, Leaves-held_last, PutsPart-held, PutsPart-held_last, on_err}
use Rattle.lucid_log.proofs.block.hold_counted.Goals as goal

pub returns-in_err-hold-clause-part : goal.returns-in_err-hold-clause-part
returns-in_err-hold-clause-part g c =
    on_err _ (PutsPart-held c.args.room.now _ (decimal c.args.n) Leaves-whole c.in_err-hold.ensures.part refl)

pub returns-clause-all : goal.returns-clause-all
returns-clause-all g c =
    on_ok_weaker c.hold_number.result
    (λ held. Leaves-held_last c.hold.new.room _ _
    (Leaves-held c.args.room.now _ c.args.word.now (decimal c.args.n) Leaves-whole c.in_ok-hold.ensures.all refl)
    held refl)
    c.hold_number.ensures.all

pub returns-clause-part : goal.returns-clause-part
returns-clause-part g c =
    on_err_weaker c.hold_number.result
    (λ cut. PutsPart-held_last c.hold.new.room _
    (Leaves-held c.args.room.now _ c.args.word.now (decimal c.args.n) Leaves-whole c.in_ok-hold.ensures.all refl)
    cut refl)
    c.hold_number.ensures.part
