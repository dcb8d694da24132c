use Rattle.std.proofs.Common.{append_assoc, refl, codes}
use Rattle.std.proofs.lemmas.Result.{on_ok_weaker, on_err_weaker}
use Rattle.lucid_io.proofs.Leaves.{Leaves-whole, Leaves-held, Leaves-held_last, PutsPart-held, PutsPart-held_last, on_err}
use Rattle.lucid_log.specs.Filled.{filled}
use Rattle.lucid_log.proofs.block.hold_say.Goals as goal

pub returns-in_err-hold-clause-part : goal.returns-in_err-hold-clause-part
returns-in_err-hold-clause-part g c =
    on_err _ (PutsPart-held c.args.room.now _ _ Leaves-whole c.in_err-hold.ensures.part
    (append_assoc (codes "  say ") (filled c.args.text.now c.args.numbers.now) (codes "\n")))

pub returns-in_err-hold_filled-clause-part : goal.returns-in_err-hold_filled-clause-part
returns-in_err-hold_filled-clause-part g c =
    on_err _ (PutsPart-held c.hold.new.room _ (codes "\n")
    (Leaves-held c.args.room.now _ _ _ Leaves-whole c.in_ok-hold.ensures.all (append_assoc (codes "  say ") (filled c.args.text.now c.args.numbers.now) (codes "\n")))
    c.in_err-hold_filled.ensures.part refl)

pub returns-clause-all : goal.returns-clause-all
returns-clause-all g c =
    on_ok_weaker c.hold-2.result
    (λ held. Leaves-held_last c.hold_filled.new.room _ _
    (Leaves-held c.hold.new.room _ _ _
    (Leaves-held c.args.room.now _ _ _ Leaves-whole c.in_ok-hold.ensures.all (append_assoc (codes "  say ") (filled c.args.text.now c.args.numbers.now) (codes "\n")))
    c.in_ok-hold_filled.ensures.all refl)
    held refl)
    c.hold-2.ensures.all

pub returns-clause-part : goal.returns-clause-part
returns-clause-part g c =
    on_err_weaker c.hold-2.result
    (λ cut. PutsPart-held_last c.hold_filled.new.room _
    (Leaves-held c.hold.new.room _ _ _
    (Leaves-held c.args.room.now _ _ _ Leaves-whole c.in_ok-hold.ensures.all (append_assoc (codes "  say ") (filled c.args.text.now c.args.numbers.now) (codes "\n")))
    c.in_ok-hold_filled.ensures.all refl)
    cut refl)
    c.hold-2.ensures.part
