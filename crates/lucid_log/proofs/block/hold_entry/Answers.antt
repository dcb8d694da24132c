use Rattle.std.proofs.Common.{◌++◌, codes, decimal, refl}
use Rattle.std.proofs.lemmas.Result.{on_ok_weaker, on_err_weaker}
use Rattle.lucid_io.proofs.Leaves.{Leaves-whole, Leaves-held, Leaves-held_last, PutsPart-held, PutsPart-held_last, on_err}
use Rattle.lucid_log.specs.Pieces.{numbers_text}
use Rattle.lucid_log.proofs.BlockLemmas.{head_parts}
use Rattle.lucid_log.proofs.block.hold_entry.Goals as goal

pub returns-in_err-hold_counted-clause-part : goal.returns-in_err-hold_counted-clause-part
returns-in_err-hold_counted-clause-part g c =
    on_err _ (PutsPart-held c.args.room.now _ _ Leaves-whole c.in_err-hold_counted.ensures.part
    (head_parts (codes "[" ++ decimal c.args.tick) (codes "] s") (decimal c.args.switch) (codes " ") c.args.name.now (codes "(") (numbers_text c.args.args.now) (codes ")\n")))

pub returns-in_err-hold_counted-2-clause-part : goal.returns-in_err-hold_counted-2-clause-part
returns-in_err-hold_counted-2-clause-part g c =
    let tick = Leaves-held c.args.room.now _ _ _ Leaves-whole c.in_ok-hold_counted.ensures.all
    (head_parts (codes "[" ++ decimal c.args.tick) (codes "] s") (decimal c.args.switch) (codes " ") c.args.name.now (codes "(") (numbers_text c.args.args.now) (codes ")\n")) in
    on_err _ (PutsPart-held c.hold_counted.new.room _ _ tick c.in_err-hold_counted-2.ensures.part refl)

pub returns-in_err-hold_call-clause-part : goal.returns-in_err-hold_call-clause-part
returns-in_err-hold_call-clause-part g c =
    let tick = Leaves-held c.args.room.now _ _ _ Leaves-whole c.in_ok-hold_counted.ensures.all
    (head_parts (codes "[" ++ decimal c.args.tick) (codes "] s") (decimal c.args.switch) (codes " ") c.args.name.now (codes "(") (numbers_text c.args.args.now) (codes ")\n")) in
    let switch = Leaves-held c.hold_counted.new.room _ _ _ tick c.in_ok-hold_counted-2.ensures.all refl in
    on_err _ (PutsPart-held c.hold_counted-2.new.room _ (codes ")\n") switch c.in_err-hold_call.ensures.part refl)

pub returns-clause-all : goal.returns-clause-all
returns-clause-all g c =
    let tick = Leaves-held c.args.room.now _ _ _ Leaves-whole c.in_ok-hold_counted.ensures.all
    (head_parts (codes "[" ++ decimal c.args.tick) (codes "] s") (decimal c.args.switch) (codes " ") c.args.name.now (codes "(") (numbers_text c.args.args.now) (codes ")\n")) in
    let switch = Leaves-held c.hold_counted.new.room _ _ _ tick c.in_ok-hold_counted-2.ensures.all refl in
    let call = Leaves-held c.hold_counted-2.new.room _ _ (codes ")\n") switch c.in_ok-hold_call.ensures.all refl in
    on_ok_weaker c.hold.result (λ held. Leaves-held_last c.hold_call.new.room _ _ call held refl) c.hold.ensures.all

pub returns-clause-part : goal.returns-clause-part
returns-clause-part g c =
    let tick = Leaves-held c.args.room.now _ _ _ Leaves-whole c.in_ok-hold_counted.ensures.all
    (head_parts (codes "[" ++ decimal c.args.tick) (codes "] s") (decimal c.args.switch) (codes " ") c.args.name.now (codes "(") (numbers_text c.args.args.now) (codes ")\n")) in
    let switch = Leaves-held c.hold_counted.new.room _ _ _ tick c.in_ok-hold_counted-2.ensures.all refl in
    let call = Leaves-held c.hold_counted-2.new.room _ _ (codes ")\n") switch c.in_ok-hold_call.ensures.all refl in
    on_err_weaker c.hold.result (λ cut. PutsPart-held_last c.hold_call.new.room _ call cut refl) c.hold.ensures.part
