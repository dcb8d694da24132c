use Rattle.std.proofs.Common.{◌++◌, codes, decimal, refl, sym}
use Rattle.std.proofs.lemmas.Result.{on_ok_weaker, on_err_weaker}
use Rattle.lucid_io.proofs.Leaves.{Leaves-whole, Leaves-held, Leaves-held_last, PutsPart-held, PutsPart-held_last, on_err}
use Rattle.lucid_log.specs.Block.{target_text, end_text}
use Rattle.lucid_log.specs.Pieces.{numbers_text}
use Rattle.lucid_log.proofs.BlockLemmas.{sent_parts}
use Rattle.lucid_log.proofs.block.hold_generate.Goals as goal

pub returns-in_err-hold_call-clause-part : goal.returns-in_err-hold_call-clause-part
returns-in_err-hold_call-clause-part g c =
    on_err _ (PutsPart-held c.args.room.now _ _ Leaves-whole c.in_err-hold_call.ensures.part
    (sent_parts (codes "  generate " ++ c.args.name.now ++ codes "(" ++ numbers_text c.args.args.now) (codes ") delay ") (decimal c.args.delay) (target_text c.args.to) (end_text c.args.is_lost)))

pub returns-in_err-hold_counted-clause-part : goal.returns-in_err-hold_counted-clause-part
returns-in_err-hold_counted-clause-part g c =
    let call = Leaves-held c.args.room.now _ _ _ Leaves-whole c.in_ok-hold_call.ensures.all
    (sent_parts (codes "  generate " ++ c.args.name.now ++ codes "(" ++ numbers_text c.args.args.now) (codes ") delay ") (decimal c.args.delay) (target_text c.args.to) (end_text c.args.is_lost)) in
    on_err _ (PutsPart-held c.hold_call.new.room _ _ call c.in_err-hold_counted.ensures.part refl)

pub returns-in_err-hold_target-clause-part : goal.returns-in_err-hold_target-clause-part
returns-in_err-hold_target-clause-part g c =
    let call = Leaves-held c.args.room.now _ _ _ Leaves-whole c.in_ok-hold_call.ensures.all
    (sent_parts (codes "  generate " ++ c.args.name.now ++ codes "(" ++ numbers_text c.args.args.now) (codes ") delay ") (decimal c.args.delay) (target_text c.args.to) (end_text c.args.is_lost)) in
    let delay = Leaves-held c.hold_call.new.room _ _ _ call c.in_ok-hold_counted.ensures.all refl in
    on_err _ (PutsPart-held c.hold_counted.new.room _ (end_text c.args.is_lost) delay c.in_err-hold_target.ensures.part refl)

pub returns-clause-all : goal.returns-clause-all
returns-clause-all g c =
    let call = Leaves-held c.args.room.now _ _ _ Leaves-whole c.in_ok-hold_call.ensures.all
    (sent_parts (codes "  generate " ++ c.args.name.now ++ codes "(" ++ numbers_text c.args.args.now) (codes ") delay ") (decimal c.args.delay) (target_text c.args.to) (end_text c.args.is_lost)) in
    let delay = Leaves-held c.hold_call.new.room _ _ _ call c.in_ok-hold_counted.ensures.all refl in
    let target = Leaves-held c.hold_counted.new.room _ _ (end_text c.args.is_lost) delay c.in_ok-hold_target.ensures.all refl in
    on_ok_weaker c.hold.result (λ held. Leaves-held_last c.hold_target.new.room _ _ target held (sym c.end_of.ensures)) c.hold.ensures.all

pub returns-clause-part : goal.returns-clause-part
returns-clause-part g c =
    let call = Leaves-held c.args.room.now _ _ _ Leaves-whole c.in_ok-hold_call.ensures.all
    (sent_parts (codes "  generate " ++ c.args.name.now ++ codes "(" ++ numbers_text c.args.args.now) (codes ") delay ") (decimal c.args.delay) (target_text c.args.to) (end_text c.args.is_lost)) in
    let delay = Leaves-held c.hold_call.new.room _ _ _ call c.in_ok-hold_counted.ensures.all refl in
    let target = Leaves-held c.hold_counted.new.room _ _ (end_text c.args.is_lost) delay c.in_ok-hold_target.ensures.all refl in
    on_err_weaker c.hold.result (λ cut. PutsPart-held_last c.hold_target.new.room _ target cut (sym c.end_of.ensures)) c.hold.ensures.part
