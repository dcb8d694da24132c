use Rattle.std.proofs.Common.{◌++◌, codes, refl}
use Rattle.std.proofs.lemmas.Result.{on_ok_weaker, on_err_weaker}
use Rattle.lucid_io.proofs.Leaves.{Leaves-whole, Leaves-held, Leaves-held_last, PutsPart-held, PutsPart-held_last, on_err}
use Rattle.lucid_log.specs.Pieces.{numbers_text}
use Rattle.lucid_log.proofs.BlockLemmas.{call_parts}
use Rattle.lucid_log.proofs.block.hold_call.Goals as goal

pub returns-in_err-hold-clause-part : goal.returns-in_err-hold-clause-part
returns-in_err-hold-clause-part g c =
    on_err _ (PutsPart-held c.args.room.now _ _ Leaves-whole c.in_err-hold.ensures.part
    (call_parts c.args.word.now c.args.name.now (codes "(") (numbers_text c.args.args.now)))

pub returns-in_err-hold-2-clause-part : goal.returns-in_err-hold-2-clause-part
returns-in_err-hold-2-clause-part g c =
    let word = Leaves-held c.args.room.now _ _ _ Leaves-whole c.in_ok-hold.ensures.all (call_parts c.args.word.now c.args.name.now (codes "(") (numbers_text c.args.args.now)) in
    on_err _ (PutsPart-held c.hold.new.room _ (codes "(" ++ numbers_text c.args.args.now) word c.in_err-hold-2.ensures.part refl)

pub returns-in_err-hold-3-clause-part : goal.returns-in_err-hold-3-clause-part
returns-in_err-hold-3-clause-part g c =
    let word = Leaves-held c.args.room.now _ _ _ Leaves-whole c.in_ok-hold.ensures.all (call_parts c.args.word.now c.args.name.now (codes "(") (numbers_text c.args.args.now)) in
    let name = Leaves-held c.hold.new.room _ _ (codes "(" ++ numbers_text c.args.args.now) word c.in_ok-hold-2.ensures.all refl in
    on_err _ (PutsPart-held c.hold-2.new.room _ (numbers_text c.args.args.now) name c.in_err-hold-3.ensures.part refl)

pub returns-clause-all : goal.returns-clause-all
returns-clause-all g c =
    let word = Leaves-held c.args.room.now _ _ _ Leaves-whole c.in_ok-hold.ensures.all (call_parts c.args.word.now c.args.name.now (codes "(") (numbers_text c.args.args.now)) in
    let name = Leaves-held c.hold.new.room _ _ (codes "(" ++ numbers_text c.args.args.now) word c.in_ok-hold-2.ensures.all refl in
    let open_paren = Leaves-held c.hold-2.new.room _ _ (numbers_text c.args.args.now) name c.in_ok-hold-3.ensures.all refl in
    on_ok_weaker c.hold_numbers.result (λ held. Leaves-held_last c.hold-3.new.room _ _ open_paren held refl) c.hold_numbers.ensures.all

pub returns-clause-part : goal.returns-clause-part
returns-clause-part g c =
    let word = Leaves-held c.args.room.now _ _ _ Leaves-whole c.in_ok-hold.ensures.all (call_parts c.args.word.now c.args.name.now (codes "(") (numbers_text c.args.args.now)) in
    let name = Leaves-held c.hold.new.room _ _ (codes "(" ++ numbers_text c.args.args.now) word c.in_ok-hold-2.ensures.all refl in
    let open_paren = Leaves-held c.hold-2.new.room _ _ (numbers_text c.args.args.now) name c.in_ok-hold-3.ensures.all refl in
    on_err_weaker c.hold_numbers.result (λ cut. PutsPart-held_last c.hold-3.new.room _ open_paren cut refl) c.hold_numbers.ensures.part
