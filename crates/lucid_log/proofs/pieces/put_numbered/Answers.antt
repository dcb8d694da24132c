use Rattle.std.proofs.Common.{◌++◌, codes, decimal, refl}
use Rattle.std.proofs.lemmas.List.{append_assoc}
use Rattle.std.proofs.lemmas.Result.{on_err_weaker}
use Rattle.lucid_io.proofs.Leaves.{Leaves-empty, Leaves-held, Leaves-held_last, PutsPart-held, PutsPart-held_last, PutsPart-last, on_err}
use Rattle.lucid_log.proofs.pieces.put_numbered.Goals as goal

pub returns-in_err-hold_number-clause-part : goal.returns-in_err-hold_number-clause-part
returns-in_err-hold_number-clause-part g c =
    let all = c.args.word.now ++ decimal c.args.n ++ codes "\n" in
    let word = Leaves-held c.new-room.result _ c.args.word.now (decimal c.args.n ++ codes "\n") (Leaves-empty all c.new-room.ensures) c.in_ok-hold.ensures.all (append_assoc c.args.word.now (decimal c.args.n) (codes "\n")) in
    on_err _ (PutsPart-held c.hold.new.room (decimal c.args.n) (codes "\n") word c.in_err-hold_number.ensures.part refl)

pub returns-in_err-hold-2-clause-part : goal.returns-in_err-hold-2-clause-part
returns-in_err-hold-2-clause-part g c =
    let all = c.args.word.now ++ decimal c.args.n ++ codes "\n" in
    let word = Leaves-held c.new-room.result _ c.args.word.now (decimal c.args.n ++ codes "\n") (Leaves-empty all c.new-room.ensures) c.in_ok-hold.ensures.all (append_assoc c.args.word.now (decimal c.args.n) (codes "\n")) in
    let number = Leaves-held c.hold.new.room _ (decimal c.args.n) (codes "\n") word c.in_ok-hold_number.ensures.all refl in
    on_err _ (PutsPart-held_last c.hold_number.new.room (codes "\n") number c.in_err-hold-2.ensures.part refl)

pub returns-clause-part : goal.returns-clause-part
returns-clause-part g c =
    let all = c.args.word.now ++ decimal c.args.n ++ codes "\n" in
    let word = Leaves-held c.new-room.result _ c.args.word.now (decimal c.args.n ++ codes "\n") (Leaves-empty all c.new-room.ensures) c.in_ok-hold.ensures.all (append_assoc c.args.word.now (decimal c.args.n) (codes "\n")) in
    let number = Leaves-held c.hold.new.room _ (decimal c.args.n) (codes "\n") word c.in_ok-hold_number.ensures.all refl in
    on_err_weaker c.release.result
    (λ cut. PutsPart-last (Leaves-held_last c.hold_number.new.room _ (codes "\n") number c.in_ok-hold-2.ensures.all refl) cut refl)
    c.release.ensures.part
