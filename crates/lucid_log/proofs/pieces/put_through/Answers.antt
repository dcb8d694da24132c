use Rattle.std.proofs.Common.{refl}
use Rattle.std.proofs.lemmas.Result.{on_ok_weaker, on_err_weaker}
use Rattle.lucid_io.proofs.Leaves.{Leaves-empty, Leaves-held_last, PutsAll-last, PutsPart-last, PutsPart-held_last, on_err}
use Rattle.lucid_log.proofs.pieces.put_through.Goals as goal

pub returns-in_err-hold_pieces-clause-part : goal.returns-in_err-hold_pieces-clause-part
returns-in_err-hold_pieces-clause-part g c = on_err _ (PutsPart-held_last c.args.room.now _ (Leaves-empty _ c.requires) c.in_err-hold_pieces.ensures.part refl)

pub returns-clause-all : goal.returns-clause-all
returns-clause-all g c =
    on_ok_weaker c.release.result
    (λ puts. PutsAll-last (Leaves-held_last c.args.room.now _ _ (Leaves-empty _ c.requires) c.in_ok-hold_pieces.ensures.all refl) puts refl)
    c.release.ensures.all

pub returns-clause-part : goal.returns-clause-part
returns-clause-part g c =
    on_err_weaker c.release.result
    (λ cut. PutsPart-last (Leaves-held_last c.args.room.now _ _ (Leaves-empty _ c.requires) c.in_ok-hold_pieces.ensures.all refl) cut refl)
    c.release.ensures.part
