use Rattle.std.proofs.Common.{List, refl, sym, ap}
use Rattle.std.proofs.lemmas.Result.{on_ok_weaker, on_err_weaker}
use Rattle.lucid_base.specs.declared.event.Out.{Out}
use Rattle.lucid_io.proofs.Leaves.{Leaves-empty, Leaves-held, Leaves-held_last, PutsAll-last, PutsPart-held, PutsPart-held_last, PutsPart-last, on_err}
use Rattle.lucid_log.specs.Block.{outs_text}
use Rattle.lucid_log.proofs.block.put_through.Goals as goal

pub returns-in_err-hold_head-clause-part : goal.returns-in_err-hold_head-clause-part
returns-in_err-hold_head-clause-part g c =
    on_err _ (PutsPart-held c.args.room.now _ (outs_text c.args.core.now c.args.lost 0 c.args.outs.now) (Leaves-empty _ c.requires.empty) c.in_err-hold_head.ensures.part refl)

pub returns-in_err-hold_outs-clause-part : goal.returns-in_err-hold_outs-clause-part
returns-in_err-hold_outs-clause-part g c =
    on_err _ (PutsPart-held_last c.hold_head.new.room _
    (Leaves-held c.args.room.now _ _ _ (Leaves-empty _ c.requires.empty) c.in_ok-hold_head.ensures.all refl)
    c.in_err-hold_outs.ensures.part
    (ap (λ (l : List Out). outs_text c.args.core.now c.args.lost 0 l) (sym c.as_slice.ensures.value)))

pub returns-clause-all : goal.returns-clause-all
returns-clause-all g c =
    on_ok_weaker c.release.result
    (λ puts. PutsAll-last
    (Leaves-held_last c.hold_head.new.room _ _
    (Leaves-held c.args.room.now _ _ _ (Leaves-empty _ c.requires.empty) c.in_ok-hold_head.ensures.all refl)
    c.in_ok-hold_outs.ensures.all
    (ap (λ (l : List Out). outs_text c.args.core.now c.args.lost 0 l) (sym c.as_slice.ensures.value)))
    puts refl)
    c.release.ensures.all

pub returns-clause-part : goal.returns-clause-part
returns-clause-part g c =
    on_err_weaker c.release.result
    (λ cut. PutsPart-last
    (Leaves-held_last c.hold_head.new.room _ _
    (Leaves-held c.args.room.now _ _ _ (Leaves-empty _ c.requires.empty) c.in_ok-hold_head.ensures.all refl)
    c.in_ok-hold_outs.ensures.all
    (ap (λ (l : List Out). outs_text c.args.core.now c.args.lost 0 l) (sym c.as_slice.ensures.value)))
    cut refl)
    c.release.ensures.part
