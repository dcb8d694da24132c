use Rattle.std.proofs.Common.{sym, ◌∙◌, ap, subst}
use Rattle.std.proofs.lemmas.Result.{IfOk-weaker}
use Rattle.lucid_core.specs.Step.{after}
use Rattle.lucid_pipe.specs.Settled.{settled}
use Rattle.lucid_drive.specs.Drive.{entries}
use Rattle.lucid_drive.specs.Standing.{drive_of}
use Rattle.lucid_drive.specs.State.{progress_at}
use Rattle.lucid_snap.specs.Snap.{Follows}
use Rattle.lucid_snap.proofs.Settling.{settles_to}
use Rattle.lucid_snap.proofs.driven.begin.Goals as goal

pub returns : goal.returns
returns c =
    let at = c.requires.at in
    let p = progress_at (drive_of c.args.core.now c.args.pipe.now c.args.scene.now) c.args.state.now.done 0 in
    let cells = settles_to c.args.core.now c.args.scene.now p c.args.pipe.now at.is c.cells_stay_fit.ensures
    (record { keep = c.keeps_laws.ensures.keep; is_placed = c.keeps_laws.ensures.placed; arrays = c.keeps_laws.ensures.arrays })
    (record { rows = c.keeps_laws.ensures.rows; pass = c.keeps_laws.ensures.pass; idle = c.keeps_laws.ensures.idle; sized = c.keeps_laws.ensures.sized })
    ∙ ap (after c.args.core.now (entries c.args.scene.now)) (sym at.entered) in
    IfOk-weaker c.begin.result (λ snap. Follows snap c.args.pipe.now (settled c.args.pipe.now).cells) (λ snap. Follows snap c.args.pipe.now (after c.args.core.now (entries c.args.scene.now) c.args.state.now.entered))
    (λ snap f. subst (Follows snap c.args.pipe.now) cells f) c.begin.ensures.follows
