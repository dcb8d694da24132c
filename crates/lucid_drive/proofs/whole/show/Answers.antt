use Rattle.std.proofs.Common.{◌∷◌, [], subst}
use Rattle.lucid_pipe.specs.Sights.{ShowsAll, sight_of}
use Rattle.lucid_pipe.specs.declared.sight.Sight.{Sight}
use Rattle.lucid_drive.proofs.Seeing.{shows_one, sight_is}
use Rattle.lucid_drive.proofs.whole.show.Goals as goal

pub returns : goal.returns
returns g c = λ p is.
    subst (λ (s : Sight). ShowsAll (g.V.Watch.seen c.args.watch.now) (g.V.Watch.seen c.see.new.self) (s ∷ []))
    (sight_is c.args.core.now c.args.scene.now p c.args.pipe.now is c.cells_stay_fit.ensures
    (record { rows = c.keeps_laws.ensures.rows; pass = c.keeps_laws.ensures.pass; idle = c.keeps_laws.ensures.idle; sized = c.keeps_laws.ensures.sized }))
    (shows_one (g.V.Watch.seen c.args.watch.now) (g.V.Watch.seen c.see.new.self) (sight_of 0 c.args.pipe.now) c.see.ensures)
