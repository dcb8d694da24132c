-- A new pipe is the empty one that the log speaks of, and the sights of a drive are those of a call.
use Rattle.std.proofs.Common.{◌≡◌, List, ap, drop, sym, take, take-append-drop}
use Rattle.lucid_conf.specs.declared.scene.Scene.{Scene}
use Rattle.lucid_core.specs.Parts.{CoreParts}
use Rattle.lucid_drive.specs.Sights as drive
use Rattle.lucid_drive.specs.Standing.{drive_of}
use Rattle.lucid_pipe.specs.Pipe.{PipeParts, empty_pipe}
use Rattle.lucid_pipe.specs.declared.sight.Sight.{Sight}
use Rattle.lucid_tables.specs.Placed.{PlacedParts}
use Rattle.lucid_top_pipes.specs.Watching.{Seen, ShowsSome}

pub drive-is : (core : CoreParts) (placed : PlacedParts) (scene : Scene) (p : PipeParts) → p ≡ empty_pipe placed → drive_of core p scene ≡ drive_of core (empty_pipe placed) scene
drive-is core placed scene p is = ap (λ (q : PipeParts). drive_of core q scene) is

pub some-shown : (old new : Seen) (sights : List Sight) → drive.ShowsSome old new sights → ShowsSome old new sights
some-shown old new sights some = record {
  first = take some.0 sights;
  rest = drop some.0 sights;
  parts = sym (take-append-drop some.0 sights);
  shows = some.1;
}
