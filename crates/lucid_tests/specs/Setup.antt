-- What a run on pipelines asks of a program, its placed code, the limits of its target and a scenario.
use Rattle.std.specs.Prelude.{◌≡◌, length}
use Rattle.lucid_conf.specs.Kept.{AreLimits, IsScene}
use Rattle.lucid_conf.specs.declared.limits.Limits.{Limits}
use Rattle.lucid_conf.specs.declared.scene.Scene.{Scene}
use Rattle.lucid_core.specs.Parts.{CoreParts}
use Rattle.lucid_normal_spec.specs.Stands.{StandsFor}
use Rattle.lucid_tables.specs.Placed.{PlacedParts}

pub record Runs (core : CoreParts) (placed : PlacedParts) (limits : Limits) (scene : Scene) : Type 0 where
  pub stands : StandsFor placed.code core
  pub arrays : placed.code.arrays ≡ core.arrays
  pub stages : length placed.stages ≡ limits.stages
  pub ranges : AreLimits limits
  pub events : IsScene core scene
