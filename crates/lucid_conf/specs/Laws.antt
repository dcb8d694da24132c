-- Scenarios without the keys `version` and `down`.
use Rattle.std.specs.Prelude.{◌≡◌, List, [], ◌∷◌, None, Ok}
use Rattle.serde_json.specs.Data.{Data}
use Rattle.serde_json.specs.Find.{get}
use Rattle.lucid_core.specs.Parts.{CoreParts}
use Rattle.lucid_conf.specs.declared.key.Key.{Key}
use Rattle.lucid_conf.specs.declared.key.Key.TheVariants as key
use Rattle.lucid_conf.specs.declared.key.Key.TheVariants.{Version, Switches, Stop, Links, Events, Steps}
use Rattle.lucid_conf.specs.declared.scene.Scene.{Scene}
use Rattle.lucid_conf.specs.Items.{link, event, step}
use Rattle.lucid_conf.specs.Keys.{name_of}
use Rattle.lucid_conf.specs.Reading.{◌>>=◌, Reading, file, list}
use Rattle.lucid_conf.specs.Tables.{scene_read, switches_read, stop_read}

-- The scenario's table without the two keys; no link is ever down.
abbrev pub plain_keys : List Key
plain_keys = Switches ∷ Stop ∷ Links ∷ Events ∷ Steps ∷ []

abbrev pub plain_scene_read : CoreParts → Data → Reading Scene
plain_scene_read parts d = do
  _ ← file d plain_keys
  switches ← switches_read parts d
  stop ← stop_read switches d
  links ← list d Links (link switches)
  events ← list d Events (event parts switches)
  steps ← list d Steps (step parts)
  Ok (record { switches = switches; stop = stop; links = links; down = []; events = events; steps = steps })

-- A value that has neither key is read as by that table, its faults too.
abbrev pub PlainScenariosStay : Type 0
PlainScenariosStay =
    (parts : CoreParts) (d : Data) → get (name_of Version) d ≡ None → get (name_of key.Down) d ≡ None → scene_read parts d ≡ plain_scene_read parts d
