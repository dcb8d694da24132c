-- The two files, one key per line; the keys are tried in this order. Of a number: the least, the most, and the default of an absent one.
-- The words of the lines are in Reading, the rules for the items of the lists in Items.
use Rattle.std.specs.Prelude.{ℕ, ◌+◌, ◌*◌, List, [], ◌∷◌, nat_le, nat_eq, not, ◌||◌, is_some, Ok}
use Rattle.serde_json.specs.Data.{Data}
use Rattle.serde_json.specs.Find.{get}
use Rattle.lucid_base.specs.declared.array.ArrayDef.{ArrayDef}
use Rattle.lucid_core.specs.Parts.{CoreParts}
use Rattle.lucid_conf.specs.declared.key.Key.TheVariants as key
use Rattle.lucid_conf.specs.declared.key.Key.TheVariants.{Stages, Tables, Rows, Arrays, Arms, Bits, Recirc, Version, Switches, Stop, Links, Events, Steps}
use Rattle.lucid_conf.specs.declared.limits.Limits.{Limits}
use Rattle.lucid_conf.specs.declared.scene.Down.{Down}
use Rattle.lucid_conf.specs.declared.scene.Link.{Link}
use Rattle.lucid_conf.specs.declared.scene.Scene.{Scene}
use Rattle.lucid_conf.specs.Items.{link, window, event, step}
use Rattle.lucid_conf.specs.Keys.{name_of, limits_keys, scene_keys}
use Rattle.lucid_conf.specs.Reading.{◌>>=◌, Reading, file, number, required, check, list}

-- The limits of a target.
abbrev pub limits_read : Data → Reading Limits
limits_read d = do
  _ ← file d limits_keys
  stages ← number d Stages 1 32 12
  tables ← number d Tables 1 64 16
  rows ← number d Rows 1 1024 64
  arrays ← number d Arrays 1 64 4
  arms ← number d Arms 1 64 8
  bits ← number d Bits 1 1048576 16384
  recirc ← number d Recirc 0 65536 0
  Ok (record { stages = stages; tables = tables; rows = rows; arrays = arrays; arms = arms; bits = bits; recirc = recirc })

-- `switches`: the most cells of all switches together, where each switch has the cells of all arrays.
abbrev pub most_cells : ℕ
most_cells = 4194304

abbrev pub cells : List ArrayDef → ℕ
cells [] = 0
cells (a ∷ arrays) = a.size + cells arrays

abbrev pub switches_read : CoreParts → Data → Reading ℕ
switches_read parts d = do
  switches ← number d Switches 1 64 1
  _ ← check Switches (nat_le (cells parts.arrays * switches) most_cells)
  Ok switches

-- `stop`: the key is required; the most ticks of all switches together.
abbrev pub most_ticks : ℕ
most_ticks = 131072

abbrev pub stop_read : ℕ → Data → Reading ℕ
stop_read switches d = do
  stop ← required d Stop
  _ ← check Stop (nat_le (stop * switches) most_ticks)
  Ok stop

-- `down`: in version 1 the key may not be there.
abbrev pub down_read : ℕ → List Link → Data → Reading (List Down)
down_read version links d = do
  _ ← check key.Down (nat_eq version 2 || not (is_some (get (name_of key.Down) d)))
  list d key.Down (window links)

-- The scenario of a network whose switches run the program of these parts.
abbrev pub scene_read : CoreParts → Data → Reading Scene
scene_read parts d = do
  _ ← file d scene_keys
  version ← number d Version 1 2 1
  switches ← switches_read parts d
  stop ← stop_read switches d
  links ← list d Links (link switches)
  down ← down_read version links d
  events ← list d Events (event parts switches)
  steps ← list d Steps (step parts)
  Ok (record { switches = switches; stop = stop; links = links; down = down; events = events; steps = steps })
