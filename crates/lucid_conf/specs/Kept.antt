-- The invariants of the limits and the scenario of an accepted file, so that no caller needs to test them.
use Rattle.std.specs.Prelude.{◌≡◌, ◌≢◌, ℕ, ◌*◌, ◌<◌, ◌≤◌, List, length, false, IsTrue}
use Rattle.std.specs.List.{All, AllPairs}
use Rattle.lucid_core.specs.Fits.{event_fits}
use Rattle.lucid_core.specs.Parts.{CoreParts}
use Rattle.lucid_conf.specs.declared.limits.Limits.{Limits}
use Rattle.lucid_conf.specs.declared.scene.Down.{Down}
use Rattle.lucid_conf.specs.declared.scene.FileEvent.{FileEvent}
use Rattle.lucid_conf.specs.declared.scene.Link.{Link}
use Rattle.lucid_conf.specs.declared.scene.Scene.{Scene}
use Rattle.lucid_conf.specs.declared.scene.Step.{Step}
use Rattle.lucid_conf.specs.declared.scene.Step.TheVariants.{Enter, Go, Look}
use Rattle.lucid_conf.specs.Items.{joins, are_linked, most_latency, most_windows, last_stage}
use Rattle.lucid_conf.specs.Reading.{IsBetween}
use Rattle.lucid_conf.specs.Tables.{cells, most_cells, most_ticks}

-- Each limit is in its range.
pub record AreLimits (l : Limits) : Type 0 where
  pub stages : IsBetween 1 32 l.stages
  pub tables : IsBetween 1 64 l.tables
  pub rows : IsBetween 1 1024 l.rows
  pub arrays : IsBetween 1 64 l.arrays
  pub arms : IsBetween 1 64 l.arms
  pub bits : IsBetween 1 1048576 l.bits
  pub recirc : IsBetween 0 65536 l.recirc

-- A link joins two different switches that there are.
pub record IsLink (switches : ℕ) (l : Link) : Type 0 where
  pub a : l.a < switches
  pub b : l.b < switches
  pub differ : l.a ≢ l.b
  pub latency : IsBetween 1 most_latency l.latency

-- Two links join different pairs, in any direction.
abbrev pub AreApart : Link → Link → Type 0
AreApart l m = joins m.a m.b l ≡ false

-- A window is one of a link, and lasts at least a tick.
pub record IsWindow (links : List Link) (w : Down) : Type 0 where
  pub linked : IsTrue (are_linked links w.a w.b)
  pub order : w.from < w.until

-- An event comes at a switch that there is, and fits the program.
pub record IsFileEvent (parts : CoreParts) (switches : ℕ) (e : FileEvent) : Type 0 where
  pub switch : e.switch < switches
  pub fits : IsTrue (event_fits parts e.event)

-- A step names a slot that some pipeline has, and an array of the program.
abbrev pub IsStep : CoreParts → Step → Type 0
IsStep parts Enter = Unit {0}
IsStep parts (Go k) = k ≤ last_stage
IsStep parts (Look array cell) = array < length parts.arrays

-- The scenario keeps the ranges and the sums of its table, for a program of these parts.
pub record IsScene (parts : CoreParts) (s : Scene) : Type 0 where
  pub switches : IsBetween 1 64 s.switches
  pub cells : cells parts.arrays * s.switches ≤ most_cells
  pub stop : s.stop * s.switches ≤ most_ticks
  pub links : All (IsLink s.switches) s.links
  pub apart : AllPairs AreApart s.links
  pub down : All (IsWindow s.links) s.down
  pub windows : length s.down ≤ most_windows
  pub events : All (IsFileEvent parts s.switches) s.events
  pub steps : All (IsStep parts) s.steps
