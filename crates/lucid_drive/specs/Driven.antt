-- Rows of stages, of any kind, at the state of a drive; and when passes through them have the effect of the program.
use Rattle.std.specs.Prelude.{◌≡◌, ℕ, ◌≤◌, List, length, map, take}
use Rattle.lucid_base.specs.Cells.{zero_cells}
use Rattle.lucid_base.specs.declared.event.Out.{Out}
use Rattle.lucid_core.specs.Parts.{CoreParts}
use Rattle.lucid_core.specs.Step as core
use Rattle.lucid_core.specs.Step.{Entry}
use Rattle.lucid_pipe_laws.specs.Picture.{IsPicture}
use Rattle.lucid_pipe_laws.specs.Rows.{Row, Steps, whole}
use Rattle.lucid_drive.specs.Drive.{Drive, Progress, entries}

-- A packet that left: its event, the tick and switch at which it entered, and its outs.
pub record Gone : Type 0 where
  pub entry : Entry
  pub outs : List Out

-- A pass has the effect of the program's step, from good cells, for entries that fit.
pub record DoSteps {C P : Type 0} (parts : CoreParts) (step : Steps C P) (cells : List C) (view : List C → List (List ℕ)) (packet : Entry → P) (sent : P → Gone) (Good : List C → Type 0) (Fits : Entry → Type 0) : Type 0 where
  pub start : view cells ≡ zero_cells parts.arrays
  pub good : Good cells
  pub pass : (cs : List C) (e : Entry) → Good cs → Fits e → (let w = whole step cs (packet e) in let s = core.step parts (view cs) e.now e.me e.event in (view w.0 ≡ s.cells) × (sent w.1 ≡ record { entry = e; outs = s.outs }) × Good w.0)

-- The rows after the events that entered and the packets that passed.
pub record IsDriven {C P : Type 0} (d : Drive) (step : Steps C P) (cells : List C) (packet : Entry → P) (p : Progress) (rows : List (Row C P)) : Type 0 where
  pub within : p.entered ≤ length (entries d.scene)
  pub long : length rows ≡ length p.passed
  pub picture : IsPicture step cells (map packet (take p.entered (entries d.scene))) p.passed rows
