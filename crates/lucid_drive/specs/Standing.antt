-- A pipe at the state of a drive: its rows are those of an empty one after the events that entered and the packets that passed each
-- stage.
use Rattle.std.specs.Prelude.{◌≡◌, ◌<◌, ◌^◌, IsTrue, length, take}
use Rattle.std.specs.List.{AllByRecursion}
use Rattle.lucid_conf.specs.declared.scene.Scene.{Scene}
use Rattle.lucid_core.specs.Fits.{event_fits}
use Rattle.lucid_core.specs.Parts.{CoreParts}
use Rattle.lucid_core.specs.Step.{Entry}
use Rattle.lucid_pipe.specs.Packets.{Packet, entering, sent_by}
use Rattle.lucid_pipe.specs.Pipe.{PipeParts}
use Rattle.lucid_pipe.specs.Rows.{first_cells, pipe_rows, steps_of}
use Rattle.lucid_tables.specs.Placed.{PlacedParts}
use Rattle.lucid_normal_spec.specs.Stands.{StandsFor}
use Rattle.lucid_drive.specs.Drive.{Drive, Progress, entries}
use Rattle.lucid_drive.specs.Driven.{Gone, IsDriven}

abbrev pub packet_of : PlacedParts → Entry → Packet
packet_of placed e = entering placed.code e.event e.now e.me

abbrev pub gone_of : Packet → Gone
gone_of p = record { entry = record { now = p.now; me = p.me; event = p.event }; outs = sent_by p.outs }

-- The condition on an event that enters.
pub record Fits (parts : CoreParts) (e : Entry) : Type 0 where
  pub event : IsTrue (event_fits parts e.event)
  pub id : e.event.id < 2 ^ 32
  pub now : e.now < 2 ^ 64
  pub me : e.me < 2 ^ 32

abbrev pub drive_of : CoreParts → PipeParts → Scene → Drive
drive_of parts pipe scene = record { parts = parts; stages = pipe.placed.stages; scene = scene }

-- The pipe's code represents the program, and the pipe is an empty one after the events that entered and the packets that passed.
pub record IsAt (parts : CoreParts) (scene : Scene) (p : Progress) (pipe : PipeParts) : Type 0 where
  pub stands_for : StandsFor pipe.placed.code parts
  pub arrays : pipe.placed.code.arrays ≡ parts.arrays
  pub long : length pipe.slots ≡ length pipe.placed.stages
  pub fit : AllByRecursion (Fits parts) (take p.entered (entries scene))
  pub driven : IsDriven (drive_of parts pipe scene) (steps_of pipe.placed.code pipe.placed.stages) (first_cells pipe.placed) (packet_of pipe.placed) p (pipe_rows pipe)
