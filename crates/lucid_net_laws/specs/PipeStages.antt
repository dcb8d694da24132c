-- The stages of placed code, and the packets that left them as runs of a network.
use Rattle.lucid_core.specs.Step.{step}
use Rattle.lucid_net_laws.specs.Stages.{Stages}
use Rattle.lucid_net_spec.specs.Ways.{Run}
use Rattle.lucid_pipe.specs.Packets.{Packet, entering, told}
use Rattle.lucid_pipe.specs.declared.passed.Passed.{Passed}
use Rattle.lucid_tables.specs.Placed.{PlacedParts}
use Rattle.lucid_net_laws.specs.Rows.{Cells, step_of, first_cells, cells_of}

-- A packet that left a pipe, as a run.
abbrev pub run_of_passed : Passed → Run
run_of_passed p = record { tick = p.now; switch = p.me; event = p.event; outs = p.outs }

abbrev pub run_of_packet : Packet → Run
run_of_packet p = run_of_passed (told p)

-- The stages of this code.
abbrev pub stages_of : PlacedParts → Stages Cells Packet
stages_of placed = record {
  step = step_of placed;
  cells = first_cells placed;
  view = cells_of placed;
  enters = λ tick switch event. entering placed.code event tick switch;
  done = run_of_packet;
}
