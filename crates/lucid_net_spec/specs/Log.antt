-- The log of a network: tick after tick, and in each switch after switch, the event with the least key that is ready enters and runs whole.
use Rattle.std.specs.Prelude.{ℕ, zero, suc, ◌+◌, List, [], ◌∷◌, ◌++◌, Option, None, Some, false, length, replicate, slice_index_or, slice_set}
use Rattle.std.specs.List.{count_by, find}
use Rattle.lucid_base.specs.Cells.{zero_cells}
use Rattle.lucid_base.specs.declared.event.Event.{Event}
use Rattle.lucid_conf.specs.declared.limits.Limits.{Limits}
use Rattle.lucid_conf.specs.declared.scene.FileEvent.{FileEvent}
use Rattle.lucid_conf.specs.declared.scene.Scene.{Scene}
use Rattle.lucid_core.specs.Parts.{CoreParts}
use Rattle.lucid_core.specs.Step.{Stepped, step}
use Rattle.lucid_log.specs.Block.{block_text}
use Rattle.lucid_log.specs.Cells.{cells_text}
use Rattle.lucid_log.specs.Ending.{ending_text}
use Rattle.lucid_net_spec.specs.Ways.{Network, Run, pending_outs, is_lost, lost_marks}
use Rattle.lucid_queue.specs.Order.{is_before}
use Rattle.lucid_queue.specs.Waiting.{put_in, without_first, is_ready}
use Rattle.lucid_queue.specs.declared.pending.Pending.{Pending}

-- The network whose switches run the handlers of a program whole.
abbrev pub whole : CoreParts → Scene → Limits → Network
whole parts scene limits = record { parts = parts; scene = scene; limits = limits; does = step parts }

-- The cells of each switch, the queue in the order of switches and keys, the text, and the numbers of events that entered and were lost.
pub record State : Type 0 where
  pub cells : List (List (List ℕ))
  pub pending : List Pending
  pub text : List ℕ
  pub entered : ℕ
  pub lost : ℕ

abbrev pub put_all : List Pending → List Pending → List Pending
put_all [] pending = pending
put_all (p ∷ ps) pending = put_all ps (put_in is_before p pending)

-- The event of the file at this place, and those from there on.
abbrev pub file_event : ℕ → FileEvent → Pending
file_event index e = record {
  key = record { ready = e.at; made = false; tick = 0; parent = 0; index = index };
  switch = e.switch;
  event = e.event;
}

abbrev pub file_events : ℕ → List FileEvent → List Pending
file_events index [] = []
file_events index (e ∷ es) = file_event index e ∷ file_events (index + 1) es

abbrev pub start : Network → State
start net = record {
  cells = replicate net.scene.switches (zero_cells net.parts.arrays);
  pending = put_all (file_events 0 net.scene.events) [];
  text = [];
  entered = 0;
  lost = 0;
}

-- The events that a run makes pending, its text, and the number of events it loses: of the run alone, at any time of logging.
abbrev pub made : Network → Run → List Pending
made net run = pending_outs net run 0 run.outs

abbrev pub block : Network → Run → List ℕ
block net run = block_text net.parts run.tick run.switch run.event run.outs (lost_marks net run 0 run.outs)

abbrev pub losses : Network → Run → ℕ
losses net run = count_by (is_lost net run) run.outs

-- The effect of an event that enters the switch at the tick, and its run.
abbrev pub done_at : Network → ℕ → ℕ → State → Event → Stepped
done_at net tick switch now event = net.does (slice_index_or now.cells switch []) tick switch event

abbrev pub run_at : Network → ℕ → ℕ → State → Event → Run
run_at net tick switch now event = record { tick = tick; switch = switch; event = event; outs = (done_at net tick switch now event).outs }

-- The event enters the switch at the tick, if there is one, and runs whole.
abbrev pub enters : Network → ℕ → ℕ → State → Option Pending → State
enters net tick switch now None = now
enters net tick switch now (Some p) =
    let run = run_at net tick switch now p.event in
    record {
      cells = slice_set now.cells switch (done_at net tick switch now p.event).cells;
      pending = put_all (made net run) (without_first (is_ready switch tick) now.pending);
      text = now.text ++ block net run;
      entered = now.entered + 1;
      lost = now.lost + losses net run;
    }

-- The turn of a switch at a tick; the turns of the first switches, in order; and the first ticks.
abbrev pub turn : Network → ℕ → ℕ → State → State
turn net tick switch now = enters net tick switch now (find (is_ready switch tick) now.pending)

abbrev pub turns : Network → ℕ → ℕ → State → State
turns net tick zero now = now
turns net tick (suc switches) now = turn net tick switches (turns net tick switches now)

abbrev pub ticks : Network → ℕ → State
ticks net zero = start net
ticks net (suc tick) = turns net tick net.scene.switches (ticks net tick)

-- The cells of the switches from this number on.
abbrev pub all_cells : CoreParts → ℕ → List (List (List ℕ)) → List ℕ
all_cells parts switch [] = []
all_cells parts switch (cells ∷ others) = cells_text switch parts.arrays cells ++ all_cells parts (switch + 1) others

-- The text of the cells and the ending.
abbrev pub end_text : Network → State → List ℕ
end_text net now = all_cells net.parts 0 now.cells ++ ending_text now.entered now.lost (length now.pending)

-- All that is written, once the last tick is done.
abbrev pub log : Network → List ℕ
log net = let last = ticks net net.scene.stop in last.text ++ end_text net last
