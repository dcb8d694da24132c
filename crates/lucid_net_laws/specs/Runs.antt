-- The runs at each turn of a network, and the events that are written, made pending and lost some ticks later.
use Rattle.std.specs.Prelude.{◌≡◌, ℕ, ◌-◌, zero, suc, List, [], Option, None, Some, if◌then◌else◌, nat_lt}
use Rattle.std.specs.List.{find}
use Rattle.std.specs.Option.{option_map}
use Rattle.lucid_net_spec.specs.Log.{State, block, losses, made, run_at, ticks, turns}
use Rattle.lucid_net_spec.specs.Pieces.{pieces, tick_text}
use Rattle.lucid_net_spec.specs.Ways.{Network, Run}
use Rattle.lucid_pipe_laws.specs.Stream.{late}
use Rattle.lucid_queue.specs.Waiting.{is_ready}
use Rattle.lucid_queue.specs.declared.pending.Pending.{Pending}

-- The run of the event that enters the switch at the tick, if there is one.
abbrev pub run_of : Network → ℕ → ℕ → State → Option Run
run_of net tick switch now = option_map (λ p. run_at net tick switch now p.event) (find (is_ready switch tick) now.pending)

-- The run at a switch at each tick; and the event that enters it: none after the last tick.
abbrev pub runs : Network → ℕ → ℕ → Option Run
runs net switch tick = run_of net tick switch (turns net tick switch (ticks net tick))

abbrev pub entering : Network → ℕ → ℕ → Option Run
entering net switch tick = if nat_lt tick net.scene.stop then runs net switch tick else None

-- The pending events, the text and the losses of a run, if there is one.
abbrev pub made_by : Network → Option Run → List Pending
made_by net None = []
made_by net (Some run) = made net run

abbrev pub text_by : Network → Option Run → List ℕ
text_by net None = []
text_by net (Some run) = block net run

abbrev pub losses_by : Network → Option Run → ℕ
losses_by net None = 0
losses_by net (Some run) = losses net run

-- The run that leaves the switch at the tick, if packets take `lag` ticks.
abbrev pub leaving : Network → ℕ → ℕ → ℕ → Option Run
leaving net lag switch tick = late (entering net switch) tick lag

-- The text of the turn of a switch, and of a tick: of the event that entered `lag` ticks before.
abbrev pub left_text : Network → ℕ → ℕ → ℕ → List ℕ
left_text net lag tick switch = text_by net (leaving net lag switch tick)

abbrev pub late_text : Network → ℕ → ℕ → List ℕ
late_text net zero tick = tick_text net tick
late_text net (suc lag) zero = []
late_text net (suc lag) (suc tick) = late_text net lag tick

-- Of the first ticks: all that the network whose events run whole wrote `lag` ticks before.
abbrev pub ComeLater : Network → Type 0
ComeLater net = (lag tick : ℕ) → pieces (late_text net lag) 0 tick ≡ (ticks net (tick - lag)).text
