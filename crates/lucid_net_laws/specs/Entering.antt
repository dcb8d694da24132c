-- The events that enter a network, and their ticks.
use Rattle.std.specs.Prelude.{ℕ, IfSome}
use Rattle.std.specs.List.{find}
use Rattle.lucid_base.specs.declared.event.Event.{Event}
use Rattle.lucid_net_spec.specs.Log.{ticks, turns}
use Rattle.lucid_net_spec.specs.Ways.{Network}
use Rattle.lucid_queue.specs.Waiting.{is_ready}

-- All that enters fits.
abbrev pub AllFit : Network → (Event → Type 0) → Type 0
AllFit net Fits = (tick switch : ℕ) → IfSome (find (is_ready switch tick) (turns net tick switch (ticks net tick)).pending) (λ p. Fits p.event)
