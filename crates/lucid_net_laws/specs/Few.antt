-- How much a network sends.
use Rattle.std.specs.Prelude.{ℕ, ◌≤◌, List, length}
use Rattle.lucid_base.specs.declared.event.Event.{Event}
use Rattle.lucid_net_spec.specs.Ways.{Network}

-- An event sends out at most 8.
abbrev pub SendsFew : Network → Type 0
SendsFew net = (cells : List (List ℕ)) (tick switch : ℕ) (event : Event) → length (net.does cells tick switch event).outs ≤ 8
