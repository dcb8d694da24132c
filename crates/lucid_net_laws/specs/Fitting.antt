-- Events that fit the program, and where they come from.
use Rattle.std.specs.Prelude.{ℕ, List, All, IsTrue}
use Rattle.std.specs.List.{AllByRecursion}
use Rattle.lucid_base.specs.declared.event.Event.{Event}
use Rattle.lucid_core.specs.Fits.{event_fits, out_fits}
use Rattle.lucid_core.specs.Parts.{CoreParts}
use Rattle.lucid_net_spec.specs.Ways.{Network}

abbrev pub fits : CoreParts → Event → Type 0
fits parts event = IsTrue (event_fits parts event)

-- The events of the file fit, and so do the outs of any event.
abbrev pub FileFits : Network → Type 0
FileFits net = AllByRecursion (λ e. fits net.parts e.event) net.scene.events

abbrev pub SendsFit : Network → Type 0
SendsFit net = (cells : List (List ℕ)) (tick switch : ℕ) (event : Event) → All (λ out. IsTrue (out_fits net.parts out)) (net.does cells tick switch event).outs
