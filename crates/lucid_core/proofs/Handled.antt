-- A fact about a step is one about its handler, which is run whole.
use Rattle.std.proofs.Common.{◌≡◌, ℕ, List, Some, refl}
use Rattle.lucid_base.specs.declared.event.Event.{Event}
use Rattle.lucid_core.specs.declared.defs.HandlerDef.{HandlerDef}
use Rattle.lucid_core.specs.Parts.{CoreParts}
use Rattle.lucid_core.specs.Step.{handled, handler_of, ran}

pub handled_is : (parts : CoreParts) (cells : List (List ℕ)) (now me : ℕ) (event : Event) (h : HandlerDef) (args : List ℕ) → Some h ≡ handler_of parts event.id → args ≡ event.args →
    handled (Some h) parts cells now me args ≡ ran parts cells now me event
handled_is parts cells now me event h args is same = rw (← is, same) refl
