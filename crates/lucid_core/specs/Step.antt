-- The whole step: the effect of an event whose handler runs whole, and that of a list of events, one after another.
use Rattle.std.specs.Prelude.{ℕ, List, [], ◌∷◌, ◌++◌, Option, None, Some, fold, map, take, zip, slice_get}
use Rattle.std.specs.Option.{option_and_then, option_map_or}
use Rattle.lucid_base.specs.Bits.{bits_of}
use Rattle.lucid_base.specs.declared.bits.Bits.{Bits}
use Rattle.lucid_base.specs.declared.event.Event.{Event}
use Rattle.lucid_base.specs.declared.event.Out.{Out}
use Rattle.lucid_core.specs.declared.defs.HandlerDef.{HandlerDef}
use Rattle.lucid_core.specs.Computations.{State, Ran, block, begun_with}
use Rattle.lucid_base.specs.Cells.{zero_cells}
use Rattle.lucid_core.specs.Meaning.{effect_of, funs_of}
use Rattle.lucid_core.specs.Parts.{CoreParts}
use Rattle.lucid_core.specs.Values.{nothing}

abbrev pub handler_of : CoreParts → ℕ → Option HandlerDef
handler_of parts id = option_and_then (slice_get parts.handlers) (option_and_then (λ e. e.handler) (slice_get parts.events id))

-- Arguments as values of these widths.
abbrev pub taken_at : List ℕ → List ℕ → List Bits
taken_at widths args = map (λ pair. bits_of pair.0 pair.1) (zip widths args)

-- No outs and no answer yet.
abbrev pub started : List (List ℕ) → List Bits → State
started cells locals = record { cells = cells; outs = []; locals = locals; answer = nothing }

-- A handler begins with its event's arguments in its first locals. An event without a handler changes nothing.
abbrev pub handled : Option HandlerDef → CoreParts → List (List ℕ) → ℕ → ℕ → List ℕ → Ran (Unit {0})
handled None parts cells now me args = record { gives = tt; after = started cells []; calls = [] }
handled (Some h) parts cells now me args = let locals = begun_with (taken_at h.locals args) h.locals in
    block (map effect_of h.body) (record { now = now; me = me; arrays = []; funs = funs_of now me parts.funs }) (started cells locals)

abbrev pub ran : CoreParts → List (List ℕ) → ℕ → ℕ → Event → Ran (Unit {0})
ran parts cells now me event = handled (handler_of parts event.id) parts cells now me event.args

-- New cells, and the outs, in order.
pub record Stepped : Type 0 where
  pub cells : List (List ℕ)
  pub outs : List Out

-- The effect of an event that enters switch `me` at tick `now`.
abbrev pub step : CoreParts → List (List ℕ) → ℕ → ℕ → Event → Stepped
step parts cells now me event = let after = (ran parts cells now me event).after in record { cells = after.cells; outs = after.outs }

-- The numbers of the arrays that it calls, in order.
abbrev pub touches : CoreParts → List (List ℕ) → ℕ → ℕ → Event → List ℕ
touches parts cells now me event = (ran parts cells now me event).calls

-- An event, the tick at which it enters and its switch.
pub record Entry : Type 0 where
  pub now : ℕ
  pub me : ℕ
  pub event : Event

-- The cells after events, and the outs of each.
pub record Steps : Type 0 where
  pub cells : List (List ℕ)
  pub outs : List (List Out)

-- One event more.
abbrev pub one_more : CoreParts → Steps → Entry → Steps
one_more parts so_far e = let next = step parts so_far.cells e.now e.me e.event in
    record { cells = next.cells; outs = so_far.outs ++ next.outs ∷ [] }

-- One after another, from cells that are all 0.
abbrev pub steps : CoreParts → List Entry → Steps
steps parts entries = fold (one_more parts) (record { cells = zero_cells parts.arrays; outs = [] }) entries

-- The cells after the first n events.
abbrev pub after : CoreParts → List Entry → ℕ → List (List ℕ)
after parts entries n = (steps parts (take n entries)).cells

-- The outs of event j: those on the cells after the events before it. None if there is no such event.
abbrev pub outs : CoreParts → List Entry → ℕ → List Out
outs parts entries j = option_map_or (λ e. (step parts (after parts entries j) e.now e.me e.event).outs) (slice_get entries j) []
