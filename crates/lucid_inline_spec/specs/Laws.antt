-- The laws of the flat form of a program.
use Rattle.std.specs.Prelude.{◌≡◌, ◌↔◌, ℕ, ◌+◌, ◌*◌, ◌≤◌, List, [], Some, IsTrue, length, map, slice_get}
use Rattle.lucid_base.specs.declared.event.Event.{Event}
use Rattle.lucid_core.specs.declared.defs.HandlerDef.{HandlerDef}
use Rattle.lucid_core.specs.Fits.{event_fits}
use Rattle.lucid_core.specs.Parts.{CoreParts}
use Rattle.lucid_core.specs.Step.{step, touches}
use Rattle.lucid_effects_spec.specs.Order.{InOrder}
use Rattle.lucid_inline_spec.specs.Counts.{body_size, flat_handler_size, fun_sizes, handler_lengths, handler_sizes}
use Rattle.lucid_inline_spec.specs.Flat.{flat_handler, flat_of}

-- At each event that fits it has the effect of the program, and calls the same arrays in the same order. An event with more arguments
-- than its handler has parameters would reach into the added locals.
pub record KeepsSteps (core : CoreParts) : Type 0 where
  pub step : (cells : List (List ℕ)) (now me : ℕ) (event : Event) → IsTrue (event_fits core event) →
      step (flat_of core) cells now me event ≡ step core cells now me event
  pub touches : (cells : List (List ℕ)) (now me : ℕ) (event : Event) → IsTrue (event_fits core event) →
      touches (flat_of core) cells now me event ≡ touches core cells now me event

-- Each handler is in order exactly where its flat form is.
abbrev pub KeepsOrder : CoreParts → Type 0
KeepsOrder core = (k : ℕ) (h : HandlerDef) → slice_get core.handlers k ≡ Some h →
    InOrder (length core.arrays) core.funs h.body ↔ InOrder (length core.arrays) [] (flat_handler core.funs h).body

-- Its counts are those that are found over the program.
pub record KeepsCounts (core : CoreParts) : Type 0 where
  pub lengths : handler_lengths (flat_of core) ≡ handler_lengths core
  pub sizes : map flat_handler_size (flat_of core).handlers ≡ handler_sizes core

-- A handler has at most 8 locals, and 8 more for each statement and call that its size counts: a statement adds one at most, and a call
-- its function's, of which all but 8 parameters are assigned in the function's body.
abbrev pub HasFewLocals : CoreParts → Type 0
HasFewLocals core = (k : ℕ) (h : HandlerDef) → slice_get core.handlers k ≡ Some h →
    length (flat_handler core.funs h).locals ≤ 8 + 8 * body_size h.body (fun_sizes [] core.funs)
