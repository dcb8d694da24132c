-- Events and their handlers.
use Rattle.std.specs.Prelude.{ℕ, List, [], Some, Bool, true, false, ◌&&◌, nat_eq, slice_get}
use Rattle.std.specs.List.{list_all, enumerate_from, starts_with}
use Rattle.std.specs.Option.{option_map_or, option_eq}
use Rattle.lucid_core.specs.declared.defs.EventDef.{EventDef}
use Rattle.lucid_core.specs.declared.defs.HandlerDef.{HandlerDef}
use Rattle.lucid_core.specs.Parts.{CoreParts}

-- The widths of an event's parameters; none where there is no such event.
abbrev pub event_params : List EventDef → ℕ → List ℕ
event_params events id = option_map_or (λ e. e.params) (slice_get events id) []

-- Handler `k` handles this event.
abbrev pub handles : List HandlerDef → ℕ → ℕ → Bool
handles handlers id k = option_map_or (λ h. nat_eq h.event id) (slice_get handlers k) false

-- This event is handled by handler `k`.
abbrev pub is_handled_by : List EventDef → ℕ → ℕ → Bool
is_handled_by events k id = option_map_or (λ e. option_eq nat_eq e.handler (Some k)) (slice_get events id) false

-- An event and its handler name each other, and a handler's parameters are its first locals, with the widths of its event.
abbrev pub events_and_handlers_agree : CoreParts → Bool
events_and_handlers_agree parts =
    list_all (λ e. option_map_or (handles parts.handlers e.0) e.1.handler true) (enumerate_from 0 parts.events)
    && list_all (λ h. is_handled_by parts.events h.0 h.1.event && starts_with nat_eq h.1.locals (event_params parts.events h.1.event)) (enumerate_from 0 parts.handlers)
