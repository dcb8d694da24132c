-- Events and handlers name each other, as more are declared.
use Rattle.std.proofs.Common.{◌≡◌, ℕ, ◌⊎◌, inl, inr, List, [], ◌∷◌, ◌++◌, None, Some, length, sym, ap, subst, ◌∙◌, slice_get, slice_set}
use Rattle.lucid_core.specs.declared.defs.EventDef.{EventDef}
use Rattle.lucid_core.specs.declared.defs.HandlerDef.{HandlerDef}
use Rattle.lucid_core.proofs.Grown.{get_last}
use Rattle.lucid_types_laws.proofs.Lists.{got_last, got_set, grows_end, set_there, set_elsewhere}

-- Each event's handler is of this event.
abbrev pub Handled : List EventDef → List HandlerDef → Type 0
Handled events handlers = (i : ℕ) (e : EventDef) (k : ℕ) → slice_get events i ≡ Some e → e.handler ≡ Some k → (h : HandlerDef) × (slice_get handlers k ≡ Some h) × (h.event ≡ i)

-- Each handler's event has this handler.
abbrev pub Handles : List EventDef → List HandlerDef → Type 0
Handles events handlers = (k : ℕ) (h : HandlerDef) → slice_get handlers k ≡ Some h → (e : EventDef) × (slice_get events h.event ≡ Some e) × (e.handler ≡ Some k)

-- ---- one event more

module _ (events : List EventDef) (handlers : List HandlerDef) (d : EventDef) (free : d.handler ≡ None) where
  pub event_handled : Handled events handlers → Handled (events ++ d ∷ []) handlers
  event_handled link i e k there is = by (got_last events d i e there)
    where
      by : (slice_get events i ≡ Some e) ⊎ ((i ≡ length events) × (d ≡ e)) → (h : HandlerDef) × (slice_get handlers k ≡ Some h) × (h.event ≡ i)
      by (inl old) = link i e k old is
      by (inr new) = let no : None ≡ Some k = sym free ∙ ap (λ (x : EventDef). x.handler) new.1 ∙ is in absurd (cc)

  pub event_handles : Handles events handlers → Handles (events ++ d ∷ []) handlers
  event_handles link k h at = let e = link k h at in (e.0, grows_end events d h.event e.0 e.1, e.2)

-- ---- one handler more, of an event that had none

module _ (events : List EventDef) (handlers : List HandlerDef) (i : ℕ) (e : EventDef) (g : HandlerDef) (own : g.event ≡ i) where
  abbrev pub with_handler : EventDef
  with_handler = record e { handler = Some (length handlers) }

  abbrev pub events_then : List EventDef
  events_then = slice_set events i with_handler

  pub handler_handled : Handled events handlers → Handled events_then (handlers ++ g ∷ [])
  handler_handled link j d k there is = by (got_set events i with_handler j d there)
    where
      by : ((i ≡ j) × (with_handler ≡ d)) ⊎ (slice_get events j ≡ Some d) → (h : HandlerDef) × (slice_get (handlers ++ g ∷ []) k ≡ Some h) × (h.event ≡ j)
      by (inl new) =
          let at : Some (length handlers) ≡ Some k = ap (λ (f : EventDef). f.handler) new.1 ∙ is in
          let same : length handlers ≡ k = cc in
          (g, subst (λ (n : ℕ). slice_get (handlers ++ g ∷ []) n ≡ Some g) same (get_last handlers g), own ∙ new.0)
      by (inr old) = let h = link j d k old is in (h.0, grows_end handlers g k h.0 h.1, h.2)

  pub handler_handles : slice_get events i ≡ Some e → e.handler ≡ None → Handles events handlers → Handles events_then (handlers ++ g ∷ [])
  handler_handles there free link k h at = by (got_last handlers g k h at)
    where
      elsewhere : (d : EventDef) → slice_get events h.event ≡ Some d → d.handler ≡ Some k → (slice_get events_then h.event ≡ Some d) ⊎ (i ≡ h.event) →
          (f : EventDef) × (slice_get events_then h.event ≡ Some f) × (f.handler ≡ Some k)
      elsewhere d was is (inl stays) = (d, stays, is)
      elsewhere d was is (inr same) =
          let both : Some e ≡ Some d = sym there ∙ ap (slice_get events) same ∙ was in
          let one : e ≡ d = cc in
          let no : None ≡ Some k = sym free ∙ ap (λ (f : EventDef). f.handler) one ∙ is in
          absurd (cc)

      by : (slice_get handlers k ≡ Some h) ⊎ ((k ≡ length handlers) × (g ≡ h)) → (d : EventDef) × (slice_get events_then h.event ≡ Some d) × (d.handler ≡ Some k)
      by (inl old) = let d = link k h old in elsewhere d.0 d.1 d.2 (set_elsewhere events i with_handler h.event d.0 d.1)
      by (inr new) =
          let at_event : i ≡ h.event = sym own ∙ ap (λ (f : HandlerDef). f.event) new.1 in
          (with_handler, subst (λ (n : ℕ). slice_get events_then n ≡ Some with_handler) at_event (set_there events i e with_handler there), ap (λ (n : ℕ). Some n) (sym new.0))
