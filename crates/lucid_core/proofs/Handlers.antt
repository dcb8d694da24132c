-- Events and handlers that name each other: an event has one handler.
use Rattle.std.proofs.Common.{◌≡◌, ℕ, zero, suc, ◌+◌, List, [], ◌∷◌, Bool, true, false, ◌&&◌, Option, None, Some, refl, sym, ap, ap₂, subst, ◌∙◌, arith, nat_eq, slice_get, option_and_then}
use Rattle.std.specs.List.{list_all, enumerate_from, starts_with}
use Rattle.std.specs.Option.{option_eq, option_map_or}
use Rattle.std.proofs.lemmas.Bool.{and_parts, eqb-true}
use Rattle.lucid_core.specs.declared.defs.EventDef.{EventDef}
use Rattle.lucid_core.specs.declared.defs.HandlerDef.{HandlerDef}
use Rattle.lucid_core.specs.Events.{event_params, events_and_handlers_agree, handles, is_handled_by}
use Rattle.lucid_core.specs.Laws.{OneHandler}
use Rattle.lucid_core.specs.Parts.{CoreParts}
use Rattle.lucid_core.specs.Step.{handler_of}
use Rattle.lucid_core.specs.Valid.{IsSound}
use Rattle.lucid_core.proofs.Fine.{is_this}

-- A test of all of a numbered list holds for each with its number.
pub numbered_at : {A : Type 0} (test : ℕ × A → Bool) (xs : List A) (b k : ℕ) (x : A) → list_all test (enumerate_from b xs) ≡ true → slice_get xs k ≡ Some x → test (b + k, x) ≡ true
numbered_at test [] b k x all h = absurd (cc)
numbered_at {A = A} test (y ∷ ys) b zero x all h = let e : y ≡ x = cc in let z : b ≡ b + 0 = omega arith in ap₂ (λ (i : ℕ) (v : A). test (i, v)) (sym z) (sym e) ∙ (and_parts _ _ all).0
numbered_at {A = A} test (y ∷ ys) b (suc k) x all h =
    let z : b + suc k ≡ b + 1 + k = omega arith in ap (λ (i : ℕ). test (i, x)) z ∙ numbered_at test ys (b + 1) k x (and_parts _ _ all).1 h

module _ (parts : CoreParts) (agree : events_and_handlers_agree parts ≡ true) where
  -- The meaning of a handler's event for it.
  pub record Declared (k : ℕ) (h : HandlerDef) : Type 0 where
    pub event : EventDef
    pub there : slice_get parts.events h.event ≡ Some event
    pub named : event.handler ≡ Some k
    pub begins : starts_with nat_eq h.locals event.params ≡ true

  declared_by : (k : ℕ) (h : HandlerDef) (o : Option EventDef) → slice_get parts.events h.event ≡ o → option_map_or (λ e. option_eq nat_eq e.handler (Some k)) o false ≡ true →
      starts_with nat_eq h.locals (option_map_or (λ e. e.params) o []) ≡ true → Declared k h
  declared_by k h None there named begins = absurd (cc)
  declared_by k h (Some e) there named begins = record { event = e; there = there; named = is_this e.handler k named; begins = begins }

  pub declared : (k : ℕ) (h : HandlerDef) → slice_get parts.handlers k ≡ Some h → Declared k h
  declared k h is =
      let both = and_parts _ _ (numbered_at (λ (p : ℕ × HandlerDef). is_handled_by parts.events p.0 p.1.event && starts_with nat_eq p.1.locals (event_params parts.events p.1.event)) parts.handlers 0 k h (and_parts _ _ agree).1 is) in
      let z : 0 + k ≡ k = omega arith in
      declared_by k h (slice_get parts.events h.event) refl (subst (λ (n : ℕ). is_handled_by parts.events n h.event ≡ true) z both.0) both.1

  own : (k : ℕ) (h : HandlerDef) → slice_get parts.handlers k ≡ Some h → handler_of parts h.event ≡ Some h
  own k h is = let d = declared k h is in rw (d.there, d.named) is

  some_is : {A : Type 0} (x y : A) → Some x ≡ Some y → x ≡ y
  some_is x y e = cc

  one : (j k : ℕ) (g h : HandlerDef) → slice_get parts.handlers j ≡ Some g → slice_get parts.handlers k ≡ Some h → g.event ≡ h.event → j ≡ k
  one j k g h first second same =
      let d = declared j g first in
      let e = declared k h second in
      let event : d.event ≡ e.event = some_is d.event e.event (sym d.there ∙ ap (slice_get parts.events) same ∙ e.there) in
      some_is j k (sym d.named ∙ ap (λ (x : EventDef). x.handler) event ∙ e.named)

  its_event : (id : ℕ) (o : Option EventDef) → slice_get parts.events id ≡ o → (k : Option ℕ) → option_and_then (λ e. e.handler) o ≡ k → (h : HandlerDef) → option_and_then (slice_get parts.handlers) k ≡ Some h → h.event ≡ id
  its_event id None there k named h is = let none : option_and_then (slice_get parts.handlers) None ≡ Some h = subst (λ (n : Option ℕ). option_and_then (slice_get parts.handlers) n ≡ Some h) (sym named) is in absurd (cc)
  its_event id (Some e) there None named h is = absurd (cc)
  its_event id (Some e) there (Some k) named h is =
      let own = numbered_at (λ (p : ℕ × EventDef). option_map_or (handles parts.handlers p.0) p.1.handler true) parts.events 0 id e (and_parts _ _ agree).0 there in
      let handled = subst (λ (n : Option ℕ). option_map_or (handles parts.handlers (0 + id)) n true ≡ true) named own in
      let same = subst (λ (g : Option HandlerDef). option_map_or (λ (d : HandlerDef). nat_eq d.event (0 + id)) g false ≡ true) is handled in
      let e : h.event ≡ 0 + id = eqb-true h.event (0 + id) same in
      omega arith

pub one_handler : (parts : CoreParts) → IsSound parts → OneHandler parts
one_handler parts sound = record {
  own = own parts sound.events;
  one = one parts sound.events;
  its_event = λ id h is. its_event parts sound.events id (slice_get parts.events id) refl (option_and_then (λ e. e.handler) (slice_get parts.events id)) refl h is;
}
