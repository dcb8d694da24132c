use Rattle.std.proofs.Common.{◌≡◌, ℕ, List, Some, sym, ◌∙◌, ap, subst, rules}
use Rattle.std.specs.BTreeMap.{insert_entry}
use Rattle.std.specs.List.Sorted.{IsStrictlySortedBy}
use Rattle.slab.specs.Slab.{Slab, Updates, get}
use Rattle.lucid_base.specs.declared.event.Event.{Event}
use Rattle.lucid_queue.specs.Kept.{Entries}
use Rattle.lucid_queue.specs.Order.{key_cmp}
use Rattle.lucid_queue.specs.Turns.{AreKept, with_events}
use Rattle.lucid_queue.specs.declared.pending.PendKey.{PendKey}
use Rattle.lucid_queue.proofs.TurnsLemmas.{inserted, kept_same, kept_with, same_keys, seen_same}
use Rattle.lucid_queue.proofs.turns.Turns.push.Goals as goal

pub invariant_of-self : goal.invariant_of-self
invariant_of-self c =
    kept_same c.self.inside.events c.reserve.new.self (λ slot. ap (λ (s : Slab Event). get s slot) c.reserve.ensures.rest_kept) c.self.inside.slots.entries c.self.invariant

pub invariant_of-self-in_err-insert : goal.invariant_of-self-in_err-insert
invariant_of-self-in_err-insert c =
    let same : c.insert.new.self.entries ≡ c.self.inside.slots.entries = search rules in
    subst (AreKept c.reserve.new.self) (sym same)
    (kept_same c.self.inside.events c.reserve.new.self (λ slot. ap (λ (s : Slab Event). get s slot) c.reserve.ensures.rest_kept) c.self.inside.slots.entries c.self.invariant)

pub invariant_of-self-2 : goal.invariant_of-self-2
invariant_of-self-2 c =
    let room = c.reserve.new.self in
    let later = c.insert_reserved.new.self in
    let slot = c.vacant_key-slot.result in
    let event = c.args.event in
    let es = c.self.inside.slots.entries in
    let updates : Updates room later slot (Some event) =
    subst (λ (k : ℕ). Updates room later k (Some event)) (c.insert_reserved.ensures.key ∙ sym c.vacant_key-slot.ensures.value) c.insert_reserved.ensures.updates in
    let kept = kept_same c.self.inside.events room (λ k. ap (λ (s : Slab Event). get s k) c.reserve.ensures.rest_kept) es c.self.invariant in
    subst (AreKept later) (sym c.in_ok-insert.ensures.entries) (kept_with room later slot c.args.key event updates c.vacant_key-slot.ensures.vacant es kept)

pub returns-clause-waits : goal.returns-clause-waits
returns-clause-waits c =
    let room = c.reserve.new.self in
    let later = c.insert_reserved.new.self in
    let slot = c.vacant_key-slot.result in
    let event = c.args.event in
    let es = c.self.inside.slots.entries in
    let updates : Updates room later slot (Some event) =
    subst (λ (k : ℕ). Updates room later k (Some event)) (c.insert_reserved.ensures.key ∙ sym c.vacant_key-slot.ensures.value) c.insert_reserved.ensures.updates in
    let kept = kept_same c.self.inside.events room (λ k. ap (λ (s : Slab Event). get s k) c.reserve.ensures.rest_kept) es c.self.invariant in
    ap (λ (l : List (PendKey × ℕ)). with_events later l) c.in_ok-insert.ensures.entries
    ∙ inserted room later slot c.args.key event updates c.vacant_key-slot.ensures.vacant es kept
    ∙ ap (λ (l : Entries). insert_entry key_cmp l c.args.key event) (seen_same c.self.inside.events room (λ k. ap (λ (s : Slab Event). get s k) c.reserve.ensures.rest_kept) es ∙ c.self.view_is)

pub returns-clause-by_key : goal.returns-clause-by_key
returns-clause-by_key c = λ _. subst (IsStrictlySortedBy key_cmp) (sym (same_keys c.insert_reserved.new.self c.insert.new.self.entries)) c.insert.ensures.ordered
