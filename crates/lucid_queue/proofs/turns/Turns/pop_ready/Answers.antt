use Rattle.std.proofs.Common.{◌≡◌, sym, ◌∙◌, ap, subst, arith}
use Rattle.std.specs.Option.{option_map}
use Rattle.lucid_queue.specs.Kept.{Entries, behind_front, front, pending_at}
use Rattle.lucid_queue.proofs.TurnsLemmas.{kept_popped, late_first, late_others, popped}
use Rattle.lucid_queue.proofs.turns.Turns.pop_ready.Goals as goal

pub returns-then-key-tick-clause-first : goal.returns-then-key-tick-clause-first
returns-then-key-tick-clause-first c =
    sym (
    ap (λ (l : Entries). option_map (pending_at c.args.switch) (front c.args.tick l)) (sym c.self.view_is)
    ∙ ap (option_map (pending_at c.args.switch)) (late_first c.self.inside.events c.args.tick c.self.inside.slots.entries (c.in_ok-key.key.now, c.in_ok-key.field-0-1.now) c.in_ok-key.ensures.first c.if-key-tick.true)
    )

pub returns-then-key-tick-clause-others : goal.returns-then-key-tick-clause-others
returns-then-key-tick-clause-others c =
    subst (λ (l : Entries). l ≡ behind_front c.args.tick l) c.self.view_is
    (late_others c.self.inside.events c.args.tick c.self.inside.slots.entries (c.in_ok-key.key.now, c.in_ok-key.field-0-1.now) c.in_ok-key.ensures.first c.if-key-tick.true)

pub invariant_of-self-2 : goal.invariant_of-self-2
invariant_of-self-2 c =
    kept_popped c.self.inside.events c.remove-event.new.self c.self.inside.slots.entries c.pop_first.new.self.entries (c.in_ok-key-2.key, c.in_ok-key-2.slot) c.in_ok-key-2.ensures.removal c.self.invariant
    c.remove-event.ensures.updates

pub returns-clause-others : goal.returns-clause-others
returns-clause-others c =
    popped c.self.inside.events c.remove-event.new.self c.args.tick c.self.inside.slots.entries c.pop_first.new.self.entries (c.in_ok-key-2.key, c.in_ok-key-2.slot) (c.in_ok-key.key.now, c.in_ok-key.field-0-1.now)
    c.in_ok-key-2.ensures.removal c.in_ok-key.ensures.first (omega (arith, c.if-key-tick.false)) c.self.invariant c.remove-event.ensures.updates
    ∙ ap (λ (l : Entries). behind_front c.args.tick l) c.self.view_is
