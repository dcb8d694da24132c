-- The order of pending events: by their switches, and at one switch by their keys.
use Rattle.std.specs.Prelude.{Bool}
use Rattle.std.specs.Cmp.{IsTotalOrder, then_total, on_total, nat_cmp_total, bool_cmp_total}
use Rattle.std.specs.Ordering.{nat_cmp, bool_cmp, ordering_then, is_lt, is_eq}
use Rattle.std.specs.declared.cmp.Ordering.{Ordering}
use Rattle.lucid_queue.specs.declared.pending.PendKey.{PendKey}
use Rattle.lucid_queue.specs.declared.pending.Pending.{Pending}

-- field by field, false before true
abbrev pub key_cmp : PendKey → PendKey → Ordering
key_cmp k q =
    ordering_then (nat_cmp k.ready q.ready) (ordering_then (bool_cmp k.made q.made) (ordering_then (nat_cmp k.tick q.tick) (ordering_then (nat_cmp k.parent q.parent) (nat_cmp k.index q.index))))

abbrev pub pending_cmp : Pending → Pending → Ordering
pending_cmp p q = ordering_then (nat_cmp p.switch q.switch) (key_cmp p.key q.key)

-- p precedes q
abbrev pub is_before : Pending → Pending → Bool
is_before p q = is_lt (pending_cmp p q)

-- p and q have one switch and one key
abbrev pub has_place : Pending → Pending → Bool
has_place p q = is_eq (pending_cmp p q)

pub key_total : IsTotalOrder key_cmp
key_total =
    then_total (on_total (λ k. k.ready) nat_cmp_total) (
    then_total (on_total (λ k. k.made) bool_cmp_total) (
    then_total (on_total (λ k. k.tick) nat_cmp_total) (then_total (on_total (λ k. k.parent) nat_cmp_total) (on_total (λ k. k.index) nat_cmp_total))
    )
    )

pub pending_total : IsTotalOrder pending_cmp
pending_total = then_total (on_total (λ p. p.switch) nat_cmp_total) (on_total (λ p. p.key) key_total)
