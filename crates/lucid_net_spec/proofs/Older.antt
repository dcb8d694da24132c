-- A new event has another place than all older ones, and an older one stays so.
use Rattle.std.proofs.Common.{◌≡◌, ℕ, ◌+◌, Bool, true, false, not, ◌&&◌, ◌||◌, nat_eq, nat_lt, refl, arith}
use Rattle.std.specs.Ordering.{is_eq, nat_cmp, bool_cmp, ordering_then}
use Rattle.std.specs.declared.cmp.Ordering.{Ordering}
use Rattle.std.specs.declared.cmp.Ordering.TheVariants.{Less, Equal, Greater}
use Rattle.std.proofs.lemmas.Bool.Decides.{nat_tests}
use Rattle.lucid_base.specs.declared.event.Event.{Event}
use Rattle.lucid_conf.specs.declared.scene.FileEvent.{FileEvent}
use Rattle.lucid_queue.specs.Order.{has_place}
use Rattle.lucid_queue.specs.declared.pending.Pending.{Pending}
use Rattle.lucid_net_spec.specs.Log.{file_event}
use Rattle.lucid_net_spec.specs.Older.{IsNew, is_older}
use Rattle.lucid_net_spec.proofs.Passing.{false_true, second_of}

eq_then : (o x : Ordering) → is_eq x ≡ false → is_eq (ordering_then o x) ≡ false
eq_then Less x apart = refl
eq_then Equal x apart = apart
eq_then Greater x apart = refl

-- an older one has another tick, parent or index
keys_apart : (new made : Bool) (at switch place t0 s0 i0 t s i : ℕ) → new ≡ true → t0 ≡ at → s0 ≡ switch → i0 ≡ place →
    (not made || (nat_lt t at || (nat_eq t at && (nat_lt s switch || (nat_eq s switch && nat_lt i place))))) ≡ true →
    is_eq (ordering_then (bool_cmp new made) (ordering_then (nat_cmp t0 t) (ordering_then (nat_cmp s0 s) (nat_cmp i0 i)))) ≡ false
keys_apart false made at switch place t0 s0 i0 t s i new a b c older = absurd (false_true new)
keys_apart true false at switch place t0 s0 i0 t s i new a b c older = refl
keys_apart true true at switch place t0 s0 i0 t s i new a b c older = grind (arith, nat_tests)

files_apart : (place i0 i : ℕ) → i0 ≡ place → nat_lt i place ≡ true → is_eq (nat_cmp i0 i) ≡ false
files_apart place i0 i a below = grind (arith, nat_tests)

-- a new one has another place than an older one
pub place_apart : (at switch place : ℕ) (sent : Event) (p q : Pending) → IsNew at switch place sent p → is_older at switch place q.key ≡ true → has_place p q ≡ false
place_apart at switch place sent p q new older =
    eq_then (nat_cmp p.switch q.switch) _ (eq_then (nat_cmp p.key.ready q.key.ready) _
    (keys_apart p.key.made q.key.made at switch place p.key.tick p.key.parent p.key.index q.key.tick q.key.parent q.key.index new.made new.tick new.parent new.index older))

pub older_next : (made : Bool) (at switch place t s i : ℕ) →
    (not made || (nat_lt t at || (nat_eq t at && (nat_lt s switch || (nat_eq s switch && nat_lt i place))))) ≡ true →
    (not made || (nat_lt t at || (nat_eq t at && (nat_lt s switch || (nat_eq s switch && nat_lt i (place + 1)))))) ≡ true
older_next false at switch place t s i older = refl
older_next true at switch place t s i older = grind (arith, nat_tests)

pub older_switch : (made : Bool) (at switch place t s i : ℕ) →
    (not made || (nat_lt t at || (nat_eq t at && (nat_lt s switch || (nat_eq s switch && nat_lt i place))))) ≡ true →
    (not made || (nat_lt t at || (nat_eq t at && (nat_lt s (switch + 1) || (nat_eq s (switch + 1) && nat_lt i 0))))) ≡ true
older_switch false at switch place t s i older = refl
older_switch true at switch place t s i older = grind (arith, nat_tests)

pub older_tick : (made : Bool) (at switch t s i : ℕ) →
    (not made || (nat_lt t at || (nat_eq t at && (nat_lt s switch || (nat_eq s switch && nat_lt i 0))))) ≡ true →
    (not made || (nat_lt t (at + 1) || (nat_eq t (at + 1) && (nat_lt s 0 || (nat_eq s 0 && nat_lt i 0))))) ≡ true
older_tick false at switch t s i older = refl
older_tick true at switch t s i older = grind (arith, nat_tests)

pub older_new : (made : Bool) (at switch place t s i : ℕ) → t ≡ at → s ≡ switch → i ≡ place →
    (not made || (nat_lt t at || (nat_eq t at && (nat_lt s switch || (nat_eq s switch && nat_lt i (place + 1)))))) ≡ true
older_new false at switch place t s i a b c = refl
older_new true at switch place t s i a b c = grind (arith, nat_tests)

-- an event of the file has another place than those before it in the file
pub file_apart : (place : ℕ) (e : FileEvent) (q : Pending) → (not q.key.made && nat_lt q.key.index place) ≡ true → has_place (file_event place e) q ≡ false
file_apart place e q before =
    eq_then (nat_cmp e.switch q.switch) _ (eq_then (nat_cmp e.at q.key.ready) _ (eq_then (bool_cmp false q.key.made) _ (eq_then (nat_cmp 0 q.key.tick) _ (eq_then (nat_cmp 0 q.key.parent) _
    (files_apart place place q.key.index refl (second_of (not q.key.made) (nat_lt q.key.index place) before))))))

pub below_next : (i place : ℕ) → nat_lt i place ≡ true → nat_lt i (place + 1) ≡ true
below_next i place below = grind (arith, nat_tests)

pub below_itself : (place : ℕ) → nat_lt place (place + 1) ≡ true
below_itself place = grind (arith, nat_tests)
