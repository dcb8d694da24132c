-- Bounds of the counts of a network, and the packet that leaves a pipe.
use Rattle.std.proofs.Common.{◌≡◌, ℕ, zero, suc, ◌+◌, ◌-◌, ◌*◌, ◌/◌, ◌%◌, ◌<◌, ◌≤◌, ◌⊎◌, inl, inr, List, [], ◌∷◌, ◌++◌, length, get_or, Option, None, Some, IfSome, Bool, true, false, if◌then◌else◌, option_map, refl, sym, ◌∙◌, ap, subst, length-append, arith}
use Rattle.std.proofs.lemmas.Bool.{cases_lt}
use Rattle.std.proofs.lemmas.List.Sums.{sum_by-cons}
use Rattle.std.specs.List.{count_by, find}
use Rattle.std.specs.Option.{option_to_list}
use Rattle.lucid_base.specs.declared.event.Out.{Out}
use Rattle.lucid_conf.specs.declared.scene.FileEvent.{FileEvent}
use Rattle.lucid_net_spec.specs.Laws.{nth}
use Rattle.lucid_net_spec.specs.Log.{State, enters, file_events, losses, made, put_all, run_at}
use Rattle.lucid_net_spec.specs.Ways.{Network, Run, is_lost, pending_out, pending_outs}
use Rattle.lucid_pipe_laws.specs.Stream.{late}
use Rattle.lucid_queue.specs.Waiting.{is_ready, without_first}
use Rattle.lucid_queue.specs.declared.pending.Pending.{Pending}
use Rattle.lucid_net_laws.specs.Few.{SendsFew}
use Rattle.lucid_net_laws.proofs.Draining.{length-put_all}

length-without : (may : Pending → Bool) (ps : List Pending) → length (without_first may ps) ≤ length ps
length-without may [] = omega arith
length-without may (p ∷ ps) = at (may p) (length-without may ps)
  where
    at : (b : Bool) → length (without_first may ps) ≤ length ps → length (if b then ps else p ∷ without_first may ps) ≤ length (p ∷ ps)
    at true le = omega arith
    at false le = omega (arith, le)

made_few : (net : Network) (run : Run) (index : ℕ) (outs : List Out) → length (pending_outs net run index outs) ≤ length outs
made_few net run index [] = omega arith
made_few net run index (out ∷ outs) = at (pending_out net run index out) (made_few net run (index + 1) outs)
  where
    at : (o : Option Pending) → length (pending_outs net run (index + 1) outs) ≤ length outs → length (option_to_list o ++ pending_outs net run (index + 1) outs) ≤ length (out ∷ outs)
    at None le = omega (arith, le)
    at (Some p) le = omega (arith, le)

one_or_none : (b : Bool) → (if b then 1 else 0) ≤ 1
one_or_none true = omega arith
one_or_none false = omega arith

count_few : (f : Out → Bool) (outs : List Out) → count_by f outs ≤ length outs
count_few f [] = omega arith
count_few f (out ∷ outs) = omega (arith, sum_by-cons (λ (o : Out). if f o then 1 else 0) out outs, one_or_none (f out), count_few f outs)

entered_most : (net : Network) (t s : ℕ) (w : State) (o : Option Pending) → (enters net t s w o).entered ≤ w.entered + 1
entered_most net t s w None = omega arith
entered_most net t s w (Some p) = omega arith

lost_more : (net : Network) (t s : ℕ) (w : State) (o : Option Pending) → SendsFew net → (enters net t s w o).lost ≤ w.lost + 8
lost_more net t s w None few = omega arith
lost_more net t s w (Some p) few = omega (arith, count_few (is_lost net (run_at net t s w p.event)) (run_at net t s w p.event).outs, few (get_or w.cells s []) t s p.event)

pending_more : (net : Network) (t s : ℕ) (w : State) (o : Option Pending) → SendsFew net → length (enters net t s w o).pending ≤ length w.pending + 8
pending_more net t s w None few = omega arith
pending_more net t s w (Some p) few =
    omega (
      arith,
      length-put_all (made net (run_at net t s w p.event)) (without_first (is_ready s t) w.pending),
      length-without (is_ready s t) w.pending,
      made_few net (run_at net t s w p.event) 0 (run_at net t s w p.event).outs,
      few (get_or w.cells s []) t s p.event,
    )

length-file : (index : ℕ) (es : List FileEvent) → length (file_events index es) ≡ length es
length-file index [] = refl
length-file index (e ∷ es) = ap suc (length-file (index + 1) es)

pub most_entered : (net : Network) (i : ℕ) → (nth net i).entered ≤ i
most_entered net zero = omega arith
most_entered net (suc i) =
    omega (
      arith,
      most_entered net i,
      entered_most net (i / net.scene.switches) (i % net.scene.switches) (nth net i) (find (is_ready (i % net.scene.switches) (i / net.scene.switches)) (nth net i).pending),
    )

pub most_lost : (net : Network) (i : ℕ) → SendsFew net → (nth net i).lost ≤ 8 * i
most_lost net zero few = omega arith
most_lost net (suc i) few =
    omega (
      arith,
      most_lost net i few,
      lost_more net (i / net.scene.switches) (i % net.scene.switches) (nth net i) (find (is_ready (i % net.scene.switches) (i / net.scene.switches)) (nth net i).pending) few,
    )

pub most_pending : (net : Network) (i : ℕ) → SendsFew net → length (nth net i).pending ≤ length net.scene.events + 8 * i
most_pending net zero few = omega (arith, length-put_all (file_events 0 net.scene.events) [], length-file 0 net.scene.events)
most_pending net (suc i) few =
    omega (
      arith,
      most_pending net i few,
      pending_more net (i / net.scene.switches) (i % net.scene.switches) (nth net i) (find (is_ready (i % net.scene.switches) (i / net.scene.switches)) (nth net i).pending) few,
    )
