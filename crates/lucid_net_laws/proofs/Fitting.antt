-- All that enters fits the program.
use Rattle.std.proofs.Common.{◌≡◌, ℕ, zero, suc, ◌+◌, List, [], ◌∷◌, ◌++◌, All, Option, None, Some, IfSome, IsTrue, Bool, true, false, if◌then◌else◌, cond, option_map, refl}
use Rattle.std.proofs.lemmas.List.Elements.{recursion_from_All}
use Rattle.std.specs.List.{AllByRecursion, find}
use Rattle.std.specs.Option.{option_to_list}
use Rattle.lucid_base.specs.declared.event.Event.{Event}
use Rattle.lucid_base.specs.declared.event.Out.TheVariants.{Gen, Say}
use Rattle.lucid_base.specs.declared.event.Out.{Out}
use Rattle.lucid_conf.specs.declared.scene.FileEvent.{FileEvent}
use Rattle.lucid_core.specs.Fits.{event_fits, out_fits}
use Rattle.lucid_core.specs.Parts.{CoreParts}
use Rattle.lucid_net_spec.specs.Log.{State, enters, file_events, made, put_all, run_at, ticks, turns}
use Rattle.lucid_net_spec.specs.Ways.{Arrival, Network, Run, arrival, departure, pending_out, pending_outs}
use Rattle.lucid_queue.specs.Order.{is_before}
use Rattle.lucid_queue.specs.Waiting.{is_ready, put_in, without_first}
use Rattle.lucid_queue.specs.declared.pending.Pending.{Pending}
use Rattle.lucid_net_laws.specs.Entering.{AllFit}
use Rattle.lucid_net_laws.specs.Fitting.{FileFits, SendsFit, fits}

abbrev Fit : CoreParts → List Pending → Type 0
Fit parts ps = AllByRecursion (λ p. fits parts p.event) ps

put_fit : (parts : CoreParts) (p : Pending) (ps : List Pending) → fits parts p.event → Fit parts ps → Fit parts (put_in is_before p ps)
put_fit parts p [] here all = (here, tt)
put_fit parts p (q ∷ qs) here all = at (is_before p q) (put_fit parts p qs here all.1)
  where
    at : (b : Bool) → Fit parts (put_in is_before p qs) → Fit parts (if b then p ∷ q ∷ qs else q ∷ put_in is_before p qs)
    at true rest = (here, all)
    at false rest = (all.0, rest)

all_put : (parts : CoreParts) (xs ps : List Pending) → Fit parts xs → Fit parts ps → Fit parts (put_all xs ps)
all_put parts [] ps new all = all
all_put parts (x ∷ xs) ps new all = all_put parts xs (put_in is_before x ps) new.1 (put_fit parts x ps new.0 all)

without_fit : (parts : CoreParts) (may : Pending → Bool) (ps : List Pending) → Fit parts ps → Fit parts (without_first may ps)
without_fit parts may [] all = tt
without_fit parts may (p ∷ ps) all = at (may p) (without_fit parts may ps all.1)
  where
    at : (b : Bool) → Fit parts (without_first may ps) → Fit parts (if b then ps else p ∷ without_first may ps)
    at true rest = all.1
    at false rest = (all.0, rest)

found_fits : (parts : CoreParts) (may : Pending → Bool) (ps : List Pending) → Fit parts ps → IfSome (find may ps) (λ p. fits parts p.event)
found_fits parts may [] all = tt
found_fits parts may (p ∷ ps) all = at (may p) (found_fits parts may ps all.1)
  where
    at : (b : Bool) → IfSome (find may ps) (λ p. fits parts p.event) → IfSome (cond b (Some p) (find may ps)) (λ p. fits parts p.event)
    at true rest = all.0
    at false rest = rest

outs_fit : (net : Network) (run : Run) (index : ℕ) (outs : List Out) → AllByRecursion (λ out. IsTrue (out_fits net.parts out)) outs → Fit net.parts (pending_outs net run index outs)
outs_fit net run index [] all = tt
outs_fit net run index (Gen event delay to ∷ outs) all = at (arrival net.scene run.switch (departure net.limits run.tick delay) to) (outs_fit net run (index + 1) outs all.1)
  where
    at : (a : Option Arrival) → Fit net.parts (pending_outs net run (index + 1) outs) →
        Fit net.parts (option_to_list (option_map (λ a. record { key = record { ready = a.ready; made = true; tick = run.tick; parent = run.switch; index = index }; switch = a.switch; event = event }) a) ++ pending_outs net run (index + 1) outs)
    at None rest = rest
    at (Some a) rest = (all.0, rest)
outs_fit net run index (Say form args ∷ outs) all = outs_fit net run (index + 1) outs all.1

enters_fit : (net : Network) (t s : ℕ) (w : State) (o : Option Pending) → SendsFit net → Fit net.parts w.pending → Fit net.parts (enters net t s w o).pending
enters_fit net t s w None sends all = all
enters_fit net t s w (Some p) sends all =
    all_put net.parts (made net (run_at net t s w p.event)) (without_first (is_ready s t) w.pending)
    (outs_fit net (run_at net t s w p.event) 0 (run_at net t s w p.event).outs (recursion_from_All (λ out. IsTrue (out_fits net.parts out)) _ (sends _ t s p.event)))
    (without_fit net.parts (is_ready s t) w.pending all)

turns_fit : (net : Network) (t s : ℕ) (w : State) → SendsFit net → Fit net.parts w.pending → Fit net.parts (turns net t s w).pending
turns_fit net t zero w sends all = all
turns_fit net t (suc s) w sends all = enters_fit net t s (turns net t s w) (find (is_ready s t) (turns net t s w).pending) sends (turns_fit net t s w sends all)

file_fits : (parts : CoreParts) (index : ℕ) (es : List FileEvent) → AllByRecursion (λ e. fits parts e.event) es → Fit parts (file_events index es)
file_fits parts index [] all = tt
file_fits parts index (e ∷ es) all = (all.0, file_fits parts (index + 1) es all.1)

ticks_fit : (net : Network) (t : ℕ) → FileFits net → SendsFit net → Fit net.parts (ticks net t).pending
ticks_fit net zero file sends = all_put net.parts (file_events 0 net.scene.events) [] (file_fits net.parts 0 net.scene.events file) tt
ticks_fit net (suc t) file sends = turns_fit net t net.scene.switches (ticks net t) sends (ticks_fit net t file sends)

pub all_fit : (net : Network) → FileFits net → SendsFit net → AllFit net (fits net.parts)
all_fit net file sends t s = found_fits net.parts (is_ready s t) (turns net t s (ticks net t)).pending (turns_fit net t s (ticks net t) sends (ticks_fit net t file sends))
