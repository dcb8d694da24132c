-- The pending events of a run are ready only once its packet has left.
use Rattle.std.proofs.Common.{◌≡◌, ◌≢◌, ℕ, suc, min, ◌+◌, ◌-◌, ◌*◌, ◌/◌, ◌%◌, ◌^◌, ◌<◌, ◌≤◌, ◌⊎◌, ⊎_elim, inl, inr, List, [], ◌∷◌, ◌++◌, Option, None, Some, Bool, true, false, if◌then◌else◌, cond, nat_eq, refl, sym, ◌∙◌, ap, subst, arith}
use Rattle.std.proofs.Math.Nat.{eq-or-lt_of_le}
use Rattle.std.proofs.lemmas.Bool.{cases_lt}
use Rattle.std.proofs.lemmas.Bool.Decides.{nat_tests}
use Rattle.std.proofs.lemmas.Nat.{div-add-mod', mod_below}
use Rattle.std.specs.List.{AllByRecursion, find, list_any}
use Rattle.std.specs.Option.{option_map, option_to_list}
use Rattle.lucid_base.specs.Saturating.{saturating_sum}
use Rattle.lucid_base.specs.declared.event.Event.{Event}
use Rattle.lucid_base.specs.declared.event.Out.TheVariants.{Gen, Say}
use Rattle.lucid_base.specs.declared.event.Out.{Out}
use Rattle.lucid_base.specs.declared.event.Target.TheVariants.{Here, At}
use Rattle.lucid_base.specs.declared.event.Target.{Target}
use Rattle.lucid_conf.specs.Items.{joins}
use Rattle.lucid_conf.specs.declared.scene.Link.{Link}
use Rattle.lucid_net_spec.specs.Log.{made}
use Rattle.lucid_net_spec.specs.Ways.{Arrival, Network, Run, arrival, departure, is_open, over_link, pending_out, pending_outs}
use Rattle.lucid_queue.specs.Waiting.{is_ready}
use Rattle.lucid_queue.specs.declared.pending.Pending.{Pending}
use Rattle.lucid_net_laws.specs.Behind.{LinksTakeTime}
use Rattle.lucid_net_laws.proofs.Put.{NoneOf}

abbrev top : ℕ
top = 2 ^ 64 - 1

-- ready once the packet of its parent has left, and at another switch still later
record IsLater (net : Network) (run : Run) (switch ready : ℕ) : Type 0 where
  pub here : min (run.tick + net.limits.stages) top ≤ ready
  pub there : switch ≢ run.switch → min (run.tick + net.limits.stages + 1) top ≤ ready

departs_late : (tick stages recirc delay : ℕ) → min (tick + stages) top ≤ saturating_sum (saturating_sum (saturating_sum tick stages) recirc) delay
departs_late tick stages recirc delay = omega arith

later_still : (m departs latency : ℕ) → min m top ≤ departs → 1 ≤ latency → min (m + 1) top ≤ saturating_sum departs latency
later_still m departs latency le some = omega (arith, le, some)

found_takes : (may : Link → Bool) (ls : List Link) (l : Link) → AllByRecursion (λ l. 1 ≤ l.latency) ls → find may ls ≡ Some l → 1 ≤ l.latency
found_takes may [] l all is = cc
found_takes may (x ∷ xs) l all is = at (may x) is (found_takes may xs l all.1)
  where
    inside : (a b : Link) → Some a ≡ Some b → a ≡ b
    inside a b e = cc

    at : (b : Bool) → cond b (Some x) (find may xs) ≡ Some l → (find may xs ≡ Some l → 1 ≤ l.latency) → 1 ≤ l.latency
    at true is rest = subst (λ (y : Link). 1 ≤ y.latency) (inside x l is) all.0
    at false is rest = rest is

-- of an arriving event
abbrev Arrives : Network → Run → Option Arrival → Type 0
Arrives net run None = Unit {0}
Arrives net run (Some a) = IsLater net run a.switch a.ready

stays : (net : Network) (run : Run) (delay : ℕ) → IsLater net run run.switch (departure net.limits run.tick delay)
stays net run delay = record { here = departs_late run.tick net.limits.stages net.limits.recirc delay; there = λ other. absurd (other refl) }

crosses : (net : Network) (run : Run) (to delay : ℕ) (o : Option Link) → ((l : Link) → o ≡ Some l → 1 ≤ l.latency) →
    Arrives net run (over_link net.scene.down run.switch to (departure net.limits run.tick delay) o)
crosses net run to delay None takes = tt
crosses net run to delay (Some l) takes = at (list_any (is_open run.switch to departs) net.scene.down)
  where
    departs : ℕ
    departs = departure net.limits run.tick delay

    more : min (run.tick + net.limits.stages + 1) top ≤ saturating_sum departs l.latency
    more = later_still (run.tick + net.limits.stages) departs l.latency (departs_late run.tick net.limits.stages net.limits.recirc delay) (takes l refl)

    at : (b : Bool) → Arrives net run (if b then None else Some (record { switch = to; ready = saturating_sum departs l.latency }))
    at true = tt
    at false = record { here = omega (arith, more); there = λ other. more }

arrives : (net : Network) (run : Run) (delay : ℕ) (to : Target) → LinksTakeTime net → Arrives net run (arrival net.scene run.switch (departure net.limits run.tick delay) to)
arrives net run delay Here links = stays net run delay
arrives net run delay (At to) links = at (nat_eq to run.switch)
  where
    departs : ℕ
    departs = departure net.limits run.tick delay

    at : (b : Bool) → Arrives net run (if b then Some (record { switch = run.switch; ready = departs }) else over_link net.scene.down run.switch to departs (find (joins run.switch to) net.scene.links))
    at true = stays net run delay
    at false = crosses net run to delay (find (joins run.switch to) net.scene.links) (λ l is. found_takes (joins run.switch to) net.scene.links l links is)

abbrev Waits : Network → Run → Pending → Type 0
Waits net run p = IsLater net run p.switch p.key.ready

abbrev MayWait : Network → Run → Option Pending → Type 0
MayWait net run None = Unit {0}
MayWait net run (Some p) = Waits net run p

out_waits : (net : Network) (run : Run) (index : ℕ) (out : Out) → LinksTakeTime net → MayWait net run (pending_out net run index out)
out_waits net run index (Gen event delay to) links = at (arrival net.scene run.switch (departure net.limits run.tick delay) to) (arrives net run delay to links)
  where
    at : (a : Option Arrival) → Arrives net run a →
        MayWait net run (option_map (λ a. record { key = record { ready = a.ready; made = true; tick = run.tick; parent = run.switch; index = index }; switch = a.switch; event = event }) a)
    at None is = tt
    at (Some a) is = is
out_waits net run index (Say form args) links = tt

outs_wait : (net : Network) (run : Run) (index : ℕ) (outs : List Out) → LinksTakeTime net → AllByRecursion (Waits net run) (pending_outs net run index outs)
outs_wait net run index [] links = tt
outs_wait net run index (out ∷ outs) links = at (pending_out net run index out) (out_waits net run index out links) (outs_wait net run (index + 1) outs links)
  where
    at : (o : Option Pending) → MayWait net run o → AllByRecursion (Waits net run) (pending_outs net run (index + 1) outs) →
        AllByRecursion (Waits net run) (option_to_list o ++ pending_outs net run (index + 1) outs)
    at None here rest = rest
    at (Some p) here rest = (here, rest)

-- ---- turns by their numbers

times_more : (c k n : ℕ) → (c + 1 + k) * n ≡ c * n + n + k * n
times_more c k n = grind arith

times_both : (b c n : ℕ) → (b + c) * n ≡ b * n + c * n
times_both b c n = grind arith

below : (a b r q n stages : ℕ) → q < n → a * n + r < b * n + q + stages * n → (a < b + stages) ⊎ ((a ≡ b + stages) × (r < q))
below a b r q n stages lt all = ⊎_elim (λ (e : a < b + stages). inl e) (λ (e : b + stages ≤ a). inr (⊎_elim equal (λ (g : b + stages < a). absurd (above g)) (eq-or-lt_of_le e))) (cases_lt a (b + stages))
  where
    equal : b + stages ≡ a → (a ≡ b + stages) × (r < q)
    equal is = (sym is, omega (arith, all, times_both b stages n, ap (λ (m : ℕ). m * n) is))

    above : b + stages < a → ⊥
    above g =
        let whole : b + stages + 1 + (a - (b + stages + 1)) ≡ a = omega (arith, g) in
        omega (arith, all, lt, times_both b stages n, times_more (b + stages) (a - (b + stages + 1)) n, ap (λ (m : ℕ). m * n) whole)

not_yet : (n i j r stages : ℕ) → 0 < n → i / n < top → i < j + stages * n → min (j / n + stages) top ≤ r → (i % n ≢ j % n → min (j / n + stages + 1) top ≤ r) → i / n < r
not_yet n i j r stages some early lt same other =
    ⊎_elim (λ (e : i / n < j / n + stages). omega (arith, e, same, early)) last
    (below (i / n) (j / n) (i % n) (j % n) n stages (mod_below j n some) (omega (arith, lt, div-add-mod' i n, div-add-mod' j n)))
  where
    last : (i / n ≡ j / n + stages) × (i % n < j % n) → i / n < r
    last here = omega (arith, early, here.0, other (λ (e : i % n ≡ j % n). omega (arith, here.1, e)))

none_yet : (net : Network) (run : Run) (i j : ℕ) (ps : List Pending) → (let n = net.scene.switches in
    0 < n → i / n < top → i < j + net.limits.stages * n → run.tick ≡ j / n → run.switch ≡ j % n → AllByRecursion (Waits net run) ps → NoneOf (is_ready (i % n) (i / n)) ps)
none_yet net run i j [] some early lt tick switch wait = tt
none_yet net run i j (p ∷ ps) some early lt tick switch wait = (not_here, none_yet net run i j ps some early lt tick switch wait.1)
  where
    n : ℕ
    n = net.scene.switches

    here : min (j / n + net.limits.stages) top ≤ p.key.ready
    here = subst (λ (t : ℕ). min (t + net.limits.stages) top ≤ p.key.ready) tick wait.0.here

    there : p.switch ≢ j % n → min (j / n + net.limits.stages + 1) top ≤ p.key.ready
    there ne = subst (λ (t : ℕ). min (t + net.limits.stages + 1) top ≤ p.key.ready) tick (wait.0.there (λ (e : p.switch ≡ run.switch). ne (e ∙ switch)))

    waits : p.switch ≡ i % n → i / n < p.key.ready
    waits is = not_yet n i j p.key.ready net.limits.stages some early lt here (λ (ne : i % n ≢ j % n). there (λ (e : p.switch ≡ j % n). ne (sym is ∙ e)))

    not_here : is_ready (i % n) (i / n) p ≡ false
    not_here = grind (arith, nat_tests, waits)

-- nothing that a run at turn j makes may enter at turn i
pub none_ready : (net : Network) (run : Run) (i j : ℕ) → (let n = net.scene.switches in
    0 < n → i / n < top → i < j + net.limits.stages * n → run.tick ≡ j / n → run.switch ≡ j % n → LinksTakeTime net → NoneOf (is_ready (i % n) (i / n)) (made net run))
none_ready net run i j some early lt tick switch links = none_yet net run i j (made net run) some early lt tick switch (outs_wait net run 0 run.outs links)
