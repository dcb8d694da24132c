-- The queue lacks exactly the events of packets in flight.
use Rattle.std.proofs.Common.{◌≡◌, ℕ, zero, suc, ◌+◌, ◌-◌, ◌*◌, ◌/◌, ◌%◌, ◌^◌, ◌<◌, ◌≤◌, ◌⊎◌, ⊎_elim, inl, inr, List, [], ◌∷◌, ◌++◌, Option, None, Some, Bool, refl, sym, ◌∙◌, ap, subst, append_assoc, append-nil, arith}
use Rattle.std.proofs.lemmas.Bool.{cases_lt}
use Rattle.std.proofs.lemmas.Nat.{div-mul-add, mod-mul-add, div-add-mod'}
use Rattle.std.specs.List.{find}
use Rattle.std.specs.Option.{option_map}
use Rattle.lucid_net_spec.proofs.InOrder.{all_stay, without_stays}
use Rattle.lucid_net_spec.proofs.Numbers.{by_number}
use Rattle.lucid_net_spec.specs.Laws.{IsInOrder, nth}
use Rattle.lucid_net_spec.specs.Log.{State, enters, put_all, run_at, ticks, turn, turns}
use Rattle.lucid_net_spec.specs.Ways.{Network, Run}
use Rattle.lucid_pipe_laws.proofs.Stream.{late_at, late_none}
use Rattle.lucid_pipe_laws.specs.Stream.{late}
use Rattle.lucid_queue.specs.Waiting.{is_ready, without_first}
use Rattle.lucid_queue.specs.declared.pending.Pending.{Pending}
use Rattle.lucid_net_laws.specs.Behind.{IsBehind, IsBehindBy, LinksTakeTime, StaysBehind, TurnBehind, mades, nth_run}
use Rattle.lucid_net_laws.specs.Runs.{losses_by, made_by, run_of, runs}
use Rattle.lucid_net_laws.proofs.Later.{none_ready}
use Rattle.lucid_net_laws.proofs.Put.{NoneOf, find_all, put_all-append, unfound, without_all}

-- a turn, by its run
enters_pending : (net : Network) (tick switch : ℕ) (now : State) (o : Option Pending) → find (is_ready switch tick) now.pending ≡ o →
    (enters net tick switch now o).pending ≡ put_all (made_by net (option_map (λ p. run_at net tick switch now p.event) o)) (without_first (is_ready switch tick) now.pending)
enters_pending net tick switch now None is = sym (unfound (is_ready switch tick) now.pending is)
enters_pending net tick switch now (Some p) is = refl

pub turn_pending : (net : Network) (tick switch : ℕ) (now : State) → (turn net tick switch now).pending ≡ put_all (made_by net (run_of net tick switch now)) (without_first (is_ready switch tick) now.pending)
turn_pending net tick switch now = enters_pending net tick switch now (find (is_ready switch tick) now.pending) refl

enters_lost : (net : Network) (tick switch : ℕ) (now : State) (o : Option Pending) →
    (enters net tick switch now o).lost ≡ now.lost + losses_by net (option_map (λ p. run_at net tick switch now p.event) o)
enters_lost net tick switch now None = omega arith
enters_lost net tick switch now (Some p) = refl

pub turn_lost : (net : Network) (tick switch : ℕ) (now : State) → (turn net tick switch now).lost ≡ now.lost + losses_by net (run_of net tick switch now)
turn_lost net tick switch now = enters_lost net tick switch now (find (is_ready switch tick) now.pending)

mades-push : (net : Network) (from count i : ℕ) → from + count ≡ i → mades net from (suc count) ≡ mades net from count ++ made_by net (nth_run net i)
mades-push net from zero i is = let same : from ≡ i = omega (arith, is) in append-nil (made_by net (nth_run net from)) ∙ ap (λ (n : ℕ). made_by net (nth_run net n)) same
mades-push net from (suc count) i is =
    ap (λ (l : List Pending). made_by net (nth_run net from) ++ l) (mades-push net (suc from) count i (omega (arith, is)))
    ∙ sym (append_assoc (made_by net (nth_run net from)) (mades net (suc from) count) (made_by net (nth_run net i)))

leaves : (net : Network) (out count i : ℕ) (ps : List Pending) → IsBehind net out (suc count) i ps → IsBehind net (suc out) count i (put_all (made_by net (nth_run net out)) ps)
leaves net out count i ps is = record {
  turns = omega (arith, is.turns);
  pending = sym (put_all-append (made_by net (nth_run net out)) (mades net (suc out) count) ps) ∙ is.pending;
  ordered = all_stay (made_by net (nth_run net out)) ps is.ordered;
}

abbrev ready : Network → ℕ → Pending → Bool
ready net i = is_ready (i % net.scene.switches) (i / net.scene.switches)

abbrev Enters : Network → ℕ → ℕ → List Pending → Type 0
Enters net out i ps = (find (ready net i) ps ≡ find (ready net i) (nth net i).pending) × IsBehind net out (suc i - out) (suc i) (without_first (ready net i) ps)

enters_behind : (net : Network) (out count i : ℕ) (ps : List Pending) → NoneOf (ready net i) (mades net out count) → IsBehind net out count i ps → Enters net out i ps
enters_behind net out count i ps none is = (
  sym (find_all (ready net i) (mades net out count) ps none) ∙ ap (find (ready net i)) is.pending,
  subst (λ (c : ℕ). IsBehind net out c (suc i) rest) counted kept,
)
  where
    rest : List Pending
    rest = without_first (ready net i) ps

    counted : suc count ≡ suc i - out
    counted = omega (arith, is.turns)

    kept : IsBehind net out (suc count) (suc i) rest
    kept = record {
      turns = omega (arith, is.turns);
      pending = ap (λ (l : List Pending). put_all l rest) (mades-push net out count i is.turns)
          ∙ put_all-append (mades net out count) (made_by net (nth_run net i)) rest
          ∙ ap (put_all (made_by net (nth_run net i))) (sym (without_all (ready net i) (mades net out count) ps is.ordered none) ∙ ap (without_first (ready net i)) is.pending)
          ∙ sym (turn_pending net (i / net.scene.switches) (i % net.scene.switches) (nth net i));
      ordered = without_stays (ready net i) ps is.ordered;
    }

none_by : (net : Network) (i j : ℕ) → (let n = net.scene.switches in
    0 < n → i / n < 2 ^ 64 - 1 → i < j + net.limits.stages * n → LinksTakeTime net → NoneOf (ready net i) (made_by net (nth_run net j)))
none_by net i j some early lt links = at (find (ready net j) (nth net j).pending)
  where
    at : (o : Option Pending) → NoneOf (ready net i) (made_by net (option_map (λ p. run_at net (j / net.scene.switches) (j % net.scene.switches) (nth net j) p.event) o))
    at None = tt
    at (Some p) = none_ready net (run_at net (j / net.scene.switches) (j % net.scene.switches) (nth net j) p.event) i j some early lt refl refl links

none_both : (may : Pending → Bool) (xs ys : List Pending) → NoneOf may xs → NoneOf may ys → NoneOf may (xs ++ ys)
none_both may [] ys here there = there
none_both may (x ∷ xs) ys here there = (here.0, none_both may xs ys here.1 there)

none_of : (net : Network) (i from count : ℕ) → (let n = net.scene.switches in
    0 < n → i / n < 2 ^ 64 - 1 → i < from + net.limits.stages * n → LinksTakeTime net → NoneOf (ready net i) (mades net from count))
none_of net i from zero some early lt links = tt
none_of net i from (suc count) some early lt links =
    none_both (ready net i) (made_by net (nth_run net from)) (mades net (suc from) count) (none_by net i from some early lt links)
    (none_of net i (suc from) count some early (omega (arith, lt)) links)

-- ---- turns by ticks and switches

both_times : (a b n : ℕ) → (a + b) * n ≡ a * n + b * n
both_times a b n = grind arith

-- t is less than k if the number of the turn is below that of the same switch k ticks later, and otherwise it is more by this much
pub parted : (t k s n : ℕ) → s < n → ((t < k) × (t * n + s < k * n)) ⊎ ((d : ℕ) × (k + d ≡ t) × ((d * n + s) + k * n ≡ t * n + s))
parted t k s n lt = ⊎_elim (λ (e : t < k). inl (e, below e)) (λ (e : k ≤ t). inr (t - k, omega (arith, e), above e)) (cases_lt t k)
  where
    below : t < k → t * n + s < k * n
    below e = let whole : t + 1 + (k - (t + 1)) ≡ k = omega (arith, e) in omega (arith, lt, ap (λ (m : ℕ). m * n) whole, both_times (t + 1) (k - (t + 1)) n, both_times t 1 n)

    above : k ≤ t → ((t - k) * n + s) + k * n ≡ t * n + s
    above e = let whole : (t - k) + k ≡ t = omega (arith, e) in omega (arith, ap (λ (m : ℕ). m * n) whole, both_times (t - k) k n)

-- the run at a turn by its number
pub nth_run-is : (net : Network) (tick switch : ℕ) → switch < net.scene.switches → nth_run net (tick * net.scene.switches + switch) ≡ runs net switch tick
nth_run-is net tick switch lt =
    let n = net.scene.switches in
    ap (λ (t : ℕ). run_of net t ((tick * n + switch) % n) (nth net (tick * n + switch))) (div-mul-add tick n switch lt)
    ∙ ap (λ (s : ℕ). run_of net tick s (nth net (tick * n + switch))) (mod-mul-add tick n switch lt)
    ∙ ap (run_of net tick switch) (by_number net tick switch (omega (arith, lt)))

-- the next turn by its number
pub nth-next : (net : Network) (tick switch : ℕ) → switch < net.scene.switches → nth net (suc (tick * net.scene.switches + switch)) ≡ turn net tick switch (nth net (tick * net.scene.switches + switch))
nth-next net tick switch lt =
    let n = net.scene.switches in
    ap (λ (t : ℕ). turn net t ((tick * n + switch) % n) (nth net (tick * n + switch))) (div-mul-add tick n switch lt)
    ∙ ap (λ (s : ℕ). turn net tick s (nth net (tick * n + switch))) (mod-mul-add tick n switch lt)

ready_is : (net : Network) (tick switch : ℕ) → switch < net.scene.switches → ready net (tick * net.scene.switches + switch) ≡ is_ready switch tick
ready_is net tick switch lt =
    let n = net.scene.switches in
    ap (λ (t : ℕ). is_ready ((tick * n + switch) % n) t) (div-mul-add tick n switch lt) ∙ ap (λ (s : ℕ). is_ready s tick) (mod-mul-add tick n switch lt)

pub stays_behind : (net : Network) → StaysBehind net
stays_behind net tick switch ps some lt before links is = ⊎_elim early later (parted tick k switch n lt)
  where
    n : ℕ
    n = net.scene.switches

    k : ℕ
    k = net.limits.stages

    lag : ℕ
    lag = k * n

    i : ℕ
    i = tick * n + switch

    pack : (out : ℕ) (qs : List Pending) → out ≡ suc i - lag → (nth net out).lost ≡ (nth net (i - lag)).lost + losses_by net (late (runs net switch) tick k) → Enters net out i qs → TurnBehind net tick switch qs
    pack out qs is_out lost done = record {
      enters = subst (λ (f : Pending → Bool). find f qs ≡ find f (turns net tick switch (ticks net tick)).pending) (ready_is net tick switch lt) (done.0 ∙ ap (λ (w : State). find (ready net i) w.pending) (by_number net tick switch (omega (arith, lt))));
      behind = subst (λ (f : Pending → Bool). IsBehindBy net lag (suc i) (without_first f qs)) (ready_is net tick switch lt) (subst (λ (o : ℕ). IsBehind net o (suc i - o) (suc i) (without_first (ready net i) qs)) is_out done.1);
      lost = ap (λ (o : ℕ). (nth net o).lost) (sym is_out) ∙ lost;
    }

    at_tick : i / n < 2 ^ 64 - 1
    at_tick = subst (λ (t : ℕ). t < 2 ^ 64 - 1) (sym (div-mul-add tick n switch lt)) before

    early : (tick < k) × (i < lag) → TurnBehind net tick switch (put_all (made_by net (late (runs net switch) tick k)) ps)
    early when =
        let none : i - lag ≡ zero = omega (arith, when.1) in
        let next : zero ≡ suc i - lag = omega (arith, when.1) in
        let nothing : late (runs net switch) tick k ≡ None = late_none (runs net switch) tick k when.0 in
        let start : IsBehind net zero (i - zero) i ps = subst (λ (o : ℕ). IsBehind net o (i - o) i ps) none is in
        let no_loss : losses_by net (late (runs net switch) tick k) ≡ 0 = ap (losses_by net) nothing in
        let same : (nth net zero).lost ≡ (nth net (i - lag)).lost = ap (λ (o : ℕ). (nth net o).lost) (sym none) in
        subst (λ (r : Option Run). TurnBehind net tick switch (put_all (made_by net r) ps)) (sym nothing)
        (pack zero ps next (omega (arith, same, no_loss)) (enters_behind net zero (i - zero) i ps (none_of net i zero (i - zero) (omega (arith, lt)) at_tick (omega (arith, when.1)) links) start))

    later : (d : ℕ) × (k + d ≡ tick) × ((d * n + switch) + lag ≡ i) → TurnBehind net tick switch (put_all (made_by net (late (runs net switch) tick k)) ps)
    later when =
        let d = when.0 in
        let out = d * n + switch in
        let one : 1 + (k - 1) ≡ k = omega (arith, some) in
        let long_lag : 1 ≤ lag = omega (arith, lt, ap (λ (m : ℕ). m * n) one, both_times 1 (k - 1) n) in
        let pre : suc (lag - 1) ≡ lag = omega (arith, long_lag) in
        let here : i - lag ≡ out = omega (arith, when.2) in
        let next : suc out ≡ suc i - lag = omega (arith, when.2) in
        let long : i - out ≡ suc (lag - 1) = omega (arith, when.2, pre) in
        let start : IsBehind net out (suc (lag - 1)) i ps = subst (λ (c : ℕ). IsBehind net out c i ps) long (subst (λ (o : ℕ). IsBehind net o (i - o) i ps) here is) in
        let gone : late (runs net switch) tick k ≡ nth_run net out = ap (λ (t : ℕ). late (runs net switch) t k) (sym when.1) ∙ late_at (runs net switch) d k ∙ sym (nth_run-is net d switch lt) in
        let left = leaves net out (lag - 1) i ps start in
        let lost : (nth net (suc out)).lost ≡ (nth net out).lost + losses_by net (run_of net d switch (nth net out)) = ap (λ (w : State). w.lost) (nth-next net d switch lt) ∙ turn_lost net d switch (nth net out) in
        let run : run_of net d switch (nth net out) ≡ late (runs net switch) tick k = ap (run_of net d switch) (by_number net d switch (omega (arith, lt))) ∙ sym (ap (λ (t : ℕ). late (runs net switch) t k) (sym when.1) ∙ late_at (runs net switch) d k) in
        subst (λ (r : Option Run). TurnBehind net tick switch (put_all (made_by net r) ps)) (sym gone)
        (pack (suc out) (put_all (made_by net (nth_run net out)) ps) next
        (lost ∙ ap (λ (r : Option Run). (nth net out).lost + losses_by net r) run ∙ ap (λ (o : ℕ). (nth net o).lost + losses_by net (late (runs net switch) tick k)) (sym here))
        (enters_behind net (suc out) (lag - 1) i (put_all (made_by net (nth_run net out)) ps) (none_of net i (suc out) (lag - 1) (omega (arith, lt)) at_tick (omega (arith, when.2)) links) left))
