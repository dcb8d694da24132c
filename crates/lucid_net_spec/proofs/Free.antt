-- Each event finds its place in the queue free.
use Rattle.std.proofs.Common.{◌≡◌, ℕ, zero, suc, ◌+◌, List, [], ◌∷◌, ◌++◌, Option, None, Some, IfSome, Bool, true, false, if◌then◌else◌, not, ◌&&◌, nat_lt, refl, ◌∙◌, subst, add-one}
use Rattle.std.specs.List.{find, list_all, list_any}
use Rattle.std.specs.Option.{option_map, option_to_list}
use Rattle.std.proofs.lemmas.Cmp.{eq_by_cmp_equiv}
use Rattle.lucid_base.specs.declared.event.Out.{Out}
use Rattle.lucid_base.specs.declared.event.Out.TheVariants.{Gen, Say}
use Rattle.lucid_conf.specs.declared.scene.FileEvent.{FileEvent}
use Rattle.lucid_net_spec.specs.Log.{State, enters, file_event, file_events, made, put_all, run_at, ticks, turns}
use Rattle.lucid_net_spec.specs.Ways.{Arrival, Network, Run, arrival, departure, pending_out, pending_outs}
use Rattle.lucid_queue.specs.Order.{has_place, is_before, pending_total}
use Rattle.lucid_queue.specs.Waiting.{is_ready, put_in, without_first}
use Rattle.lucid_queue.specs.declared.pending.Pending.{Pending}
use Rattle.lucid_net_spec.specs.Free.{AreApart, FileFindsFree, FindFree, MadeFindsFree, StaysApart}
use Rattle.lucid_net_spec.specs.Older.{IsNew, is_older}
use Rattle.lucid_net_spec.proofs.Older.{below_itself, below_next, file_apart, older_new, older_next, older_switch, older_tick, place_apart}
use Rattle.lucid_net_spec.proofs.Passing.{both, first_of, neither, not_first, not_second, or_left, put_passes, second_of, unlike, weaker, without_passes}

-- of the file, or made before out number `index` of the event that enters the switch at the tick
abbrev older : ℕ → ℕ → ℕ → Pending → Bool
older tick switch index p = is_older tick switch index p.key

-- of the file, before this place
abbrev before_place : ℕ → Pending → Bool
before_place place p = not p.key.made && nat_lt p.key.index place

next_out : (tick switch index : ℕ) (ps : List Pending) → list_all (older tick switch index) ps ≡ true → list_all (older tick switch (index + 1)) ps ≡ true
next_out tick switch index ps all =
    weaker (older tick switch index) (older tick switch (index + 1)) (λ p was. older_next p.key.made tick switch index p.key.tick p.key.parent p.key.index was) ps all

next_switch : (tick switch index : ℕ) (ps : List Pending) → list_all (older tick switch index) ps ≡ true → list_all (older tick (switch + 1) 0) ps ≡ true
next_switch tick switch index ps all =
    weaker (older tick switch index) (older tick (switch + 1) 0) (λ p was. older_switch p.key.made tick switch index p.key.tick p.key.parent p.key.index was) ps all

next_tick : (tick switch : ℕ) (ps : List Pending) → list_all (older tick switch 0) ps ≡ true → list_all (older (tick + 1) 0 0) ps ≡ true
next_tick tick switch ps all =
    weaker (older tick switch 0) (older (tick + 1) 0 0) (λ p was. older_tick p.key.made tick switch p.key.tick p.key.parent p.key.index was) ps all

-- the pending event of an out is new
made_new : (net : Network) (run : Run) (index : ℕ) (out : Out) → IfSome (pending_out net run index out) (λ p. IsNew run.tick run.switch index p.event p)
made_new net run index (Gen event delay to) = at (arrival net.scene run.switch (departure net.limits run.tick delay) to)
  where
    at : (a : Option Arrival) → IfSome (option_map (λ a. record { key = record { ready = a.ready; made = true; tick = run.tick; parent = run.switch; index = index }; switch = a.switch; event = event }) a)
        (λ (p : Pending). IsNew run.tick run.switch index p.event p)
    at None = tt
    at (Some a) = record { made = refl; tick = refl; parent = refl; index = refl; event = refl }
made_new net run index (Say form args) = tt

-- the queued event, and the queue after it
record Joins (test : Pending → Bool) (new old : List Pending) : Type 0 where
  pub free : FindFree new old
  pub all : list_all test (put_all new old) ≡ true

outs_join : (net : Network) (run : Run) (index : ℕ) (outs : List Out) (ps : List Pending) → list_all (older run.tick run.switch index) ps ≡ true →
    Joins (older run.tick (run.switch + 1) 0) (pending_outs net run index outs) ps
outs_join net run index [] ps all = record { free = tt; all = next_switch run.tick run.switch index ps all }
outs_join net run index (out ∷ outs) ps all = at (pending_out net run index out) (made_new net run index out) (λ qs was. outs_join net run (index + 1) outs qs was)
  where
    at : (o : Option Pending) → IfSome o (λ p. IsNew run.tick run.switch index p.event p) →
        ((qs : List Pending) → list_all (older run.tick run.switch (index + 1)) qs ≡ true → Joins (older run.tick (run.switch + 1) 0) (pending_outs net run (index + 1) outs) qs) →
        Joins (older run.tick (run.switch + 1) 0) (option_to_list o ++ pending_outs net run (index + 1) outs) ps
    at None new others = others ps (next_out run.tick run.switch index ps all)
    at (Some p) new others =
        let rest = others (put_in is_before p ps)
        (put_passes (older run.tick run.switch (index + 1)) p ps (older_new p.key.made run.tick run.switch index p.key.tick p.key.parent p.key.index new.tick new.parent new.index)
        (next_out run.tick run.switch index ps all)) in
        record {
          free = (unlike (older run.tick run.switch index) p (λ q was. place_apart run.tick run.switch index p.event p q new was) ps all, rest.free);
          all = rest.all;
        }

file_joins : (index : ℕ) (es : List FileEvent) (ps : List Pending) → list_all (before_place index) ps ≡ true → Joins (older 0 0 0) (file_events index es) ps
file_joins index [] ps all = record {
  free = tt;
  all = weaker (before_place index) (older 0 0 0) (λ p was. or_left (not p.key.made) _ (first_of (not p.key.made) (nat_lt p.key.index index) was)) ps all;
}
file_joins index (e ∷ es) ps all =
    let rest = file_joins (index + 1) es (put_in is_before (file_event index e) ps) (put_passes (before_place (index + 1)) (file_event index e) ps (below_itself index) (later ps all)) in
    record { free = (unlike (before_place index) (file_event index e) (λ q was. file_apart index e q was) ps all, rest.free); all = rest.all }
  where
    later : (ps : List Pending) → list_all (before_place index) ps ≡ true → list_all (before_place (index + 1)) ps ≡ true
    later ps all =
        weaker (before_place index) (before_place (index + 1))
        (λ p was. both (not p.key.made) (nat_lt p.key.index (index + 1)) (first_of (not p.key.made) (nat_lt p.key.index index) was)
        (below_next p.key.index index (second_of (not p.key.made) (nat_lt p.key.index index) was))) ps all

pub file_finds_free : (net : Network) → FileFindsFree net
file_finds_free net = (file_joins 0 net.scene.events [] refl).free

-- the outs of the entering event, of the run at this state
entered_join : (net : Network) (tick switch : ℕ) (now : State) (p : Pending) → list_all (older tick switch 0) now.pending ≡ true →
    Joins (older tick (switch + 1) 0) (made net (run_at net tick switch now p.event)) (without_first (is_ready switch tick) now.pending)
entered_join net tick switch now p all =
    let run = run_at net tick switch now p.event in
    outs_join net run 0 run.outs (without_first (is_ready switch tick) now.pending) (without_passes (older tick switch 0) (is_ready switch tick) now.pending all)

-- the state before the turn of a switch at a tick
record Apart (tick switch : ℕ) (now : State) : Type 0 where
  pub all : list_all (older tick switch 0) now.pending ≡ true
  pub apart : AreApart now.pending

same_place : (p q : Pending) → has_place p q ≡ has_place q p
same_place p q = (eq_by_cmp_equiv pending_total).symm p q

none_without : (test may : Pending → Bool) (ps : List Pending) → list_any test ps ≡ false → list_any test (without_first may ps) ≡ false
none_without test may [] none = refl
none_without test may (p ∷ ps) none = at (may p) (none_without test may ps (not_second (test p) (list_any test ps) none))
  where
    at : (b : Bool) → list_any test (without_first may ps) ≡ false → list_any test (if b then ps else p ∷ without_first may ps) ≡ false
    at true rest = not_second (test p) (list_any test ps) none
    at false rest = neither (test p) (list_any test (without_first may ps)) (not_first (test p) (list_any test ps) none) rest

apart_without : (may : Pending → Bool) (ps : List Pending) → AreApart ps → AreApart (without_first may ps)
apart_without may [] apart = tt
apart_without may (p ∷ ps) apart = at (may p) (apart_without may ps apart.1)
  where
    at : (b : Bool) → AreApart (without_first may ps) → AreApart (if b then ps else p ∷ without_first may ps)
    at true rest = apart.1
    at false rest = (none_without (has_place p) may ps apart.0, rest)

none_put : (test : Pending → Bool) (p : Pending) (ps : List Pending) → test p ≡ false → list_any test ps ≡ false → list_any test (put_in is_before p ps) ≡ false
none_put test p [] here none = neither (test p) false here refl
none_put test p (q ∷ qs) here none = at (is_before p q) (none_put test p qs here (not_second (test q) (list_any test qs) none))
  where
    at : (b : Bool) → list_any test (put_in is_before p qs) ≡ false → list_any test (if b then p ∷ q ∷ qs else q ∷ put_in is_before p qs) ≡ false
    at true rest = neither (test p) (list_any test (q ∷ qs)) here none
    at false rest = neither (test q) (list_any test (put_in is_before p qs)) (not_first (test q) (list_any test qs) none) rest

apart_put : (p : Pending) (ps : List Pending) → list_any (has_place p) ps ≡ false → AreApart ps → AreApart (put_in is_before p ps)
apart_put p [] free apart = (refl, tt)
apart_put p (q ∷ qs) free apart = at (is_before p q) (apart_put p qs (not_second (has_place p q) (list_any (has_place p) qs) free) apart.1)
  where
    at : (b : Bool) → AreApart (put_in is_before p qs) → AreApart (if b then p ∷ q ∷ qs else q ∷ put_in is_before p qs)
    at true rest = (free, apart)
    at false rest = (none_put (has_place q) p qs (same_place q p ∙ not_first (has_place p q) (list_any (has_place p) qs) free) apart.0, rest)

apart_all : (new old : List Pending) → FindFree new old → AreApart old → AreApart (put_all new old)
apart_all [] old free apart = apart
apart_all (p ∷ ps) old free apart = apart_all ps (put_in is_before p old) free.1 (apart_put p old free.0 apart)

enters_apart : (net : Network) (tick switch : ℕ) (now : State) (o : Option Pending) → Apart tick switch now → Apart tick (switch + 1) (enters net tick switch now o)
enters_apart net tick switch now None so = record { all = next_switch tick switch 0 now.pending so.all; apart = so.apart }
enters_apart net tick switch now (Some p) so =
    let join = entered_join net tick switch now p so.all in
    record {
      all = join.all;
      apart =
          apart_all (made net (run_at net tick switch now p.event)) (without_first (is_ready switch tick) now.pending) join.free
          (apart_without (is_ready switch tick) now.pending so.apart);
    }

turns_apart : (net : Network) (tick n : ℕ) (now : State) → Apart tick 0 now → Apart tick n (turns net tick n now)
turns_apart net tick zero now so = so
turns_apart net tick (suc n) now so =
    subst (λ (k : ℕ). Apart tick k (turns net tick (suc n) now)) (add-one n)
    (enters_apart net tick n (turns net tick n now) (find (is_ready n tick) (turns net tick n now).pending) (turns_apart net tick n now so))

ticks_apart : (net : Network) (tick : ℕ) → Apart tick 0 (ticks net tick)
ticks_apart net zero =
    let join = file_joins 0 net.scene.events [] refl in
    record { all = join.all; apart = apart_all (file_events 0 net.scene.events) [] join.free tt }
ticks_apart net (suc tick) =
    let so = turns_apart net tick net.scene.switches (ticks net tick) (ticks_apart net tick) in
    subst (λ (k : ℕ). Apart k 0 (ticks net (suc tick))) (add-one tick) (record { all = next_tick tick net.scene.switches (ticks net (suc tick)).pending so.all; apart = so.apart })

pub made_finds_free : (net : Network) → MadeFindsFree net
made_finds_free net tick switch p found =
    (entered_join net tick switch (turns net tick switch (ticks net tick)) p (turns_apart net tick switch (ticks net tick) (ticks_apart net tick)).all).free

pub stays_apart : (net : Network) → StaysApart net
stays_apart net tick switch = (turns_apart net tick switch (ticks net tick) (ticks_apart net tick)).apart
