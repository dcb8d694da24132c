-- The cells of each switch are those after one pass of each of its events.
use Rattle.std.proofs.Common.{◌≡◌, ◌≢◌, ℕ, zero, suc, ◌+◌, ◌<◌, ◌≤◌, ◌⊎◌, inl, inr, List, [], ◌∷◌, length, get_or, Option, None, Some, IfSome, Bool, if◌then◌else◌, nat_lt, true, false, option_map, replicate, refl, sym, ◌∙◌, ap, subst, arith}
use Rattle.std.proofs.lemmas.Bool.{cases_eq, cases_lt}
use Rattle.std.proofs.lemmas.Bool.Decides.{nat_tests}
use Rattle.std.proofs.lemmas.List.{get_or-set_same, get_or-set_other, length-set, get_or-replicate, length-replicate}
use Rattle.std.specs.List.{find}
use Rattle.lucid_base.specs.Cells.{zero_cells}
use Rattle.lucid_base.specs.declared.event.Event.{Event}
use Rattle.lucid_core.specs.Step.{Stepped}
use Rattle.lucid_net_spec.specs.Log.{State, done_at, enters, run_at, ticks, turn, turns}
use Rattle.lucid_net_spec.specs.Ways.{Network, Run}
use Rattle.lucid_pipe_laws.proofs.Stream.{cells_at-start, passes}
use Rattle.lucid_pipe_laws.specs.Rows.{whole}
use Rattle.lucid_pipe_laws.specs.Stream.{cells_at, ends, passed}
use Rattle.lucid_queue.specs.Waiting.{is_ready}
use Rattle.lucid_queue.specs.declared.pending.Pending.{Pending}
use Rattle.lucid_net_laws.specs.Entering.{AllFit}
use Rattle.lucid_net_laws.specs.Runs.{entering, run_of, runs}
use Rattle.lucid_net_laws.specs.Stages.{DoAs, Stages, fed, packet_of}
use Rattle.lucid_net_laws.specs.Whole.{IsWhole, clock}

-- the clocks
pub clock_self : (t s : ℕ) → clock t s s ≡ t
clock_self t s = grind (arith, nat_tests)

pub clock_done : (t s : ℕ) → clock t (suc s) s ≡ suc t
clock_done t s = grind (arith, nat_tests)

pub clock_other : (t s u : ℕ) → u ≢ s → clock t (suc s) u ≡ clock t s u
clock_other t s u ne = grind (arith, nat_tests)

pub clock_start : (t u : ℕ) → clock t 0 u ≡ t
clock_start t u = grind (arith, nat_tests)

pub clock_end : (t n u : ℕ) → u < n → clock t n u ≡ suc t
clock_end t n u lt = grind (arith, nat_tests)

below_true : (a b : ℕ) → a < b → nat_lt a b ≡ true
below_true a b lt = grind (arith, nat_tests)

below_false : (a b : ℕ) → b ≤ a → nat_lt a b ≡ false
below_false a b le = grind (arith, nat_tests)

pub entering_early : (net : Network) (switch tick : ℕ) → tick < net.scene.stop → entering net switch tick ≡ runs net switch tick
entering_early net switch tick lt = ap (λ (b : Bool). if b then runs net switch tick else None) (below_true tick net.scene.stop lt)

pub entering_late : (net : Network) (switch tick : ℕ) → net.scene.stop ≤ tick → entering net switch tick ≡ None
entering_late net switch tick le = ap (λ (b : Bool). if b then runs net switch tick else None) (below_false tick net.scene.stop le)

-- the other switches' cells stay
others : (net : Network) (t s u : ℕ) (w : State) (o : Option Pending) → u ≢ s → get_or (enters net t s w o).cells u [] ≡ get_or w.cells u []
others net t s u w None ne = refl
others net t s u w (Some p) ne = get_or-set_other w.cells s u _ [] ne

as_long : (net : Network) (t s : ℕ) (w : State) (o : Option Pending) → length (enters net t s w o).cells ≡ length w.cells
as_long net t s w None = refl
as_long net t s w (Some p) = length-set w.cells s _

module _ {C P : Type 0} where
  -- one pass is the effect of a turn
  pass_turn : (net : Network) (st : Stages C P) (Good : List C → Type 0) (Fits : Event → Type 0) (t s : ℕ) (w : State) (rows : List C) (o : Option Pending) →
      DoAs net st Good Fits → Good rows → st.view rows ≡ get_or w.cells s [] → t < net.scene.stop → s < net.scene.switches → s < length w.cells → IfSome o (λ p. Fits p.event) →
      (let r = option_map (λ p. run_at net t s w p.event) o in let e = passed st.step rows (option_map (packet_of st) r) in
      (st.view e.0 ≡ get_or (enters net t s w o).cells s []) × (option_map st.done e.1 ≡ r) × Good e.0)
  pass_turn net st Good Fits t s w rows None law good is early below within fits = (is, refl, good)
  pass_turn net st Good Fits t s w rows (Some p) law good is early below within fits =
      let d : Done (get_or w.cells s []) = subst Done is (law.pass t s rows p.event early below good fits) in
      (d.0 ∙ sym (get_or-set_same w.cells s (done_at net t s w p.event).cells [] within), ap (λ (r : Run). Some r) d.1, d.2)
    where
      Done : List (List ℕ) → Type 0
      Done g = (let e = whole st.step rows (st.enters t s p.event) in let d = net.does g t s p.event in
          (st.view e.0 ≡ d.cells) × (st.done e.1 ≡ record { tick = t; switch = s; event = p.event; outs = d.outs }) × Good e.0)

  abbrev Ran : (net : Network) (st : Stages C P) (Good : List C → Type 0) (t s : ℕ) → Type 0
  Ran net st Good t s =
      (let after = cells_at st.step st.cells (fed net st s) (suc t) in
      (st.view after ≡ get_or (turns net t (suc s) (ticks net t)).cells s []) × (option_map st.done (ends st.step st.cells (fed net st s) t) ≡ entering net s t) × Good after)

  ran_whole : (net : Network) (st : Stages C P) (Good : List C → Type 0) (Fits : Event → Type 0) (t s : ℕ) → DoAs net st Good Fits → AllFit net Fits →
      t < net.scene.stop → s < net.scene.switches → IsWhole net st Good t s → Ran net st Good t s
  ran_whole net st Good Fits t s law fit early lt is = (
    sym (ap (λ (l : List C × Option P). st.view l.0) e) ∙ d.0,
    sym (ap (λ (l : List C × Option P). option_map st.done l.1) e) ∙ d.1 ∙ sym (entering_early net s t early),
    subst (λ (l : List C × Option P). Good l.0) e d.2,
  )
    where
      w : State
      w = turns net t s (ticks net t)

      rows : List C
      rows = cells_at st.step st.cells (fed net st s) t

      good : Good rows
      good = subst (λ (k : ℕ). Good (cells_at st.step st.cells (fed net st s) k)) (clock_self t s) (is.good s lt)

      view : st.view rows ≡ get_or w.cells s []
      view = sym (is.cells s lt ∙ ap (λ (k : ℕ). st.view (cells_at st.step st.cells (fed net st s) k)) (clock_self t s))

      d : (let r = run_of net t s w in let e = passed st.step rows (option_map (packet_of st) r) in
          (st.view e.0 ≡ get_or (turn net t s w).cells s []) × (option_map st.done e.1 ≡ r) × Good e.0)
      d = pass_turn net st Good Fits t s w rows (find (is_ready s t) w.pending) law good view early lt (subst (λ (k : ℕ). s < k) (sym is.long) lt) (fit t s)

      e : passed st.step rows (option_map (packet_of st) (run_of net t s w)) ≡ (cells_at st.step st.cells (fed net st s) (suc t), ends st.step st.cells (fed net st s) t)
      e = ap (λ (r : Option Run). passed st.step rows (option_map (packet_of st) r)) (sym (entering_early net s t early)) ∙ passes st.step st.cells (fed net st s) t

  next_switch : (net : Network) (st : Stages C P) (Good : List C → Type 0) (Fits : Event → Type 0) (t s : ℕ) → DoAs net st Good Fits → AllFit net Fits →
      t < net.scene.stop → s < net.scene.switches → IsWhole net st Good t s → IsWhole net st Good t (suc s)
  next_switch net st Good Fits t s law fit early lt is = record {
    long = as_long net t s w o ∙ is.long;
    cells = λ u below. at_switch u below (cases_eq u s);
    good = λ u below. good_switch u below (cases_eq u s);
  }
    where
      w : State
      w = turns net t s (ticks net t)

      o : Option Pending
      o = find (is_ready s t) w.pending

      done : Ran net st Good t s
      done = ran_whole net st Good Fits t s law fit early lt is

      rows : ℕ → ℕ → List C
      rows u k = cells_at st.step st.cells (fed net st u) k

      at_switch : (u : ℕ) → u < net.scene.switches → (u ≡ s) ⊎ (u ≢ s) → get_or (turns net t (suc s) (ticks net t)).cells u [] ≡ st.view (rows u (clock t (suc s) u))
      at_switch u below (inl same) =
          subst (λ (v : ℕ). get_or (turns net t (suc s) (ticks net t)).cells v [] ≡ st.view (rows v (clock t (suc s) v))) (sym same)
          (sym done.0 ∙ ap (λ (k : ℕ). st.view (rows s k)) (sym (clock_done t s)))
      at_switch u below (inr other) = others net t s u w o other ∙ is.cells u below ∙ ap (λ (k : ℕ). st.view (rows u k)) (sym (clock_other t s u other))

      good_switch : (u : ℕ) → u < net.scene.switches → (u ≡ s) ⊎ (u ≢ s) → Good (rows u (clock t (suc s) u))
      good_switch u below (inl same) = subst (λ (v : ℕ). Good (rows v (clock t (suc s) v))) (sym same) (subst (λ (k : ℕ). Good (rows s k)) (sym (clock_done t s)) done.2)
      good_switch u below (inr other) = subst (λ (k : ℕ). Good (rows u k)) (sym (clock_other t s u other)) (is.good u below)

  next_tick : (net : Network) (st : Stages C P) (Good : List C → Type 0) (t : ℕ) → IsWhole net st Good t net.scene.switches → IsWhole net st Good (suc t) 0
  next_tick net st Good t is = record {
    long = is.long;
    cells = λ u below. is.cells u below ∙ ap (λ (k : ℕ). st.view (cells_at st.step st.cells (fed net st u) k)) (clock_end t net.scene.switches u below ∙ sym (clock_start (suc t) u));
    good = λ u below. subst (λ (k : ℕ). Good (cells_at st.step st.cells (fed net st u) k)) (clock_end t net.scene.switches u below ∙ sym (clock_start (suc t) u)) (is.good u below);
  }

  at_start : (net : Network) (st : Stages C P) (Good : List C → Type 0) (Fits : Event → Type 0) → DoAs net st Good Fits → IsWhole net st Good 0 0
  at_start net st Good Fits law = record {
    long = length-replicate net.scene.switches (zero_cells net.parts.arrays);
    cells = λ u below. get_or-replicate net.scene.switches u (zero_cells net.parts.arrays) [] below ∙ sym law.start ∙ ap st.view (at u);
    good = λ u below. subst Good (at u) law.good;
  }
    where
      at : (u : ℕ) → st.cells ≡ cells_at st.step st.cells (fed net st u) (clock 0 0 u)
      at u = sym (cells_at-start st.step st.cells (fed net st u)) ∙ ap (cells_at st.step st.cells (fed net st u)) (sym (clock_start 0 u))

  switches : (net : Network) (st : Stages C P) (Good : List C → Type 0) (Fits : Event → Type 0) (t s : ℕ) → DoAs net st Good Fits → AllFit net Fits →
      t < net.scene.stop → s ≤ net.scene.switches → IsWhole net st Good t 0 → IsWhole net st Good t s
  switches net st Good Fits t zero law fit early le is = is
  switches net st Good Fits t (suc s) law fit early le is = next_switch net st Good Fits t s law fit early (omega (arith, le)) (switches net st Good Fits t s law fit early (omega (arith, le)) is)

  pub whole_at : (net : Network) (st : Stages C P) (Good : List C → Type 0) (Fits : Event → Type 0) (t : ℕ) → DoAs net st Good Fits → AllFit net Fits → t ≤ net.scene.stop → IsWhole net st Good t 0
  whole_at net st Good Fits zero law fit le = at_start net st Good Fits law
  whole_at net st Good Fits (suc t) law fit le =
      next_tick net st Good t (switches net st Good Fits t net.scene.switches law fit (omega (arith, le)) (omega arith) (whole_at net st Good Fits t law fit (omega (arith, le))))

  -- the final state of a packet that has left is the run of its event
  pub ends_run : (net : Network) (st : Stages C P) (Good : List C → Type 0) (Fits : Event → Type 0) → DoAs net st Good Fits → AllFit net Fits → (u t : ℕ) → u < net.scene.switches →
      option_map st.done (ends st.step st.cells (fed net st u) t) ≡ entering net u t
  ends_run net st Good Fits law fit u t lt = at (cases_lt t net.scene.stop)
    where
      at : (t < net.scene.stop) ⊎ (net.scene.stop ≤ t) → option_map st.done (ends st.step st.cells (fed net st u) t) ≡ entering net u t
      at (inl early) = (ran_whole net st Good Fits t u law fit early lt (switches net st Good Fits t u law fit early (omega (arith, lt)) (whole_at net st Good Fits t law fit (omega (arith, early))))).1
      at (inr late) =
          let none : entering net u t ≡ None = entering_late net u t late in
          let nothing : fed net st u t ≡ None = ap (option_map (packet_of st)) none in
          let e : passed st.step (cells_at st.step st.cells (fed net st u) t) None ≡ (cells_at st.step st.cells (fed net st u) (suc t), ends st.step st.cells (fed net st u) t) =
          ap (passed st.step (cells_at st.step st.cells (fed net st u) t)) (sym nothing) ∙ passes st.step st.cells (fed net st u) t in
          ap (λ (l : List C × Option P). option_map st.done l.1) (sym e) ∙ sym none
