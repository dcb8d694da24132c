-- The packet that leaves a pipe: a run of the network, of an event that fits, as all its outs do.
use Rattle.std.proofs.Common.{◌≡◌, ℕ, zero, suc, ◌+◌, ◌-◌, ◌<◌, ◌≤◌, ◌⊎◌, inl, inr, List, [], ◌∷◌, length, get_or, All, Option, None, Some, IfSome, IsTrue, Bool, true, false, if◌then◌else◌, nat_lt, option_map, refl, sym, ◌∙◌, ap, subst, arith}
use Rattle.std.proofs.lemmas.Bool.{cases_lt}
use Rattle.std.specs.List.{find}
use Rattle.lucid_core.specs.Fits.{out_fits}
use Rattle.lucid_net_spec.specs.Log.{State, run_at, ticks, turns}
use Rattle.lucid_net_spec.specs.Ways.{Network, Run}
use Rattle.lucid_pipe_laws.proofs.Stream.{late_at, late_none}
use Rattle.lucid_pipe_laws.specs.Rows.{Row, Steps, after_first}
use Rattle.lucid_pipe_laws.specs.Stream.{late, next, picture}
use Rattle.lucid_queue.specs.Waiting.{is_ready}
use Rattle.lucid_queue.specs.declared.pending.Pending.{Pending}
use Rattle.lucid_net_laws.specs.Fitting.{FileFits, SendsFit, fits}
use Rattle.lucid_net_laws.specs.Runs.{entering, leaving, runs}
use Rattle.lucid_net_laws.proofs.Fitting.{all_fit}

-- it entered the switch at the tick
pub record Entered (net : Network) (me when : ℕ) (r : Run) : Type 0 where
  pub tick : r.tick ≡ when
  pub switch : r.switch ≡ me
  pub event : fits net.parts r.event
  pub outs : All (λ out. IsTrue (out_fits net.parts out)) r.outs

module _ {A : Type 0} where
  if_some : (P : A → Type 0) (b : Bool) (o : Option A) → IfSome o P → IfSome (if b then o else None) P
  if_some P true o is = is
  if_some P false o is = tt

run_entered : (net : Network) (s t : ℕ) (w : State) (o : Option Pending) → SendsFit net → IfSome o (λ p. fits net.parts p.event) → IfSome (option_map (λ p. run_at net t s w p.event) o) (Entered net s t)
run_entered net s t w None sends fit = tt
run_entered net s t w (Some p) sends fit = record { tick = refl; switch = refl; event = fit; outs = sends (get_or w.cells s []) t s p.event }

pub entering_run : (net : Network) (s t : ℕ) → FileFits net → SendsFit net → IfSome (entering net s t) (Entered net s t)
entering_run net s t file sends =
    let w = turns net t s (ticks net t) in
    if_some (Entered net s t) (nat_lt t net.scene.stop) (runs net s t) (run_entered net s t w (find (is_ready s t) w.pending) sends (all_fit net file sends t s))

-- the leaving packet entered this many ticks before
pub leaving_run : (net : Network) (lag s t : ℕ) → FileFits net → SendsFit net → IfSome (leaving net lag s t) (λ r. (lag ≤ t) × Entered net s (t - lag) r)
leaving_run net lag s t file sends = at (cases_lt t lag)
  where
    both : (o : Option Run) → lag ≤ t → IfSome o (Entered net s (t - lag)) → IfSome o (λ r. (lag ≤ t) × Entered net s (t - lag) r)
    both None le is = tt
    both (Some r) le is = (le, is)

    at : (t < lag) ⊎ (lag ≤ t) → IfSome (leaving net lag s t) (λ r. (lag ≤ t) × Entered net s (t - lag) r)
    at (inl before) = subst (λ (o : Option Run). IfSome o (λ r. (lag ≤ t) × Entered net s (t - lag) r)) (sym (late_none (entering net s) t lag before)) tt
    at (inr later) =
        let is : lag + (t - lag) ≡ t = omega (arith, later) in
        subst (λ (o : Option Run). IfSome o (λ r. (lag ≤ t) × Entered net s (t - lag) r))
        (sym (late_at (entering net s) (t - lag) lag) ∙ ap (λ (k : ℕ). leaving net lag s k) is)
        (both (entering net s (t - lag)) later (entering_run net s (t - lag) file sends))

module _ {C P : Type 0} where
  pub picture_long : (step : Steps C P) (cs : List C) (run : ℕ → Option P) (t : ℕ) → length (picture step cs run t) ≡ length cs
  picture_long step [] run t = refl
  picture_long step (c ∷ cs) run zero = ap suc (picture_long (after_first step) cs (next (step 0) c run) zero)
  picture_long step (c ∷ cs) run (suc t) = ap suc (picture_long (after_first step) cs (next (step 0) c run) t)
