-- A network keeps its invariant.
use Rattle.std.proofs.Common.{◌≡◌, ℕ, ◌+◌, ◌-◌, ◌*◌, ◌<◌, ◌≤◌, List, [], length, replicate, true, sym, ◌∙◌, ap, arith}
use Rattle.std.proofs.lemmas.List.{length-replicate}
use Rattle.std.specs.List.{list_all}
use Rattle.lucid_base.specs.Cells.{zero_cells}
use Rattle.lucid_net_laws.specs.Runs.{late_text}
use Rattle.lucid_net_spec.proofs.Telling.{tick_untold}
use Rattle.lucid_net_spec.specs.Log.{State, start, ticks, turns}
use Rattle.lucid_net_spec.specs.Pieces.{untold}
use Rattle.lucid_net_spec.specs.Ways.{Network}
use Rattle.lucid_queue.specs.declared.pending.Pending.{Pending}
use Rattle.lucid_net.specs.Kept.{IsKept, is_kept}
use Rattle.lucid_net.specs.Stands.{IsWholeAt}

-- after a tick the state is that of the definition
pub ticked_state : (net : Network) (tick : ℕ) (now new : State) → IsWholeAt net tick now → new ≡ untold (turns net tick net.scene.switches now) → new ≡ untold (ticks net (tick + 1))
ticked_state net tick now new at is =
    is ∙ ap (λ (s : State). untold (turns net tick net.scene.switches s)) at.state ∙ sym (tick_untold net tick)

-- the text of its turns is that of the definition's tick
pub tick_written : (net : Network) (tick : ℕ) (now : State) → IsWholeAt net tick now → (turns net tick net.scene.switches now).text ≡ late_text net 0 tick
tick_written net tick now at = ap (λ (s : State). (turns net tick net.scene.switches s).text) at.state

pub ticked : (net : Network) (tick : ℕ) (now new : State) → IsWholeAt net tick now → new ≡ untold (turns net tick net.scene.switches now) → IsKept net.parts net.scene.switches (tick + 1) 0 new → IsWholeAt net (tick + 1) new
ticked net tick now new at is kept = record { state = ticked_state net tick now new at is; kept = kept }

-- The switches before tick 0 are those of the definition.
pub whole_start : (net : Network) (cells : List (List (List ℕ))) (pending : List Pending) → cells ≡ replicate net.scene.switches (zero_cells net.parts.arrays) →
    pending ≡ (start net).pending → list_all (is_kept net.parts 0 0 0) pending ≡ true →
    IsWholeAt net 0 (record { cells = cells; pending = pending; text = []; entered = 0; lost = 0 })
whole_start net cells pending are waits kept = record {
  state = ap (λ (c : List (List (List ℕ))). record { cells = c; pending = pending; text = []; entered = 0; lost = 0 }) are
      ∙ ap (λ (ps : List Pending). record { cells = (start net).cells; pending = ps; text = []; entered = 0; lost = 0 }) waits;
  kept = record {
    pending = kept;
    cells = ap length are ∙ length-replicate net.scene.switches (zero_cells net.parts.arrays);
    entered = omega arith;
    lost = omega arith;
  };
}

times_sum : (a b n : ℕ) → (a + b) * n ≡ a * n + b * n
times_sum a b n = grind arith

-- The turns of one more tick are few.
pub turns_few : (stop n most tick : ℕ) → tick < stop → stop * n ≤ most → tick * n + n ≤ most
turns_few stop n most tick lt few =
    let all : tick + 1 + (stop - (tick + 1)) ≡ stop = omega (arith, lt) in
    omega (arith, few, ap (λ (m : ℕ). m * n) all, times_sum (tick + 1) (stop - (tick + 1)) n, times_sum tick 1 n)
