-- The loops over switches with pipes.
use Rattle.std.proofs.Common.{◌≡◌, ℕ, ◌+◌, ◌-◌, ◌<◌, ◌≤◌, List, Option, ◌∙◌, subst, arith}
use Rattle.lucid_io.proofs.Leaves.{Leaves-nothing, Leaves-whole}
use Rattle.lucid_io.specs.Puts.{Leaves, PutsAll}
use Rattle.lucid_net_laws.proofs.Texts.{late_turns}
use Rattle.lucid_net_laws.specs.Runs.{late_text, left_text}
use Rattle.lucid_net_spec.proofs.Telling.{pieces-all, pieces-none}
use Rattle.lucid_net_spec.specs.Pieces.{pieces}
use Rattle.lucid_net_spec.specs.Ways.{Network}
use Rattle.lucid_tables.specs.Placed.{PlacedParts}
use Rattle.lucid_net.specs.Pipes.{IsDrained, IsPiped, Piped}

-- the turns before this switch are done
pub record Turned {T : Type 0} (written : T → Option (List ℕ)) (faults : T → ℕ) (old sink : T) (net : Network) (placed now_placed : PlacedParts) (tick switch : ℕ) (now : Piped) : Type 0 where
  pub same : now_placed ≡ placed
  pub piped : IsPiped net placed tick switch now
  pub text : Leaves written faults old sink (late_text net net.limits.stages tick) (pieces (left_text net net.limits.stages tick) switch (net.scene.switches - switch))

pub record TurnedOut {T : Type 0} (written : T → Option (List ℕ)) (faults : T → ℕ) (old sink : T) (net : Network) (placed now_placed : PlacedParts) (tick switch : ℕ) (now : Piped) (waiting : ℕ) : Type 0 where
  pub same : now_placed ≡ placed
  pub drained : IsDrained net placed tick switch now waiting
  pub text : Leaves written faults old sink (late_text net net.limits.stages tick) (pieces (left_text net net.limits.stages tick) switch (net.scene.switches - switch))

pub record TickedOut {T : Type 0} (written : T → Option (List ℕ)) (faults : T → ℕ) (old sink : T) (net : Network) (placed now_placed : PlacedParts) (tick : ℕ) (now : Piped) (waiting : ℕ) : Type 0 where
  pub same : now_placed ≡ placed
  pub from : net.scene.stop ≤ tick
  pub drained : IsDrained net placed tick 0 now waiting
  pub text : Leaves written faults old sink (pieces (late_text net net.limits.stages) net.scene.stop net.limits.stages) (pieces (late_text net net.limits.stages) tick (net.scene.stop + net.limits.stages - tick))

pub tick_text_first : {T : Type 0} {written : T → Option (List ℕ)} {faults : T → ℕ} {sink : T} (net : Network) (tick : ℕ) → tick < net.scene.stop + net.limits.stages →
    Leaves written faults sink sink (late_text net net.limits.stages tick) (pieces (left_text net net.limits.stages tick) 0 (net.scene.switches - 0))
tick_text_first {T} {written} {faults} {sink} net tick soon =
    subst (λ (l : List ℕ). Leaves written faults sink sink (late_text net net.limits.stages tick) l) (late_turns net net.limits.stages tick soon ∙ pieces-all (left_text net net.limits.stages tick) net.scene.switches) Leaves-whole

pub tick_text_all : {T : Type 0} {written : T → Option (List ℕ)} {faults : T → ℕ} {old sink : T} (net : Network) (tick switch : ℕ) → net.scene.switches ≤ switch →
    Leaves written faults old sink (late_text net net.limits.stages tick) (pieces (left_text net net.limits.stages tick) switch (net.scene.switches - switch)) → PutsAll written faults old sink (late_text net net.limits.stages tick)
tick_text_all net tick switch le so = Leaves-nothing so (pieces-none (left_text net net.limits.stages tick) switch net.scene.switches le)

pub end_text_first : {T : Type 0} {written : T → Option (List ℕ)} {faults : T → ℕ} {sink : T} (net : Network) →
    Leaves written faults sink sink (pieces (late_text net net.limits.stages) net.scene.stop net.limits.stages) (pieces (late_text net net.limits.stages) net.scene.stop (net.scene.stop + net.limits.stages - net.scene.stop))
end_text_first {T} {written} {faults} {sink} net =
    subst (λ (n : ℕ). Leaves written faults sink sink (pieces (late_text net net.limits.stages) net.scene.stop net.limits.stages) (pieces (late_text net net.limits.stages) net.scene.stop n)) (count net.scene.stop net.limits.stages) Leaves-whole
  where
    count : (a b : ℕ) → b ≡ a + b - a
    count a b = omega arith
