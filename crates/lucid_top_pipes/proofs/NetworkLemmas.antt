-- A network that was started is the one that the log speaks of, and what it showed are its sights.
use Rattle.std.proofs.Common.{◌≡◌, ℕ, zero, suc, ◌≤◌, inl, inr, List, [], ◌++◌, Some, Err, Result, Ok, refl, sym, ◌∙◌, ap, subst, arith, append-nil, append_assoc}
use Rattle.std.proofs.lemmas.Bool.{cases_order}
use Rattle.lucid_conf.specs.declared.limits.Limits.{Limits}
use Rattle.lucid_conf.specs.declared.scene.Scene.{Scene}
use Rattle.lucid_core.specs.Parts.{CoreParts}
use Rattle.lucid_net.specs.Seen.{IsStart, network}
use Rattle.lucid_net.specs.Seen as net
use Rattle.lucid_net.specs.Sights.{ShowsRun, sights, sights_to}
use Rattle.lucid_pipe.specs.Sights.{ShowsAll}
use Rattle.lucid_net.specs.declared.error.NetError.{NetError}
use Rattle.lucid_net.specs.Wanting.{Stopped}
use Rattle.lucid_net_spec.specs.Log.{whole}
use Rattle.lucid_net_spec.specs.Ways.{Network}
use Rattle.lucid_pipe.specs.declared.sight.Sight.{Sight}
use Rattle.lucid_tables.specs.Placed.{PlacedParts}
use Rattle.lucid_top_pipes.specs.Watching.{Seen, ShowsSome}
use Rattle.std.specs.Prelude.{Option}

pub network-is : {core : CoreParts} {scene : Scene} {limits : Limits} {placed : Option PlacedParts} (n : net.Seen) → IsStart core scene limits placed n → network n ≡ whole core scene limits
network-is {core} {scene} {limits} {placed} n is =
    ap (λ (p : CoreParts). whole p n.scene n.limits) is.parts ∙ ap (λ (s : Scene). whole core s n.limits) is.scene ∙ ap (λ (l : Limits). whole core scene l) is.limits

-- the sights after the first ticks are the first of all
sights-first : (n : Network) (placed : Option PlacedParts) (tick stop : ℕ) → tick ≤ stop → (rest : List Sight) × (sights_to n placed stop ≡ sights_to n placed tick ++ rest)
sights-first n placed zero stop le = (sights_to n placed stop, refl)
sights-first n placed (suc tick) zero le = absurd (omega (arith, le))
sights-first n placed (suc tick) (suc stop) le = elim (cases_order tick stop) [
  | inl same ↦ ([], ap (λ (k : ℕ). sights_to n placed (suc k)) (sym same) ∙ sym (append-nil (sights_to n placed (suc tick))))
  | inr apart ↦ elim apart [
    | inl lt ↦
        let before = sights-first n placed (suc tick) stop (omega (arith, lt)) in (
          before.0 ++ sights n placed (suc stop),
          ap (λ (l : List Sight). l ++ sights n placed (suc stop)) before.1 ∙ append_assoc (sights_to n placed (suc tick)) before.0 (sights n placed (suc stop)),
        )
    | inr gt ↦ absurd (omega (arith, le, gt))
  ]
]

module _ (core : CoreParts) (placed : PlacedParts) (scene : Scene) (limits : Limits) where
  -- the network of these pipelines has begun
  abbrev pub Starts : net.Seen → Type 0
  Starts n = IsStart core scene limits (Some placed) n

  -- what it showed is what the pipelines show
  shown-of : (n : net.Seen) (old new : Seen) (result : Result (Unit {0}) NetError) → Starts n → ShowsRun (network n) n.placed old new result →
      ShowsRun (whole core scene limits) (Some placed) old new result
  shown-of n old new result is shows =
      subst (λ (p : Option PlacedParts). ShowsRun (whole core scene limits) p old new result) is.placed
      (subst (λ (w : Network). ShowsRun w n.placed old new result) (network-is n is) shows)

  pub all-shown : (n : net.Seen) (old new : Seen) → Starts n → ShowsRun (network n) n.placed old new (Ok tt) → ShowsAll old new (sights_to (whole core scene limits) (Some placed) scene.stop)
  all-shown n old new is shows = shown-of n old new (Ok tt) is shows

  pub some-shown : (n : net.Seen) (old new : Seen) (e : NetError) → Starts n → ShowsRun (network n) n.placed old new (Err e) →
      ShowsSome old new (sights_to (whole core scene limits) (Some placed) scene.stop)
  some-shown n old new e is shows =
      let some = shown-of n old new (Err e) is shows in
      let all = sights-first (whole core scene limits) (Some placed) some.0 scene.stop some.1 in
      record {
        first = sights_to (whole core scene limits) (Some placed) some.0;
        rest = all.0;
        parts = all.1;
        shows = some.2;
      }

  -- where it stopped, so may the network of handlers that run whole
  pub stops-is : {W : Type 0} (written : W → Option (List ℕ)) (faults : W → ℕ) (out out' : W) (n : net.Seen) → Starts n → Stopped written faults out out' (network n) →
      Stopped written faults out out' (whole core scene limits)
  stops-is written faults out out' n is stops = subst (Stopped written faults out out') (network-is n is) stops
