-- Turns by their numbers are those of tick after tick and switch after switch.
use Rattle.std.proofs.Common.{◌≡◌, ℕ, zero, suc, ◌+◌, ◌*◌, ◌/◌, ◌%◌, ◌<◌, ◌≤◌, ◌∙◌, ap, arith}
use Rattle.std.proofs.lemmas.Nat.{div-mul-add, mod-mul-add}
use Rattle.lucid_net_spec.specs.Laws.{TurnsByNumber, nth}
use Rattle.lucid_net_spec.specs.Log.{State, ticks, turn, turns}
use Rattle.lucid_net_spec.specs.Ways.{Network}

-- number tick * n + switch is that of this turn
one_turn : (net : Network) (tick switch : ℕ) (now : State) → switch < net.scene.switches →
    (let n = net.scene.switches in turn net ((tick * n + switch) / n) ((tick * n + switch) % n) now ≡ turn net tick switch now)
one_turn net tick switch now below =
    let n = net.scene.switches in
    ap (λ (t : ℕ). turn net t ((tick * n + switch) % n) now) (div-mul-add tick n switch below) ∙ ap (λ (s : ℕ). turn net tick s now) (mod-mul-add tick n switch below)

by_switches : (net : Network) (tick switch : ℕ) → switch ≤ net.scene.switches → nth net (tick * net.scene.switches) ≡ ticks net tick → nth net (tick * net.scene.switches + switch) ≡ turns net tick switch (ticks net tick)
by_switches net tick zero le first = ap (nth net) none ∙ first
  where
    none : tick * net.scene.switches + zero ≡ tick * net.scene.switches
    none = omega arith
by_switches net tick (suc switch) le first =
    ap (nth net) next
    ∙ one_turn net tick switch (nth net (tick * net.scene.switches + switch)) (omega (arith, le))
    ∙ ap (turn net tick switch) (by_switches net tick switch (omega (arith, le)) first)
  where
    next : tick * net.scene.switches + suc switch ≡ suc (tick * net.scene.switches + switch)
    next = omega arith

by_ticks : (net : Network) (tick : ℕ) → nth net (tick * net.scene.switches) ≡ ticks net tick
by_ticks net zero = ap (nth net) none
  where
    none : zero * net.scene.switches ≡ zero
    none = omega arith
by_ticks net (suc tick) = ap (nth net) next ∙ by_switches net tick net.scene.switches (omega arith) (by_ticks net tick)
  where
    next : suc tick * net.scene.switches ≡ tick * net.scene.switches + net.scene.switches
    next = grind arith

pub by_number : (net : Network) → TurnsByNumber net
by_number net tick switch le = by_switches net tick switch le (by_ticks net tick)
