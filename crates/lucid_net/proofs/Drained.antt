-- Switches with pipes once the last tick is done.
use Rattle.std.proofs.Common.{◌≡◌, ℕ, suc, ◌+◌, ◌-◌, ◌*◌, ◌^◌, ◌<◌, ◌≤◌, List, [], length, get_or, set, None, IfSome, sym, ◌∙◌, ap, subst, add-one, arith}
use Rattle.std.proofs.lemmas.List.{length-map}
use Rattle.lucid_net_laws.proofs.Bounds.{most_lost, most_pending}
use Rattle.lucid_net_laws.proofs.Draining.{drains_first, drains_next, keeps_draining}
use Rattle.lucid_net_laws.proofs.Whole.{clock_self}
use Rattle.lucid_net_laws.specs.Draining.{IsDraining, draining_count, draining_turn}
use Rattle.lucid_net_laws.specs.Fitting.{fits}
use Rattle.lucid_net_laws.specs.Flying.{Flying}
use Rattle.lucid_net_laws.specs.Runs.{leaving, losses_by, made_by}
use Rattle.lucid_net_laws.specs.Stages.{fed}
use Rattle.lucid_net_spec.proofs.Numbers.{by_number}
use Rattle.lucid_net_spec.specs.Laws.{nth}
use Rattle.lucid_net_spec.specs.Log.{State, ticks}
use Rattle.lucid_net_spec.specs.Ways.{Network}
use Rattle.lucid_net_laws.specs.Does.{IsGood}
use Rattle.lucid_net_laws.specs.Rows.{Cells, Rows, first_cells, rows_in, step_of}
use Rattle.lucid_net_laws.specs.PipeStages.{stages_of}
use Rattle.lucid_pipe.specs.Packets.{Packet}
use Rattle.lucid_pipe.specs.Pipe.{PipeParts}
use Rattle.lucid_pipe_laws.specs.Moves.{advance}
use Rattle.lucid_pipe_laws.specs.Stream.{picture}
use Rattle.lucid_tables.specs.Placed.{PlacedParts}
use Rattle.lucid_net.specs.Leaving.{Fits, left}
use Rattle.lucid_net.specs.Pipes.{IsDrained, IsPiped, IsReady, Piped, flying_of}
use Rattle.lucid_net.specs.Rows.{IsOf}
use Rattle.lucid_net.proofs.Piping.{RowsAre, all_get, all_set, left_fits, left_is, map_get, map_set, rows_some}

both : (a b n : ℕ) → (a + b) * n ≡ a * n + b * n
both a b n = grind arith

pub drained_within : (net : Network) (placed : PlacedParts) (tick switch waiting : ℕ) (now : Piped) → switch < net.scene.switches → IsDrained net placed tick switch now waiting → switch < length now.pipes
drained_within net placed tick switch waiting now lt is = omega (arith, lt, is.draining.long, length-map now.pipes (λ (q : PipeParts). (rows_in q)))

drained_rows : (net : Network) (placed : PlacedParts) (tick switch waiting : ℕ) (now : Piped) (p : PipeParts) → switch < net.scene.switches → IsDrained net placed tick switch now waiting →
    p ≡ get_or now.pipes switch p → RowsAre net placed tick switch (rows_in p)
drained_rows net placed tick switch waiting now p lt is here =
    sym (map_get (λ (q : PipeParts). (rows_in q)) now.pipes switch p [] (drained_within net placed tick switch waiting now lt is) here)
    ∙ is.draining.pipes switch lt ∙ ap (picture (step_of placed) (first_cells placed) (fed net (stages_of placed) switch)) (clock_self tick switch)

drained_placed : (net : Network) (placed : PlacedParts) (tick switch waiting : ℕ) (now : Piped) (p : PipeParts) → switch < net.scene.switches → IsDrained net placed tick switch now waiting →
    p ≡ get_or now.pipes switch p → p.placed ≡ placed
drained_placed net placed tick switch waiting now p lt is here =
    ap (λ (q : PipeParts). q.placed) (subst (IsOf placed) (sym here) (all_get (IsOf placed) now.pipes switch p is.same (drained_within net placed tick switch waiting now lt is)))

-- the conditions and the results of the turn of a switch with this pipe
pub record Drains (net : Network) (placed : PlacedParts) (tick switch waiting : ℕ) (now : Piped) (p : PipeParts) : Type 0 where
  pub is : left p.placed (rows_in p) ≡ leaving net net.limits.stages switch tick
  pub some : 0 < length (rows_in p)
  pub fits : IfSome (left p.placed (rows_in p)) (Fits net.parts)
  pub room : now.lost + 8 < 2 ^ 64
  pub few : waiting + length (made_by net (left p.placed (rows_in p))) < 2 ^ 64
  pub own : p.placed ≡ placed
  pub next : (q : PipeParts) (lost : ℕ) → IsOf placed q → (rows_in q) ≡ (advance (step_of p.placed) None (rows_in p)).0 → lost ≡ now.lost + losses_by net (left p.placed (rows_in p)) →
      IsDrained net placed tick (switch + 1) (record { pipes = set now.pipes switch q; pending = now.pending; entered = now.entered; lost = lost }) (waiting + length (made_by net (left p.placed (rows_in p))))

-- more events are queued than are counted so far
total : (net : Network) (placed : PlacedParts) → IsReady net placed → length (ticks net net.scene.stop).pending ≤ 2 ^ 32 + 8 * 131072
total net placed ready =
    let same : length (nth net (net.scene.stop * net.scene.switches + 0)).pending ≡ length (ticks net net.scene.stop).pending = ap (λ (w : State). length w.pending) (by_number net net.scene.stop 0 (omega arith)) in
    omega (arith, same, most_pending net (net.scene.stop * net.scene.switches + 0) ready.few, ready.events, ready.ticks)

written_few : (net : Network) (tick switch : ℕ) → net.scene.stop * net.scene.switches ≤ 131072 → tick < net.scene.stop + net.limits.stages → switch < net.scene.switches →
    tick * net.scene.switches + switch - net.limits.stages * net.scene.switches < 131072
written_few net tick switch few soon lt =
    let n = net.scene.switches in
    let whole : tick + 1 + (net.scene.stop + net.limits.stages - (tick + 1)) ≡ net.scene.stop + net.limits.stages = omega (arith, soon) in
    omega (arith, few, lt, ap (λ (m : ℕ). m * n) whole, both (tick + 1) (net.scene.stop + net.limits.stages - (tick + 1)) n, both tick 1 n, both net.scene.stop net.limits.stages n)

pub drains : (net : Network) (placed : PlacedParts) (tick switch waiting : ℕ) (now : Piped) (p : PipeParts) → IsReady net placed → switch < net.scene.switches → net.scene.stop ≤ tick →
    tick < net.scene.stop + net.limits.stages → IsDrained net placed tick switch now waiting → p ≡ get_or now.pipes switch p → Drains net placed tick switch waiting now p
drains net placed tick switch waiting now p ready lt late soon is here = record {
  is = gone;
  own = own;
  some = rows_some net placed tick switch (rows_in p) ready are;
  fits = subst (λ (x : PlacedParts). IfSome (left x (rows_in p)) (Fits net.parts)) (sym own) (left_fits net placed tick switch (rows_in p) ready lt are);
  room = omega (arith, is.draining.lost, most_lost net (tick * net.scene.switches + switch - net.limits.stages * net.scene.switches) ready.few, written_few net tick switch ready.ticks soon lt);
  few = omega (arith, kept.counted, total net placed ready, count);
  next = λ q lost same rows losses. record {
    draining =
        subst (λ (k : ℕ). IsDraining net (stages_of placed) tick k (flying_of (new q lost)) (waiting + length (made_by net (left p.placed (rows_in p))))) (sym (add-one switch))
        (subst (λ (f : Flying Cells Packet). IsDraining net (stages_of placed) tick (suc switch) f (waiting + length (made_by net (left p.placed (rows_in p))))) (sym (turned q lost rows losses))
        (subst (λ (m : ℕ). IsDraining net (stages_of placed) tick (suc switch) (draining_turn net (stages_of placed) switch at) (waiting + m)) count kept));
    same = all_set (IsOf placed) now.pipes switch q is.same same;
    entered = is.entered;
  };
}
  where
    own : p.placed ≡ placed
    own = drained_placed net placed tick switch waiting now p lt is here

    are : RowsAre net placed tick switch (rows_in p)
    are = drained_rows net placed tick switch waiting now p lt is here

    gone : left p.placed (rows_in p) ≡ leaving net net.limits.stages switch tick
    gone = subst (λ (x : PlacedParts). left x (rows_in p) ≡ leaving net net.limits.stages switch tick) (sym own) (left_is net placed tick switch (rows_in p) ready lt are)

    at : Flying Cells Packet
    at = flying_of now

    row : (rows_in p) ≡ get_or at.pipes switch []
    row = sym (map_get (λ (x : PipeParts). (rows_in x)) now.pipes switch p [] (drained_within net placed tick switch waiting now lt is) here)

    kept : IsDraining net (stages_of placed) tick (suc switch) (draining_turn net (stages_of placed) switch at) (waiting + draining_count net (stages_of placed) switch at)
    kept = keeps_draining net (stages_of placed) (IsGood placed net.parts) (fits net.parts) tick switch waiting at ready.sound lt late soon is.draining

    count : draining_count net (stages_of placed) switch at ≡ length (made_by net (left p.placed (rows_in p)))
    count = ap (λ (r : Rows). length (made_by net (left placed r))) (sym row) ∙ ap (λ (x : PlacedParts). length (made_by net (left x (rows_in p)))) (sym own)

    new : PipeParts → ℕ → Piped
    new q lost = record { pipes = set now.pipes switch q; pending = now.pending; entered = now.entered; lost = lost }

    By : PlacedParts → Rows → Flying Cells Packet
    By x r = record { pipes = set at.pipes switch (advance (step_of x) None r).0; pending = now.pending; entered = now.entered; lost = now.lost + losses_by net (left x r) }

    turned : (q : PipeParts) (lost : ℕ) → (rows_in q) ≡ (advance (step_of p.placed) None (rows_in p)).0 → lost ≡ now.lost + losses_by net (left p.placed (rows_in p)) → flying_of (new q lost) ≡ draining_turn net (stages_of placed) switch at
    turned q lost rows losses =
        ap (λ (l : List Rows). record { pipes = l; pending = now.pending; entered = now.entered; lost = lost }) (map_set (λ (x : PipeParts). (rows_in x)) now.pipes switch q ∙ ap (λ (r : Rows). set at.pipes switch r) rows)
        ∙ ap (λ (k : ℕ). record { pipes = (By p.placed (rows_in p)).pipes; pending = now.pending; entered = now.entered; lost = k }) losses
        ∙ ap (λ (x : PlacedParts). By x (rows_in p)) own ∙ ap (By placed) row

pub drained_first : (net : Network) (placed : PlacedParts) (now : Piped) → IsPiped net placed net.scene.stop 0 now → IsDrained net placed net.scene.stop 0 now (length now.pending)
drained_first net placed now is = record {
  draining = drains_first net (stages_of placed) (flying_of now) is.flying;
  same = is.same;
  entered = is.flying.entered ∙ ap (λ (w : State). w.entered) (by_number net net.scene.stop 0 (omega arith));
}

pub drained_next : (net : Network) (placed : PlacedParts) (tick waiting : ℕ) (now : Piped) → IsDrained net placed tick net.scene.switches now waiting → IsDrained net placed (tick + 1) 0 now waiting
drained_next net placed tick waiting now is = record {
  draining = subst (λ (t : ℕ). IsDraining net (stages_of placed) t 0 (flying_of now) waiting) (sym (add-one tick)) (drains_next net (stages_of placed) tick waiting (flying_of now) is.draining);
  same = is.same;
  entered = is.entered;
}
