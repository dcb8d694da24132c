use Rattle.std.proofs.Common.{◌+◌, ◌-◌, ◌<◌, ℕ, List, Err, refl, ◌∙◌, sym, subst}
use Rattle.lucid_net_laws.specs.Runs.{late_text}
use Rattle.lucid_net_spec.proofs.Telling.{pieces-next}
use Rattle.lucid_net_spec.specs.Pieces.{pieces}
use Rattle.lucid_net.specs.Seen.{lag, network}
use Rattle.lucid_net.specs.Writes.{Writes}
use Rattle.lucid_net.proofs.Running.{same_made, tick_piece, ticking_first, ticking_next}
use Rattle.lucid_net.proofs.Stopped.{Writes-cut, lag_is, stops_at}
use Rattle.lucid_net.proofs.Telling.{Writes-stop}
use Rattle.lucid_net.proofs.net.all_ticks.Goals as goal

pub loop-tick-init : goal.loop-tick-init
loop-tick-init g c = (λ none. refl, ticking_first g.S.Sink.written g.S.Sink.faults c.args.sink.now (g.V.Watch.seen c.args.watch.now) c.args.net.now c.requires.begins c.requires.sound)

pub returns-in-Err-clause-writes : goal.returns-in-Err-clause-writes
returns-in-Err-clause-writes g c =
    let begun = c.args.net.now in
    let stop : ℕ = begun.scene.stop in
    let done : ℕ = c.loop-tick._tick in
    let below : c.loop-tick._tick < c.args.net.now.scene.stop = subst (λ (n : ℕ). c.loop-tick._tick < n) c.stop-stop.ensures c.loop-tick-test.true in
    let text = late_text (network begun) (lag begun) in
    Writes-stop g.S.Sink.written g.S.Sink.faults c.args.sink.now c.loop-tick.sink c.tick.new.sink (pieces text 0 stop) (pieces text done (stop - done)) (text done)
    (pieces text (done + 1) (stop - (done + 1))) _ c.in-Err.error refl c.loop-tick.invariant.1.text
    (subst (λ (l : List ℕ). Writes g.S.Sink.written g.S.Sink.faults c.loop-tick.sink c.tick.new.sink l (Err c.in-Err.error))
    (tick_piece begun c.loop-tick.net done c.loop-tick.invariant.1.same c.loop-tick.invariant.1.at) c.in-Err.ensures.writes)
    (pieces-next text done stop below)

pub loop-tick-preserved : goal.loop-tick-preserved
loop-tick-preserved g c =
    let below : c.loop-tick._tick < c.args.net.now.scene.stop = subst (λ (n : ℕ). c.loop-tick._tick < n) c.stop-stop.ensures c.loop-tick-test.true in (
      λ none. c.show.ensures.still (c.in-Ok.ensures.same.placed ∙ c.loop-tick.invariant.1.same.placed ∙ none) ∙ c.loop-tick.invariant.0 none,
      ticking_next (g.V.Watch.seen c.args.watch.now) (g.V.Watch.seen c.loop-tick.watch) (g.V.Watch.seen c.show.new.watch) c.args.net.now c.loop-tick.net c.tick.new.self c.loop-tick._tick below c.loop-tick.invariant.1 c.show.ensures.shows c.in-Ok.ensures.same c.in-Ok.ensures.failed
          c.in-Ok.ensures.at c.in-Ok.ensures.writes,
    )

pub returns-in-Err-clause-sights : goal.returns-in-Err-clause-sights
returns-in-Err-clause-sights g c = (c.loop-tick._tick, c.loop-tick.invariant.1.early, c.loop-tick.invariant.1.sights)

pub returns-in-Err-clause-memory : goal.returns-in-Err-clause-memory
returns-in-Err-clause-memory g c = λ piped is.
    let begun = c.args.net.now in
    let done : ℕ = c.loop-tick._tick in
    let same = c.loop-tick.invariant.1.same in
    let below : done < begun.scene.stop = subst (λ (n : ℕ). done < n) c.stop-stop.ensures c.loop-tick-test.true in
    let cut = Writes-cut g.S.Sink.written g.S.Sink.faults c.loop-tick.sink c.tick.new.sink (late_text (network begun) (lag begun) done) c.in-Err.error is
    (subst (λ (l : List ℕ). Writes g.S.Sink.written g.S.Sink.faults c.loop-tick.sink c.tick.new.sink l (Err c.in-Err.error)) (tick_piece begun c.loop-tick.net done same c.loop-tick.invariant.1.at) c.in-Err.ensures.writes) in
    stops_at g.S.Sink.written g.S.Sink.faults c.args.sink.now c.loop-tick.sink c.tick.new.sink (network begun) (lag begun) done below c.loop-tick.invariant.1.text cut.0
    (lag_is begun.limits begun.placed piped) cut.1
    (same_made begun c.loop-tick.net done same c.loop-tick.invariant.1.at (c.in-Err.ensures.memory (λ none. piped (sym same.placed ∙ none)) is))
