use Rattle.std.proofs.Common.{◌+◌, ℕ, List, Some, ap, sym, ◌∙◌, subst}
use Rattle.std.proofs.lemmas.Result.{on_ok_weaker}
use Rattle.lucid_net_laws.specs.Runs.{late_text}
use Rattle.lucid_tables.specs.Placed.{PlacedParts}
use Rattle.lucid_net.specs.Pipes.{piped_of}
use Rattle.lucid_net.specs.Seen.{lag_by}
use Rattle.lucid_net.specs.Sent.{net_of}
use Rattle.lucid_net.specs.Stands.{IsAt, IsPipedAt, IsWholeAt, placed_of, state_of}
use Rattle.lucid_net.specs.Writes.{Writes}
use Rattle.lucid_net.specs.declared.machines.Machines.{Machines}
use Rattle.lucid_net.proofs.Piping.{of_ok, ok_all}
use Rattle.lucid_net.proofs.Standing.{tick_written, ticked, turns_few}
use Rattle.lucid_net.proofs.machines.tick_all.Goals as goal

pub all_turns-requires-clause-kept : goal.all_turns-requires-clause-kept
all_turns-requires-clause-kept g c =
    let net = net_of c.args.world.now in
    let at : IsWholeAt net c.args.tick (state_of c.in-Whole.switches) = subst (λ (m : Machines). IsAt net c.args.tick m) c.in-Whole.is c.requires.is in
    at.kept

pub all_turns-requires-clause-few : goal.all_turns-requires-clause-few
all_turns-requires-clause-few g c =
    let scene = c.args.world.now.scene.now in
    turns_few scene.stop scene.switches 131072 c.args.tick c.requires.before c.requires.scene.stop

pub returns-in-Whole-clause-same : goal.returns-in-Whole-clause-same
returns-in-Whole-clause-same g c = ap placed_of (sym c.in-Whole.is)

pub returns-in-Whole-clause-is : goal.returns-in-Whole-clause-is
returns-in-Whole-clause-is g c =
    let net = net_of c.args.world.now in
    let at : IsWholeAt net c.args.tick (state_of c.in-Whole.switches) = subst (λ (m : Machines). IsAt net c.args.tick m) c.in-Whole.is c.requires.is in
    ok_all c.all_turns.result _ (λ u is. ticked net c.args.tick (state_of c.in-Whole.switches) (state_of c.all_turns.new.now) at
    (of_ok c.all_turns.result _ u is c.all_turns.ensures.after) (of_ok c.all_turns.result _ u is c.all_turns.ensures.kept))

pub returns-in-Whole-clause-writes : goal.returns-in-Whole-clause-writes
returns-in-Whole-clause-writes g c =
    let net = net_of c.args.world.now in
    let at : IsWholeAt net c.args.tick (state_of c.in-Whole.switches) = subst (λ (m : Machines). IsAt net c.args.tick m) c.in-Whole.is c.requires.is in
    subst (λ (l : List ℕ). Writes g.S.Sink.written g.S.Sink.faults c.args.sink.now c.all_turns.new.sink l c.all_turns.result)
    (tick_written net c.args.tick (state_of c.in-Whole.switches) at ∙ ap (λ (m : Machines). late_text net (lag_by net.limits (placed_of m)) c.args.tick) (sym c.in-Whole.is)) c.all_turns.ensures.writes

pub returns-in-Whole-clause-memory : goal.returns-in-Whole-clause-memory
returns-in-Whole-clause-memory g c = λ piped. absurd (piped (ap placed_of c.in-Whole.is))

pub all_turns-requires-in-Piped-clause-ready : goal.all_turns-requires-in-Piped-clause-ready
all_turns-requires-in-Piped-clause-ready g c =
    let net = net_of c.args.world.now in
    let at : IsPipedAt net c.in-Piped.pipes.placed.now c.args.tick (piped_of c.in-Piped.pipes) = subst (λ (m : Machines). IsAt net c.args.tick m) c.in-Piped.is c.requires.is in
    at.ready

pub all_turns-requires-in-Piped-clause-piped : goal.all_turns-requires-in-Piped-clause-piped
all_turns-requires-in-Piped-clause-piped g c =
    let net = net_of c.args.world.now in
    let at : IsPipedAt net c.in-Piped.pipes.placed.now c.args.tick (piped_of c.in-Piped.pipes) = subst (λ (m : Machines). IsAt net c.args.tick m) c.in-Piped.is c.requires.is in
    at.piped

pub returns-in-Piped-clause-same : goal.returns-in-Piped-clause-same
returns-in-Piped-clause-same g c = ap Some c.all_turns-in-Piped.ensures.same ∙ ap placed_of (sym c.in-Piped.is)

pub returns-in-Piped-clause-is : goal.returns-in-Piped-clause-is
returns-in-Piped-clause-is g c =
    let net = net_of c.args.world.now in
    let at : IsPipedAt net c.in-Piped.pipes.placed.now c.args.tick (piped_of c.in-Piped.pipes) = subst (λ (m : Machines). IsAt net c.args.tick m) c.in-Piped.is c.requires.is in
    on_ok_weaker c.all_turns-in-Piped.result
    (λ piped. subst (λ (x : PlacedParts). IsPipedAt net x (c.args.tick + 1) (piped_of c.all_turns-in-Piped.new.now)) (sym c.all_turns-in-Piped.ensures.same) (record { ready = at.ready; piped = piped }))
    c.all_turns-in-Piped.ensures.piped

pub returns-in-Piped-clause-writes : goal.returns-in-Piped-clause-writes
returns-in-Piped-clause-writes g c =
    let net = net_of c.args.world.now in
    subst (λ (m : Machines). Writes g.S.Sink.written g.S.Sink.faults c.args.sink.now c.all_turns-in-Piped.new.sink (late_text net (lag_by net.limits (placed_of m)) c.args.tick) c.all_turns-in-Piped.result)
    (sym c.in-Piped.is) c.all_turns-in-Piped.ensures.writes

pub returns-in-Piped-clause-memory : goal.returns-in-Piped-clause-memory
returns-in-Piped-clause-memory g c = λ piped. c.all_turns-in-Piped.ensures.memory
