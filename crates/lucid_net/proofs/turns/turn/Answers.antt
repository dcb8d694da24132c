use Rattle.std.proofs.Common.{◌+◌, List, ℕ, refl, sym, ◌∙◌, ap, subst}
use Rattle.lucid_net_spec.specs.Pieces.{untold}
use Rattle.lucid_queue.specs.declared.pending.Pending.{Pending}
use Rattle.lucid_net.specs.Kept.{IsKept}
use Rattle.lucid_net.specs.Sent.{net_of}
use Rattle.lucid_net.specs.Stands.{state_of}
use Rattle.lucid_net.specs.Writes.{Writes}
use Rattle.lucid_net.proofs.Turning.{passed_kept, popped_fits, popped_kept, turn_enters, turn_passes, unfound_pending, with_pending}
use Rattle.lucid_net.proofs.turns.turn.Goals as goal

pub enter-requires-clause-kept : goal.enter-requires-clause-kept
enter-requires-clause-kept g c =
    subst (λ (ps : List Pending). IsKept c.args.world.now.core.now c.args.world.now.scene.now.switches c.args.tick c.args.switch (with_pending (state_of c.args.now.now) ps)) (sym c.pop_ready.ensures.others)
    (popped_kept c.args.world.now.core.now c.args.world.now.scene.now.switches c.args.tick c.args.switch (state_of c.args.now.now) c.requires.kept)

pub enter-requires-clause-fits : goal.enter-requires-clause-fits
enter-requires-clause-fits g c =
    popped_fits c.args.world.now.core.now c.args.world.now.scene.now.switches c.args.tick c.args.switch (state_of c.args.now.now) c.in-Some.p c.requires.kept (sym c.in-Some.ensures.first)

pub returns-in-None-clause-after : goal.returns-in-None-clause-after
returns-in-None-clause-after g c =
    ap (with_pending (state_of c.args.now.now)) (c.pop_ready.ensures.others ∙ unfound_pending c.args.tick c.args.switch c.args.now.now.queue (sym c.in-None.ensures.first))
    ∙ sym (ap untold (turn_passes (net_of c.args.world.now) c.args.tick c.args.switch (state_of c.args.now.now) (sym c.in-None.ensures.first)))

pub returns-in-None-clause-kept : goal.returns-in-None-clause-kept
returns-in-None-clause-kept g c =
    subst (λ (ps : List Pending). IsKept c.args.world.now.core.now c.args.world.now.scene.now.switches c.args.tick (c.args.switch + 1) (with_pending (state_of c.args.now.now) ps))
    (sym (c.pop_ready.ensures.others ∙ unfound_pending c.args.tick c.args.switch c.args.now.now.queue (sym c.in-None.ensures.first)))
    (passed_kept c.args.world.now.core.now c.args.world.now.scene.now.switches c.args.tick c.args.switch (state_of c.args.now.now) c.requires.kept)

pub returns-in-Some-clause-writes : goal.returns-in-Some-clause-writes
returns-in-Some-clause-writes g c =
    subst (λ (text : List ℕ). Writes g.S.Sink.written g.S.Sink.faults c.args.sink.now c.enter.new.sink text c.enter.result)
    (sym (turn_enters (net_of c.args.world.now) c.args.tick c.args.switch (state_of c.args.now.now) c.in-Some.p refl (sym c.in-Some.ensures.first))) c.enter.ensures.writes
