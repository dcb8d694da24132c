use Rattle.std.proofs.Common.{Option, ◌∙◌, ap, subst, arith}
use Rattle.std.proofs.lemmas.Grind.{elements}
use Rattle.lucid_net_laws.specs.Runs.{made_by, text_by}
use Rattle.lucid_net_spec.specs.Ways.{Run}
use Rattle.lucid_net_laws.specs.Rows.{rows_in}
use Rattle.lucid_net.specs.Pipes.{piped_of}
use Rattle.lucid_net.specs.Sent.{net_of}
use Rattle.lucid_net.specs.Writes.{Writes}
use Rattle.lucid_net.proofs.Piping.{few_entered, few_lost, of_ok, ok_all, rows_at, rows_some, turn_piped, with_own}
use Rattle.lucid_net.proofs.pipes.turn.Goals as goal

pub pipe_turn-requires-clause-some : goal.pipe_turn-requires-clause-some
pipe_turn-requires-clause-some g c =
    let net = net_of c.args.world.now in
    let p = c.index_mut.result.now in
    rows_some net c.args.now.now.placed.now c.args.tick c.args.switch (rows_in p) c.requires.ready
    (rows_at net c.args.now.now.placed.now c.args.tick c.args.switch (piped_of c.args.now.now) p c.requires.within c.requires.piped c.index_mut.ensures.value)

pub pipe_turn-requires-clause-fits : goal.pipe_turn-requires-clause-fits
pipe_turn-requires-clause-fits g c =
    let net = net_of c.args.world.now in
    let p = c.index_mut.result.now in
    let now = piped_of c.args.now.now in
    let placed = c.args.now.now.placed.now in
    (with_own net placed c.args.tick c.args.switch now p c.requires.ready c.requires.within c.requires.piped c.index_mut.ensures.value).fits

pub pipe_turn-requires-clause-kept : goal.pipe_turn-requires-clause-kept
pipe_turn-requires-clause-kept g c =
    let net = net_of c.args.world.now in
    let p = c.index_mut.result.now in
    let now = piped_of c.args.now.now in
    let placed = c.args.now.now.placed.now in
    (with_own net placed c.args.tick c.args.switch now p c.requires.ready c.requires.within c.requires.piped c.index_mut.ensures.value).kept

pub pipe_turn-requires-clause-input : goal.pipe_turn-requires-clause-input
pipe_turn-requires-clause-input g c =
    let net = net_of c.args.world.now in
    let p = c.index_mut.result.now in
    let now = piped_of c.args.now.now in
    let placed = c.args.now.now.placed.now in
    (with_own net placed c.args.tick c.args.switch now p c.requires.ready c.requires.within c.requires.piped c.index_mut.ensures.value).input c.requires.before

pub pipe_turn-requires-clause-lost : goal.pipe_turn-requires-clause-lost
pipe_turn-requires-clause-lost g c = few_lost (net_of c.args.world.now) c.args.now.now.placed.now c.args.tick c.args.switch (piped_of c.args.now.now) c.requires.ready c.requires.before c.requires.within c.requires.piped

pub pipe_turn-requires-clause-entered : goal.pipe_turn-requires-clause-entered
pipe_turn-requires-clause-entered g c = few_entered (net_of c.args.world.now) c.args.now.now.placed.now c.args.tick c.args.switch (piped_of c.args.now.now) c.requires.ready c.requires.before c.requires.within c.requires.piped

pub returns-clause-piped : goal.returns-clause-piped
returns-clause-piped g c =
    ok_all c.pipe_turn.result _ (λ u is.
    turn_piped (net_of c.args.world.now) c.args.now.now.placed.now c.args.tick c.args.switch (piped_of c.args.now.now) c.index_mut.result.now c.pipe_turn.new.pipe c.pipe_turn.new.queue
    c.pipe_turn.new.counts.entered c.pipe_turn.new.counts.lost c.requires.ready c.requires.within c.requires.before c.requires.piped c.index_mut.ensures.value (of_ok c.pipe_turn.result _ u is c.pipe_turn.ensures.of)
    (of_ok c.pipe_turn.result _ u is c.pipe_turn.ensures.rows) (of_ok c.pipe_turn.result _ u is c.pipe_turn.ensures.queue) (of_ok c.pipe_turn.result _ u is c.pipe_turn.ensures.kept)
    (of_ok c.pipe_turn.result _ u is c.pipe_turn.ensures.entered) (of_ok c.pipe_turn.result _ u is c.pipe_turn.ensures.lost))

pub returns-clause-writes : goal.returns-clause-writes
returns-clause-writes g c =
    let net = net_of c.args.world.now in
    subst (λ (o : Option Run). Writes g.S.Sink.written g.S.Sink.faults c.args.sink.now c.pipe_turn.new.sink (text_by net o) c.pipe_turn.result)
    (with_own net c.args.now.now.placed.now c.args.tick c.args.switch (piped_of c.args.now.now) c.index_mut.result.now c.requires.ready c.requires.within c.requires.piped c.index_mut.ensures.value).is
    c.pipe_turn.ensures.writes

pub returns-clause-memory : goal.returns-clause-memory
returns-clause-memory g c = λ is none.
    let net = net_of c.args.world.now in
    c.pipe_turn.ensures.memory is
    (ap (made_by net) (with_own net c.args.now.now.placed.now c.args.tick c.args.switch (piped_of c.args.now.now) c.index_mut.result.now c.requires.ready c.requires.within c.requires.piped c.index_mut.ensures.value).is
    ∙ none)

pub pipe_turn-requires-clause-same : goal.pipe_turn-requires-clause-same
pipe_turn-requires-clause-same g c =
    (with_own (net_of c.args.world.now) c.args.now.now.placed.now c.args.tick c.args.switch (piped_of c.args.now.now) c.index_mut.result.now c.requires.ready c.requires.within c.requires.piped c.index_mut.ensures.value).own

pub index_mut-requires : goal.index_mut-requires
index_mut-requires g c = grind (arith, elements)
