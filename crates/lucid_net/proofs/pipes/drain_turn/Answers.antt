use Rattle.std.proofs.Common.{◌+◌, ◌^◌, ◌<◌, ℕ, Option, length, set, sym, subst, arith}
use Rattle.std.proofs.lemmas.Grind.{elements}
use Rattle.lucid_io.proofs.Leaves.{on_err}
use Rattle.lucid_io.specs.Puts.{PutsAll, PutsPart}
use Rattle.lucid_net_laws.specs.Runs.{made_by, text_by}
use Rattle.lucid_net_spec.specs.Ways.{Run}
use Rattle.lucid_net_laws.specs.Rows.{rows_in}
use Rattle.lucid_net.specs.Leaving.{left}
use Rattle.lucid_net.specs.Pipes.{IsDrained, piped_of}
use Rattle.lucid_net.specs.Sent.{net_of}
use Rattle.lucid_net.proofs.Drained.{drains}
use Rattle.lucid_net.proofs.pipes.drain_turn.Goals as goal

pub drain_pipe-requires-clause-some : goal.drain_pipe-requires-clause-some
drain_pipe-requires-clause-some g c =
    (drains (net_of c.args.world.now) c.args.now.now.placed.now c.args._tick c.args.switch c.args.waiting (piped_of c.args.now.now) c.index_mut.result.now c.requires.ready c.requires.within c.requires.late c.requires.soon
    c.requires.drained c.index_mut.ensures.value).some

pub drain_pipe-requires-clause-fits : goal.drain_pipe-requires-clause-fits
drain_pipe-requires-clause-fits g c =
    (drains (net_of c.args.world.now) c.args.now.now.placed.now c.args._tick c.args.switch c.args.waiting (piped_of c.args.now.now) c.index_mut.result.now c.requires.ready c.requires.within c.requires.late c.requires.soon
    c.requires.drained c.index_mut.ensures.value).fits

pub drain_pipe-requires-clause-room : goal.drain_pipe-requires-clause-room
drain_pipe-requires-clause-room g c =
    (drains (net_of c.args.world.now) c.args.now.now.placed.now c.args._tick c.args.switch c.args.waiting (piped_of c.args.now.now) c.index_mut.result.now c.requires.ready c.requires.within c.requires.late c.requires.soon
    c.requires.drained c.index_mut.ensures.value).room

pub returns-in_err-made-clause-part : goal.returns-in_err-made-clause-part
returns-in_err-made-clause-part g c =
    let d = drains (net_of c.args.world.now) c.args.now.now.placed.now c.args._tick c.args.switch c.args.waiting (piped_of c.args.now.now) c.index_mut.result.now c.requires.ready c.requires.within c.requires.late c.requires.soon
    c.requires.drained c.index_mut.ensures.value in
    on_err _ (subst (λ (o : Option Run). PutsPart g.S.Sink.written g.S.Sink.faults c.args.sink.now c.drain_pipe.new.sink (text_by (net_of c.args.world.now) o)) d.is c.in_err-made.ensures.part)

pub overflow_add-result : goal.overflow_add-result
overflow_add-result g c =
    let d = drains (net_of c.args.world.now) c.args.now.now.placed.now c.args._tick c.args.switch c.args.waiting (piped_of c.args.now.now) c.index_mut.result.now c.requires.ready c.requires.within c.requires.late c.requires.soon
    c.requires.drained c.index_mut.ensures.value in
    let few : c.args.waiting + c.in_ok-made.made < 2 ^ 64 = subst (λ (m : ℕ). c.args.waiting + m < 2 ^ 64) (sym c.in_ok-made.ensures.made) d.few in
    omega (arith, few)

pub returns-clause-drained : goal.returns-clause-drained
returns-clause-drained g c =
    let d = drains (net_of c.args.world.now) c.args.now.now.placed.now c.args._tick c.args.switch c.args.waiting (piped_of c.args.now.now) c.index_mut.result.now c.requires.ready c.requires.within c.requires.late c.requires.soon
    c.requires.drained c.index_mut.ensures.value in
    let is = d.next c.drain_pipe.new.pipe c.drain_pipe.new.counts.lost c.drain_pipe.ensures.of c.drain_pipe.ensures.rows c.in_ok-made.ensures.lost in
    subst (λ (m : ℕ). IsDrained (net_of c.args.world.now) c.args.now.now.placed.now c.args._tick (c.args.switch + 1)
    (record { pipes = set c.args.now.now.pipes.items c.args.switch c.drain_pipe.new.pipe; pending = c.args.now.now.queue; entered = c.drain_pipe.new.counts.entered; lost = c.drain_pipe.new.counts.lost })
    (c.args.waiting + m)) (sym c.in_ok-made.ensures.made)
    (subst (λ (e : ℕ). IsDrained (net_of c.args.world.now) c.args.now.now.placed.now c.args._tick (c.args.switch + 1)
    (record { pipes = set c.args.now.now.pipes.items c.args.switch c.drain_pipe.new.pipe; pending = c.args.now.now.queue; entered = e; lost = c.drain_pipe.new.counts.lost })
    (c.args.waiting + length (made_by (net_of c.args.world.now) (left c.index_mut.result.now.placed (rows_in c.index_mut.result.now))))) (sym c.in_ok-made.ensures.entered) is)

pub returns-clause-all : goal.returns-clause-all
returns-clause-all g c =
    let d = drains (net_of c.args.world.now) c.args.now.now.placed.now c.args._tick c.args.switch c.args.waiting (piped_of c.args.now.now) c.index_mut.result.now c.requires.ready c.requires.within c.requires.late c.requires.soon
    c.requires.drained c.index_mut.ensures.value in
    subst (λ (o : Option Run). PutsAll g.S.Sink.written g.S.Sink.faults c.args.sink.now c.drain_pipe.new.sink (text_by (net_of c.args.world.now) o)) d.is c.in_ok-made.ensures.all

pub drain_pipe-requires-clause-same : goal.drain_pipe-requires-clause-same
drain_pipe-requires-clause-same g c =
    (drains (net_of c.args.world.now) c.args.now.now.placed.now c.args._tick c.args.switch c.args.waiting (piped_of c.args.now.now) c.index_mut.result.now c.requires.ready c.requires.within c.requires.late c.requires.soon
    c.requires.drained c.index_mut.ensures.value).own

pub index_mut-requires : goal.index_mut-requires
index_mut-requires g c = grind (arith, elements)
