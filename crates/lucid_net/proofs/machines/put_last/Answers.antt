use Rattle.std.proofs.Common.{◌≤◌, ℕ, List, OnErr, OnOk, ap, sym, ◌∙◌, subst}
use Rattle.lucid_io.specs.Puts.{PutsAll, PutsPart}
use Rattle.lucid_net_spec.specs.Log.{end_text}
use Rattle.lucid_net.specs.Pipes.{piped_of}
use Rattle.lucid_net.specs.Seen.{lag_by, last_text}
use Rattle.lucid_net.specs.Sent.{net_of}
use Rattle.lucid_net.specs.Stands.{IsAt, IsPipedAt, IsWholeAt, placed_of, state_of}
use Rattle.lucid_net.specs.declared.machines.Machines.{Machines}
use Rattle.lucid_net.proofs.machines.put_last.Goals as goal

pub put_end-requires : goal.put_end-requires
put_end-requires g c =
    let net = net_of c.args.world.now in
    let at : IsWholeAt net net.scene.stop (state_of c.in-Whole.switches) = subst (λ (m : Machines). IsAt net net.scene.stop m) c.in-Whole.is c.requires.is in
    subst (λ (n : ℕ). n ≤ 64) (sym at.kept.cells) c.requires.scene.switches.1

pub put_pipes_end-requires-clause-ready : goal.put_pipes_end-requires-clause-ready
put_pipes_end-requires-clause-ready g c =
    let net = net_of c.args.world.now in
    let at : IsPipedAt net c.in-Piped.pipes.placed.now net.scene.stop (piped_of c.in-Piped.pipes) = subst (λ (m : Machines). IsAt net net.scene.stop m) c.in-Piped.is c.requires.is in
    at.ready

pub put_pipes_end-requires-clause-piped : goal.put_pipes_end-requires-clause-piped
put_pipes_end-requires-clause-piped g c =
    let net = net_of c.args.world.now in
    let at : IsPipedAt net c.in-Piped.pipes.placed.now net.scene.stop (piped_of c.in-Piped.pipes) = subst (λ (m : Machines). IsAt net net.scene.stop m) c.in-Piped.is c.requires.is in
    at.piped

pub returns-in-Whole-clause-all : goal.returns-in-Whole-clause-all
returns-in-Whole-clause-all g c =
    let net = net_of c.args.world.now in
    let at : IsWholeAt net net.scene.stop (state_of c.in-Whole.switches) = subst (λ (m : Machines). IsAt net net.scene.stop m) c.in-Whole.is c.requires.is in
    subst (λ (l : List ℕ). OnOk c.put_end.result (PutsAll g.S.Sink.written g.S.Sink.faults c.args.sink.now c.put_end.new.sink l))
    (ap (end_text net) at.state ∙ ap (λ (m : Machines). last_text net (lag_by net.limits (placed_of m))) (sym c.in-Whole.is)) c.put_end.ensures.all

pub returns-in-Whole-clause-part : goal.returns-in-Whole-clause-part
returns-in-Whole-clause-part g c =
    let net = net_of c.args.world.now in
    let at : IsWholeAt net net.scene.stop (state_of c.in-Whole.switches) = subst (λ (m : Machines). IsAt net net.scene.stop m) c.in-Whole.is c.requires.is in
    subst (λ (l : List ℕ). OnErr c.put_end.result (PutsPart g.S.Sink.written g.S.Sink.faults c.args.sink.now c.put_end.new.sink l))
    (ap (end_text net) at.state ∙ ap (λ (m : Machines). last_text net (lag_by net.limits (placed_of m))) (sym c.in-Whole.is)) c.put_end.ensures.part

pub returns-in-Piped-clause-all : goal.returns-in-Piped-clause-all
returns-in-Piped-clause-all g c =
    let net = net_of c.args.world.now in
    subst (λ (m : Machines). OnOk c.put_pipes_end.result (PutsAll g.S.Sink.written g.S.Sink.faults c.args.sink.now c.put_pipes_end.new.sink (last_text net (lag_by net.limits (placed_of m)))))
    (sym c.in-Piped.is) c.put_pipes_end.ensures.all

pub returns-in-Piped-clause-part : goal.returns-in-Piped-clause-part
returns-in-Piped-clause-part g c =
    let net = net_of c.args.world.now in
    subst (λ (m : Machines). OnErr c.put_pipes_end.result (PutsPart g.S.Sink.written g.S.Sink.faults c.args.sink.now c.put_pipes_end.new.sink (last_text net (lag_by net.limits (placed_of m)))))
    (sym c.in-Piped.is) c.put_pipes_end.ensures.part
