use Rattle.std.proofs.Common.{ℕ, sym, ◌∙◌, ap, subst}
use Rattle.lucid_io.specs.Puts.{PutsAll, PutsPart}
use Rattle.lucid_net.specs.Seen.{Seen, lag, last_text, network}
use Rattle.lucid_net.specs.Sent.{net_of}
use Rattle.lucid_net.specs.Stands.{IsAt}
use Rattle.lucid_net.proofs.net.Net.end.Goals as goal
use Rattle.lucid_net.proofs.net.Net.end.Goals.{in-Ok, in-Err}

pub put_last-requires-clause-scene : goal.put_last-requires-clause-scene
put_last-requires-clause-scene g c = c.self.invariant.scene

pub put_last-requires-clause-is : goal.put_last-requires-clause-is
put_last-requires-clause-is g c =
    subst (λ (n : ℕ). IsAt (net_of c.self.inside.world) n c.self.inside.machines)
    (ap (λ (s : Seen). s.at) c.self.view_is ∙ c.requires.done ∙ sym (ap (λ (s : Seen). s.scene.stop) c.self.view_is))
    (c.self.invariant.is (ap (λ (s : Seen). s.failed) c.self.view_is ∙ c.requires.sound))

pub returns-clause-writes : goal.returns-clause-writes
returns-clause-writes g c =
    elim c.match-put_last.branch [
      | in-Ok w ↦
          rw w.result-is (subst (λ (s : Seen). PutsAll g.S.Sink.written g.S.Sink.faults c.args.sink.now c.put_last.new.sink (last_text (network s) (lag s))) c.self.view_is w.in-Ok.ensures.all)
      | in-Err w ↦
          rw w.result-is (subst (λ (s : Seen). PutsPart g.S.Sink.written g.S.Sink.faults c.args.sink.now c.put_last.new.sink (last_text (network s) (lag s))) c.self.view_is w.in-Err.ensures.part)
    ]
