use Rattle.std.proofs.Common.{◌≡◌, ◌≢◌, ◌<◌, Result, Err, None, ap, sym, ◌∙◌, subst}
use Rattle.lucid_io.specs.Puts.{PutsAll}
use Rattle.lucid_net_laws.specs.Runs.{late_text}
use Rattle.lucid_net.specs.Seen.{Seen, lag, network}
use Rattle.lucid_net.specs.Wanting.{SomeMade}
use Rattle.lucid_net.specs.Writes.{Writes}
use Rattle.lucid_net.specs.declared.error.NetError.TheVariants.{Memory}
use Rattle.lucid_net.specs.declared.error.NetError.{NetError}
use Rattle.lucid_net.proofs.Running.{so_far}
use Rattle.lucid_net.proofs.net.Net.tick.Goals as goal

pub returns-in-Ok-clause-so_far : goal.returns-in-Ok-clause-so_far
returns-in-Ok-clause-so_far g c = so_far (network c.args.self.now) (lag c.args.self.now) c.args.self.now.at

pub returns-in-Err-clause-so_far : goal.returns-in-Err-clause-so_far
returns-in-Err-clause-so_far g c = so_far (network c.args.self.now) (lag c.args.self.now) c.args.self.now.at

pub returns-in-Err-clause-writes : goal.returns-in-Err-clause-writes
returns-in-Err-clause-writes g c =
    subst (λ (s : Seen). Writes g.S.Sink.written g.S.Sink.faults c.args.sink.now c.tick_all.new.sink (late_text (network s) (lag s) s.at) (Err c.in-Err.error)) c.self.view_is c.in-Err.ensures.writes

pub returns-in-Err-clause-memory : goal.returns-in-Err-clause-memory
returns-in-Err-clause-memory g c =
    subst (λ (s : Seen). s.placed ≢ None → ◌≡◌ {A = Result (Unit {0}) NetError} (Err c.in-Err.error) (Err Memory) → SomeMade (network s) s.at) c.self.view_is c.in-Err.ensures.memory

pub tick_all-requires-clause-scene : goal.tick_all-requires-clause-scene
tick_all-requires-clause-scene g c = c.self.invariant.scene

pub tick_all-requires-clause-is : goal.tick_all-requires-clause-is
tick_all-requires-clause-is g c = c.self.invariant.is (ap (λ (s : Seen). s.failed) c.self.view_is ∙ c.requires.sound)

pub tick_all-requires-clause-before : goal.tick_all-requires-clause-before
tick_all-requires-clause-before g c = subst (λ (s : Seen). s.at < s.scene.stop) (sym c.self.view_is) c.requires.before

pub returns-in-Ok-clause-writes : goal.returns-in-Ok-clause-writes
returns-in-Ok-clause-writes g c =
    subst (λ (s : Seen). PutsAll g.S.Sink.written g.S.Sink.faults c.args.sink.now c.tick_all.new.sink (late_text (network s) (lag s) s.at)) c.self.view_is c.in-Ok.ensures.writes
