use Rattle.std.proofs.Common.{◌≡◌, List, inr, Ok, Err, Result, Some, subst, rules}
use Rattle.lucid_net.specs.Sights.{sights_to}
use Rattle.lucid_net.specs.Wanting.{StopsAt}
use Rattle.lucid_net.specs.Writes.{Writes}
use Rattle.lucid_net_spec.specs.Log.{log, whole}
use Rattle.lucid_net_spec.specs.Ways.{Network}
use Rattle.lucid_pipe.specs.declared.sight.Sight.{Sight}
use Rattle.lucid_top_words.specs.declared.refusal.Refusal.{Refusal}
use Rattle.lucid_top_words.specs.Outcome.{Outcome}
use Rattle.lucid_top_words.proofs.Parts.{one-text}
use Rattle.lucid_top_pipes.specs.Causes.{of_net}
use Rattle.lucid_top_pipes.proofs.CausesLemmas.{shown-stopped, stopped}
use Rattle.lucid_top_pipes.proofs.NetworkLemmas.{all-shown, network-is, some-shown, stops-is}
use Rattle.lucid_top_pipes.proofs.network.run_on_pipes.Goals as goal

pub returns-in-Ok-clause-performs : goal.returns-in-Ok-clause-performs
returns-in-Ok-clause-performs g c =
    let net = whole c.args.core.now c.args.scene.now c.args.limits.now in (
      log net,
      one-text (log net),
      subst (λ (n : Network). Writes g.W.Sink.written g.W.Sink.faults c.args.out.now c.run.new.sink (log n) (Ok tt)) (network-is c.in_ok-net.net c.in_ok-net.ensures) c.in-Ok.ensures.log,
    )

pub returns-in-Ok-clause-shown : goal.returns-in-Ok-clause-shown
returns-in-Ok-clause-shown g c =
    let seen = sights_to (whole c.args.core.now c.args.scene.now c.args.limits.now) (Some c.args.placed.now) c.args.scene.now.stop in
    inr (seen, one-text seen, all-shown c.args.core.now c.args.placed.now c.args.scene.now c.args.limits.now c.in_ok-net.net (g.V.Watch.seen c.args.watch.now) (g.V.Watch.seen c.run.new.watch) c.in_ok-net.ensures c.in-Ok.ensures.sights)

pub returns-in-Err-clause-performs : goal.returns-in-Err-clause-performs
returns-in-Err-clause-performs g c =
    let net = whole c.args.core.now c.args.scene.now c.args.limits.now in
    let e = c.in-Err.error in
    stopped (StopsAt net) (λ (o : Outcome). o ≡ Ok (log net)) g.W.Sink.written g.W.Sink.faults c.args.out.now c.run.new.sink (log net) e (Err c.of_net.result) (one-text (log net))
    (subst (λ (n : Network). Writes g.W.Sink.written g.W.Sink.faults c.args.out.now c.run.new.sink (log n) (Err e)) (network-is c.in_ok-net.net c.in_ok-net.ensures) c.in-Err.ensures.log)
    (λ is. stops-is c.args.core.now c.args.placed.now c.args.scene.now c.args.limits.now g.W.Sink.written g.W.Sink.faults c.args.out.now c.run.new.sink c.in_ok-net.net c.in_ok-net.ensures (c.in-Err.ensures.memory (search rules) (search rules))) (search rules)

pub returns-in-Err-clause-shown : goal.returns-in-Err-clause-shown
returns-in-Err-clause-shown g c =
    let seen = sights_to (whole c.args.core.now c.args.scene.now c.args.limits.now) (Some c.args.placed.now) c.args.scene.now.stop in
    shown-stopped {P = Unit {0}} (λ (o : Result (List Sight) Refusal). o ≡ Ok seen) (g.V.Watch.seen c.args.watch.now) (g.V.Watch.seen c.run.new.watch) seen (of_net c.in-Err.error) (Err c.of_net.result) (one-text seen)
    (some-shown c.args.core.now c.args.placed.now c.args.scene.now c.args.limits.now c.in_ok-net.net (g.V.Watch.seen c.args.watch.now) (g.V.Watch.seen c.run.new.watch) c.in-Err.error c.in_ok-net.ensures c.in-Err.ensures.sights) (search rules)
