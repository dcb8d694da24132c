use Rattle.std.proofs.Common.{◌≡◌, Ok, Result, List, rules}
use Rattle.lucid_net_spec.specs.Log.{log}
use Rattle.lucid_pipe.specs.declared.sight.Sight.{Sight}
use Rattle.lucid_top_fit.specs.Passes.{passes_view}
use Rattle.lucid_top_words.specs.declared.refusal.Refusal.{Refusal}
use Rattle.lucid_top_words.specs.Files.{texts_in}
use Rattle.lucid_top_words.specs.Outcome.{Outcome}
use Rattle.lucid_top_words.specs.Words.{word_at}
use Rattle.lucid_top_words.proofs.Seen.{untouched}
use Rattle.lucid_top.specs.declared.commands.setup.Ready.{Ready}
use Rattle.lucid_top.specs.Held.{ready_view}
use Rattle.lucid_top.specs.Pipes.{network_of, sights_of}
use Rattle.lucid_top.specs.Placed.{IsReadyPlaced, StopsPlaced}
use Rattle.lucid_top.proofs.Runs.{declined, performs-after, ran-err, ran-ok, shown-after}
use Rattle.lucid_top.proofs.commands.run_placed.run_placed.Goals as goal

pub returns-in_err-ready-clause-performs : goal.returns-in_err-ready-clause-performs
returns-in_err-ready-clause-performs g c =
    let text = word_at (texts_in c.args.texts.now) in
    let ps = passes_view (λ b. (goal.Pass-dyn g (b.vtable, b.value)).called b.value) (λ b. (goal.Pass-dyn g (b.vtable, b.value)).gives b.value) (λ b. (goal.Pass-dyn g (b.vtable, b.value)).count b.value) c.args.passes.now.items in
    declined g.W.Sink.written g.W.Sink.faults c.args.out.now c.args.out.now (StopsPlaced (text 0) (text 1) (text 2) (text 3) ps) (IsReadyPlaced (text 0) (text 1) (text 2) (text 3) ps) (λ r (p : Outcome). p ≡ Ok (log (network_of r)))
    c.in_err-ready.field-0.0 c.from_residual.result c.in_err-ready.ensures.ready (search rules) untouched

pub returns-in_err-ready-clause-ran : goal.returns-in_err-ready-clause-ran
returns-in_err-ready-clause-ran g c = ran-err Ready (Unit {0}) _ _ _ c.in_err-ready.field-0.0 c.from_residual.result c.in_err-ready.ensures.ran (search rules)

pub returns-clause-performs : goal.returns-clause-performs
returns-clause-performs g c =
    let text = word_at (texts_in c.args.texts.now) in
    let ps = passes_view (λ b. (goal.Pass-dyn g (b.vtable, b.value)).called b.value) (λ b. (goal.Pass-dyn g (b.vtable, b.value)).gives b.value) (λ b. (goal.Pass-dyn g (b.vtable, b.value)).count b.value) c.args.passes.now.items in
    performs-after g.W.Sink.written g.W.Sink.faults c.args.out.now c.run_network.new.out (StopsPlaced (text 0) (text 1) (text 2) (text 3) ps) (IsReadyPlaced (text 0) (text 1) (text 2) (text 3) ps) (λ r (p : Outcome). p ≡ Ok (log (network_of r)))
    c.in_ok-ready.ensures.ready (λ begun stops. record { runs = ready_view c.in_ok-ready.ready; is = c.in_ok-ready.ensures.ready; stops = stops }) c.run_network.result c.run_network.ensures.performs

pub returns-clause-ran : goal.returns-clause-ran
returns-clause-ran g c = ran-ok Ready (Unit {0}) _ _ _ c.in_ok-ready.ready c.run_network.result c.in_ok-ready.ensures.ran

pub returns-clause-shown : goal.returns-clause-shown
returns-clause-shown g c =
    let text = word_at (texts_in c.args.texts.now) in
    let ps = passes_view (λ b. (goal.Pass-dyn g (b.vtable, b.value)).called b.value) (λ b. (goal.Pass-dyn g (b.vtable, b.value)).gives b.value) (λ b. (goal.Pass-dyn g (b.vtable, b.value)).count b.value) c.args.passes.now.items in
    shown-after (IsReadyPlaced (text 0) (text 1) (text 2) (text 3) ps) (λ r (p : Result (List Sight) Refusal). p ≡ Ok (sights_of r)) (ready_view c.in_ok-ready.ready) (g.V.Watch.seen c.args.watch.now) (g.V.Watch.seen c.run_network.new.watch) c.run_network.result
    c.in_ok-ready.ensures.ready c.run_network.ensures.shown
