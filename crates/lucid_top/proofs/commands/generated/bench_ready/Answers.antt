use Rattle.std.proofs.Common.{◌≡◌, List, Ok, Result, ap, subst, rules}
use Rattle.lucid_io.specs.Puts.{PutsAll, PutsPart}
use Rattle.lucid_log_tally.specs.Bench.{bench_line}
use Rattle.lucid_net_spec.specs.Log.{log}
use Rattle.lucid_pipe.specs.declared.sight.Sight.{Sight}
use Rattle.lucid_top_words.specs.declared.refusal.Refusal.{Refusal}
use Rattle.lucid_top_words.specs.declared.refusal.Refusal.TheVariants as refusal
use Rattle.lucid_top_words.specs.Outcome.{Outcome}
use Rattle.lucid_top_words.specs.Writing.{nowhere}
use Rattle.lucid_top_words.proofs.Parts.{one-text}
use Rattle.lucid_top.specs.Held.{ready_view}
use Rattle.lucid_top.specs.Pipes.{network_of, sights_of}
use Rattle.lucid_top.proofs.Runs.{shown-cut, shown-refused}
use Rattle.lucid_top_pipes.proofs.CausesLemmas.{cut, ended-by-memory}
use Rattle.lucid_top.proofs.commands.generated.bench_ready.Goals as goal

pub returns-in_err-tally-clause-performs : goal.returns-in_err-tally-clause-performs
returns-in_err-tally-clause-performs g c =
    let text = bench_line c.args.seed c.args.events (log (network_of (ready_view c.args.ready))) in
    ended-by-memory nowhere (λ (o : Outcome). o ≡ Ok text) g.W.Sink.written g.W.Sink.faults c.args.out.now c.in_err-tally.field-0.0 c.from_residual.result c.in_err-tally.ensures.memory (search rules)

pub returns-in_err-tally-clause-shown : goal.returns-in_err-tally-clause-shown
returns-in_err-tally-clause-shown g c =
    shown-refused (λ (o : Result (List Sight) Refusal). o ≡ Ok (sights_of (ready_view c.args.ready))) (g.V.Watch.seen c.args.watch.now) (g.V.Watch.seen c.tallied.new.watch)
    c.in_err-tally.field-0.0 c.from_residual.result c.in_err-tally.ensures.shown (search rules)

pub returns-in_err-put_bench-clause-performs : goal.returns-in_err-put_bench-clause-performs
returns-in_err-put_bench-clause-performs g c =
    let line : bench_line c.args.seed c.args.events c.in_ok-tally.tally.bytes ≡ bench_line c.args.seed c.args.events (log (network_of (ready_view c.args.ready))) = ap (bench_line c.args.seed c.args.events) c.in_ok-tally.ensures.log in
    let text = bench_line c.args.seed c.args.events (log (network_of (ready_view c.args.ready))) in
    cut nowhere g.W.Sink.written g.W.Sink.faults c.args.out.now c.put_bench.new.sink text c.from_residual-in_err-put_bench.result
    (subst (PutsPart g.W.Sink.written g.W.Sink.faults c.args.out.now c.put_bench.new.sink) line c.in_err-put_bench.ensures.part) (search rules)

pub returns-in_err-put_bench-clause-shown : goal.returns-in_err-put_bench-clause-shown
returns-in_err-put_bench-clause-shown g c =
    shown-cut (λ (o : Result (List Sight) Refusal). o ≡ Ok (sights_of (ready_view c.args.ready))) (g.V.Watch.seen c.args.watch.now) (g.V.Watch.seen c.tallied.new.watch) c.in_ok-tally.tally
    refusal.WriteFault c.from_residual-in_err-put_bench.result c.in_ok-tally.ensures.shown (search rules)

pub returns-clause-performs : goal.returns-clause-performs
returns-clause-performs g c =
    let line : bench_line c.args.seed c.args.events c.in_ok-tally.tally.bytes ≡ bench_line c.args.seed c.args.events (log (network_of (ready_view c.args.ready))) = ap (bench_line c.args.seed c.args.events) c.in_ok-tally.ensures.log in
    let text = bench_line c.args.seed c.args.events (log (network_of (ready_view c.args.ready))) in
    (text, one-text text, subst (PutsAll g.W.Sink.written g.W.Sink.faults c.args.out.now c.put_bench.new.sink) line c.in_ok-put_bench.ensures.all)

pub returns-clause-shown : goal.returns-clause-shown
returns-clause-shown g c = c.in_ok-tally.ensures.shown
