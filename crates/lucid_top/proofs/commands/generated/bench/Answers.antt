use Rattle.std.proofs.lemmas.Grind.{common_steps}
use Rattle.std.proofs.Common.{◌≡◌, List, ℕ, [], ◌∷◌, Ok, Result, ◌∙◌, ap, subst, rules, arith}
use Rattle.lucid_gen.specs.Limits.{limits_text}
use Rattle.lucid_gen.specs.Program.{program_text}
use Rattle.lucid_gen.specs.Scene.{scene_text}
use Rattle.lucid_log_tally.specs.Bench.{bench_line}
use Rattle.lucid_net_spec.specs.Log.{log}
use Rattle.lucid_pipe.specs.declared.sight.Sight.{Sight}
use Rattle.lucid_top_fit.specs.Passes.{passes_view}
use Rattle.lucid_top_words.specs.declared.refusal.Refusal.{Refusal}
use Rattle.lucid_top_words.specs.Files.{texts_in}
use Rattle.lucid_top_words.specs.Outcome.{Declines, IsTheAnswer, Outcome}
use Rattle.lucid_top_words.specs.Words.{word_at}
use Rattle.lucid_top_words.specs.Writing.{nowhere}
use Rattle.lucid_top_words.proofs.Seen.{untouched}
use Rattle.lucid_top.specs.declared.commands.setup.Ready.{Ready}
use Rattle.lucid_top.specs.Held.{ready_view}
use Rattle.lucid_top.specs.Pipes.{IsReady, network_of, sights_of}
use Rattle.lucid_top.proofs.Runs.{declined, memory-ran, performs-after, ran-err, ran-in, ran-ok, shown-after}
use Rattle.lucid_top.proofs.commands.generated.bench.Goals as goal

pub returns-in_err-texts-clause-ran : goal.returns-in_err-texts-clause-ran
returns-in_err-texts-clause-ran g c = memory-ran (Unit {0}) _ _ c.from_residual.result (search rules)

pub returns-in_err-ready-clause-performs : goal.returns-in_err-ready-clause-performs
returns-in_err-ready-clause-performs g c =
    let ts : texts_in c.as_slice.result.now ≡ program_text c.args.seed ∷ limits_text ∷ scene_text c.args.seed c.args.events ∷ [] = ap texts_in c.as_slice.ensures.value ∙ c.in_ok-texts.ensures in
    let ps = passes_view (λ b. (goal.Pass-dyn g (b.vtable, b.value)).called b.value) (λ b. (goal.Pass-dyn g (b.vtable, b.value)).gives b.value) (λ b. (goal.Pass-dyn g (b.vtable, b.value)).count b.value) c.args.passes.now.items in
    declined g.W.Sink.written g.W.Sink.faults c.args.out.now c.args.out.now nowhere (IsReady (program_text c.args.seed) limits_text (scene_text c.args.seed c.args.events) ps) (λ r (p : Outcome). p ≡ Ok (bench_line c.args.seed c.args.events (log (network_of r))))
    c.in_err-ready.field-0.0 c.from_residual-in_err-ready.result
    (subst (λ (l : List (List ℕ)). Declines (IsReady (word_at l 0) (word_at l 1) (word_at l 2) ps) c.in_err-ready.field-0.0) ts c.in_err-ready.ensures.ready) (search rules) untouched

pub returns-in_err-ready-clause-ran : goal.returns-in_err-ready-clause-ran
returns-in_err-ready-clause-ran g c =
    let ts : texts_in c.as_slice.result.now ≡ program_text c.args.seed ∷ limits_text ∷ scene_text c.args.seed c.args.events ∷ [] = ap texts_in c.as_slice.ensures.value ∙ c.in_ok-texts.ensures in
    ran-in (Unit {0}) _ _ _ _ c.from_residual-in_err-ready.result ts
    (ran-err Ready (Unit {0}) _ _ _ c.in_err-ready.field-0.0 c.from_residual-in_err-ready.result c.in_err-ready.ensures.ran (search rules))

pub returns-clause-performs : goal.returns-clause-performs
returns-clause-performs g c =
    let ts : texts_in c.as_slice.result.now ≡ program_text c.args.seed ∷ limits_text ∷ scene_text c.args.seed c.args.events ∷ [] = ap texts_in c.as_slice.ensures.value ∙ c.in_ok-texts.ensures in
    let ps = passes_view (λ b. (goal.Pass-dyn g (b.vtable, b.value)).called b.value) (λ b. (goal.Pass-dyn g (b.vtable, b.value)).gives b.value) (λ b. (goal.Pass-dyn g (b.vtable, b.value)).count b.value) c.args.passes.now.items in
    let is : IsTheAnswer (IsReady (program_text c.args.seed) limits_text (scene_text c.args.seed c.args.events) ps) (Ok (ready_view c.in_ok-ready.ready)) =
    subst (λ (l : List (List ℕ)). IsTheAnswer (IsReady (word_at l 0) (word_at l 1) (word_at l 2) ps) (Ok (ready_view c.in_ok-ready.ready))) ts c.in_ok-ready.ensures.ready in
    performs-after g.W.Sink.written g.W.Sink.faults c.args.out.now c.bench_ready.new.out nowhere (IsReady (program_text c.args.seed) limits_text (scene_text c.args.seed c.args.events) ps) (λ r (p : Outcome). p ≡ Ok (bench_line c.args.seed c.args.events (log (network_of r)))) is (λ begun none. none) c.bench_ready.result c.bench_ready.ensures.performs

pub returns-clause-ran : goal.returns-clause-ran
returns-clause-ran g c =
    let ts : texts_in c.as_slice.result.now ≡ program_text c.args.seed ∷ limits_text ∷ scene_text c.args.seed c.args.events ∷ [] = ap texts_in c.as_slice.ensures.value ∙ c.in_ok-texts.ensures in
    ran-in (Unit {0}) _ _ _ _ c.bench_ready.result ts (ran-ok Ready (Unit {0}) _ _ _ c.in_ok-ready.ready c.bench_ready.result c.in_ok-ready.ensures.ran)

pub returns-clause-shown : goal.returns-clause-shown
returns-clause-shown g c =
    let ts : texts_in c.as_slice.result.now ≡ program_text c.args.seed ∷ limits_text ∷ scene_text c.args.seed c.args.events ∷ [] = ap texts_in c.as_slice.ensures.value ∙ c.in_ok-texts.ensures in
    let ps = passes_view (λ b. (goal.Pass-dyn g (b.vtable, b.value)).called b.value) (λ b. (goal.Pass-dyn g (b.vtable, b.value)).gives b.value) (λ b. (goal.Pass-dyn g (b.vtable, b.value)).count b.value) c.args.passes.now.items in
    let is : IsTheAnswer (IsReady (program_text c.args.seed) limits_text (scene_text c.args.seed c.args.events) ps) (Ok (ready_view c.in_ok-ready.ready)) =
    subst (λ (l : List (List ℕ)). IsTheAnswer (IsReady (word_at l 0) (word_at l 1) (word_at l 2) ps) (Ok (ready_view c.in_ok-ready.ready))) ts c.in_ok-ready.ensures.ready in
    shown-after (IsReady (program_text c.args.seed) limits_text (scene_text c.args.seed c.args.events) ps) (λ r (p : Result (List Sight) Refusal). p ≡ Ok (sights_of r)) (ready_view c.in_ok-ready.ready) (g.V.Watch.seen c.args.watch.now) (g.V.Watch.seen c.bench_ready.new.watch)
    c.bench_ready.result is c.bench_ready.ensures.shown

pub read-requires : goal.read-requires
read-requires g c = grind (arith, common_steps)
