use Rattle.std.proofs.Common.{◌≡◌, List, ℕ, Ok, map, subst, ◌∙◌, rules}
use Rattle.lucid_top_fit.specs.Fit.{fit_view}
use Rattle.lucid_top_fit.specs.Passes.{PassView, passes_view}
use Rattle.lucid_top_words.specs.Files.{texts_in}
use Rattle.lucid_top_words.specs.Outcome.{Outcome}
use Rattle.lucid_top_words.specs.Words.{word_at}
use Rattle.lucid_top_words.specs.Writing.{Performs, nowhere}
use Rattle.lucid_top_words.proofs.Seen.{untouched}
use Rattle.lucid_top.specs.declared.commands.setup.Pipes.{Pipes}
use Rattle.lucid_top.specs.Layout.{fit_text}
use Rattle.lucid_top.specs.Pipes.{IsPiped}
use Rattle.lucid_top.proofs.Names.{names-of}
use Rattle.lucid_top.proofs.Runs.{declined, memory-ran, performs-after, ran-err, ran-ok}
use Rattle.lucid_top.proofs.commands.layout.layout.Goals as goal

pub returns-in_err-names-clause-ran : goal.returns-in_err-names-clause-ran
returns-in_err-names-clause-ran g c = memory-ran (Unit {0}) _ _ c.from_residual.result (search rules)

pub returns-in_err-pipes-clause-performs : goal.returns-in_err-pipes-clause-performs
returns-in_err-pipes-clause-performs g c =
    let text = word_at (texts_in c.args.texts.now) in
    let ps = passes_view (λ b. (goal.Pass-dyn g (b.vtable, b.value)).called b.value) (λ b. (goal.Pass-dyn g (b.vtable, b.value)).gives b.value) (λ b. (goal.Pass-dyn g (b.vtable, b.value)).count b.value) c.args.passes.now.items in
    declined g.W.Sink.written g.W.Sink.faults c.args.out.now c.args.out.now nowhere (IsPiped (text 0) (text 1) ps) (λ p (o : Outcome). o ≡ Ok (fit_text (map PassView.name ps) p.fitted))
    c.in_err-pipes.field-0.0 c.from_residual-in_err-pipes.result c.in_err-pipes.ensures.pipes (search rules) untouched

pub returns-in_err-pipes-clause-ran : goal.returns-in_err-pipes-clause-ran
returns-in_err-pipes-clause-ran g c = ran-err Pipes (Unit {0}) _ _ _ c.in_err-pipes.field-0.0 c.from_residual-in_err-pipes.result c.in_err-pipes.ensures.ran (search rules)

pub returns-clause-performs : goal.returns-clause-performs
returns-clause-performs g c =
    let text = word_at (texts_in c.args.texts.now) in
    let ps = passes_view (λ b. (goal.Pass-dyn g (b.vtable, b.value)).called b.value) (λ b. (goal.Pass-dyn g (b.vtable, b.value)).gives b.value) (λ b. (goal.Pass-dyn g (b.vtable, b.value)).count b.value) c.args.passes.now.items in
    let names : c.as_slice.result.now ≡ map PassView.name ps = c.as_slice.ensures.value ∙ c.in_ok-names.ensures ∙ names-of _ _ _ c.args.passes.now.items in
    performs-after g.W.Sink.written g.W.Sink.faults c.args.out.now c.put_fit-ended.new.out nowhere (IsPiped (text 0) (text 1) ps) (λ p (o : Outcome). o ≡ Ok (fit_text (map PassView.name ps) p.fitted))
    c.in_ok-pipes.ensures.pipes (λ begun none. none) c.put_fit-ended.result
    (subst (λ (ns : List (List ℕ)). Performs nowhere (λ (o : Outcome). o ≡ Ok (fit_text ns (fit_view c.in_ok-pipes.pipes.fitted))) g.W.Sink.written g.W.Sink.faults c.args.out.now c.put_fit-ended.new.out c.put_fit-ended.result)
    names c.put_fit-ended.ensures)

pub returns-clause-ran : goal.returns-clause-ran
returns-clause-ran g c = ran-ok Pipes (Unit {0}) _ _ _ c.in_ok-pipes.pipes c.put_fit-ended.result c.in_ok-pipes.ensures.ran
