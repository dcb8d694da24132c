use Rattle.std.proofs.Common.{◌≡◌, ◌++◌, refl, subst, rules}
use Rattle.lucid_io.specs.Puts.{PutsAll, PutsPart}
use Rattle.lucid_top_fit.specs.Fit.{fit_view}
use Rattle.lucid_top_words.specs.Writing.{nowhere}
use Rattle.lucid_top_words.proofs.Parts.{one-text}
use Rattle.lucid_top.specs.Layout.{fit_text, passes_text}
use Rattle.lucid_top_pipes.proofs.CausesLemmas.{cut}
use Rattle.lucid_top.proofs.commands.layout.put_fit.Goals as goal

pub returns-in_err-put : goal.returns-in_err-put
returns-in_err-put g c =
    let fit = fit_view c.args.fitted.now in
    let a = c.as_slice.ensures.value in
    let t = c.in_ok-text.ensures in
    let written : passes_text c.args.names.now c.as_slice.result.now ++ c.in_ok-text.text ≡ fit_text c.args.names.now fit = rw (a, t) refl in
    cut nowhere g.W.Sink.written g.W.Sink.faults c.args.out.now c.put.new.out (fit_text c.args.names.now fit) _
    (subst (PutsPart g.W.Sink.written g.W.Sink.faults c.args.out.now c.put.new.out) written c.in_err-put.ensures.part) (search rules)

pub returns : goal.returns
returns g c =
    let fit = fit_view c.args.fitted.now in
    let a = c.as_slice.ensures.value in
    let t = c.in_ok-text.ensures in
    let written : passes_text c.args.names.now c.as_slice.result.now ++ c.in_ok-text.text ≡ fit_text c.args.names.now fit = rw (a, t) refl in
    (fit_text c.args.names.now fit, one-text (fit_text c.args.names.now fit), subst (PutsAll g.W.Sink.written g.W.Sink.faults c.args.out.now c.put.new.out) written c.in_ok-put.ensures.all)
