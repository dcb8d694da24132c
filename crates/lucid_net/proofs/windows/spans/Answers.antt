use Rattle.std.proofs.Common.{◌≡◌, ◌∙◌, List, sym, subst, ap}
use Rattle.std.proofs.lemmas.Result.{IfOk-weaker}
use Rattle.lucid_net.specs.Windows.{Tells, reaching}
use Rattle.lucid_net.specs.declared.windows.Span.{Span}
use Rattle.lucid_net.proofs.WindowsLemmas.{settled}
use Rattle.lucid_net.proofs.windows.spans.Goals as goal

pub returns : goal.returns
returns c =
    let told = settled c.args.down.now c.args.a c.args.b c.in_ok-found.found.items c.sort.new.spans.items c.in_ok-found.ensures c.sort.ensures.rise c.sort.ensures.same in
    IfOk-weaker c.reached.result (λ (found : List Span). found ≡ reaching 0 c.as_slice.result.now) (Tells c.args.down.now c.args.a c.args.b)
    (λ spans is. subst (Tells c.args.down.now c.args.a c.args.b) (sym (is ∙ ap (λ (l : List Span). reaching 0 l) c.as_slice.ensures.value)) told)
    c.reached.ensures
