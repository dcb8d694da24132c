use Rattle.std.proofs.Common.{◌≡◌, ◌+◌, ◌∷◌, [], ◌++◌, length, ap, sym, ◌∙◌, subst, rules}
use Rattle.std.proofs.lemmas.List.{length_push}
use Rattle.lucid_net.specs.Windows.{AreOf, Tells}
use Rattle.lucid_net.proofs.WindowsLemmas.{one_more}
use Rattle.lucid_net.proofs.windows.row.Goals as goal

pub loop-b-preserved : goal.loop-b-preserved
loop-b-preserved c =
    let before = c.loop-b.row in
    let down = c.args.down.now in
    let a = c.args.a in
    let pushed : c.push.new.self ≡ before ++ c.in_ok-spans.spans ∷ [] = search rules in
    record {
      long = ap length pushed ∙ length_push before c.in_ok-spans.spans ∙ ap (λ n. n + 1) c.loop-b.invariant.long;
      row = subst (AreOf down a) (sym pushed)
          (one_more (Tells down a) before c.in_ok-spans.spans c.loop-b.invariant.row (subst (λ n. Tells down a n c.in_ok-spans.spans) (sym c.loop-b.invariant.long) c.in_ok-spans.ensures));
    }
