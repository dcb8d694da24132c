use Rattle.std.proofs.Common.{◌≡◌, ◌+◌, ◌∷◌, [], ◌++◌, length, ap, sym, ◌∙◌, subst, rules}
use Rattle.std.proofs.lemmas.List.{length_push}
use Rattle.lucid_net.specs.Windows.{AreOf, AreRows}
use Rattle.lucid_net.proofs.WindowsLemmas.{one_more}
use Rattle.lucid_net.proofs.windows.rows.Goals as goal

pub loop-a-preserved : goal.loop-a-preserved
loop-a-preserved c =
    let before = c.loop-a.rows in
    let down = c.args.down.now in
    let pushed : c.push.new.self ≡ before ++ c.in_ok-row.row ∷ [] = search rules in
    record {
      long = ap length pushed ∙ length_push before c.in_ok-row.row ∙ ap (λ n. n + 1) c.loop-a.invariant.long;
      rows = subst (AreRows down) (sym pushed)
          (one_more (AreOf down) before c.in_ok-row.row c.loop-a.invariant.rows (subst (λ n. AreOf down n c.in_ok-row.row) (sym c.loop-a.invariant.long) c.in_ok-row.ensures));
    }
