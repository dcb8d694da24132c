use Rattle.std.proofs.Common.{List, ℕ, sym, subst}
use Rattle.std.specs.List.{All}
use Rattle.std.proofs.lemmas.List.Elements.{All-push}
use Rattle.lucid_refusals.specs.Refusal.{Refuses, StandsFor}
use Rattle.lucid_refusals.proofs.RefusalLemmas.{refuses}
use Rattle.lucid_refusals.proofs.growing.with_refusal.Goals as goal

pub invariant_of-result : goal.invariant_of-result
invariant_of-result c =
    let known = c.args.known in
    let shape = c.in_ok-shape.shape in
    let stands : StandsFor known.fields c.args.more.now shape = subst (λ (fs : List ℕ). StandsFor fs c.args.more.now shape) c.as_slice-named.ensures c.in_ok-shape.ensures in
    let one : Refuses known.rows known.patterns shape =
    refuses c.rows_are_counted.ensures known.rows known.patterns known.fields shape c.args.table.now c.args.more.now c.requires.patterns known.named stands c.requires.refused in
    record {
      named = known.named;
      listed = known.listed;
      refuses = subst (All (Refuses known.rows known.patterns)) (sym c.in_ok-push.ensures.ok) (All-push (Refuses known.rows known.patterns) known.shapes shape known.refuses one);
    }
