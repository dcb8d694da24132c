use Rattle.std.proofs.Common.{List, ℕ, subst}
use Rattle.lucid_refusals.specs.Refusal.{Refuses, StandsFor}
use Rattle.lucid_refusals.proofs.RefusalLemmas.{refused}
use Rattle.lucid_refusals.proofs.growing.refuses.Goals as goal

pub returns-then-branch : goal.returns-then-branch
returns-then-branch c = λ _.
    refused c.args.rows c.args.known.now.rows c.args.known.now.patterns c.args.known.now.fields c.in_ok-shape.shape c.args.table.now c.args.more.now
    (c.are_for.ensures c.if-not-are_for.false)
    c.requires
    c.args.known.now.named
    (subst (λ (fs : List ℕ). StandsFor fs c.args.more.now c.in_ok-shape.shape) c.as_slice-fields.ensures c.in_ok-shape.ensures)
    (subst (Refuses c.args.known.now.rows c.args.known.now.patterns) c.as_slice-asked.ensures (c.in_ok-refuses_shape.ensures c.if-branch.true))
