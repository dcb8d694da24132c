use Rattle.std.proofs.Common.{◌≡◌, Ok, length, sym, subst, rules}
use Rattle.lucid_code.specs.Nodes.{nodes}
use Rattle.lucid_top_words.specs.Outcome.{Declines, IsTheAnswer}
use Rattle.lucid_top_fit.specs.Causes.{of_plan}
use Rattle.lucid_top_fit.specs.Placing.{IsPlan}
use Rattle.lucid_top_fit.proofs.Places.{not-plan, plan-is}
use Rattle.lucid_top_fit.proofs.placement.plan.Goals as goal

pub returns-in-Ok-clause-plan : goal.returns-in-Ok-clause-plan
returns-in-Ok-clause-plan c =
    let many : c.len.result ≡ length (nodes c.args.code.now.ops) = search rules in
    subst (λ n. IsTheAnswer (IsPlan c.args.text.now n) (Ok c.in-Ok.plan)) many (plan-is c.args.text.now c.len.result c.in-Ok.plan c.in-Ok.ensures.value)

pub returns-clause-plan : goal.returns-clause-plan
returns-clause-plan c =
    let many : c.len.result ≡ length (nodes c.args.code.now.ops) = search rules in
    subst (Declines (IsPlan c.args.text.now (length (nodes c.args.code.now.ops)))) (sym c.of_plan.ensures)
    (subst (λ n. Declines (IsPlan c.args.text.now n) (of_plan c.in-Err.error)) many (not-plan c.args.text.now c.len.result c.in-Err.error c.in-Err.ensures.value))
