use Rattle.std.proofs.Common.{◌∙◌, ap, sym, subst}
use Rattle.lucid_code.specs.Parts as code
use Rattle.lucid_normal_spec.specs.Stands.{StandsFor}
use Rattle.lucid_top_words.specs.Outcome.{Declines}
use Rattle.lucid_top_fit.specs.Placing.{IsAudited}
use Rattle.lucid_top_fit.proofs.Places.{audited-is, not-audited, stages-audited}
use Rattle.lucid_top_fit.proofs.placement.audited.Goals as goal

pub returns-in-Ok-clause-audited : goal.returns-in-Ok-clause-audited
returns-in-Ok-clause-audited c = audited-is c.args.limits.now c.args.code c.args.plan.now _ c.audits_are_one.ensures c.in-Ok.ensures.ok

pub returns-in-Ok-clause-stands : goal.returns-in-Ok-clause-stands
returns-in-Ok-clause-stands c =
    subst (λ (p : code.CodeParts). StandsFor p c.args.core.now) (sym c.in-Ok.ensures.ok.code_is) (c.code_stands.ensures.stands c.args.code c.requires.replaces)

pub returns-in-Ok-clause-arrays : goal.returns-in-Ok-clause-arrays
returns-in-Ok-clause-arrays c = ap (λ (p : code.CodeParts). p.arrays) c.in-Ok.ensures.ok.code_is ∙ c.code_stands.ensures.arrays c.args.code c.requires.replaces

pub returns-in-Ok-clause-stages : goal.returns-in-Ok-clause-stages
returns-in-Ok-clause-stages c = stages-audited c.args.limits.now c.args.code c.args.plan.now _ c.in-Ok.ensures.ok

pub returns-in-Err-clause-audited : goal.returns-in-Err-clause-audited
returns-in-Err-clause-audited c =
    subst (Declines (IsAudited c.args.limits.now c.args.code c.args.plan.now)) (sym c.of_audit.ensures)
    (not-audited c.args.limits.now c.args.code c.args.plan.now c.in-Err.error c.audits_are_one.ensures c.in-Err.ensures.err)
