use Rattle.std.proofs.Common.{◌≡◌, sym, subst, arith}
use Rattle.std.proofs.lemmas.Grind.{common_steps, moves}
use Rattle.lucid_core.specs.Parts.{CoreParts}
use Rattle.lucid_inline_spec.specs.Flat.{flat_of}
use Rattle.lucid_effects_spec.specs.Order.{IsAccepted}
use Rattle.lucid_inline.proofs.Accepted.{flat_is_accepted}
use Rattle.lucid_inline.proofs.limits.inline.Goals as goal

pub returns-clause-accepted : goal.returns-clause-accepted
returns-clause-accepted c = λ accepted.
    let is : c.in_ok-flatten.field-0 ≡ flat_of c.args.core.now = c.in_ok-flatten.ensures in
    subst (λ (parts : CoreParts). IsAccepted parts) (sym is) (flat_is_accepted c.args.core.now c.keeps_order.ensures accepted)

pub returns-in-Some-passed-clause-refused : goal.returns-in-Some-passed-clause-refused
returns-in-Some-passed-clause-refused c = grind (arith, common_steps)

pub returns-in-Some-clause-refused : goal.returns-in-Some-clause-refused
returns-in-Some-clause-refused c = grind (arith, common_steps)

pub returns-clause-flat : goal.returns-clause-flat
returns-clause-flat c = grind (arith, common_steps)

pub returns-in_err-flatten-clause-flat : goal.returns-in_err-flatten-clause-flat
returns-in_err-flatten-clause-flat c = grind (arith, moves)
