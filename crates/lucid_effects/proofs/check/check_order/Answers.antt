use Rattle.std.proofs.Common.{rules, ◌≡◌, List, sym, subst}
use Rattle.lucid_effects_spec.specs.Order.{bodies}
use Rattle.lucid_effects_spec.specs.declared.scheme.Scheme.{Scheme}
use Rattle.lucid_effects_spec.specs.Principal.{ArePrincipal}
use Rattle.lucid_effects_spec.specs.Schemes.{all_schemes}
use Rattle.lucid_effects_spec.proofs.AllPrincipal.{all_principal}
use Rattle.lucid_effects.proofs.check.check_order.Goals as goal

pub returns-clause-principal : goal.returns-clause-principal
returns-clause-principal g c =
    let is : c.in_ok-schemes.field-0.schemes.items ≡ all_schemes c.args.core.now = search rules in
    subst (λ (ss : List Scheme). ArePrincipal (bodies c.args.core.now) ss) (sym is) (all_principal c.args.core.now)
