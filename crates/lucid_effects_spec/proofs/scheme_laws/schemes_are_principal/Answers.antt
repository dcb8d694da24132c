use Rattle.lucid_effects_spec.proofs.AllPrincipal.{all_principal}
use Rattle.lucid_effects_spec.proofs.scheme_laws.schemes_are_principal.Goals as goal

pub returns : goal.returns
returns c = all_principal
