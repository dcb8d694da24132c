use Rattle.std.proofs.Common.{refl}
use Rattle.std.specs.Fmt.{digits}
use Rattle.lucid_top_laws.proofs.worked.limits_are_generated.Goals as goal

pub returns : goal.returns
unfolding digits
returns c = refl
