use Rattle.std.proofs.Common.{refl}
use Rattle.std.specs.Fmt.{digits}
use Rattle.lucid_gen.specs.Draws.{times}
use Rattle.lucid_top_laws.proofs.worked.a_scene_is_generated.Goals as goal

pub returns : goal.returns
unfolding digits times
returns c = refl
