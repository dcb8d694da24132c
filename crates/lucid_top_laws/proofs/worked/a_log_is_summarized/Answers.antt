use Rattle.std.proofs.Common.{refl}
use Rattle.std.specs.Fmt.{digits}
use Rattle.lucid_log.specs.Pieces.{hex_text}
use Rattle.lucid_top_laws.proofs.worked.a_log_is_summarized.Goals as goal

pub returns : goal.returns
unfolding digits hex_text
returns c = refl
