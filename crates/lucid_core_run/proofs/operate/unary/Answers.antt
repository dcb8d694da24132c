use Rattle.lucid_base.proofs.BitsLemmas.{is_bits_of}
use Rattle.lucid_core_run.proofs.operate.unary.Goals as goal

pub returns : goal.returns
returns c = is_bits_of _ _ _ c.apply_un.ensures.width c.apply_un.ensures.value
