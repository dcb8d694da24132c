use Rattle.std.proofs.Common.{refl, rules}
use Rattle.lucid_base.proofs.BitsLemmas.{is_bits_of}
use Rattle.lucid_base.proofs.memory_alu.MemAlu.apply_low.Goals as goal

pub returns : goal.returns
returns c = is_bits_of _ _ _ refl (search rules)
