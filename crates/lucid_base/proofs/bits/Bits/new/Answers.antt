use Rattle.std.proofs.Common.{refl}
use Rattle.lucid_base.proofs.BitsLemmas.{is_bits_of}
use Rattle.lucid_base.proofs.bits.Bits.new.Goals as goal

pub returns : goal.returns
returns c = is_bits_of _ c.args.width c.args.value refl refl
