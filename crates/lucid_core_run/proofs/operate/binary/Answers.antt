use Rattle.std.proofs.Common.{◌∙◌, ap}
use Rattle.lucid_base.specs.Ops.{bin_of}
use Rattle.lucid_base.proofs.BitsLemmas.{is_bits_of}
use Rattle.lucid_core_run.proofs.operate.binary.Goals as goal

pub returns : goal.returns
returns c = is_bits_of _ _ _ c.apply_bin.ensures.width (c.apply_bin.ensures.value ∙ ap (bin_of c.args.op c.args.a.width c.args.a.value) c.cast.ensures.value)
