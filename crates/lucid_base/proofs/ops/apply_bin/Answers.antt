use Rattle.std.proofs.Common.{◌<◌, ◌^◌}
use Rattle.lucid_base.proofs.Laws.{bin_of-fits}
use Rattle.lucid_base.proofs.ops.apply_bin.Goals as goal

pub invariant_of-result : goal.invariant_of-result
invariant_of-result c =
    let below : c.args.b.value < 2 ^ c.args.a.width = rw c.requires c.args.b.fits in
    record {
      fits = rw c.bin_value.ensures (bin_of-fits c.args.op c.args.a.width c.args.a.value c.args.b.value c.args.a.fits below);
    }
