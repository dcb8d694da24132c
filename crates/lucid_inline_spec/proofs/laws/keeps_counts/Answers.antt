use Rattle.lucid_inline_spec.proofs.LengthLaw as length
use Rattle.lucid_inline_spec.proofs.laws.keeps_counts.Goals as goal

pub returns : goal.returns
returns c =
    let core = c.args.core.now in
    let valid = c.arrays-valid.ensures.valid in
    record { lengths = length.lengths_kept core valid; sizes = length.sizes_kept core valid }
