use Rattle.std.proofs.Common.{◌∙◌, Ok, ap, sym}
use Rattle.lucid_size.proofs.expansion.written_out.Goals as goal

pub write_cut-written-requires : goal.write_cut-written-requires
write_cut-written-requires c = record { reads = c.requires; whole = c.in_ok-cut.ensures.ok ∙ ap Ok (sym c.as_slice.ensures.value) }

pub returns : goal.returns
returns c = record { ok = c.write_cut-written.ensures.ok; err = c.write_cut-written.ensures.err }
