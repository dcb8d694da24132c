use Rattle.std.proofs.Common.{◌∙◌}
use Rattle.lucid_tables.proofs.ByRegister.{registers_below}
use Rattle.lucid_tables.proofs.placed.Placed.new.Goals as goal

pub widths_of-requires : goal.widths_of-requires
widths_of-requires c =
    registers_below c.args.code _ _ c.fields.ensures.valid c.fields.ensures.value (c.as_slice-2.ensures.value ∙ c.in_ok-carried.ensures.value)
