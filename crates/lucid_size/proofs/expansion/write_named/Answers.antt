use Rattle.std.proofs.Common.{◌∙◌}
use Rattle.lucid_size.proofs.expansion.write_named.Goals as goal

pub templates_stand-requires : goal.templates_stand-requires
templates_stand-requires c = record { reads = c.requires.reads; whole = c.requires.names.whole }

pub parts_of-requires : goal.parts_of-requires
parts_of-requires c = record { stand = c.templates_stand.ensures.stand; order = c.templates_stand.ensures.order }

pub write_parted-written-requires : goal.write_parted-written-requires
write_parted-written-requires c = record {
  reads = c.requires.reads;
  names = c.requires.names;
  outside = c.as_slice.ensures ∙ c.in_ok-parts.ensures.outside;
  bodies = c.as_slice-2.ensures.value ∙ c.in_ok-parts.ensures.bodies;
}

pub returns : goal.returns
returns c = record { ok = c.write_parted-written.ensures.ok; err = c.write_parted-written.ensures.err }
