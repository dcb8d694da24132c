use Rattle.lucid_size.proofs.expansion.write_cut.Goals as goal

pub templates_stand-requires : goal.templates_stand-requires
templates_stand-requires c = record { reads = c.requires.reads; whole = c.requires.whole }

pub names_of-requires : goal.names_of-requires
names_of-requires c = record { stand = c.templates_stand.ensures.stand; whole = c.templates_stand.ensures.whole }

pub write_named-written-requires : goal.write_named-written-requires
write_named-written-requires c = record {
  reads = c.requires.reads;
  names = record { whole = c.requires.whole; are = c.in_ok-names.ensures.names; distinct = c.in_ok-names.ensures.distinct };
}

pub returns : goal.returns
returns c = record { ok = c.write_named-written.ensures.ok; err = c.write_named-written.ensures.err }
