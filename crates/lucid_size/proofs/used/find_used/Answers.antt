use Rattle.lucid_size.proofs.used.find_used.Goals as goal

pub search-requires : goal.search-requires
search-requires c = record {
  none = c.new-used.ensures.none;
  sees = c.new-used.ensures.sees;
  outside = c.requires.outside;
  bodies = c.requires.bodies;
  steps = c.requires.steps;
}

pub returns-in-Err-clause-err : goal.returns-in-Err-clause-err
returns-in-Err-clause-err c = c.in-Err.ensures.err

pub returns-clause-found : goal.returns-clause-found
returns-clause-found c = c.in-Ok.ensures.found

pub returns-clause-within : goal.returns-clause-within
returns-clause-within c = c.in-Ok.ensures.within
