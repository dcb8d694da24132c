use Rattle.std.proofs.Common.{◌∙◌, subst, sym}
use Rattle.std.specs.Prelude.{All}
use Rattle.lucid_size.specs.Places.{InText}
use Rattle.lucid_size.proofs.assembly.write_between.Goals as goal

pub tokens_stand-requires : goal.tokens_stand-requires
tokens_stand-requires c = c.requires.reads

pub add_steps-requires-clause-order : goal.add_steps-requires-clause-order
add_steps-requires-clause-order c = c.requires.order

pub add_steps-requires-clause-within : goal.add_steps-requires-clause-within
add_steps-requires-clause-within c = c.requires.within

pub steps_stand-requires-clause-reads : goal.steps_stand-requires-clause-reads
steps_stand-requires-clause-reads c = c.requires.reads

pub steps_stand-requires-clause-order : goal.steps_stand-requires-clause-order
steps_stand-requires-clause-order c = c.requires.order

pub steps_stand-requires-clause-within : goal.steps_stand-requires-clause-within
steps_stand-requires-clause-within c = c.requires.within

pub write_steps-written-requires : goal.write_steps-written-requires
write_steps-written-requires c = subst (All (InText c.args.text.now)) (c.as_slice.ensures ∙ sym c.as_slice-2.ensures) c.steps_stand.ensures
