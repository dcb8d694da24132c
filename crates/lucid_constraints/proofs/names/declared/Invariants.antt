use Rattle.lucid_constraints.specs.Circle.{HasDeclared}
use Rattle.lucid_constraints.proofs.names.declared.Given as goal

abbrev pub invariant-loop-a : goal.invariant-loop-a
invariant-loop-a l = HasDeclared l.a l.names.items
