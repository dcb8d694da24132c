-- The newest has a place, and what is left is indexed.
use Rattle.lucid_types_scope.proofs.Places.{has_place, left}
use Rattle.lucid_types_scope.proofs.scope.Scope.leave_newest.Goals as goal

pub uncover-requires : goal.uncover-requires
uncover-requires c = has_place c.pop.new.self.items c.self.inside.newest c.in-Some.ended (rw (← c.in-Some.ensures.items) c.self.invariant)

pub invariant_of-self : goal.invariant_of-self
invariant_of-self c =
    left c.pop.new.self.items c.self.inside.newest c.uncover.new.newest c.in-Some.ended (rw (← c.in-Some.ensures.items) c.self.invariant) c.uncover.ensures
