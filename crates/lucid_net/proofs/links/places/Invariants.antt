use Rattle.std.proofs.Common.{drop}
use Rattle.lucid_net.specs.Pairs.{Finds}
use Rattle.lucid_net.proofs.links.places.Given as goal

-- The table has the links from this place on.
abbrev pub invariant-loop-place : goal.invariant-loop-place
invariant-loop-place l = Finds l.links (drop l.place l.links) l.switches l.places.items
