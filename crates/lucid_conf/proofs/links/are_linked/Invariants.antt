use Rattle.std.proofs.Common.{◌≡◌, drop}
use Rattle.lucid_conf.specs.Items.{are_linked}
use Rattle.lucid_conf.proofs.links.are_linked.Given as goal

abbrev pub invariant-loop-l : goal.invariant-loop-l
invariant-loop-l l = are_linked (drop l.l-index l.links) l.a l.b ≡ are_linked l.links l.a l.b
