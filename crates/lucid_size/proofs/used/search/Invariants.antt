use Rattle.std.proofs.Common.{◌≡◌, ◌+◌, take}
use Rattle.std.specs.List.{sum_by}
use Rattle.lucid_size.specs.Search.{Searching, Sees}
use Rattle.lucid_size.specs.Bytes.{instance_len}
use Rattle.lucid_size.proofs.used.search.Given as goal

abbrev pub invariant-loop-at : goal.invariant-loop-at
invariant-loop-at l = record {
  sees : Sees l.used.found.items l.used.seen;
  searching : Searching l.outside l.bodies l.used.found.items l.at;
  left : sum_by (instance_len l.underscores l.bodies) (take l.at l.used.found.items) + l.room ≡ l.fn.room;
}

-- each instance takes room
abbrev pub decreases-loop-at : goal.decreases-loop-at
decreases-loop-at l = l.room
