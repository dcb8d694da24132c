use Rattle.std.proofs.Common.{◌≡◌, ◌++◌, drop}
use Rattle.lucid_stages.specs.NodeWorks.{reads_at, writes_at}
use Rattle.lucid_stages.proofs.node_works.work_at.Given as goal

-- the rest gives, with the items so far, the result of the whole
abbrev pub invariant-loop-place : goal.invariant-loop-place
invariant-loop-place l =
    (l.reads.items ++ reads_at l.ops (drop l.place-index l.place-items) ≡ reads_at l.ops l.place-items)
    × (l.writes.items ++ writes_at l.ops (drop l.place-index l.place-items) ≡ writes_at l.ops l.place-items)
