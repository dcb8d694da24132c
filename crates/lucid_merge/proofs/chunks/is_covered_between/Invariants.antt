use Rattle.std.proofs.Common.{◌≡◌, ◌+◌, ◌≤◌, length}
use Rattle.std.specs.List.{list_any}
use Rattle.lucid_merge.specs.Chunks.{between}
use Rattle.lucid_merge.specs.Signs.{covers}
use Rattle.lucid_merge.proofs.chunks.is_covered_between.Given as goal

-- the rest decides the whole, at a step for each row before
abbrev pub invariant-loop-number : goal.invariant-loop-number
invariant-loop-number g l =
    (list_any (covers l.p l.q) (between l.number l.to l.rows) ≡ list_any (covers l.p l.q) (between l.from l.to l.rows))
    × (l.steps + length (between l.number l.to l.rows) ≤ l.fn.steps + length (between l.from l.to l.rows))
