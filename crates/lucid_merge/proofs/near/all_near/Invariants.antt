use Rattle.std.specs.List.{All}
use Rattle.lucid_merge.specs.Standing.{IsNear}
use Rattle.lucid_merge.proofs.near.all_near.Given as goal

abbrev pub invariant-loop-rest : goal.invariant-loop-rest
invariant-loop-rest l = All (IsNear l.rows) l.list.items
