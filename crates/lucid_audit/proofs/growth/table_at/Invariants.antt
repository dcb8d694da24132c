use Rattle.std.proofs.Common.{◌≡◌, [], drop, length}
use Rattle.std.specs.List.{AllByRecursion}
use Rattle.lucid_tables.specs.Rows.{table}
use Rattle.lucid_stages.specs.Marks.{Within}
use Rattle.lucid_audit.specs.Audit.{few_rows, grown, nodes_at}
use Rattle.lucid_audit.proofs.growth.table_at.Given as goal

-- the rest gives, after the merged seats, the result of the whole
abbrev pub invariant-loop-seat : goal.invariant-loop-seat
invariant-loop-seat l =
    AllByRecursion (λ s. Within (length l.code.ops) s.node.ops) (drop l.seat-index l.seats)
    × (l.table ≡ table l.table.rows)
    × (few_rows l.code.ops l.rows l.table.rows (nodes_at l.k l.t (drop l.seat-index l.seats)) ≡ few_rows l.code.ops l.rows [] (nodes_at l.k l.t l.seats))
    × (grown l.code.ops l.table.rows (nodes_at l.k l.t (drop l.seat-index l.seats)) ≡ grown l.code.ops [] (nodes_at l.k l.t l.seats))
