use Rattle.std.proofs.Common.{◌≡◌, ◌∷◌, drop, length}
use Rattle.lucid_stages.specs.NodeTables.{merged, few_behind, few_on_the_way, tables_at}
use Rattle.lucid_stages.specs.Marks.{Within}
use Rattle.std.specs.List.{fold}
use Rattle.lucid_merge.specs.Product.{product}
use Rattle.lucid_stages.proofs.node_tables.merge_all.Given as goal

-- the rest gives, after the merged tables, the result of the whole
abbrev pub invariant-loop-op : goal.invariant-loop-op
invariant-loop-op l =
    Within (length l.code.ops) (drop l.op-index l.more)
    × (few_behind l.rows l.table.rows (tables_at l.code.ops (drop l.op-index l.more)) ≡ few_on_the_way l.rows (tables_at l.code.ops (l.first ∷ l.more)))
    × (fold product l.table.rows (tables_at l.code.ops (drop l.op-index l.more)) ≡ merged (tables_at l.code.ops (l.first ∷ l.more)))
