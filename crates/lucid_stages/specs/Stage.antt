-- Nodes at their places, and stages as they fill with the tables of nodes.
use Rattle.std.specs.Prelude.{ℕ, zero, suc, ◌+◌, List, [], ◌∷◌, Bool, ◌&&◌, if◌then◌else◌, nat_eq, replicate, slice_index_or, slice_set}
use Rattle.lucid_code.specs.declared.op.Op.{Op}
use Rattle.lucid_tables.specs.declared.table.Row.{Row}
use Rattle.lucid_tables.specs.declared.table.Table.{Table}
use Rattle.lucid_tables.specs.Rows.{table}
use Rattle.lucid_merge.specs.Product.{product}
use Rattle.lucid_conf.specs.declared.limits.Limits.{Limits}
use Rattle.lucid_stages.specs.declared.node.Work.{Work}
use Rattle.lucid_stages.specs.declared.stage.Pair.{Pair}
use Rattle.lucid_stages.specs.declared.stage.Seat.{Seat}
use Rattle.lucid_stages.specs.declared.stage.Stage.{Stage}
use Rattle.lucid_stages.specs.NodeTables.{merged, tables_of}

abbrev pub seats : List Work → List Pair → List Seat
seats ns [] = []
seats [] (p ∷ ps) = []
seats (n ∷ ns) (p ∷ ps) = record { node = n; at = p } ∷ seats ns ps

-- The node is in this table of this stage.
abbrev pub is_at : ℕ → ℕ → Seat → Bool
is_at k t s = nat_eq s.at.stage k && nat_eq s.at.table t

abbrev pub no_table : Table
no_table = record { keys = []; rows = [] }

abbrev pub no_tables : Stage
no_tables = record { tables = []; arrays = 0 }

-- A table in place of the one there, or behind the last.
abbrev pub put_at : List Table → ℕ → Table → List Table
put_at [] t x = x ∷ []
put_at (y ∷ ys) zero x = x ∷ ys
put_at (y ∷ ys) (suc t) x = y ∷ put_at ys t x

-- The rows of a table of the stage, none where it is the next one.
abbrev pub rows_at : Stage → ℕ → List Row
rows_at s t = (slice_index_or s.tables t no_table).rows

-- A stage once a table of it is this, for a node that calls an array or calls none.
abbrev pub with_table : Bool → ℕ → Table → Stage → Stage
with_table array t x s = record { tables = put_at s.tables t x; arrays = if array then s.arrays + 1 else s.arrays }

-- A stage with one more node in this table.
abbrev pub with_node : List Op → Work → ℕ → Stage → Stage
with_node ops n t s = with_table n.is_array t (table (product (rows_at s t) (merged (tables_of ops n)))) s

abbrev pub seated : List Op → Seat → List Stage → List Stage
seated ops s stages = slice_set stages s.at.stage (with_node ops s.node s.at.table (slice_index_or stages s.at.stage no_tables))

abbrev pub filled : List Op → List Stage → List Seat → List Stage
filled ops stages [] = stages
filled ops stages (s ∷ ss) = filled ops (seated ops s stages) ss

-- The content of the stages after these nodes have their places.
abbrev pub laid : List Op → Limits → List Seat → List Stage
laid ops limits done = filled ops (replicate limits.stages no_tables) done
