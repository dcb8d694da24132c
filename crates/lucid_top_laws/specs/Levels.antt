-- Code whose nodes have room at their levels. The level of a node is one above the highest level of the nodes that write its reads.
use Rattle.std.specs.Prelude.{◌≡◌, ℕ, ◌+◌, max, List, [], ◌∷◌, ◌++◌, Bool, true, not, ◌&&◌, if◌then◌else◌, length, nat_eq, nat_le, nat_lt}
use Rattle.lucid_code.specs.declared.op.Op.{Op}
use Rattle.lucid_code.specs.Parts.{CodeParts}
use Rattle.lucid_conf.specs.declared.limits.Limits.{Limits}
use Rattle.lucid_layout.specs.Layout.{IsLayout}
use Rattle.lucid_merge.specs.Product.{product}
use Rattle.lucid_stages.specs.Counts.{CountsFit}
use Rattle.lucid_stages.specs.declared.node.Work.{Work}
use Rattle.lucid_stages.specs.Marks.{fed_by, feeds}
use Rattle.lucid_stages.specs.NodeTables.{merged, tables_of}
use Rattle.lucid_stages.specs.NodeWorks.{works}
use Rattle.lucid_tables.specs.Placed.{PlacedParts}

-- A node and its level.
pub record Leveled : Type 0 where
  pub node : Work
  pub level : ℕ

abbrev pub leveled : Work → ℕ → Leveled
leveled n k = record { node = n; level = k }

-- One above the highest of these nodes that write a read of the node.
abbrev pub level_of : List Leveled → Work → ℕ
level_of [] n = 0
level_of (d ∷ done) n = max (if feeds d.node n then d.level + 1 else 0) (level_of done n)

-- How many of these nodes are at the level, and how many of them call an array.
abbrev pub nodes_on : ℕ → List Leveled → ℕ
nodes_on k [] = 0
nodes_on k (d ∷ done) = (if nat_eq d.level k then 1 else 0) + nodes_on k done

abbrev pub arrays_on : ℕ → List Leveled → ℕ
arrays_on k [] = 0
arrays_on k (d ∷ done) = (if nat_eq d.level k && d.node.is_array then 1 else 0) + arrays_on k done

-- The node has room in a table of its own at this level: no node from itself on writes its reads, its rows are few, and so are the nodes
-- and the arrays of this level before it.
abbrev pub has_room : List Op → Limits → List Leveled → Work → List Work → ℕ → Bool
has_room ops limits done n later k =
    not (fed_by (n ∷ later) n) && (nat_lt k limits.stages && (nat_le (length (product [] (merged (tables_of ops n)))) limits.rows
    && (nat_lt (nodes_on k done) limits.tables && (if n.is_array then nat_lt (arrays_on k done) limits.arrays else true))))

-- So has each of these nodes at its level, after those before it.
abbrev pub all_have_room : List Op → Limits → List Leveled → List Work → Bool
all_have_room ops limits done [] = true
all_have_room ops limits done (n ∷ ns) =
    has_room ops limits done n ns (level_of done n) && all_have_room ops limits (done ++ leveled n (level_of done n) ∷ []) ns

-- If the counts of code keep their limits and each node has room at its level, first fit places the code.
abbrev pub RoomyCodeIsPlaced : Type 0
RoomyCodeIsPlaced =
    (code : CodeParts) (limits : Limits) → CountsFit code limits → all_have_room code.ops limits [] (works code.ops) ≡ true →
    (placed : PlacedParts) × IsLayout code limits placed
