-- The search for the least place of a node, and its running counts. The clauses of `place` do not rest on it; it ties the loop to
-- specs/Fit.
use Rattle.std.specs.Prelude.{◌≡◌, ℕ, ◌<◌, ◌≤◌, List, [], Bool, true, false, nat_lt, slice_index, slice_index_or}
use Rattle.std.specs.List.{list_any}
use Rattle.lucid_code.specs.declared.op.Op.{Op}
use Rattle.lucid_tables.specs.declared.table.Row.{Row}
use Rattle.lucid_tables.specs.declared.table.Table.{Table}
use Rattle.lucid_tables.specs.Rows.{table}
use Rattle.lucid_merge.specs.Product.{product}
use Rattle.lucid_conf.specs.declared.limits.Limits.{Limits}
use Rattle.lucid_stages.specs.declared.node.Work.{Work}
use Rattle.lucid_stages.specs.declared.stage.Pair.{Pair}
use Rattle.lucid_stages.specs.declared.stage.Stage.{Stage}
use Rattle.lucid_stages.specs.Stage.{rows_at, no_tables}
use Rattle.lucid_stages.specs.Marks.{floor}
use Rattle.lucid_stages.specs.NodeTables.{merged, tables_of}
use Rattle.lucid_layout.specs.declared.error.FitError.{FitError}
use Rattle.lucid_layout.specs.declared.error.FitError.TheVariants.{Node as NoPlace, Memory}
use Rattle.lucid_layout.specs.Fit.{TableFits, StageFits, Least, IsStuck}

-- The least table of the stage that fits, and its content after the merge.
pub record LeastTable (limits : Limits) (s : Stage) (more : List Row) (t : ℕ) (made : Table) : Type 0 where
  pub fits : TableFits limits s more t
  pub least : (u : ℕ) → TableFits limits s more u → t ≤ u
  pub made_is : made ≡ table (product (rows_at s t) more)

-- A place in these stages, from a stage on.
pub record Fits (limits : Limits) (stages : List Stage) (low : ℕ) (array : Bool) (more : List Row) (p : Pair) : Type 0 where
  pub above : low ≤ p.stage
  pub below : p.stage < limits.stages
  pub fits : StageFits limits (slice_index_or stages p.stage no_tables) array more p.table

abbrev pub TableAt : List Stage → List Row → Pair → Table → Type 0
TableAt stages more p made = made ≡ table (product (rows_at (slice_index_or stages p.stage no_tables) p.table) more)

-- The node, number i, takes this place, at which the table is then `made`: no node from its own on writes its reads.
pub record Takes (ops : List Op) (limits : Limits) (ends low : List ℕ) (stages : List Stage) (n : Work) (i : ℕ) (p : Pair) (made : Table) : Type 0 where
  pub written : list_any (λ k. nat_lt i (slice_index ends k)) n.reads ≡ false
  pub least : Least (Fits limits stages (floor low n.reads) n.is_array (merged (tables_of ops n))) p
  pub made_is : TableAt stages (merged (tables_of ops n)) p made

-- It may have none.
abbrev pub TakesNone : List Op → Limits → List ℕ → List ℕ → List Stage → Work → ℕ → Type 0
TakesNone ops limits ends low stages n i =
    list_any (λ k. nat_lt i (slice_index ends k)) n.reads ≡ false → (p : Pair) → Fits limits stages (floor low n.reads) n.is_array (merged (tables_of ops n)) p → ⊥

-- The meaning of an error for the nodes.
abbrev pub Unplaced : List Op → Limits → List Work → FitError → Type 0
Unplaced ops limits ns (NoPlace i) = IsStuck ops limits [] ns i
Unplaced ops limits ns Memory = Unit {0}
Unplaced ops limits ns _ = ⊥
