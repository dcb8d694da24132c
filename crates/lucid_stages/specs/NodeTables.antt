-- The table of a node: those of its operations, merged one after another.
use Rattle.std.specs.Prelude.{ℕ, List, [], ◌∷◌, Bool, true, ◌&&◌, length, map, nat_le}
use Rattle.std.specs.List.{fold}
use Rattle.lucid_code.specs.declared.op.Op.{Op}
use Rattle.lucid_tables.specs.declared.table.Row.{Row}
use Rattle.lucid_tables.specs.Rows.{rows_of, guard_of}
use Rattle.lucid_merge.specs.Product.{product}
use Rattle.lucid_stages.specs.declared.node.Work.{Work}

-- The tables of the operations at these places, and those of a node's operations.
abbrev pub tables_at : List Op → List ℕ → List (List Row)
tables_at ops places = map (λ i. rows_of (guard_of ops i) i) places

abbrev pub tables_of : List Op → Work → List (List Row)
tables_of ops n = tables_at ops n.ops

-- Tables merged one after another.
abbrev pub merged : List (List Row) → List Row
merged [] = []
merged (t ∷ tables) = fold product t tables

-- Each product of the first tables, from two on, has at most `most` rows.
abbrev pub few_behind : ℕ → List Row → List (List Row) → Bool
few_behind most t [] = true
few_behind most t (u ∷ tables) = nat_le (length (product t u)) most && few_behind most (product t u) tables

abbrev pub few_on_the_way : ℕ → List (List Row) → Bool
few_on_the_way most [] = true
few_on_the_way most (t ∷ tables) = few_behind most t tables
