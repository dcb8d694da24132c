-- Laws of first fit.
use Rattle.std.specs.Prelude.{◌≡◌, ◌≢◌, ◌⊎◌, ℕ, ◌≤◌, List, [], IsTrue, true, length}
use Rattle.lucid_code.specs.Nodes.{nodes_follow_writes}
use Rattle.lucid_code.specs.Parts.{CodeParts}
use Rattle.lucid_merge.specs.Product.{product}
use Rattle.lucid_tables.specs.declared.table.Row.{Row}
use Rattle.lucid_tables.specs.Placed.{PlacedParts}
use Rattle.lucid_conf.specs.declared.limits.Limits.{Limits}
use Rattle.lucid_stages.specs.declared.stage.Pair.{Pair}
use Rattle.lucid_stages.specs.NodeTables.{few_on_the_way, merged}
use Rattle.lucid_stages.specs.Stage.{seats}
use Rattle.lucid_stages.specs.NodeWorks.{works}
use Rattle.lucid_layout.specs.declared.error.FitError.{FitError}
use Rattle.lucid_layout.specs.declared.error.FitError.TheVariants.{Memory}
use Rattle.lucid_layout.specs.Fit.{IsFirstFit, IsStuck, NoRoom}
use Rattle.lucid_layout.specs.Layout.{IsLayout, IsRefused}
use Rattle.lucid_audit.specs.Audit.{KeepsRules, IsAudited}

-- A layout, or a cause of refusal other than a failed allocation.
abbrev pub LayoutsAreThere : Type 0
LayoutsAreThere = (code : CodeParts) (limits : Limits) →
    ((placed : PlacedParts) × IsLayout code limits placed) ⊎ ((e : FitError) × (e ≢ Memory) × IsRefused code limits e)

-- Code has one layout within limits, or one cause for none.
pub record LayoutsAreOne : Type 0 where
  pub one : (code : CodeParts) (limits : Limits) (p q : PlacedParts) → IsLayout code limits p → IsLayout code limits q → p ≡ q
  pub never_both : (code : CodeParts) (limits : Limits) (p : PlacedParts) (e : FitError) → IsLayout code limits p → IsRefused code limits e → e ≡ Memory
  pub one_cause : (code : CodeParts) (limits : Limits) (e f : FitError) → IsRefused code limits e → IsRefused code limits f → e ≢ Memory → f ≢ Memory → e ≡ f

-- If each node that writes a field precedes those that read it, a node has no place only if a limit leaves no room for it.
abbrev pub StuckForRoom : Type 0
StuckForRoom = (code : CodeParts) (limits : Limits) (i : ℕ) → IsTrue (nodes_follow_writes code.ops) → IsStuck code.ops limits [] (works code.ops) i → NoRoom code.ops limits [] (works code.ops) i

-- The places of every first fit keep the rules, and if code has a layout, its places give that layout.
pub record FirstFitsAreAccepted : Type 0 where
  pub rules : (code : CodeParts) (limits : Limits) (pairs : List Pair) → IsFirstFit code.ops limits [] (works code.ops) pairs → KeepsRules code.ops limits (seats (works code.ops) pairs)
  pub placed : (code : CodeParts) (limits : Limits) (placed : PlacedParts) → IsLayout code limits placed → (pairs : List Pair) × IsFirstFit code.ops limits [] (works code.ops) pairs × IsAudited code limits pairs placed

-- If a table has at most so many rows once these tables are merged with it, so has each product of the first of them, from two on. So no
-- rule for a place asks for the products on the way.
abbrev pub ProductsOnTheWayFit : Type 0
ProductsOnTheWayFit = (most : ℕ) (table : List Row) (tables : List (List Row)) → length (product table (merged tables)) ≤ most → few_on_the_way most tables ≡ true
