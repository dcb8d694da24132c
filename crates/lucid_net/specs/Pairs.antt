-- A table of links by the two switches that each joins.
use Rattle.std.specs.Prelude.{◌≡◌, ℕ, ◌+◌, ◌*◌, ◌<◌, List, All, length, slice_index_or, slice_set}
use Rattle.std.specs.List.{find, slice_get}
use Rattle.lucid_conf.specs.Items.{joins}
use Rattle.lucid_conf.specs.Kept.{IsLink}
use Rattle.lucid_conf.specs.declared.scene.Link.{Link}

-- The link at this place among all is in the cell of its two switches, in either order.
abbrev pub with_link : ℕ → Link → ℕ → List ℕ → List ℕ
with_link switches l place places = slice_set (slice_set places (l.a * switches + l.b) place) (l.b * switches + l.a) place

-- The cell of each two switches has the place of the first of these links that joins them.
pub record Finds (links these : List Link) (switches : ℕ) (places : List ℕ) : Type 0 where
  pub long : length places ≡ switches * switches
  pub first : (a b none : ℕ) → a < switches → b < switches → slice_get links (slice_index_or places (a * switches + b) none) ≡ find (joins a b) these

-- It has those of all links, none of which joins a switch that isn't there.
pub record IsTable (links : List Link) (switches : ℕ) (places : List ℕ) : Type 0 where
  pub within : All (IsLink switches) links
  pub finds : Finds links links switches places
