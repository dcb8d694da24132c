-- The unchanged parts of the passes after a call.
use Rattle.std.specs.Prelude.{◌≡◌, List, map}
use Rattle.lucid_top_fit.specs.Passes.{PassView}

-- the same passes in the same order; of each the count alone may differ
pub record SamePasses (old new : List PassView) : Type 0 where
  pub names : map PassView.name new ≡ map PassView.name old
  pub gives : map PassView.gives new ≡ map PassView.gives old
