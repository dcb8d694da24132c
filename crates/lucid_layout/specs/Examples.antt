-- A layout worked by hand: the order of its nodes, first fit with its stages, and a refusal by each rule.
use Rattle.std.specs.Prelude.{◌≡◌, [], ◌∷◌, true}
use Rattle.lucid_code.specs.declared.node.Node.TheVariants.{Pure, Array}
use Rattle.lucid_code.specs.Nodes.{nodes}
use Rattle.lucid_code.specs.Valid.{IsValid}
use Rattle.lucid_stages.specs.Counts.{bits_of}
use Rattle.lucid_stages.specs.Examples.{branches, branching, laid_out, places, plain}
use Rattle.lucid_stages.specs.NodeWorks.{work_of, works}
use Rattle.lucid_layout.specs.declared.error.FitError.TheVariants.{Arms, Fields}
use Rattle.lucid_layout.specs.Fit.{IsFirstFit, IsStuck}
use Rattle.lucid_layout.specs.Layout.{IsRefused, stages_of}

pub record LayoutExamples : Type 0 where
  pub valid : IsValid branches
  -- the calls of the array are one node, after the operations before the first call and before those after it
  pub order : nodes branching ≡ Pure 0 ∷ Pure 1 ∷ Array 0 ∷ Pure 3 ∷ Pure 5 ∷ Pure 6 ∷ Pure 7 ∷ Pure 8 ∷ []
  pub calls : work_of branching (Array 0) ≡ record { ops = 2 ∷ 4 ∷ []; reads = 0 ∷ 5 ∷ 0 ∷ 5 ∷ []; writes = 6 ∷ 8 ∷ []; is_array = true }
  pub bits : bits_of branches ≡ 321
  pub fit : IsFirstFit branching plain [] (works branching) places
  pub stages : stages_of branches plain places ≡ laid_out
  -- a call of the array too many, and a bit too many
  pub crowded : IsRefused branches (record plain { arms = 1 }) (Arms 0)
  pub wide : IsRefused branches (record plain { bits = 320 }) (Fields 321)
  -- the array's node needs two rows
  pub no_row_left : IsStuck branching (record plain { rows = 1 }) [] (works branching) 2
