-- The results of passes one after another, and the number of operations that each removes.
use Rattle.std.specs.Prelude.{ℕ, ◌-◌, List, [], ◌∷◌, length}
use Rattle.std.specs.List.{AllByRecursion, fold}
use Rattle.lucid_base.specs.Saturating.{saturating_sum}
use Rattle.lucid_code.specs.Parts.{CodeParts}
use Rattle.lucid_pass_spec.specs.Laws.{KeepsNodes, Replaces}
use Rattle.lucid_pass_spec.specs.Replace.{Rewrite}

-- Each in order, on the result of the one before.
abbrev pub through : List Rewrite → CodeParts → CodeParts
through passes code = fold (λ now (p : Rewrite). p.makes now) code passes

-- How many operations go in each.
abbrev pub gone : List Rewrite → CodeParts → List ℕ
gone [] code = []
gone (p ∷ passes) code = (length code.ops - length (p.makes code).ops) ∷ gone passes (p.makes code)

-- The counts of the passes that ran, the first ones, rise by the operations that each removed; the others stay.
abbrev pub raised : List ℕ → List ℕ → List ℕ
raised counts [] = counts
raised [] (n ∷ ns) = []
raised (count ∷ counts) (n ∷ ns) = saturating_sum count n ∷ raised counts ns

-- The result of passes on valid code may replace it.
abbrev pub ListsReplace : Type 0
ListsReplace = (passes : List Rewrite) → Replaces (through passes)

-- If each pass of a list keeps nodes after their reads, the list does so.
abbrev pub ListsKeepNodes : Type 0
ListsKeepNodes = (passes : List Rewrite) → AllByRecursion (λ (p : Rewrite). KeepsNodes p.makes) passes → KeepsNodes (through passes)
