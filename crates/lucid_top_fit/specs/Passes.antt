-- The model of passes in boxes, and the effect of a call on those that it runs.
use Rattle.std.specs.Prelude.{◌≡◌, ◌⊎◌, ℕ, List, [], ◌∷◌, Result, Err, codes, length, map, take}
use Rattle.std.specs.List.{AllByRecursion}
use Rattle.lucid_code.specs.Parts as code
use Rattle.lucid_pass.specs.Through.{gone, raised}
use Rattle.lucid_pass_spec.specs.Dead.{alive}
use Rattle.lucid_pass_spec.specs.Direct.{direct}
use Rattle.lucid_pass_spec.specs.Laws.{KeepsNodes}
use Rattle.lucid_pass_spec.specs.Looks.{copies, folded}
use Rattle.lucid_pass_spec.specs.Replace.{Rewrite}
use Rattle.lucid_top_words.specs.declared.refusal.Refusal.{Refusal}
use Rattle.lucid_top_words.specs.declared.refusal.Refusal.TheVariants as refusal
use Rattle.lucid_top_words.specs.Words.{Bytes}

-- a pass: its name, its result for code, and the number of operations removed in all its runs
pub record PassView : Type 0 where
  pub name : Bytes
  pub gives : Rewrite
  pub removed : ℕ

abbrev pub pass_view : {B : Type 0} → (B → Bytes) → (B → Rewrite) → (B → ℕ) → B → PassView
pass_view name gives removed pass = record { name = name pass; gives = gives pass; removed = removed pass }

abbrev pub passes_view : {B : Type 0} → (B → Bytes) → (B → Rewrite) → (B → ℕ) → List B → List PassView
passes_view name gives removed passes = map (pass_view name gives removed) passes

-- The first n of the old passes ran, one after another, from this code on: the new are the same in the same order, and of those that ran
-- the counts rose by the number of operations removed in each.
pub record Ran (n : ℕ) (from : code.CodeParts) (old new : List PassView) : Type 0 where
  pub names : map PassView.name new ≡ map PassView.name old
  pub same : map PassView.gives new ≡ map PassView.gives old
  pub counts : map PassView.removed new ≡ raised (map PassView.removed old) (take n (gone (map PassView.gives old) from))

-- memory ran out
abbrev pub RanOut : {X : Type 0} → Result X Refusal → Type 0
RanOut (Err refusal.Memory) = Unit {0}
RanOut other = ⊥

-- The effect of a call on its passes that runs them on code with `runs`: if there is none, or memory ran out, they may be unchanged;
-- otherwise they ran on it, all of them unless memory ran out.
abbrev pub PassesRun : {X : Type 0} → (code.CodeParts → Type 0) → List PassView → List PassView → Result X Refusal → Type 0
PassesRun runs old new end =
    ((new ≡ old) × ((from : code.CodeParts) → runs from → RanOut end))
    ⊎ ((from : code.CodeParts) × runs from × (n : ℕ) × Ran n from old new × (RanOut end ⊎ (n ≡ length old)))

-- if nodes follow their reads, they do so in the result of each of these
abbrev pub KeepNodes : List Rewrite → Type 0
KeepNodes gives = AllByRecursion (λ (p : Rewrite). KeepsNodes p.makes) gives

-- ---- the passes of the program

-- the functions of the four passes, in their order
abbrev pub our_makes : List (code.CodeParts → code.CodeParts)
our_makes = folded ∷ copies ∷ alive ∷ direct ∷ []

-- These are the four passes in the order in which they run, by their names and their functions.
pub record AreOurs (passes : List PassView) : Type 0 where
  pub names : map PassView.name passes ≡ codes "fold" ∷ codes "copies" ∷ codes "dead" ∷ codes "direct" ∷ []
  pub makes : map (λ p. p.gives.makes) passes ≡ our_makes
