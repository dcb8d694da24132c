use Rattle.std.proofs.Common.{◌≡◌, ℕ, List, length}
use Rattle.lucid_code.specs.Parts.{CodeParts}
use Rattle.lucid_pass_spec.specs.Replace.{Rewrite}
use Rattle.lucid_pass.proofs.RunLemmas.{Ran}
use Rattle.lucid_pass.proofs.run.run_passes_told.Given as goal

pub record Turn {X : Type 0} (named : X → List ℕ) (gives : X → Rewrite) (count : X → ℕ) (before now : List X) (start code : CodeParts) (told : List ℕ) (i end : ℕ) : Type 0 where
  pub long : end ≡ length now
  pub ran : Ran named gives count before now start code told i

abbrev pub invariant-loop-i : goal.invariant-loop-i
invariant-loop-i g l = Turn
    (λ b. (goal.Pass-dyn g (b.vtable, b.value)).called b.value)
    (λ b. (goal.Pass-dyn g (b.vtable, b.value)).gives b.value)
    (λ b. (goal.Pass-dyn g (b.vtable, b.value)).count b.value)
    l.fn.passes.items l.passes.items l.fn.code l.code l.told.items l.i l.i-end
