-- The meaning of a refusal.
use Rattle.std.specs.Prelude.{ℕ, ◌<◌, ◌≡◌, List, All, Contains, length}
use Rattle.lucid_base.specs.declared.array.ArrayName.{ArrayName}
use Rattle.lucid_core.specs.Parts.{CoreParts}
use Rattle.lucid_effects_spec.specs.Cycle.{IsCycle}
use Rattle.lucid_effects_spec.specs.Order.{Body, InOrder, bodies}
use Rattle.lucid_effects_spec.specs.Paths.{paths}

-- Of these bodies, that of declaration `decl` isn't in order and has this cycle; those with smaller numbers are in order.
pub record IsFirstOf (arrays : ℕ) (bs : List Body) (decl : ℕ) (first : ArrayName) (others : List ArrayName) : Type 0 where
  pub refused : Body
  pub there : Contains bs refused
  pub number : refused.decl ≡ decl
  pub isnt : ¬ InOrder arrays refused.funs refused.body
  pub cycle : IsCycle arrays (paths refused.funs refused.body) first others
  pub none_before : All (λ b. b.decl < decl → InOrder arrays b.funs b.body) bs

-- Of a program, so of all its bodies.
abbrev pub IsFirstRefused : CoreParts → ℕ → ArrayName → List ArrayName → Type 0
IsFirstRefused parts decl first others = IsFirstOf (length parts.arrays) (bodies parts) decl first others
