-- The order in which arrays are needed, and cycles of arrays.
use Rattle.std.specs.Prelude.{ℕ, ◌≡◌, ◌⊎◌, List, ◌∷◌, ◌++◌, Any}
use Rattle.lucid_base.specs.declared.array.ArrayName.{ArrayName}
use Rattle.lucid_constraints.specs.Cycle as c
use Rattle.lucid_constraints.specs.Cycle.{Earlier}
use Rattle.lucid_effects_spec.specs.Paths.{Path}

-- The path calls the first, and later the second.
pub record CallsThen (x y : ArrayName) (path : Path) : Type 0 where
  pub before : Path
  pub between : Path
  pub after : Path
  pub is : path ≡ before ++ x ∷ (between ++ y ∷ after)

-- The first is needed before the second, by one of these paths or by their declarations.
abbrev pub NeededBefore : ℕ → List Path → ArrayName → ArrayName → Type 0
NeededBefore arrays ps x y = Any (CallsThen x y) ps ⊎ Earlier arrays x y

-- A cycle of the order in which arrays are needed.
abbrev pub IsCycle : ℕ → List Path → ArrayName → List ArrayName → Type 0
IsCycle arrays ps first others = c.IsCycle (NeededBefore arrays ps) first others
