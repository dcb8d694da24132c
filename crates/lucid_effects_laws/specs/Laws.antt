-- The order of arrays is decided for every body, valid or not.
use Rattle.std.specs.Prelude.{ℕ, ◌⊎◌, List}
use Rattle.lucid_base.specs.declared.array.ArrayName.{ArrayName}
use Rattle.lucid_core.specs.declared.body.Stmt.{Stmt}
use Rattle.lucid_core.specs.declared.defs.FunDef.{FunDef}
use Rattle.lucid_effects_spec.specs.Cycle.{IsCycle}
use Rattle.lucid_effects_spec.specs.Order.{InOrder}
use Rattle.lucid_effects_spec.specs.Paths.{paths}

-- Behind these functions the body is in order, or its paths have a cycle.
abbrev pub BodiesAreDecided : Type 0
BodiesAreDecided = (arrays : ℕ) (funs : List FunDef) (body : List Stmt) →
    InOrder arrays funs body ⊎ ((first : ArrayName) × (others : List ArrayName) × IsCycle arrays (paths funs body) first others)
