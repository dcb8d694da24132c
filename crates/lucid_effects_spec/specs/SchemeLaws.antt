-- The laws of this crate's definitions of schemes.
use Rattle.std.specs.Prelude.{◌≡◌, ℕ, ◌+◌, ◌*◌, ◌≤◌, List, Some, length, slice_get, take}
use Rattle.lucid_base.specs.declared.array.ArrayName.{ArrayName}
use Rattle.lucid_core.specs.declared.body.Stmt.{Stmt}
use Rattle.lucid_core.specs.declared.defs.FunDef.{FunDef}
use Rattle.lucid_core.specs.declared.defs.HandlerDef.{HandlerDef}
use Rattle.lucid_core.specs.Parts.{CoreParts}
use Rattle.lucid_constraints.specs.Cycle.{HasNumbering, Needed}
use Rattle.lucid_constraints.specs.Cycle as c
use Rattle.lucid_effects_spec.specs.Cycle.{IsCycle}
use Rattle.lucid_effects_spec.specs.Evaluation.{body_walk}
use Rattle.lucid_effects_spec.specs.Order.{InOrder, bodies}
use Rattle.lucid_effects_spec.specs.Paths.{paths}
use Rattle.lucid_effects_spec.specs.Size.{size}
use Rattle.lucid_effects_spec.specs.Principal.{ArePrincipal}
use Rattle.lucid_effects_spec.specs.Schemes.{all_schemes, begun, body_found, scheme_of, schemes_of}

-- The scheme of each function and handler is principal.
abbrev pub SchemesArePrincipal : Type 0
SchemesArePrincipal = (parts : CoreParts) → ArePrincipal (bodies parts) (all_schemes parts)

-- Where the pairs of a scheme have a numbering its body is in order, and a cycle of the pairs is a cycle of the body's paths.
abbrev pub CyclesTell : Type 0
CyclesTell = (arrays : ℕ) (funs : List FunDef) (body : List Stmt) →
    (HasNumbering (Needed arrays (scheme_of (schemes_of funs) body).needs) → InOrder arrays funs body)
    × ((first : ArrayName) (others : List ArrayName) →
    c.IsCycle (Needed arrays (scheme_of (schemes_of funs) body).needs) first others → IsCycle arrays (paths funs body) first others)

-- The most steps for a node, if this many arrays are declared.
abbrev pub steps_a_node : ℕ → ℕ
steps_a_node arrays = 2 * ((arrays + 9) * (arrays + 9))

-- The walk along the body of a declaration, after these functions, takes at most this many steps for each node, the declaration among
-- them.
abbrev pub TakesFewSteps : ℕ → List FunDef → List Stmt → Type 0
TakesFewSteps arrays funs body = (steps : ℕ) →
    (body_found body (schemes_of funs) (begun steps)).steps ≤ steps + (1 + body_walk size body) * steps_a_node arrays

-- So it is of all functions and handlers, though their derivations may be exponentially large.
pub record WalksAreShort (parts : CoreParts) : Type 0 where
  pub functions : (k : ℕ) (f : FunDef) → slice_get parts.funs k ≡ Some f → TakesFewSteps (length parts.arrays) (take k parts.funs) f.body
  pub handlers : (k : ℕ) (h : HandlerDef) → slice_get parts.handlers k ≡ Some h → TakesFewSteps (length parts.arrays) parts.funs h.body
