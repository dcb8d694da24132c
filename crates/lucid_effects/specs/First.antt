-- Which of several bodies is the first that isn't in order.
use Rattle.std.specs.Prelude.{◌≡◌, ℕ, List, [], ◌∷◌, ◌++◌, Option, None, Some, Bool, true, nat_lt, All}
use Rattle.std.specs.Global.{Vec}
use Rattle.lucid_base.specs.declared.array.ArrayName.{ArrayName}
use Rattle.lucid_core.specs.declared.body.Stmt.{Stmt}
use Rattle.lucid_core.specs.declared.defs.FunDef.{FunDef}
use Rattle.lucid_core.specs.declared.defs.HandlerDef.{HandlerDef}
use Rattle.lucid_effects_spec.specs.Order.{Body, InOrder, handler_bodies}
use Rattle.lucid_effects_spec.specs.Refused.{IsFirstOf}
use Rattle.lucid_effects_spec.specs.declared.scheme.Scheme.{Scheme}
use Rattle.lucid_effects_spec.specs.Schemes.{schemes_of}
use Rattle.lucid_effects.specs.declared.first.Refused.{Refused}

-- It is declaration `decl`, and these names are its cycle.
abbrev pub IsRefusedFirst : ℕ → List Body → ℕ → List ArrayName → Type 0
IsRefusedFirst arrays bs decl [] = ⊥
IsRefusedFirst arrays bs decl (first ∷ others) = IsFirstOf arrays bs decl first others

-- The first that isn't in order, or none is: all are.
abbrev pub IsFirst : ℕ → List Body → Option Refused → Type 0
IsFirst arrays bs None = All (λ b. InOrder arrays b.funs b.body) bs
IsFirst arrays bs (Some r) = IsRefusedFirst arrays bs r.decl r.cycle.items

-- Whether a declaration would be the first, if it is refused.
abbrev pub comes_first : Option Refused → ℕ → Bool
comes_first None decl = true
comes_first (Some r) decl = nat_lt decl r.decl

-- The first so far, and the finding for a declaration that would be the first.
abbrev pub kept : Option Refused → ℕ → Option (Vec ArrayName) → Option Refused
kept first decl None = first
kept first decl (Some cycle) = Some (record { decl = decl; cycle = cycle })

-- One more declaration is judged, behind the functions of these schemes: the first of any bodies stays right with it.
abbrev pub Judges : ℕ → List Scheme → ℕ → List Stmt → Option Refused → Option Refused → Type 0
Judges arrays schemes decl body first next = (funs : List FunDef) → schemes ≡ schemes_of funs → (bs : List Body) →
    IsFirst arrays bs first → IsFirst arrays (bs ++ record { decl = decl; funs = funs; body = body } ∷ []) next

-- And so with all these handlers.
abbrev pub JudgesHandlers : ℕ → List Scheme → List HandlerDef → Option Refused → Option Refused → Type 0
JudgesHandlers arrays schemes handlers first next = (funs : List FunDef) → schemes ≡ schemes_of funs → (bs : List Body) →
    IsFirst arrays bs first → IsFirst arrays (bs ++ handler_bodies funs handlers) next
