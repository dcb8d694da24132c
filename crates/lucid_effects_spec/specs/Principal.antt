-- When a scheme is principal: for every numbering and place it decides whether the body has a derivation, and where it then ends.
use Rattle.std.specs.Prelude.{◌≡◌, ◌↔◌, ℕ, List, [], ◌∷◌, true}
use Rattle.lucid_core.specs.declared.body.Stmt.{Stmt}
use Rattle.lucid_core.specs.declared.defs.FunDef.{FunDef}
use Rattle.lucid_constraints.specs.Means.{allow_all, greatest}
use Rattle.lucid_effects_spec.specs.Ends.{Derives, Numbering}
use Rattle.lucid_effects_spec.specs.Order.{Body}
use Rattle.lucid_effects_spec.specs.declared.scheme.Scheme.{Scheme}

-- The constraints of the scheme hold exactly if the body, after these functions, has a derivation, which ends at the greatest of its
-- ends.
abbrev pub IsPrincipal : List FunDef → List Stmt → Scheme → Type 0
IsPrincipal funs body s = (N : Numbering) (c d : ℕ) → Derives funs N c body d ↔ ((allow_all N c s.needs ≡ true) × (greatest N c s.ends ≡ d))

-- One scheme for each body, and each is principal.
abbrev pub ArePrincipal : List Body → List Scheme → Type 0
ArePrincipal [] [] = Unit {0}
ArePrincipal (b ∷ bs) (s ∷ ss) = IsPrincipal b.funs b.body s × ArePrincipal bs ss
ArePrincipal _ _ = ⊥
