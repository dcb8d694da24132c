-- When a body is in order, and which programs are accepted.
use Rattle.std.specs.Prelude.{ℕ, List, [], ◌∷◌, ◌++◌, All, length, map}
use Rattle.lucid_constraints.specs.Cycle.{Rises}
use Rattle.lucid_core.specs.declared.body.Stmt.{Stmt}
use Rattle.lucid_core.specs.declared.defs.FunDef.{FunDef}
use Rattle.lucid_core.specs.declared.defs.HandlerDef.{HandlerDef}
use Rattle.lucid_core.specs.Parts.{CoreParts}
use Rattle.lucid_effects_spec.specs.Ends.{Numbering, Derives}

-- After these functions, some numbering that rises along the declared arrays derives the body from place 0.
pub record InOrder (arrays : ℕ) (funs : List FunDef) (body : List Stmt) : Type 0 where
  pub numbering : Numbering
  pub rises : Rises arrays numbering
  pub end : ℕ
  pub derived : Derives funs numbering 0 body end

-- The body of a declaration with its number, and the functions that it may call.
pub record Body : Type 0 where
  pub decl : ℕ
  pub funs : List FunDef
  pub body : List Stmt

-- Of functions, each behind those before it.
abbrev pub fun_bodies : List FunDef → List FunDef → List Body
fun_bodies before [] = []
fun_bodies before (f ∷ fs) = record { decl = f.decl; funs = before; body = f.body } ∷ fun_bodies (before ++ f ∷ []) fs

-- Of handlers, behind these functions.
abbrev pub handler_bodies : List FunDef → List HandlerDef → List Body
handler_bodies funs handlers = map (λ h. record { decl = h.decl; funs = funs; body = h.body }) handlers

-- Of all functions and handlers.
abbrev pub bodies : CoreParts → List Body
bodies parts = fun_bodies [] parts.funs ++ handler_bodies parts.funs parts.handlers

-- All functions and handlers are in order. A function is judged by itself, whether it is called or not.
abbrev pub IsAccepted : CoreParts → Type 0
IsAccepted parts = All (λ b. InOrder (length parts.arrays) b.funs b.body) (bodies parts)
