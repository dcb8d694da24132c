-- The scope of a body, and tests that depend on it.
use Rattle.std.specs.Prelude.{ℕ, List, [], ◌∷◌, ◌++◌, Bool, true, ◌&&◌, map}
use Rattle.std.specs.List.{list_all}
use Rattle.lucid_core.specs.declared.defs.FunDef.{FunDef}
use Rattle.lucid_core.specs.declared.defs.HandlerDef.{HandlerDef}
use Rattle.lucid_core.specs.declared.body.Stmt.{Stmt}
use Rattle.lucid_core.specs.Parts.{CoreParts}

-- The names of a body: the cell widths of the declared arrays and of its array parameters, the widths of its locals, the widths of each
-- event's parameters, the texts, and the functions before it.
pub record Scope : Type 0 where
  pub arrays : List ℕ
  pub params : List ℕ
  pub locals : List ℕ
  pub events : List (List ℕ)
  pub forms : List (List ℕ)
  pub funs : List FunDef

abbrev pub Test : Type 0
Test = Scope → Bool

-- All of them hold.
abbrev pub each : List Test → Test
each tests = λ s. list_all (λ test. test s) tests

-- The scope of a function's body, behind the functions before it.
abbrev pub fun_scope : CoreParts → List FunDef → FunDef → Scope
fun_scope parts before f = record {
  arrays = map (λ a. a.width) parts.arrays;
  params = f.arrays;
  locals = f.locals;
  events = map (λ e. e.params) parts.events;
  forms = parts.forms;
  funs = before;
}

-- The scope of a handler's body.
abbrev pub handler_scope : CoreParts → HandlerDef → Scope
handler_scope parts h = record {
  arrays = map (λ a. a.width) parts.arrays;
  params = [];
  locals = h.locals;
  events = map (λ e. e.params) parts.events;
  forms = parts.forms;
  funs = parts.funs;
}

-- Each function passes, given the functions before it.
abbrev pub funs_pass : (List FunDef → FunDef → Bool) → List FunDef → List FunDef → Bool
funs_pass test before [] = true
funs_pass test before (f ∷ fs) = test before f && funs_pass test (before ++ f ∷ []) fs

-- Each body passes in its scope.
abbrev pub bodies_pass : (List Stmt → Test) → CoreParts → Bool
bodies_pass test parts = funs_pass (λ before f. test f.body (fun_scope parts before f)) [] parts.funs && list_all (λ h. test h.body (handler_scope parts h)) parts.handlers
