-- How schemes are found: one walk along a body carries the constraints, the places where it is, and the steps taken.
use Rattle.std.specs.Prelude.{ℕ, ◌+◌, List, [], ◌∷◌, ◌++◌, map, fold, slice_get, length, Option, None, Some}
use Rattle.lucid_base.specs.declared.array.ArrayName.{ArrayName}
use Rattle.lucid_core.specs.declared.body.Expr.{Expr}
use Rattle.lucid_core.specs.declared.body.Stmt.{Stmt}
use Rattle.lucid_core.specs.declared.body.Touch.{Touch}
use Rattle.lucid_core.specs.declared.defs.FunDef.{FunDef}
use Rattle.lucid_core.specs.declared.defs.HandlerDef.{HandlerDef}
use Rattle.lucid_core.specs.Parts.{CoreParts}
use Rattle.lucid_constraints.specs.declared.pair.Atom.{Atom}
use Rattle.lucid_constraints.specs.declared.pair.Atom.TheVariants.{Start, After}
use Rattle.lucid_constraints.specs.declared.pair.Pair.{Pair}
use Rattle.lucid_constraints.specs.Same.{same_atom, same_pair, join_all}
use Rattle.lucid_constraints.specs.Substitution.{pair, needs_from, ends_from}
use Rattle.lucid_effects_spec.specs.Evaluation.{Walk, body_walk, expr_walk, sequence, stmt_walk, touch_walk}
use Rattle.lucid_effects_spec.specs.declared.scheme.Scheme.{Scheme}

-- The findings so far: the pairs that must hold, the current places of the walk, and the steps taken.
pub record Walked : Type 0 where
  pub needs : List Pair
  pub ends : List Atom
  pub steps : ℕ

-- The effect of a part of a body on them, from the schemes of the functions before.
abbrev pub Advance : Type 0
Advance = List Scheme → Walked → Walked

-- The pairs are given to `add`, each in a step.
abbrev pub add_all : List Pair → Walked → Walked
add_all ps w = record w { needs = join_all same_pair w.needs ps; steps = w.steps + length ps }

-- A visit of a node is a step.
abbrev pub visit : Walked → Walked
visit w = record w { steps = w.steps + 1 }

-- All places come before the array, and the walk is then after it.
abbrev pub passes : ArrayName → Advance
passes a = λ fs w. record (add_all (map (pair a) w.ends) (visit w)) { ends = After a ∷ [] }

-- Both branches begin at the current places of the walk, and it is then at the ends of both.
abbrev pub either : Advance → Advance → Advance
either f g = λ fs w.
    let left = f fs w in
    let right = g fs (record left { ends = w.ends }) in
    record right { ends = join_all same_atom left.ends right.ends }

-- A function's scheme in the caller's arrays and places. Each of its pairs is a step.
abbrev pub through : Option Scheme → List ArrayName → Walked → Walked
through None names w = w
through (Some f) names w = record w { needs = join_all same_pair w.needs (needs_from names w.ends [] f.needs); ends = ends_from names w.ends [] f.ends; steps = w.steps + length f.needs }

abbrev pub goes_through : ℕ → List ArrayName → Advance
goes_through k names = λ fs w. through (slice_get fs k) names (visit w)

abbrev pub finds : Walk Advance
finds = record {
  nothing = λ fs w. w;
  in_turn = λ f g fs w. g fs (f fs w);
  branches = either;
  array = passes;
  function = goes_through;
  node = λ f fs w. f fs (visit w);
}

abbrev pub expr_found : Expr → Advance
expr_found = expr_walk finds

abbrev pub touch_found : Touch → Advance
touch_found = touch_walk finds

abbrev pub stmt_found : Stmt → Advance
stmt_found = stmt_walk finds

abbrev pub body_found : List Stmt → Advance
body_found = body_walk finds

-- Arguments, with the locals that hold them.
abbrev pub given_found : List (ℕ × Expr) → Advance
given_found given = sequence finds (map (λ (g : ℕ × Advance). g.1) (map (λ (g : ℕ × Expr). (g.0, expr_found g.1)) given))

-- A body begins at its start and asks for nothing. Its declaration is a node too.
abbrev pub begun : ℕ → Walked
begun steps = record { needs = []; ends = Start ∷ []; steps = steps + 1 }

abbrev pub scheme : Walked → Scheme
scheme w = record { needs = w.needs; ends = w.ends }

-- The scheme of a body, behind functions with these schemes.
abbrev pub scheme_of : List Scheme → List Stmt → Scheme
scheme_of fs body = scheme (body_found body fs (begun 0))

-- Of functions, in the order of their declarations: each is found once, from those before it.
abbrev pub schemes_of : List FunDef → List Scheme
schemes_of funs = fold (λ before f. before ++ scheme_of before f.body ∷ []) [] funs

-- Of handlers, behind functions with these schemes.
abbrev pub handler_schemes : List Scheme → List HandlerDef → List Scheme
handler_schemes fs handlers = map (λ h. scheme_of fs h.body) handlers

-- Of all functions, and then of all handlers.
abbrev pub all_schemes : CoreParts → List Scheme
all_schemes parts = schemes_of parts.funs ++ handler_schemes (schemes_of parts.funs) parts.handlers
