-- The paths of a body: for each choice of a branch at each if, with the bodies of functions inlined, the arrays that it calls.
use Rattle.std.specs.Prelude.{ℕ, List, [], ◌∷◌, ◌++◌, map, fold, slice_index_or}
use Rattle.lucid_base.specs.Arrays.{name_at}
use Rattle.lucid_base.specs.declared.array.ArrayName.{ArrayName}
use Rattle.lucid_core.specs.declared.body.Expr.{Expr}
use Rattle.lucid_core.specs.declared.body.Stmt.{Stmt}
use Rattle.lucid_core.specs.declared.body.Touch.{Touch}
use Rattle.lucid_core.specs.declared.defs.FunDef.{FunDef}
use Rattle.lucid_effects_spec.specs.Evaluation.{Walk, body_walk, expr_walk, stmt_walk, touch_walk}

-- The arrays that are called, in the order of evaluation.
abbrev pub Path : Type 0
Path = List ArrayName

-- The paths of a part, from those of the functions before it, which are in their own names.
abbrev pub Paths : Type 0
Paths = List (List Path) → List Path

-- Each of the first, followed by each of the second.
abbrev pub each_then : List Path → List Path → List Path
each_then [] qs = []
each_then (p ∷ ps) qs = map (λ q. p ++ q) qs ++ each_then ps qs

-- A call of a function has its paths, in the caller's names.
abbrev pub goes_through : ℕ → List ArrayName → Paths
goes_through k names = λ fs. map (map (name_at names)) (slice_index_or fs k ([] ∷ []))

abbrev pub all_paths : Walk Paths
all_paths = record {
  nothing = λ fs. [] ∷ [];
  in_turn = λ f g fs. each_then (f fs) (g fs);
  branches = λ f g fs. f fs ++ g fs;
  array = λ a fs. (a ∷ []) ∷ [];
  function = goes_through;
  node = λ f. f;
}

abbrev pub expr_paths : Expr → Paths
expr_paths = expr_walk all_paths

abbrev pub touch_paths : Touch → Paths
touch_paths = touch_walk all_paths

abbrev pub stmt_paths : Stmt → Paths
stmt_paths = stmt_walk all_paths

abbrev pub body_paths : List Stmt → Paths
body_paths = body_walk all_paths

-- Of functions, in the order of their declarations.
abbrev pub paths_of : List FunDef → List (List Path)
paths_of fs = fold (λ before f. before ++ body_paths f.body before ∷ []) [] fs

-- The paths of a body, behind these functions.
abbrev pub paths : List FunDef → List Stmt → List Path
paths funs body = body_paths body (paths_of funs)
