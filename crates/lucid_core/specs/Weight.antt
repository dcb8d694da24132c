-- The depth of the bodies of functions, all together: it falls when a function calls an earlier one.
use Rattle.std.specs.Prelude.{ℕ, ◌+◌, List, [], ◌∷◌}
use denote.Param.Weighed.{most}
use Rattle.lucid_core.specs.declared.body.Expr.TheViews.{size-Stmt}
use Rattle.lucid_core.specs.declared.defs.FunDef.{FunDef}

abbrev pub weight : List FunDef → ℕ
weight [] = 0
weight (f ∷ fs) = most (λ x. size-Stmt x) f.body + 1 + weight fs
