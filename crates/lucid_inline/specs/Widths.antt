-- What a return gives.
use Rattle.std.specs.Prelude.{ℕ, List, [], Option, None, Some}
use Rattle.lucid_core.specs.Typing.{Answer}
use Rattle.lucid_core.specs.Width.{expr_width}
use Rattle.lucid_core.specs.declared.body.Expr.{Expr}
use Rattle.lucid_core.specs.declared.body.Stmt.{Stmt}
use Rattle.lucid_core.specs.declared.body.Expr.TheViews.{size-Expr, size-Stmt}
use denote.Param.Weighed.{most}

-- Its width.
abbrev pub returned_width : List ℕ → Option Expr → Answer
returned_width locals None = None
returned_width locals (Some e) = expr_width e locals []

-- How deep it is.
abbrev pub returned_size : Option Expr → ℕ
returned_size None = 0
returned_size (Some e) = size-Expr e

abbrev pub block_size : List Stmt → ℕ
block_size stmts = most (λ s. size-Stmt s) stmts
