-- How large a program is.
use Rattle.std.specs.Prelude.{ℕ, ◌+◌, List, [], ◌∷◌, map}
use Rattle.lucid_core.specs.declared.body.Stmt.{Stmt}
use Rattle.lucid_core.specs.declared.body.Expr.TheOpen.{Expr-F, Stmt-F, Touch-F}
use Rattle.lucid_core.specs.declared.body.Expr.TheFolds.{fold-Stmt}
use Rattle.lucid_core.specs.declared.defs.FunDef.{FunDef}
use Rattle.lucid_core.specs.declared.defs.HandlerDef.{HandlerDef}
use Rattle.lucid_core.specs.Children.{expr_children, stmt_children, touch_children}
use Rattle.lucid_core.specs.Parts.{CoreParts}
use Rattle.lucid_effects_spec.specs.Evaluation.{Walk, body_walk}

abbrev pub total : List ℕ → ℕ
total [] = 0
total (n ∷ ns) = n + total ns

-- Each statement, expression and touch counts one.
abbrev pub size : Walk ℕ
size = record { nothing = 0; in_turn = ◌+◌; branches = ◌+◌; array = λ a. 1; function = λ k names. 1; node = λ n. 1 + n }

-- The statements, expressions and touches in the bodies of functions, or of handlers, and these themselves.
abbrev pub fun_nodes : List FunDef → ℕ
fun_nodes funs = total (map (λ f. 1 + body_walk size f.body) funs)

abbrev pub handler_nodes : List HandlerDef → ℕ
handler_nodes handlers = total (map (λ h. 1 + body_walk size h.body) handlers)

abbrev pub nodes : CoreParts → ℕ
nodes parts = fun_nodes parts.funs + handler_nodes parts.handlers

-- In a flat program only statements and inlined calls count.
abbrev pub flat_expr : Expr-F ℕ ℕ ℕ → ℕ
flat_expr (Expr-F.Inlined given ss) = 1 + total (expr_children (Expr-F.Inlined given ss))
flat_expr e = total (expr_children e)

abbrev pub flat_touch : Touch-F ℕ ℕ ℕ → ℕ
flat_touch t = total (touch_children t)

abbrev pub stmt_step : Stmt-F ℕ ℕ ℕ → ℕ
stmt_step s = 1 + total (stmt_children s)

abbrev pub flat_stmt_size : Stmt → ℕ
flat_stmt_size = fold-Stmt ℕ ℕ ℕ flat_expr stmt_step flat_touch

-- The size of a flat program: the statements of its handlers and their inlined calls, also those within inlined bodies.
abbrev pub flat_size : CoreParts → ℕ
flat_size parts = total (map (λ h. total (map flat_stmt_size h.body)) parts.handlers)
