-- Measures: three times the depth of what is left, and a rank among the functions.
use Rattle.std.proofs.Common.{◌≡◌, ◌+◌, ◌*◌, ◌≤◌, take}
use denote.Param.Weighed.{most}
use Rattle.lucid_core.specs.declared.body.Expr.TheViews.{size-Stmt}
use Rattle.lucid_core.specs.OutCount.{expr_outs, stmt_outs}
use Rattle.lucid_core.specs.Few.{expr_few, stmt_few}
use Rattle.lucid_types_limits.specs.Tally.{in_turn}
use Rattle.lucid_types_limits.proofs.Chain.{IsAlong}
use Rattle.lucid_types_limits.proofs.body.+body.Given as goal

abbrev pub decreases-expr : goal.decreases-expr
decreases-expr l = 3 * goal.size-expr l

abbrev pub decreases-stmt : goal.decreases-stmt
decreases-stmt l = 3 * goal.size-stmt l

abbrev pub decreases-exprs : goal.decreases-exprs
decreases-exprs l = 3 * goal.size-exprs l + 1

abbrev pub decreases-arguments : goal.decreases-arguments
decreases-arguments l = 3 * goal.size-arguments l + 1

abbrev pub decreases-optional : goal.decreases-optional
decreases-optional l = 3 * goal.size-optional l + 1

abbrev pub decreases-each : goal.decreases-each
decreases-each l = 3 * goal.size-each l + 1

abbrev pub decreases-stmts : goal.decreases-stmts
decreases-stmts l = 3 * goal.size-stmts l + 2

-- what is left is no deeper than all of it, and decides the whole
abbrev pub invariant-stmts-loop-e : goal.invariant-stmts-loop-e
invariant-stmts-loop-e l = (most (λ s. size-Stmt s) l.left ≤ most (λ s. size-Stmt s) l.ss) × IsAlong l.funs l.ss l.left l.before l.most

abbrev pub decreases-stmts-loop-e : goal.decreases-stmts-loop-e
decreases-stmts-loop-e l = most (λ s. size-Stmt s) l.left

-- what was gone over is counted
abbrev pub invariant-each-loop-s : goal.invariant-each-loop-s
invariant-each-loop-s l = l.sum ≡ in_turn stmt_outs stmt_few l.funs (take l.s-index l.ss)

abbrev pub invariant-exprs-loop-e : goal.invariant-exprs-loop-e
invariant-exprs-loop-e l = l.sum ≡ in_turn expr_outs expr_few l.funs (take l.e-index l.es)

abbrev pub invariant-arguments-loop-e : goal.invariant-arguments-loop-e
invariant-arguments-loop-e l = l.sum ≡ in_turn (λ g. expr_outs g.1) (λ g. expr_few g.1) l.funs (take l.e-index l.given)
