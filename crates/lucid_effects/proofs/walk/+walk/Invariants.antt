-- The walked part of a loop and the rest make the whole. Measures: six times the depth of what is left, and a rank among the functions.
use Rattle.std.proofs.Common.{◌≡◌, ◌+◌, ◌*◌, ◌≤◌, drop, map, max}
use denote.Param.Weighed.{most}
use Rattle.lucid_core.specs.declared.body.Expr.TheViews.{size-Expr, size-Stmt}
use Rattle.lucid_effects_spec.specs.Evaluation.{sequence}
use Rattle.lucid_effects.specs.Goes.{walked}
use Rattle.lucid_effects.specs.Walk.{closed}
use Rattle.lucid_effects_spec.specs.Schemes.{finds, expr_found, given_found, body_found}
use Rattle.lucid_effects.proofs.walk.+walk.Given as goal

abbrev pub invariant-exprs-loop-e : goal.invariant-exprs-loop-e
invariant-exprs-loop-e g l = sequence finds (map expr_found (drop l.e-index l.es)) l.schemes (walked l.at l.steps) ≡ sequence finds (map expr_found l.es) l.schemes (walked l.fn.at l.fn.steps)

abbrev pub invariant-each-loop-one : goal.invariant-each-loop-one
invariant-each-loop-one g l = body_found (drop l.one-index l.stmts) l.schemes (walked l.at l.steps) ≡ body_found l.stmts l.schemes (walked l.fn.at l.fn.steps)

abbrev pub invariant-givens-loop-e : goal.invariant-givens-loop-e
invariant-givens-loop-e g l = given_found (drop l.e-index l.given) l.schemes (walked l.at l.steps) ≡ given_found l.given l.schemes (walked l.fn.at l.fn.steps)

-- what is left is no deeper than all of it, and makes the whole with what was walked
abbrev pub invariant-along-loop-last : goal.invariant-along-loop-last
invariant-along-loop-last g l = (most (λ s. size-Stmt s) l.left ≤ most (λ s. size-Stmt s) l.stmts) × (closed l.firsts (body_found l.left l.schemes (walked l.at l.steps)) ≡ closed l.fn.firsts (body_found l.stmts l.schemes (walked l.fn.at l.fn.steps)))

abbrev pub decreases-along-loop-last : goal.decreases-along-loop-last
decreases-along-loop-last g l = most (λ s. size-Stmt s) l.left

abbrev pub decreases-expr : goal.decreases-expr
decreases-expr g l = 6 * goal.size-expr g l

abbrev pub decreases-touch : goal.decreases-touch
decreases-touch g l = 6 * goal.size-touch g l

abbrev pub decreases-stmt : goal.decreases-stmt
decreases-stmt g l = 6 * goal.size-stmt g l

abbrev pub decreases-exprs : goal.decreases-exprs
decreases-exprs g l = 6 * goal.size-exprs g l + 1

abbrev pub decreases-givens : goal.decreases-givens
decreases-givens g l = 6 * goal.size-givens g l + 1

abbrev pub decreases-asked : goal.decreases-asked
decreases-asked g l = 6 * goal.size-asked g l + 1

abbrev pub decreases-each : goal.decreases-each
decreases-each g l = 6 * goal.size-each g l + 1

abbrev pub decreases-body : goal.decreases-body
decreases-body g l = 6 * goal.size-body g l + 3

abbrev pub decreases-along : goal.decreases-along
decreases-along g l = 6 * goal.size-along g l + 2

abbrev pub decreases-first_branch : goal.decreases-first_branch
decreases-first_branch g l = 6 * max (size-Expr l.e.now) (most (λ s. size-Stmt s) l.a.now) + 4

abbrev pub decreases-branches : goal.decreases-branches
decreases-branches g l = 6 * max (size-Expr l.e.now) (max (most (λ s. size-Stmt s) l.a.now) (most (λ s. size-Stmt s) l.b.now)) + 5

abbrev pub decreases-two : goal.decreases-two
decreases-two g l = 6 * max (size-Expr l.first.now) (size-Expr l.last.now) + 1

abbrev pub decreases-both : goal.decreases-both
decreases-both g l = 6 * max (goal.size-both g l) (goal.size-both g (record { the-lifetimes = l.the-lifetimes; alloc = l.alloc; schemes = l.schemes; at = l.at; steps = l.steps; first = l.last; last = l.first })) + 2
