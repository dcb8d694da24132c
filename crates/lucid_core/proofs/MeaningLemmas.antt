-- The meaning of an inlined call.
use Rattle.std.proofs.Common.{◌≡◌, ℕ, List, map, sym, ap, ◌∙◌}
use Rattle.lucid_base.specs.declared.bits.Bits.{Bits}
use Rattle.lucid_core.specs.declared.body.Expr.{Expr}
use Rattle.lucid_core.specs.declared.body.Stmt.{Stmt}
use Rattle.lucid_core.specs.declared.body.Expr.TheOpen.{Expr-F}
use Rattle.lucid_core.specs.declared.body.Expr.TheFolds.{fold-roll-Expr}
use Rattle.lucid_core.specs.declared.body.Expr.TheVariants as e
use Rattle.lucid_core.specs.Computations.{Computation, Effect}
use Rattle.lucid_core.specs.Meaning.{expr_step, stmt_step, touch_step, value_of, effect_of}

pub value_of-inlined : (given : List (ℕ × Expr)) (ss : List Stmt) → value_of (e.Inlined given ss) ≡ expr_step (Expr-F.Inlined (map (λ g. (g.0, value_of g.1)) given) (map effect_of ss))
value_of-inlined given ss = ap value_of (sym (e.rolls-Inlined given ss)) ∙ fold-roll-Expr (Computation Bits) Effect (Computation Bits) expr_step stmt_step touch_step (Expr-F.Inlined given ss)
