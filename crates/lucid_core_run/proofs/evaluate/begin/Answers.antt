-- A call of a function, and an inlined call.
use Rattle.std.proofs.Common.{◌≡◌, ℕ, List, map, sym, ap, ◌∙◌}
use Rattle.lucid_base.specs.declared.array.ArrayName.{ArrayName}
use Rattle.lucid_base.specs.declared.bits.Bits.{Bits}
use Rattle.lucid_core.specs.declared.body.Expr.{Expr}
use Rattle.lucid_core.specs.declared.body.Expr.TheOpen.{Expr-F}
use Rattle.lucid_core.specs.declared.body.Expr.TheFolds.{fold-roll-Expr}
use Rattle.lucid_core.specs.declared.body.Expr.TheVariants as e
use Rattle.lucid_core.specs.Computations.{Computation, Effect}
use Rattle.lucid_core.specs.Meaning.{expr_step, stmt_step, touch_step, value_of}
use Rattle.lucid_core.proofs.MeaningLemmas.{value_of-inlined}
use Rattle.lucid_core_run.proofs.evaluate.begin.Goals as goal

value_of-fun : (k : ℕ) (names : List ArrayName) (es : List Expr) → value_of (e.Fun k names es) ≡ expr_step (Expr-F.Fun k names (map value_of es))
value_of-fun k names es = ap value_of (sym (e.rolls-Fun k names es)) ∙ fold-roll-Expr (Computation Bits) Effect (Computation Bits) expr_step stmt_step touch_step (Expr-F.Fun k names es)

pub returns-in-Fun : goal.returns-in-Fun
returns-in-Fun c = rw (c.in-Fun.is, value_of-fun) (rw (c.as_slice-in-Fun.ensures, c.as_slice-in-Fun-2.ensures) at c.begin_call.ensures)

pub returns-in-Inlined : goal.returns-in-Inlined
returns-in-Inlined c = rw (c.in-Inlined.is, value_of-inlined) (rw (c.as_slice-in-Inlined.ensures, c.as_slice-in-Inlined-2.ensures) at c.begin_inlined.ensures)
