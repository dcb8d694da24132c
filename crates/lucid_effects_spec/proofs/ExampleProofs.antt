-- The worked examples of schemes.
use Rattle.std.proofs.Common.{◌≡◌, List, refl, ap}
use Rattle.lucid_core.specs.declared.body.Expr.{Expr}
use Rattle.lucid_core.specs.declared.body.Stmt.{Stmt}
use Rattle.lucid_core.specs.declared.body.Touch.{Touch}
use Rattle.lucid_core.specs.declared.body.Expr.TheOpen.{Expr-F, Stmt-F, Touch-F}
use Rattle.lucid_core.specs.declared.body.Expr.TheViews.{roll-Expr, roll-Stmt, roll-Touch}
use Rattle.lucid_core.specs.declared.body.Expr.TheFolds.{fold-roll-Expr, fold-roll-Stmt, fold-roll-Touch, map-Expr, map-Stmt, map-Touch}
use Rattle.lucid_effects_spec.specs.Evaluation.{expr_step, stmt_step, touch_step}
use Rattle.lucid_effects_spec.specs.declared.scheme.Scheme.{Scheme}
use Rattle.lucid_effects_spec.specs.SchemeExamples.{SchemeExamples}
use Rattle.lucid_effects_spec.specs.Schemes.{Advance, Walked, expr_found, finds, stmt_found, touch_found}

-- The finding of a walk for a part of a body, by its findings for the parts.
expr_is : (y : Expr-F Expr Stmt Touch) (fs : List Scheme) (w : Walked) → expr_found (roll-Expr y) fs w ≡ expr_step finds (map-Expr Expr Stmt Touch Advance Advance Advance expr_found stmt_found touch_found y) fs w
expr_is y fs w = ap (λ (f : Advance). f fs w) (fold-roll-Expr Advance Advance Advance (expr_step finds) (stmt_step finds) (touch_step finds) y)

stmt_is : (y : Stmt-F Expr Stmt Touch) (fs : List Scheme) (w : Walked) → stmt_found (roll-Stmt y) fs w ≡ stmt_step finds (map-Stmt Expr Stmt Touch Advance Advance Advance expr_found stmt_found touch_found y) fs w
stmt_is y fs w = ap (λ (f : Advance). f fs w) (fold-roll-Stmt Advance Advance Advance (expr_step finds) (stmt_step finds) (touch_step finds) y)

touch_is : (y : Touch-F Expr Stmt Touch) (fs : List Scheme) (w : Walked) → touch_found (roll-Touch y) fs w ≡ touch_step finds (map-Touch Expr Stmt Touch Advance Advance Advance expr_found stmt_found touch_found y) fs w
touch_is y fs w = ap (λ (f : Advance). f fs w) (fold-roll-Touch Advance Advance Advance (expr_step finds) (stmt_step finds) (touch_step finds) y)

ruleset found = (expr_is, stmt_is, touch_is)

pub scheme_examples : SchemeExamples
scheme_examples = record {
  nothing = refl;
  one_after_another = simp found refl;
  twice = simp found refl;
  both_ends = simp found refl;
  behind_both_ends = simp found refl;
  no_repeats = simp found refl;
  index_first = simp found refl;
  target_first = simp found refl;
  delay_first = simp found refl;
  of_a_function = simp found refl;
  of_its_calls = simp found refl;
  of_an_argument = simp found refl;
  of_a_relay = simp found refl;
  of_a_group = simp found refl;
  of_parameters = simp found refl;
}
