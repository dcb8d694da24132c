-- The worked examples of the flat form and of its counts, computed by the flat form of each part at one site, and its counts.
use Rattle.std.proofs.Common.{◌≡◌, ℕ, List, Option, refl, ap}
use Rattle.lucid_core.specs.declared.body.Expr.{Expr}
use Rattle.lucid_core.specs.declared.body.Stmt.{Stmt}
use Rattle.lucid_core.specs.declared.body.Touch.{Touch}
use Rattle.lucid_core.specs.declared.body.Expr.TheOpen.{Expr-F, Stmt-F, Touch-F}
use Rattle.lucid_core.specs.declared.body.Expr.TheViews.{roll-Expr, roll-Stmt, roll-Touch}
use Rattle.lucid_core.specs.declared.body.Expr.TheFolds.{fold-roll-Expr, fold-roll-Stmt, fold-roll-Touch, map-Expr, map-Stmt, map-Touch}
use Rattle.lucid_core.specs.declared.defs.FunDef.{FunDef}
use Rattle.lucid_core.specs.Typing.{Answer}
use Rattle.lucid_core.specs.Width as w
use Rattle.lucid_core.specs.Width.{Read, expr_width, first_return, touch_width}
use Rattle.lucid_core.proofs.Folds.{folds}
use Rattle.lucid_inline_spec.specs.Examples.{CountExamples, FlatExamples}
use Rattle.lucid_inline_spec.specs.Flat as f
use Rattle.lucid_inline_spec.specs.Flat.{Flatten, Site, flat_expr, flat_stmt, flat_touch}

expr_becomes : (y : Expr-F Expr Stmt Touch) (p : Site) (ws : List ℕ) → flat_expr (roll-Expr y) p ws ≡ f.expr_step (map-Expr Expr Stmt Touch (Flatten Expr) (Flatten (List Stmt)) (Flatten Touch) flat_expr flat_stmt flat_touch y) p ws
expr_becomes y p ws = ap (λ (t : Flatten Expr). t p ws) (fold-roll-Expr (Flatten Expr) (Flatten (List Stmt)) (Flatten Touch) f.expr_step f.stmt_step f.touch_step y)

stmt_becomes : (y : Stmt-F Expr Stmt Touch) (p : Site) (ws : List ℕ) → flat_stmt (roll-Stmt y) p ws ≡ f.stmt_step (map-Stmt Expr Stmt Touch (Flatten Expr) (Flatten (List Stmt)) (Flatten Touch) flat_expr flat_stmt flat_touch y) p ws
stmt_becomes y p ws = ap (λ (t : Flatten (List Stmt)). t p ws) (fold-roll-Stmt (Flatten Expr) (Flatten (List Stmt)) (Flatten Touch) f.expr_step f.stmt_step f.touch_step y)

touch_becomes : (y : Touch-F Expr Stmt Touch) (p : Site) (ws : List ℕ) → flat_touch (roll-Touch y) p ws ≡ f.touch_step (map-Touch Expr Stmt Touch (Flatten Expr) (Flatten (List Stmt)) (Flatten Touch) flat_expr flat_stmt flat_touch y) p ws
touch_becomes y p ws = ap (λ (t : Flatten Touch). t p ws) (fold-roll-Touch (Flatten Expr) (Flatten (List Stmt)) (Flatten Touch) f.expr_step f.stmt_step f.touch_step y)

-- The width of a part, by those of its parts.
expr_reads : (y : Expr-F Expr Stmt Touch) (ws : List ℕ) (fs : List FunDef) → expr_width (roll-Expr y) ws fs ≡ w.expr_step (map-Expr Expr Stmt Touch (Read Answer) (Read (Option Answer)) (Read Answer) expr_width first_return touch_width y) ws fs
expr_reads y ws fs = ap (λ (t : Read Answer). t ws fs) (fold-roll-Expr (Read Answer) (Read (Option Answer)) (Read Answer) w.expr_step w.stmt_step w.touch_step y)

stmt_reads : (y : Stmt-F Expr Stmt Touch) (ws : List ℕ) (fs : List FunDef) → first_return (roll-Stmt y) ws fs ≡ w.stmt_step (map-Stmt Expr Stmt Touch (Read Answer) (Read (Option Answer)) (Read Answer) expr_width first_return touch_width y) ws fs
stmt_reads y ws fs = ap (λ (t : Read (Option Answer)). t ws fs) (fold-roll-Stmt (Read Answer) (Read (Option Answer)) (Read Answer) w.expr_step w.stmt_step w.touch_step y)

ruleset becomes = (expr_becomes, stmt_becomes, touch_becomes, expr_reads, stmt_reads)

pub flat_examples : FlatExamples
flat_examples = record { argument_first = simp becomes refl; target_first = simp becomes refl; of_a_group = simp becomes refl }

pub count_examples : CountExamples
count_examples = record {
  of_small = (simp folds refl, simp folds refl);
  joined = (simp folds refl, simp folds refl);
  not_held = (simp folds refl, simp folds refl);
  held_before = (simp folds refl, simp folds refl);
  joined_once = (simp folds refl, simp folds refl);
  nested = (simp folds refl, simp folds refl);
  both_branches = (simp folds refl, simp folds refl);
  answers = (simp folds refl, simp folds refl);
  returns_early = (simp folds refl, simp folds refl);
  in_calls = (simp folds refl, simp folds refl);
  of_a_tower = (simp folds refl, simp folds refl);
  of_a_group = (simp folds refl, simp folds refl);
}
