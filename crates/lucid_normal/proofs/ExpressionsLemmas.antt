-- Expressions: what remains after the first part gives the translation of the whole.
use Rattle.std.proofs.Common.{◌≡◌, ℕ, [], Option, ap, ap₂, ◌∙◌}
use denote.Bor.{Bor}
use Rattle.lucid_base.specs.declared.ops.BinOp.{BinOp}
use Rattle.lucid_base.specs.declared.ops.CmpOp.{CmpOp}
use Rattle.lucid_base.specs.declared.ops.UnOp.{UnOp}
use Rattle.lucid_code.specs.declared.op.Act.TheVariants as act
use Rattle.lucid_core.specs.declared.body.Expr.{Expr}
use Rattle.lucid_core.specs.declared.body.Stmt.{Stmt}
use Rattle.lucid_core.specs.declared.body.Touch.{Touch}
use Rattle.lucid_core.specs.declared.body.Expr.TheOpen.{Expr-F}
use Rattle.lucid_core.specs.declared.body.Expr.TheViews.{roll-Expr}
use Rattle.lucid_normal.specs.Bodies.{Walk, after_task, binary, comparison, ended, expressed, operand_of, second_operand, touch_at, touch_with, touched}
use Rattle.lucid_normal.specs.declared.task.End.TheVariants as end_of
use Rattle.lucid_normal.specs.declared.task.Task.TheVariants as task_of
use Rattle.lucid_normal_spec.specs.declared.env.Typed.{Typed}
use Rattle.lucid_normal_spec.specs.Translate.{both_made, emit, expr_code, touch_code, valued}
use Rattle.lucid_normal.proofs.BodiesLemmas.{idle, of_expr, of_touch, opened, valued_bind, valued_pair}

-- An expression without parts.
pub plain : {e : Expr} (y : Expr-F Expr Stmt Touch) → roll-Expr y ≡ e → (s : Walk) (v : Option Typed) →
    v ≡ ((opened y).made s.env).value → ((opened y).made s.env).ops ≡ [] → ((opened y).made s.env).env ≡ s.env →
    record s { value = v } ≡ expressed (expr_code e).made s
plain y at s v value_is ops_is env_is = idle (λ o. o) (opened y).made s v value_is ops_is env_is ∙ of_expr y at s

module _ {e : Expr} (x y : Expr) (is : y ≡ x) (s : Walk) where
  pub un : (op : UnOp) → roll-Expr (Expr-F.Un op x) ≡ e →
      after_task (task_of.Last (end_of.Un op)) (expressed (expr_code y).made s) ≡ expressed (expr_code e).made s
  unfolding ended
  un op at =
      ap (λ (z : Expr). after_task (task_of.Last (end_of.Un op)) (expressed (expr_code z).made s)) is
      ∙ valued_bind (λ o. o) (expr_code x).made (λ a. emit a.width (act.Un op a.width a.operand)) s ∙ of_expr (Expr-F.Un op x) at s

  pub cast : (w : ℕ) → roll-Expr (Expr-F.Cast w x) ≡ e →
      after_task (task_of.Last (end_of.Cast w)) (expressed (expr_code y).made s) ≡ expressed (expr_code e).made s
  unfolding ended
  cast w at =
      ap (λ (z : Expr). after_task (task_of.Last (end_of.Cast w)) (expressed (expr_code z).made s)) is
      ∙ valued_bind (λ o. o) (expr_code x).made (λ a. emit w (act.Cast a.operand)) s ∙ of_expr (Expr-F.Cast w x) at s

  -- The second operand, and its reference in a task.
  module _ (x2 : Expr) (y2 : Bor Expr) (is2 : y2.now ≡ x2) where
    pub bin : (op : BinOp) → roll-Expr (Expr-F.Bin op x x2) ≡ e →
        after_task (task_of.BinLeft op y2) (expressed (expr_code y).made s) ≡ expressed (expr_code e).made s
    unfolding ended second_operand
    bin op at =
        ap₂ (λ (z w : Expr). second_operand (binary op) w (expressed (expr_code z).made s)) is is2
        ∙ valued_pair (λ o. o) (expr_code x).made (valued (expr_code x2).made) (λ p. binary op p.0 p.1) s
        ∙ of_expr (Expr-F.Bin op x x2) at s

    pub cmp : (op : CmpOp) → roll-Expr (Expr-F.Cmp op x x2) ≡ e →
        after_task (task_of.CmpLeft op y2) (expressed (expr_code y).made s) ≡ expressed (expr_code e).made s
    unfolding ended second_operand
    cmp op at =
        ap₂ (λ (z w : Expr). second_operand (comparison op) w (expressed (expr_code z).made s)) is is2
        ∙ valued_pair (λ o. o) (expr_code x).made (valued (expr_code x2).made) (λ p. comparison op p.0 p.1) s
        ∙ of_expr (Expr-F.Cmp op x x2) at s

pub bin_right : (op : BinOp) (x : Typed) (y : Expr) (s : Walk) → x ≡ operand_of s →
    after_task (task_of.Last (end_of.BinRight op x)) (expressed (expr_code y).made s) ≡ second_operand (binary op) y s
unfolding ended second_operand
bin_right op x y s is =
    ap (λ (z : Typed). after_task (task_of.Last (end_of.BinRight op z)) (expressed (expr_code y).made s)) is
    ∙ valued_bind (λ o. o) (expr_code y).made (binary op (operand_of s)) s

pub cmp_right : (op : CmpOp) (x : Typed) (y : Expr) (s : Walk) → x ≡ operand_of s →
    after_task (task_of.Last (end_of.CmpRight op x)) (expressed (expr_code y).made s) ≡ second_operand (comparison op) y s
unfolding ended second_operand
cmp_right op x y s is =
    ap (λ (z : Typed). after_task (task_of.Last (end_of.CmpRight op z)) (expressed (expr_code y).made s)) is
    ∙ valued_bind (λ o. o) (expr_code y).made (comparison op (operand_of s)) s

-- A call of an array, with the first, the second and the third operand.
pub index : (t : Bor Touch) (s : Walk) →
    after_task (task_of.TouchIndex t) (expressed (expr_code t.now.index).made s) ≡ expressed (touch_code t.now).made s
unfolding ended touch_at
index t s =
    valued_pair (λ o. o) (expr_code t.now.index).made
    (both_made (valued (expr_code t.now.get_arg).made) (valued (expr_code t.now.set_arg).made)) (touched t.now) s
    ∙ of_touch t.now s

pub get_arg : (t : Bor Touch) (i : Typed) (s : Walk) → i ≡ operand_of s →
    after_task (task_of.TouchGet t i) (expressed (expr_code t.now.get_arg).made s) ≡ touch_at t.now s
unfolding ended touch_at touch_with
get_arg t i s is =
    ap (λ (z : Typed). touch_with t.now z (expressed (expr_code t.now.get_arg).made s)) is
    ∙ valued_pair (λ o. o) (expr_code t.now.get_arg).made (valued (expr_code t.now.set_arg).made) (λ p. touched t.now (operand_of s, p)) s

pub set_arg : (t : Bor Touch) (i g : Typed) (s : Walk) → g ≡ operand_of s →
    after_task (task_of.Last (end_of.TouchSet t i g)) (expressed (expr_code t.now.set_arg).made s) ≡ touch_with t.now i s
unfolding ended touch_with
set_arg t i g s is =
    ap (λ (z : Typed). after_task (task_of.Last (end_of.TouchSet t i z)) (expressed (expr_code t.now.set_arg).made s)) is
    ∙ valued_bind (λ o. o) (expr_code t.now.set_arg).made (λ v. touched t.now (i, (operand_of s, v))) s
