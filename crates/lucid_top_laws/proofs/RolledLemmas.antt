-- Further variants of a body are rolls, beside those of lucid_types_spec.
use Rattle.std.proofs.Common.{◌≡◌, ℕ, Bool, List, Option, sym, ap, ◌∙◌}
use Rattle.lucid_base.specs.declared.ops.BinOp.{BinOp}
use Rattle.lucid_core.specs.declared.body.Expr.{Expr}
use Rattle.lucid_core.specs.declared.body.Expr.TheOpen.{Expr-F, Stmt-F}
use Rattle.lucid_core.specs.declared.body.Expr.TheVariants as expr
use Rattle.lucid_core.specs.declared.body.Expr.TheViews.{roll-Expr, roll-Stmt}
use Rattle.lucid_core.specs.declared.body.Stmt.TheVariants as core

pub computed : (op : BinOp) {x y c d : Expr} → x ≡ c → y ≡ d → expr.Bin op x y ≡ roll-Expr (Expr-F.Bin op c d)
computed op {x} {d = d} one two = ap (λ (z : Expr). expr.Bin op x z) two ∙ ap (λ (z : Expr). expr.Bin op z d) one ∙ sym (expr.rolls-Bin op _ _)

pub generated : (event : ℕ) (delay_first : Bool) {xs cs : List Expr} {delay late to across : Option Expr} → xs ≡ cs → delay ≡ late → to ≡ across →
    core.Gen event xs delay to delay_first ≡ roll-Stmt (Stmt-F.Gen event cs late across delay_first)
generated event delay_first {xs} {delay = delay} {late = late} {across = across} are is there =
    ap (λ (z : Option Expr). core.Gen event xs delay z delay_first) there ∙ ap (λ (z : Option Expr). core.Gen event xs z across delay_first) is
    ∙ ap (λ (zs : List Expr). core.Gen event zs late across delay_first) are ∙ sym (core.rolls-Gen event _ _ _ delay_first)
