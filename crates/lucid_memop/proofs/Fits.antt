-- The fixed numbers of a memop that has the shape fit its width.
use Rattle.std.proofs.Common.{◌≡◌, ℕ, ◌^◌, ◌<◌, List, true, IsTrue, refl, subst}
use Rattle.std.proofs.lemmas.Bool.{and_from, lt-ltb}
use Rattle.lucid_base.specs.Memop.{memop_fits, operand_fits, side_fits}
use Rattle.lucid_base.specs.declared.memory_alu.MemAlu.{MemAlu}
use Rattle.lucid_base.specs.declared.memory_alu.MemArg.{MemArg}
use Rattle.lucid_base.specs.declared.memory_alu.MemSide.{MemSide}
use Rattle.lucid_core.specs.declared.body.Expr.{Expr}
use Rattle.lucid_core.specs.declared.body.Stmt.{Stmt}
use Rattle.lucid_memop.specs.Shape.{Operand, Shaped, Side}
use Rattle.lucid_memop.specs.Shape as rule

operand : {w : ℕ} {x : Expr} {a : MemArg} → Operand w x a → operand_fits w a ≡ true
operand (rule.stored w) = refl
operand (rule.argument w) = refl
operand (rule.number w n is) = lt-ltb n.value (2 ^ w) (subst (λ (v : ℕ). n.value < 2 ^ v) is n.fits)

side : {w : ℕ} {x : Expr} {m : MemSide} → Side w x m → side_fits w m ≡ true
side (rule.one w x a of) = operand of
side (rule.two w op x y a b ok of and far) = and_from _ _ (operand of) (operand and)

pub shaped_fits : {w : ℕ} {body : List Stmt} {m : MemAlu} → Shaped w body m → IsTrue (memop_fits m)
shaped_fits (rule.plain w x m of) = and_from _ _ (and_from _ _ refl (side of)) (side of)
shaped_fits (rule.choice w op x y u v a b first second of and far taken other) =
    and_from _ _ (and_from _ _ (and_from _ _ (operand of) (operand and)) (side taken)) (side other)
