-- The memop of a shape fits its width.
use Rattle.std.proofs.Common.{◌≡◌, ℕ, ◌^◌, ◌<◌, List, true, refl, subst}
use Rattle.std.proofs.lemmas.Bool.{and_from, lt-ltb}
use Rattle.lucid_base.specs.Memop.{memop_fits, side_fits, operand_fits}
use Rattle.lucid_base.specs.declared.memory_alu.MemAlu.{MemAlu}
use Rattle.lucid_base.specs.declared.memory_alu.MemArg.{MemArg}
use Rattle.lucid_base.specs.declared.memory_alu.MemSide.{MemSide}
use Rattle.lucid_core.specs.declared.body.Expr.{Expr}
use Rattle.lucid_core.specs.declared.body.Stmt.{Stmt}
use Rattle.lucid_memop.specs.Shape.{Operand, Side, Shaped}
use Rattle.lucid_memop.specs.Shape as rule

operand : {w : ℕ} {x : Expr} {a : MemArg} → Operand w x a → operand_fits w a ≡ true
operand (rule.stored w) = refl
operand (rule.argument w) = refl
operand (rule.number w k is) = lt-ltb k.value (2 ^ w) (subst (λ (v : ℕ). k.value < 2 ^ v) is k.fits)

side : {w : ℕ} {x : Expr} {a : MemSide} → Side w x a → side_fits w a ≡ true
side (rule.one w x a of) = operand of
side (rule.two w op x y a b ok of and far) = and_from _ _ (operand of) (operand and)

pub shaped_fits : {w : ℕ} {xs : List Stmt} {m : MemAlu} → Shaped w xs m → memop_fits m ≡ true
shaped_fits (rule.plain w x s of) = and_from _ _ (and_from _ _ refl (side of)) (side of)
shaped_fits (rule.choice w op x y u v a b first second of and far one two) =
    and_from _ _ (and_from _ _ (and_from _ _ (operand of) (operand and)) (side one)) (side two)
