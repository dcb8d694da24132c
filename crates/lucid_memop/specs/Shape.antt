-- The shape of a memop: which bodies the memory of one stage can compute. Local 0 is the stored number, local 1 the argument.
use Rattle.std.specs.Prelude.{◌≡◌, ℕ, Bool, true, false, List, [], ◌∷◌, Some, None}
use Rattle.lucid_base.specs.declared.bits.Bits.{Bits}
use Rattle.lucid_base.specs.declared.memory_alu.MemAlu.{MemAlu}
use Rattle.lucid_base.specs.declared.memory_alu.MemArg.{MemArg}
use Rattle.lucid_base.specs.declared.memory_alu.MemArg.TheVariants.{Stored, Arg, Fixed}
use Rattle.lucid_base.specs.declared.memory_alu.MemSide.{MemSide}
use Rattle.lucid_base.specs.declared.memory_alu.MemSide.TheVariants.{One, Two}
use Rattle.lucid_base.specs.declared.ops.BinOp.{BinOp}
use Rattle.lucid_base.specs.declared.ops.BinOp.TheVariants.{SatAdd, SatSub}
use Rattle.lucid_base.specs.declared.ops.CmpOp.{CmpOp}
use Rattle.lucid_core.specs.declared.body.Expr.{Expr}
use Rattle.lucid_core.specs.declared.body.Expr.TheVariants as e
use Rattle.lucid_core.specs.declared.body.Stmt.{Stmt}
use Rattle.lucid_core.specs.declared.body.Stmt.TheVariants.{If, Return}

-- An operand is a parameter, or a number of the memop's width w.
pub data Operand : ℕ → Expr → MemArg → Type 0 where
  stored : (w : ℕ) → Operand w (e.Local 0) Stored
  argument : (w : ℕ) → Operand w (e.Local 1) Arg
  number : (w : ℕ) (n : Bits) → n.width ≡ w → Operand w (e.Fixed n) (Fixed n.value)

-- Two operands use each parameter at most once.
abbrev pub apart : MemArg → MemArg → Bool
apart Stored Stored = false
apart Arg Arg = false
apart _ _ = true

-- The operations of a memop are `+ - & | ^`.
abbrev pub is_allowed : BinOp → Bool
is_allowed SatAdd = false
is_allowed SatSub = false
is_allowed _ = true

-- The returned expression is one operand, or an operation on two.
pub data Side : ℕ → Expr → MemSide → Type 0 where
  one : (w : ℕ) (x : Expr) (a : MemArg) → Operand w x a → Side w x (One a)
  two : (w : ℕ) (op : BinOp) (x y : Expr) (a b : MemArg) →
      is_allowed op ≡ true → Operand w x a → Operand w y b → apart a b ≡ true → Side w (e.Bin op x y) (Two op a b)

-- The body is one return, or one if with one return in each branch, whose condition compares two operands.
pub data Shaped : ℕ → List Stmt → MemAlu → Type 0 where
  plain : (w : ℕ) (x : Expr) (side : MemSide) → Side w x side →
      Shaped w (Return (Some x) ∷ []) (record { width = w; test = None; yes = side; no = side })
  choice : (w : ℕ) (op : CmpOp) (x y u v : Expr) (a b : MemArg) (yes no : MemSide) →
      Operand w x a → Operand w y b → apart a b ≡ true → Side w u yes → Side w v no →
      Shaped w (If (e.Cmp op x y) (Return (Some u) ∷ []) (Return (Some v) ∷ []) ∷ [])
      (record { width = w; test = Some (op, a, b); yes = yes; no = no })
