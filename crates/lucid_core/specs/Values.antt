-- The results of operations on values. The second operand of an operation, and the arguments of a memop, are taken at the width of the
-- first and of the memop; in a valid core they have it.
use Rattle.std.specs.Prelude.{ℕ, List, map}
use Rattle.lucid_base.specs.Bits.{bits_of}
use Rattle.lucid_base.specs.Bool.{bit_of}
use Rattle.lucid_base.specs.Hash.{hash_of}
use Rattle.lucid_base.specs.Memop.{memop_value}
use Rattle.lucid_base.specs.Ops.{un_of, bin_of, cmp_of, low_of}
use Rattle.lucid_base.specs.declared.bits.Bits.{Bits}
use Rattle.lucid_base.specs.declared.memory_alu.MemAlu.{MemAlu}
use Rattle.lucid_base.specs.declared.ops.BinOp.{BinOp}
use Rattle.lucid_base.specs.declared.ops.CmpOp.{CmpOp}
use Rattle.lucid_base.specs.declared.ops.UnOp.{UnOp}

-- The value if none is given.
abbrev pub nothing : Bits
nothing = bits_of 1 0

abbrev pub unary : UnOp → Bits → Bits
unary op a = bits_of a.width (un_of op a.width a.value)

abbrev pub binary : BinOp → Bits → Bits → Bits
binary op a b = bits_of a.width (bin_of op a.width a.value (low_of a.width b.value))

abbrev pub comparison : CmpOp → Bits → Bits → Bits
comparison op a b = bits_of 1 (bit_of (cmp_of op a.value (low_of a.width b.value)))

-- The numbers alone.
abbrev pub numbers : List Bits → List ℕ
numbers vs = map (λ v. v.value) vs

abbrev pub hashed : ℕ → List Bits → Bits
hashed w vs = bits_of w (hash_of w (numbers vs))

-- The result of a memop for a stored number and an argument.
abbrev pub memop : MemAlu → ℕ → Bits → Bits
memop m stored arg = memop_value m stored arg.value
