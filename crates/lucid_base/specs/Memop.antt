-- The result of a memop for the stored number and an argument, and whether its fixed numbers fit.
use Rattle.std.specs.Prelude.{ℕ, ◌^◌, Bool, true, ◌&&◌, nat_lt, if◌then◌else◌, Option, None, Some}
use Rattle.lucid_base.specs.Bits.{bits_of}
use Rattle.lucid_base.specs.declared.bits.Bits.{Bits}
use Rattle.lucid_base.specs.declared.ops.CmpOp.{CmpOp}
use Rattle.lucid_base.specs.declared.memory_alu.MemArg.{MemArg}
use Rattle.lucid_base.specs.declared.memory_alu.MemArg.TheVariants.{Stored, Arg, Fixed}
use Rattle.lucid_base.specs.declared.memory_alu.MemSide.{MemSide}
use Rattle.lucid_base.specs.declared.memory_alu.MemSide.TheVariants.{One, Two}
use Rattle.lucid_base.specs.declared.memory_alu.MemAlu.{MemAlu}
use Rattle.lucid_base.specs.Ops.{bin_of, cmp_of, low_of}

-- the number of an operand, at width w
abbrev pub operand_of : MemArg → ℕ → ℕ → ℕ → ℕ
operand_of Stored w stored arg = stored
operand_of Arg w stored arg = arg
operand_of (Fixed n) w stored arg = low_of w n

-- the result of one side
abbrev pub side_of : MemSide → ℕ → ℕ → ℕ → ℕ
side_of (One a) w stored arg = operand_of a w stored arg
side_of (Two op a b) w stored arg = bin_of op w (operand_of a w stored arg) (operand_of b w stored arg)

-- whether the test holds; a memop without one takes its yes side
abbrev pub test_of : Option (CmpOp × MemArg × MemArg) → ℕ → ℕ → ℕ → Bool
test_of None w stored arg = true
test_of (Some test) w stored arg = cmp_of test.0 (operand_of test.1 w stored arg) (operand_of test.2 w stored arg)

-- the result of the memop
abbrev pub apply_of : MemAlu → ℕ → ℕ → ℕ
apply_of alu stored arg =
    side_of (if test_of alu.test alu.width stored arg then alu.yes else alu.no) alu.width stored arg

-- the result of the memop for the low bits of any stored number and argument: as a value, and as a plain number
abbrev pub memop_value : MemAlu → ℕ → ℕ → Bits
memop_value m stored arg = bits_of m.width (apply_of m (low_of m.width stored) (low_of m.width arg))

abbrev pub memop_of : MemAlu → ℕ → ℕ → ℕ
memop_of m stored arg = (memop_value m stored arg).value

-- whether a fixed number fits the width
abbrev pub operand_fits : ℕ → MemArg → Bool
operand_fits w Stored = true
operand_fits w Arg = true
operand_fits w (Fixed n) = nat_lt n (2 ^ w)

abbrev pub side_fits : ℕ → MemSide → Bool
side_fits w (One a) = operand_fits w a
side_fits w (Two op a b) = operand_fits w a && operand_fits w b

abbrev pub test_fits : ℕ → Option (CmpOp × MemArg × MemArg) → Bool
test_fits w None = true
test_fits w (Some test) = operand_fits w test.1 && operand_fits w test.2

-- whether every fixed number of the memop fits its width
abbrev pub memop_fits : MemAlu → Bool
memop_fits m = test_fits m.width m.test && side_fits m.width m.yes && side_fits m.width m.no
