-- The result of each operation, over plain numbers that fit the width `w`. The code computes the same in machine words.
use Rattle.std.specs.Prelude.{ℕ, ◌+◌, ◌-◌, ◌*◌, ◌/◌, ◌%◌, ◌^◌, min, Bool, not, nat_eq, nat_lt, nat_le, bit_and, bit_or, bit_xor, ◌⊎◌, ◌≡◌}
use Rattle.lucid_base.specs.declared.ops.UnOp.{UnOp}
use Rattle.lucid_base.specs.declared.ops.UnOp.TheVariants.{Neg, Flip, Shl, Shr}
use Rattle.lucid_base.specs.declared.ops.BinOp.{BinOp}
use Rattle.lucid_base.specs.declared.ops.BinOp.TheVariants.{Add, Sub, And, Or, Xor, SatAdd, SatSub}
use Rattle.lucid_base.specs.declared.ops.CmpOp.{CmpOp}
use Rattle.lucid_base.specs.declared.ops.CmpOp.TheVariants.{Eq, Ne, Lt, Gt, Le, Ge}

-- negation modulo 2 ^ w, the complement of every bit, and shifts that drop bits past the width and fill with zeros
abbrev pub un_of : UnOp → ℕ → ℕ → ℕ
un_of Neg w a = (2 ^ w - a) % 2 ^ w
un_of Flip w a = 2 ^ w - 1 - a
un_of (Shl k) w a = a * 2 ^ k % 2 ^ w
un_of (Shr k) w a = a / 2 ^ k

-- sums and differences modulo 2 ^ w, bit by bit, and sums and differences that stop at the ends of the width
abbrev pub bin_of : BinOp → ℕ → ℕ → ℕ → ℕ
bin_of Add w a b = (a + b) % 2 ^ w
bin_of Sub w a b = (a + 2 ^ w - b) % 2 ^ w
bin_of And w a b = bit_and a b
bin_of Or w a b = bit_or a b
bin_of Xor w a b = bit_xor a b
bin_of SatAdd w a b = min (a + b) (2 ^ w - 1)
bin_of SatSub w a b = a - b

-- the order of unsigned numbers
abbrev pub cmp_of : CmpOp → ℕ → ℕ → Bool
cmp_of Eq a b = nat_eq a b
cmp_of Ne a b = not (nat_eq a b)
cmp_of Lt a b = nat_lt a b
cmp_of Gt a b = nat_lt b a
cmp_of Le a b = nat_le a b
cmp_of Ge a b = nat_le b a

-- the low w bits of a number
abbrev pub low_of : ℕ → ℕ → ℕ
low_of w n = n % 2 ^ w

-- the operation shifts by k, to either side
abbrev pub IsShiftBy : ℕ → UnOp → Type 0
IsShiftBy k op = (op ≡ Shl k) ⊎ (op ≡ Shr k)
