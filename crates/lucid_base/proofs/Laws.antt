-- Laws of the operations over plain numbers: results fit the width, and a shift by the width or more gives 0.
use Rattle.std.proofs.Common.{◌≡◌, ℕ, ◌+◌, ◌-◌, ◌*◌, ◌^◌, ◌<◌, ◌≤◌, inl, inr, arith}
use Rattle.std.proofs.lemmas.Nat.{pow_pos, mod_below, shr_le, and_le_l, or_lt, xor_lt}
use Rattle.lucid_base.specs.declared.ops.UnOp.{UnOp}
use Rattle.lucid_base.specs.declared.ops.UnOp.TheVariants.{Neg, Flip, Shl, Shr}
use Rattle.lucid_base.specs.declared.ops.BinOp.{BinOp}
use Rattle.lucid_base.specs.declared.ops.BinOp.TheVariants.{Add, Sub, And, Or, Xor, SatAdd, SatSub}
use Rattle.lucid_base.specs.Ops.{un_of, bin_of, IsShiftBy}
use Rattle.lucid_base.proofs.Widths.{shl_out, shr_out}

pub un_of-fits : (op : UnOp) (w a : ℕ) → a < 2 ^ w → un_of op w a < 2 ^ w
un_of-fits Neg w a below = mod_below (2 ^ w - a) (2 ^ w) (pow_pos w)
un_of-fits Flip w a below = omega (arith, pow_pos w)
un_of-fits (Shl k) w a below = mod_below (a * 2 ^ k) (2 ^ w) (pow_pos w)
un_of-fits (Shr k) w a below = omega (arith, shr_le a k)

pub bin_of-fits : (op : BinOp) (w a b : ℕ) → a < 2 ^ w → b < 2 ^ w → bin_of op w a b < 2 ^ w
bin_of-fits Add w a b below also = mod_below (a + b) (2 ^ w) (pow_pos w)
bin_of-fits Sub w a b below also = mod_below (a + 2 ^ w - b) (2 ^ w) (pow_pos w)
bin_of-fits And w a b below also = omega (arith, and_le_l a b)
bin_of-fits Or w a b below also = or_lt w a b below also
bin_of-fits Xor w a b below also = xor_lt w a b below also
bin_of-fits SatAdd w a b below also = omega (arith, pow_pos w)
bin_of-fits SatSub w a b below also = omega arith

pub un_of-shifted_out : (op : UnOp) (w a k : ℕ) → IsShiftBy k op → w ≤ k → a < 2 ^ w → un_of op w a ≡ 0
un_of-shifted_out op w a k shift far below =
    elim shift [
      | inl left ↦ rw left (shl_out w a k far)
      | inr right ↦ rw right (shr_out w a k far below)
    ]
