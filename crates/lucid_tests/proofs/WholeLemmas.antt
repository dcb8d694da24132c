-- An event of two arguments that fit is an input.
use Rattle.std.proofs.Common.{ℕ, zero, suc, ◌+◌, ◌<◌, ◌≤◌, ◌^◌, [], ◌∷◌, length, slice_index, arith}
use Rattle.lucid_code.specs.Inputs.{IsInput}
use Rattle.lucid_code.specs.Parts.{CodeParts}

pub two : (code : CodeParts) (me id a b : ℕ) → me < 4294967296 → id < 4294967296 → 2 ≤ code.inputs.args → a < 2 ^ slice_index code.fields 3 → b < 2 ^ slice_index code.fields 4
    → IsInput code me (record { id = id; args = a ∷ b ∷ [] })
two code me n a b switch event few first second = record { switch = switch; id = event; few = few; fit = fits }
  where
    fits : (k : ℕ) → k < length (a ∷ b ∷ []) → slice_index (a ∷ b ∷ []) k < 2 ^ slice_index code.fields (3 + k)
    fits zero l = first
    fits (suc zero) l = second
    fits (suc (suc k)) l = absurd (omega (arith, l))
