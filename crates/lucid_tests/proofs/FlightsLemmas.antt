-- An event of one argument that fits is an input.
use Rattle.std.proofs.Common.{ℕ, zero, suc, ◌+◌, ◌<◌, ◌≤◌, ◌^◌, [], ◌∷◌, length, slice_index, arith}
use Rattle.lucid_code.specs.Inputs.{IsInput}
use Rattle.lucid_code.specs.Parts.{CodeParts}

pub one : (code : CodeParts) (me id a : ℕ) → me < 4294967296 → id < 4294967296 → 1 ≤ code.inputs.args → a < 2 ^ slice_index code.fields 3 → IsInput code me (record { id = id; args = a ∷ [] })
one code me n a switch event few first = record { switch = switch; id = event; few = few; fit = fits }
  where
    fits : (k : ℕ) → k < length (a ∷ []) → slice_index (a ∷ []) k < 2 ^ slice_index code.fields (3 + k)
    fits zero l = first
    fits (suc k) l = absurd (omega (arith, l))
