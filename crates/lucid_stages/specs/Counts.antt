-- The counts of code that may exceed a limit: operations, bits that a packet carries, and calls of an array.
use Rattle.std.specs.Prelude.{◌≡◌, ℕ, ◌+◌, ◌<◌, ◌≤◌, List, length, slice_index}
use Rattle.std.specs.List.{fold}
use Rattle.lucid_code.specs.Parts.{CodeParts}
use Rattle.lucid_tables.specs.Registers.{registers_of}
use Rattle.lucid_conf.specs.declared.limits.Limits.{Limits}
use Rattle.lucid_stages.specs.declared.count_error.CountError.{CountError}
use Rattle.lucid_stages.specs.declared.count_error.CountError.TheVariants.{Ops, Fields, Arms, Memory}
use Rattle.lucid_stages.specs.NodeWorks.{calls_of}

abbrev pub most_ops : ℕ
most_ops = 4096

-- The sum of these fields' widths.
abbrev pub width_of : List ℕ → List ℕ → ℕ
width_of widths fields = fold (λ sum k. sum + slice_index widths k) 0 fields

-- The bits of the fields that a packet carries: the inputs, and each field that some operation reads or writes.
abbrev pub bits_of : CodeParts → ℕ
bits_of code = width_of code.fields (registers_of code)

-- The calls of an array.
abbrev pub count_of : CodeParts → ℕ → ℕ
count_of code array = length (calls_of code.ops array)

-- The first array that has more calls than `most`.
pub record FirstCrowded (code : CodeParts) (most array : ℕ) : Type 0 where
  pub there : array < length code.arrays
  pub crowded : most < count_of code array
  pub first : (g : ℕ) → g < array → count_of code g ≤ most

pub record CountsFit (code : CodeParts) (limits : Limits) : Type 0 where
  pub ops : length code.ops ≤ most_ops
  pub bits : bits_of code ≤ limits.bits
  pub arms : (g : ℕ) → g < length code.arrays → count_of code g ≤ limits.arms

-- Which count passes its limit: the first of these causes, in this order.
abbrev pub CountsFail : CodeParts → Limits → CountError → Type 0
CountsFail code limits (Ops n) = (n ≡ length code.ops) × (most_ops < n)
CountsFail code limits (Fields n) = (length code.ops ≤ most_ops) × (n ≡ bits_of code) × (limits.bits < n)
CountsFail code limits (Arms array) = (length code.ops ≤ most_ops) × (bits_of code ≤ limits.bits) × FirstCrowded code limits.arms array
CountsFail code limits Memory = Unit {0}
