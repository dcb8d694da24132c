-- Code that represents a program of any form, and the number of operations of its normal form.
use Rattle.std.specs.Prelude.{◌≡◌, length, sum}
use Rattle.lucid_code.specs.Parts as code
use Rattle.lucid_core.specs.Parts.{CoreParts}
use Rattle.lucid_effects_spec.specs.Size.{flat_size}
use Rattle.lucid_inline_spec.specs.Counts.{handler_lengths, handler_sizes}
use Rattle.lucid_inline_spec.specs.Flat.{flat_of}
use Rattle.lucid_normal_spec.specs.Program.{translate}
use Rattle.lucid_normal_spec.specs.Stands.{StandsFor}
use Rattle.lucid_pass_spec.specs.Replace.{MayReplace}

-- The normal form of the flat form of a program represents the program; and code that may replace it does so too, and has the program's
-- arrays.
pub record CodeStands (core : CoreParts) : Type 0 where
  pub normal : StandsFor (translate (flat_of core)) core
  pub stands : (c : code.CodeParts) → MayReplace (translate (flat_of core)) c → StandsFor c core
  pub arrays : (c : code.CodeParts) → MayReplace (translate (flat_of core)) c → c.arrays ≡ core.arrays

-- The normal form has as many operations as are counted over the program, handler by handler.
abbrev pub LengthIsCounted : CoreParts → Type 0
LengthIsCounted core = length (translate (flat_of core)).ops ≡ sum (handler_lengths core)

-- The flat form is as large as is counted over the program, handler by handler.
abbrev pub SizeIsCounted : CoreParts → Type 0
SizeIsCounted core = flat_size (flat_of core) ≡ sum (handler_sizes core)
