-- The meaning of a refusal of the check for a program.
use Rattle.lucid_core.specs.Parts.{CoreParts}
use Rattle.std.specs.Prelude.{length}
use Rattle.lucid_effects_spec.specs.Order.{bodies}
use Rattle.lucid_effects.specs.First.{IsRefusedFirst}
use Rattle.lucid_effects.specs.declared.error.OrderError.{OrderError}
use Rattle.lucid_effects.specs.declared.error.OrderError.TheVariants.{NoOrder, Memory}

-- The first declaration that isn't in order, with a cycle. Memory has no meaning.
abbrev pub Tells : CoreParts → OrderError → Type 0
Tells parts (NoOrder decl cycle) = IsRefusedFirst (length parts.arrays) (bodies parts) decl cycle.items
Tells parts Memory = Unit {0}
