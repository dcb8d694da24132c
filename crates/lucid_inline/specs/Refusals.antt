-- When a core is refused, by its two counts, which stop at the last u64.
use Rattle.std.specs.Prelude.{◌≡◌, ℕ, ◌<◌, ◌≤◌, Some, sum}
use Rattle.lucid_core.specs.Parts.{CoreParts}
use Rattle.lucid_inline_count.specs.Counts.{capped}
use Rattle.lucid_inline_count.specs.Sums.{FirstPast}
use Rattle.lucid_inline_spec.specs.Counts.{handler_lengths, handler_sizes}
use Rattle.lucid_inline.specs.declared.error.InlineError.{InlineError}
use Rattle.lucid_inline.specs.declared.error.InlineError.TheVariants.{TooMany, TooLarge, Memory}

-- The largest flat form that is built.
abbrev pub largest : ℕ
largest = 262144

abbrev pub length_of : CoreParts → ℕ
length_of core = capped (sum (handler_lengths core))

abbrev pub size_of : CoreParts → ℕ
size_of core = capped (sum (handler_sizes core))

pub record Fits (core : CoreParts) (room : ℕ) : Type 0 where
  pub length : length_of core ≤ room
  pub size : size_of core ≤ largest

-- The length passes the room, first at this handler.
pub record IsTooLong (core : CoreParts) (room handler n : ℕ) : Type 0 where
  pub passes : room < length_of core
  pub count : n ≡ length_of core
  pub first : FirstPast room (handler_lengths core) (Some handler)

-- The length doesn't, and the size passes the largest, first at this handler.
pub record IsTooLarge (core : CoreParts) (room handler n : ℕ) : Type 0 where
  pub length : length_of core ≤ room
  pub passes : largest < size_of core
  pub size : n ≡ size_of core
  pub first : FirstPast largest (handler_sizes core) (Some handler)

-- Each refusal has its cause; Memory has none.
abbrev pub Refused : CoreParts → ℕ → InlineError → Type 0
Refused core room (TooMany handler count) = IsTooLong core room handler count
Refused core room (TooLarge handler size) = IsTooLarge core room handler size
Refused core room Memory = Unit
