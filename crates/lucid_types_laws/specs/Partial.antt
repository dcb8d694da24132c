-- Answers that may be none.
use Rattle.std.specs.Prelude.{Option, None, Some, Bool, true, false}

-- This, where the test holds.
abbrev pub given : {A : Type 0} → Bool → A → Option A
given true x = Some x
given false x = None

-- This answer, if the test holds.
abbrev pub when : {A : Type 0} → Bool → Option A → Option A
when true o = o
when false o = None

-- The first of two, or the second where there is none.
abbrev pub first_some : {A : Type 0} → Option A → Option A → Option A
first_some None o = o
first_some (Some x) o = Some x
