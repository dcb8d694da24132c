-- The guard that was made last, kept so that the next guard, which mostly begins alike, is made from where they differ.
use Rattle.std.specs.Prelude.{◌≡◌, ℕ, ◌+◌, ◌-◌, ◌≤◌, List, [], ◌∷◌, ◌++◌, Option, Some, if◌then◌else◌, length, map, slice_get, slice_index_or, take}
use Rattle.std.specs.List.{list_any}
use Rattle.lucid_code.specs.declared.op.Literal.{Literal}
use Rattle.lucid_code.specs.declared.op.Op.{Op}
use Rattle.lucid_pass_spec.specs.declared.direct.Test.{Test}
use Rattle.lucid_pass_spec.specs.Direct.{direct_literal, without_repeats}
use Rattle.lucid_pass_spec.specs.Looks.{same_literal}

-- A guard with direct tests.
abbrev pub renewed : (ℕ → Option Test) → List Literal → List Literal
renewed d guard = without_repeats [] (map (direct_literal d) guard)

-- A literal is appended, unless it is there.
abbrev pub with_new : Literal → List Literal → List Literal
with_new l gs = if list_any (same_literal l) gs then gs else gs ++ l ∷ []

-- The replacements of the first n literals of a guard, and after each of them their number.
pub record Trail (d : ℕ → Option Test) (guard : List Literal) (n : ℕ) (made : List Literal) (ends : List ℕ) : Type 0 where
  pub within : n ≤ length guard
  pub made_is : made ≡ renewed d (take n guard)
  pub long : length ends ≡ n + 1
  pub ends_are : (i : ℕ) → i ≤ n → slice_index_or ends i 0 ≡ length (renewed d (take i guard))

-- So it is of the operation before this one.
abbrev pub TrailBefore : (ℕ → Option Test) → List Op → ℕ → ℕ → List Literal → List ℕ → Type 0
TrailBefore d ops i n made ends = (o : Op) → slice_get ops (i - 1) ≡ Some o → Trail d o.guard n made ends
