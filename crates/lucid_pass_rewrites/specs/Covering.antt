-- The nesting of guards: the literals before each literal, and the fields that are tested outside the guard of their writer.
use Rattle.std.specs.Prelude.{◌≡◌, ◌≤◌, ◌<◌, ◌-◌, ℕ, List, Bool, true, false, not, Some, if◌then◌else◌, length, slice_get, slice_index_or, slice_set, take}
use Rattle.std.specs.List.{fold}
use Rattle.std.specs.Option.{option_map_or}
use Rattle.lucid_code.specs.declared.op.Literal.{Literal}
use Rattle.lucid_code.specs.declared.op.Op.{Op}
use Rattle.lucid_pass_spec.specs.Direct.{covers}
use Rattle.lucid_pass_spec.specs.Looks.{includes, only_writer, same_literal}

-- Two guards have the same literal at place i.
abbrev pub same_at : List Literal → List Literal → ℕ → Bool
same_at a b i = option_map_or (λ l. option_map_or (same_literal l) (slice_get b i) false) (slice_get a i) false

-- They begin with n literals that are the same.
pub record Alike (a b : List Literal) (n : ℕ) : Type 0 where
  pub first : n ≤ length a
  pub second : n ≤ length b
  pub same : take n a ≡ take n b

-- If just one operation writes field k, its guard is part of this one.
abbrev pub is_under : List Op → List Literal → ℕ → Bool
is_under ops guard k = option_map_or (λ w. includes guard w.guard) (only_writer ops k) true

-- The writer of the field of one of the first n literals has a guard that precedes the literal.
pub record Nested (ops : List Op) (guard : List Literal) (n : ℕ) : Type 0 where
  pub within : n ≤ length guard
  pub told : (i : ℕ) (l : Literal) → i < n → slice_get guard i ≡ Some l → is_under ops (take i guard) l.field ≡ true

-- So it is of the operation before this one.
abbrev pub NestedBefore : List Op → ℕ → ℕ → Type 0
NestedBefore ops i n = (o : Op) → slice_get ops (i - 1) ≡ Some o → Nested ops o.guard n

-- A mark for the field of each of these literals that is written by one operation whose guard is not part of this one.
abbrev pub mark_each : List Op → List Literal → List Literal → List Bool → List Bool
mark_each ops guard ls marks = fold (λ (marks : List Bool) (l : Literal). if is_under ops guard l.field then marks else slice_set marks l.field true) marks ls

-- Of the fields that just one operation writes, those are marked that one of the first n operations tests outside the guard of the one.
pub record Uncovered (ops : List Op) (fields n : ℕ) (marks : List Bool) : Type 0 where
  pub long : length marks ≡ fields
  pub told : (c : ℕ) (w : Op) → c < fields → only_writer ops c ≡ Some w → slice_index_or marks c false ≡ not (covers (take n ops) c w.guard)
