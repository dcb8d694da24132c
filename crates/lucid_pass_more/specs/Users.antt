-- For each field the positions of the operations that use it, by what they say of these operations.
use Rattle.std.specs.Prelude.{◌≡◌, ℕ, ◌<◌, List, [], ◌∷◌, ◌++◌, Bool, true, not, ◌||◌, length, slice_get, slice_index_or, slice_set}
use Rattle.std.specs.List.{fold, list_all}
use Rattle.std.specs.Option.{option_map_or}
use Rattle.lucid_code.specs.declared.op.Op.{Op}
use Rattle.lucid_pass_more_spec.specs.Lift.{uses}

-- One position more for each of these fields.
abbrev pub with_user : List (List ℕ) → List ℕ → ℕ → List (List ℕ)
with_user users ks at = fold (λ (rows : List (List ℕ)) k. slice_set rows k (slice_index_or rows k [] ++ at ∷ [])) users ks

-- All operations at these positions pass a test.
abbrev pub all_at : List Op → (Op → Bool) → List ℕ → Bool
all_at ops test places = list_all (λ at. option_map_or test (slice_get ops at) true) places

-- The operations at the positions of a field are those of some operations that use it, in any order and number.
pub record Names (ops some : List Op) (fields : ℕ) (users : List (List ℕ)) : Type 0 where
  pub long : length users ≡ fields
  pub told : (k : ℕ) → k < fields → (test : Op → Bool) → all_at ops test (slice_index_or users k []) ≡ list_all (λ o. not (uses o k) || test o) some
