-- The laws of this crate's definitions.
use Rattle.std.specs.Prelude.{◌≡◌, ◌↔◌, ℕ, ◌<◌, max, true, ◌&&◌, nat_le, List, [], map}
use Rattle.lucid_base.specs.Arrays.{name_at}
use Rattle.lucid_base.specs.declared.array.ArrayName.{ArrayName}
use Rattle.lucid_constraints.specs.Cycle.{Needed, Rises}
use Rattle.lucid_constraints.specs.Means.{allow_all, greatest}
use Rattle.lucid_constraints.specs.Same.{same_atom, same_pair, join_all}
use Rattle.lucid_constraints.specs.Substitution.{pair, needs_from, ends_from}
use Rattle.lucid_constraints.specs.declared.pair.Atom.{Atom}
use Rattle.lucid_constraints.specs.declared.pair.Pair.{Pair}

-- A caller numbers a function's arrays as those that it gives it.
abbrev pub through : List ArrayName → (ArrayName → ℕ) → ArrayName → ℕ
through names N = λ y. N (name_at names y)

-- The meaning of pairs and ends: dropping repeats changes nothing, and a function's pairs and ends mean the same to its caller as to the
-- function, begun at the greatest of the places where it is called.
pub record PairsKeepMeaning : Type 0 where
  pub joined_pairs : (N : ArrayName → ℕ) (c : ℕ) (ps qs : List Pair) → allow_all N c (join_all same_pair ps qs) ≡ (allow_all N c ps && allow_all N c qs)
  pub joined_ends : (N : ArrayName → ℕ) (c : ℕ) (xs ys : List Atom) → greatest N c (join_all same_atom xs ys) ≡ max (greatest N c xs) (greatest N c ys)
  pub before_array : (N : ArrayName → ℕ) (c : ℕ) (array : ArrayName) (xs : List Atom) → allow_all N c (map (pair array) xs) ≡ nat_le (greatest N c xs) (N array)
  pub called_pairs : (N : ArrayName → ℕ) (c : ℕ) (names : List ArrayName) (start : List Atom) (ps : List Pair) → allow_all N c (needs_from names start [] ps) ≡ allow_all (through names N) (greatest N c start) ps
  pub called_ends : (N : ArrayName → ℕ) (c : ℕ) (names : List ArrayName) (start xs : List Atom) → greatest N c (ends_from names start [] xs) ≡ greatest (through names N) (greatest N c start) xs

-- A numbering rises along the declared arrays and allows the pairs from place 0 exactly where it rises along all that must come first.
abbrev pub AllowedNumberingsRise : Type 0
AllowedNumberingsRise =
    (N : ArrayName → ℕ) (arrays : ℕ) (ps : List Pair) → (Rises arrays N × (allow_all N 0 ps ≡ true)) ↔ ((x y : ArrayName) → Needed arrays ps x y → N x < N y)
