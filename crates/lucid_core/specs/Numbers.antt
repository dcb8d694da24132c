-- Small words on lists of numbers and of tests.
use Rattle.std.specs.Prelude.{ℕ, List, Bool, map}
use Rattle.std.specs.List.{list_all, enumerate_from}
use Rattle.lucid_base.specs.Numbers.{is_in}

-- Each of these is in the list.
abbrev pub are_in : List ℕ → List ℕ → Bool
are_in xs ns = list_all (λ n. is_in n xs) ns

-- All of these tests hold.
abbrev pub all_hold : List Bool → Bool
all_hold tests = list_all (λ test. test) tests

-- The places of a list, from 0.
abbrev pub places : {A : Type 0} → List A → List ℕ
places xs = map (λ p. p.0) (enumerate_from 0 xs)
