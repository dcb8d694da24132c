-- Short lists that are kept in an array, with a filler past their end.
use Rattle.std.specs.Prelude.{◌≡◌, ℕ, ◌-◌, ◌≤◌, List, ◌++◌, length, take, drop, replicate}
use Rattle.std.proofs.Common.{arith}
use Rattle.std.proofs.lemmas.List.{length-take-le, take-append-drop}

-- `xs` in `room` cells, the rest of them the filler
abbrev pub padded : {A : Type 0} → ℕ → A → List A → List A
padded room filler xs = xs ++ replicate (room - length xs) filler

-- the first `len` of `room` cells are in use, and the others hold the filler
pub record IsSmall {A : Type 0} (room : ℕ) (filler : A) (len : ℕ) (cells : List A) : Type 0 where
  pub within : len ≤ room
  pub room_is : length cells ≡ room
  pub rest : drop len cells ≡ replicate (room - len) filler

-- the cells in use are as many as the length says
pub length-used : {A : Type 0} (room : ℕ) (filler : A) (len : ℕ) (cells : List A) → IsSmall room filler len cells →
    length (take len cells) ≡ len
length-used room filler len cells s = length-take-le len cells (omega (arith, s.within, s.room_is))

-- the cells in use, padded, are all cells
pub padded-used : {A : Type 0} (room : ℕ) (filler : A) (len : ℕ) (cells : List A) → IsSmall room filler len cells →
    padded room filler (take len cells) ≡ cells
padded-used room filler len cells s =
    rw (length-used room filler len cells s, ← s.rest) (take-append-drop len cells)
