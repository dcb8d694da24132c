-- The places and the leaving packets of a picture.
use Rattle.std.specs.Prelude.{◌≡◌, ℕ, zero, suc, ◌<◌, List, length, take, None, Some, is_some, nat_lt, slice_index}
use Rattle.std.proofs.Common.{get_or}
use Rattle.lucid_pipe_laws.specs.Rows.{Row, row, Steps, whole}
use Rattle.lucid_pipe_laws.specs.Picture.{IsPicture, after}

-- The number of packets that came to stage k: all that entered at the first, else those that passed the stage before it.
abbrev pub came : ℕ → List ℕ → ℕ → ℕ
came entered passed zero = entered
came entered passed (suc k) = slice_index passed k

-- A packet is in front of stage k if one more came than passed.
abbrev pub Places : {C P : Type 0} → Steps C P → Type 0
Places {C} {P} step = (cs : List C) (ins : List P) (ms : List ℕ) (rows : List (Row C P)) (k : ℕ) (d : Row C P) → IsPicture step cs ins ms rows → k < length rows →
    is_some (get_or rows k d).slot ≡ nat_lt (get_or ms k 0) (came (length ins) ms k)

-- The packet that leaves the last stage is the result of a whole pass, over the cells after those that left before.
abbrev pub Leaves : {C P : Type 0} → Steps C P → Type 0
Leaves {C} {P} step = (cs : List C) (ins : List P) (ms : List ℕ) (rows : List (Row C P)) (k : ℕ) (c : C) (p e : P) → IsPicture step cs ins ms rows → get_or rows k (row c None) ≡ row c (Some p) → suc k ≡ length rows →
    (step k c p).1 ≡ (whole step (after step cs (take (get_or ms k 0) ins)) (get_or ins (get_or ms k 0) e)).1
