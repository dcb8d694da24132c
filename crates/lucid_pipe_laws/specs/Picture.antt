-- A pipe as the picture of the packets that entered it and of the number of packets that passed each stage.
use Rattle.std.specs.Prelude.{◌≡◌, ℕ, ◌+◌, ◌<◌, List, [], ◌∷◌, ◌++◌, length, take, Option, None, Some, slice_get, slice_set, slice_index}
use Rattle.std.proofs.Common.{suc, get_or}
use Rattle.lucid_pipe_laws.specs.Rows.{Row, row, Steps, after_first, whole, settled}

-- one stage's cells after packets that came one after another, and the packets after it
abbrev pub cells_after : {C P : Type 0} → (C → P → C × P) → C → List P → C
cells_after f c [] = c
cells_after f c (p ∷ ps) = cells_after f (f c p).0 ps

abbrev pub outs_of : {C P : Type 0} → (C → P → C × P) → C → List P → List P
outs_of f c [] = []
outs_of f c (p ∷ ps) = (f c p).1 ∷ outs_of f (f c p).0 ps

-- all cells after whole passes, one after another
abbrev pub after : {C P : Type 0} → Steps C P → List C → List P → List C
after step cs [] = cs
after step cs (p ∷ ps) = after step (whole step cs p).0 ps

abbrev pub waiting : {P : Type 0} → Option P → List P
waiting None = []
waiting (Some p) = p ∷ []

-- `ins` came before the first stage, and as many as `passed` says passed each
abbrev pub IsPicture : {C P : Type 0} → Steps C P → List C → List P → List ℕ → List (Row C P) → Type 0
IsPicture step [] ins [] [] = Unit {0}
IsPicture step (c ∷ cs) ins (m ∷ ms) (r ∷ rs) =
    (length (take m ins) ≡ m) × (take m ins ++ waiting r.slot ≡ ins) × (r.cells ≡ cells_after (step 0) c (take m ins)) × IsPicture (after_first step) cs (outs_of (step 0) c (take m ins)) ms rs
IsPicture step [] ins [] (r ∷ rs) = ⊥
IsPicture step [] ins (m ∷ ms) rs = ⊥
IsPicture step (c ∷ cs) ins [] rs = ⊥
IsPicture step (c ∷ cs) ins (m ∷ ms) [] = ⊥

-- The cells of a stage are those after the whole passes of as many as passed it.
abbrev pub Looks : {C P : Type 0} → Steps C P → Type 0
Looks {C} {P} step = (cs : List C) (ins : List P) (passed : List ℕ) (rows : List (Row C P)) (k : ℕ) (d : Row C P) → IsPicture step cs ins passed rows → k < length rows →
    (get_or rows k d).cells ≡ get_or (after step cs (take (get_or passed k 0) ins)) k d.cells

-- A packet that goes on leaves such a picture, with one more that passed its stage.
abbrev pub KeepsPicture : {C P : Type 0} → Steps C P → Type 0
KeepsPicture {C} {P} step = (cs : List C) (ins : List P) (passed : List ℕ) (rows : List (Row C P)) (k : ℕ) (c d : C) (p : P) → IsPicture step cs ins passed rows →
    slice_get rows k ≡ Some (row c (Some p)) → slice_get rows (suc k) ≡ Some (row d None) →
    IsPicture step cs ins (slice_set passed k (slice_index passed k + 1)) (slice_set (slice_set rows k (row (step k c p).0 None)) (suc k) (row d (Some (step k c p).1)))

-- A packet that leaves the last stage.
abbrev pub LeavesPicture : {C P : Type 0} → Steps C P → Type 0
LeavesPicture {C} {P} step = (cs : List C) (ins : List P) (passed : List ℕ) (rows : List (Row C P)) (k : ℕ) (c : C) (p : P) → IsPicture step cs ins passed rows →
    slice_get rows k ≡ Some (row c (Some p)) → suc k ≡ length rows → IsPicture step cs ins (slice_set passed k (slice_index passed k + 1)) (slice_set rows k (row (step k c p).0 None))

-- A packet that enters.
abbrev pub EntersPicture : {C P : Type 0} → Steps C P → Type 0
EntersPicture {C} {P} step = (cs : List C) (ins : List P) (passed : List ℕ) (rows : List (Row C P)) (c : C) (p : P) → IsPicture step cs ins passed rows →
    slice_get rows 0 ≡ Some (row c None) → IsPicture step cs (ins ++ p ∷ []) passed (slice_set rows 0 (row c (Some p)))

-- Such a pipe settles to the cells after whole passes of all that entered.
abbrev pub SettlesToAll : {C P : Type 0} → Steps C P → Type 0
SettlesToAll {C} {P} step = (cs : List C) (ins : List P) (passed : List ℕ) (rows : List (Row C P)) → IsPicture step cs ins passed rows → (settled step rows).0 ≡ after step cs ins
