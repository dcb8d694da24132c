-- How packets move through a pipe.
use Rattle.std.specs.Prelude.{ℕ, zero, suc, List, [], ◌∷◌, Option, None, Some}
use Rattle.lucid_pipe_laws.specs.Rows.{Row, row, Steps, after_first}

-- a stage's cells, and the packet that leaves it, after the packet in its slot, if any, executes it
abbrev pub through : {C P : Type 0} → (C → P → C × P) → C → Option P → C × Option P
through f c None = (c, None)
through f c (Some p) = let e = f c p in (e.0, Some e.1)

-- the first slot takes a packet
abbrev pub entered_by : {C P : Type 0} → Option P → List (Row C P) → List (Row C P)
entered_by came [] = []
entered_by came (r ∷ rs) = row r.cells came ∷ rs

-- the packet in slot k, if any, executes stage k and moves to the next slot, or leaves
abbrev pub goes : {C P : Type 0} → Steps C P → ℕ → List (Row C P) → List (Row C P) × Option P
goes step k [] = ([], None)
goes step zero (r ∷ []) = let gone = through (step 0) r.cells r.slot in (row gone.0 None ∷ [], gone.1)
goes step zero (r ∷ q ∷ rs) = let gone = through (step 0) r.cells r.slot in (row gone.0 None ∷ row q.cells gone.1 ∷ rs, None)
goes step (suc k) (r ∷ rs) = let later = goes (after_first step) k rs in (r ∷ later.0, later.1)

-- every packet executes its stage and moves on by one; `came` comes into the first slot; with the packet that leaves
abbrev pub advance : {C P : Type 0} → Steps C P → Option P → List (Row C P) → List (Row C P) × Option P
advance step came [] = ([], came)
advance step came (r ∷ rs) =
    let gone = through (step 0) r.cells r.slot in
    let later = advance (after_first step) gone.1 rs in
    (row gone.0 came ∷ later.0, later.1)

-- all from slot k on have moved
abbrev pub backs : {C P : Type 0} → Steps C P → ℕ → List (Row C P) → List (Row C P) × Option P
backs step zero rows = advance step None rows
backs step (suc k) [] = ([], None)
backs step (suc k) (r ∷ rs) = let later = backs (after_first step) k rs in (r ∷ later.0, later.1)
