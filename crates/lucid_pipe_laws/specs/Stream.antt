-- A pipe whose packets all move once a tick: its content is a function of the packets that entered at each tick.
use Rattle.std.specs.Prelude.{◌≡◌, ℕ, zero, suc, List, [], ◌∷◌, length, Option, None, Some}
use Rattle.lucid_pipe_laws.specs.Moves.{through, advance}
use Rattle.lucid_pipe_laws.specs.Rows.{Row, row, Steps, after_first, whole, settled}

-- a stage's cells before the packet that entered at tick t executes it, from cells c; `run` has the packets by their ticks of entering
abbrev pub ran : {C P : Type 0} → (C → P → C × P) → C → (ℕ → Option P) → ℕ → C
ran f c run zero = c
ran f c run (suc t) = (through f (ran f c run t) (run t)).0

-- the packet after the stage, by the tick of entering
abbrev pub next : {C P : Type 0} → (C → P → C × P) → C → (ℕ → Option P) → ℕ → Option P
next f c run t = (through f (ran f c run t) (run t)).1

-- all stages' cells as the packet that enters at tick t finds them
abbrev pub cells_at : {C P : Type 0} → Steps C P → List C → (ℕ → Option P) → ℕ → List C
cells_at step [] run t = []
cells_at step (c ∷ cs) run t = ran (step 0) c run t ∷ cells_at (after_first step) cs (next (step 0) c run) t

-- the final state of the packet that entered at tick t
abbrev pub ends : {C P : Type 0} → Steps C P → List C → (ℕ → Option P) → ℕ → Option P
ends step [] run t = run t
ends step (c ∷ cs) run t = ends (after_first step) cs (next (step 0) c run) t

-- the pipe before tick t
abbrev pub picture : {C P : Type 0} → Steps C P → List C → (ℕ → Option P) → ℕ → List (Row C P)
picture step [] run t = []
picture step (c ∷ cs) run zero = row c None ∷ picture (after_first step) cs (next (step 0) c run) zero
picture step (c ∷ cs) run (suc t) = row (ran (step 0) c run t) (run t) ∷ picture (after_first step) cs (next (step 0) c run) t

-- the packet that came k ticks before tick t
abbrev pub late : {P : Type 0} → (ℕ → Option P) → ℕ → ℕ → Option P
late run t zero = run t
late run zero (suc k) = None
late run (suc t) (suc k) = late run t k

-- one whole pass of the packet that entered, if any
abbrev pub passed : {C P : Type 0} → Steps C P → List C → Option P → List C × Option P
passed step cs None = (cs, None)
passed step cs (Some p) = let e = whole step cs p in (e.0, Some e.1)

-- A tick is one move of the picture; the packet that leaves is the end of the one that entered `stages` ticks before.
abbrev pub Advances : {C P : Type 0} → Steps C P → Type 0
Advances {C} {P} step = (cs : List C) (run : ℕ → Option P) (t : ℕ) →
    advance step (run t) (picture step cs run t) ≡ (picture step cs run (suc t), late (ends step cs run) t (length cs))

-- By the tick of entering, the stages do one whole pass after another.
abbrev pub Passes : {C P : Type 0} → Steps C P → Type 0
Passes {C} {P} step = (cs : List C) (run : ℕ → Option P) (t : ℕ) →
    passed step (cells_at step cs run t) (run t) ≡ (cells_at step cs run (suc t), ends step cs run t)

-- It settles to the cells that the next packet to enter finds.
abbrev pub SettlesTo : {C P : Type 0} → Steps C P → Type 0
SettlesTo {C} {P} step = (cs : List C) (run : ℕ → Option P) (t : ℕ) → (settled step (picture step cs run t)).0 ≡ cells_at step cs run t
