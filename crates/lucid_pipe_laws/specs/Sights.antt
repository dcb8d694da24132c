-- The view of a pipe between two ticks.
use Rattle.std.specs.Prelude.{◌≡◌, ℕ, zero, suc, ◌+◌, ◌-◌, ◌<◌, List, [], ◌∷◌, length, map, get_or, Option, None, option_map}
use Rattle.lucid_pipe_laws.specs.Rows.{Row, Steps, settled}
use Rattle.lucid_pipe_laws.specs.Stream.{cells_at, picture}

-- the packets that came 1, 2, .. ticks before tick t
abbrev pub pasts : {T : Type 0} → (ℕ → Option T) → ℕ → ℕ → List (Option T)
pasts run t zero = []
pasts run zero (suc k) = None ∷ pasts run zero k
pasts run (suc t) (suc k) = run t ∷ pasts run t k

-- the tag of a packet that no stage changes, as its event and the tick and switch at which it entered
abbrev pub KeepsTag : {C P T : Type 0} → Steps C P → (P → T) → Type 0
KeepsTag {C} {P} {T} step tag = (k : ℕ) (c : C) (p : P) → tag (step k c p).1 ≡ tag p

-- The packets in flight are those that entered in the last ticks: at place k the one that entered k + 1 ticks before.
abbrev pub FlightLaw : {C P T : Type 0} → Steps C P → (P → T) → Type 0
FlightLaw {C} {P} {T} step tag = KeepsTag step tag → (cs : List C) (run : ℕ → Option P) (t : ℕ) →
    map (λ r. option_map tag r.slot) (picture step cs run t) ≡ pasts (λ e. option_map tag (run e)) t (length cs)

-- The cells of stage k are those after the packets that entered up to k + 2 ticks before.
abbrev pub StageLaw : {C P : Type 0} → Steps C P → Type 0
StageLaw {C} {P} step = (cs : List C) (run : ℕ → Option P) (t k : ℕ) (d : Row C P) → k < length cs →
    (get_or (picture step cs run t) k d).cells ≡ get_or (cells_at step cs run (t - suc k)) k d.cells

-- A snapshot: stage k copied k + 1 ticks later is the settled state at the start, for any later packets.
abbrev pub SnapLaw : {C P : Type 0} → Steps C P → Type 0
SnapLaw {C} {P} step = (cs : List C) (run : ℕ → Option P) (t k : ℕ) (d : Row C P) → k < length cs →
    (get_or (picture step cs run (t + suc k)) k d).cells ≡ get_or (settled step (picture step cs run t)).0 k d.cells
