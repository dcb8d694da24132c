-- Counts of faults: one for a sink, one for each name of a file. They never fall, and stop at the last u64.
use Rattle.std.specs.Prelude.{◌≡◌, ℕ, ◌≤◌, ◌==◌, max, Bool, List}
use Rattle.std.specs.List.{list_any}
use Rattle.lucid_base.specs.Saturating.{saturating_next}

-- the count rose: it is at least one more, or is at the last u64
abbrev pub Rose : ℕ → ℕ → Type 0
Rose before now = saturating_next before ≤ now

-- no name's count fell
abbrev pub NoneFell : (List ℕ → ℕ) → (List ℕ → ℕ) → Type 0
NoneFell before now = (name : List ℕ) → before name ≤ now name

-- every name's count is unchanged
abbrev pub SameCounts : (List ℕ → ℕ) → (List ℕ → ℕ) → Type 0
SameCounts before now = (name : List ℕ) → now name ≡ before name

-- the count rose of each name with P
abbrev pub AllRose : (List ℕ → Type 0) → (List ℕ → ℕ) → (List ℕ → ℕ) → Type 0
AllRose P before now = (name : List ℕ) → P name → Rose (before name) (now name)

-- the count is unchanged for each name without P
abbrev pub OthersKept : (List ℕ → Type 0) → (List ℕ → ℕ) → (List ℕ → ℕ) → Type 0
OthersKept P before now = (name : List ℕ) → ¬ P name → now name ≡ before name

-- A count after one more. That of a machine has 64 bits, and then this is `saturating_next`; of no number it falls.
abbrev pub raised : ℕ → ℕ
raised n = max n (saturating_next n)

-- a fake fails the calls whose numbers it was given
abbrev pub is_failing : List ℕ → ℕ → Bool
is_failing fails call = list_any (λ number. number == call) fails
