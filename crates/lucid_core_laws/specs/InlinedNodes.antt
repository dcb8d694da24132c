-- The names that inlined calls may use, part by part: for a body to which inlining adds locals, those of each call in a range of their
-- own.
use Rattle.std.specs.Prelude.{◌≡◌, ◌<◌, ◌≤◌, ◌+◌, ℕ, List, [], ◌∷◌, ◌++◌, ◌⊎◌, true}
use Rattle.lucid_core.specs.Numbers.{are_in}
use Rattle.lucid_core.specs.Uses.{Inlining, Uses, all_keep_to_themselves, assigning, inlining, named, times_in}

-- Neither one of the n locals from b on nor one from lo to hi.
abbrev pub Outside : ℕ → ℕ → ℕ → ℕ → ℕ → Type 0
Outside b n lo hi x = ((x < b) ⊎ (b + n ≤ x)) × ((x < lo) ⊎ (hi ≤ x))

-- The call assigns only locals from lo to hi, which are named in it as often as in all, and reads no others.
pub record KeepsToItself (lo hi : ℕ) (count : ℕ → ℕ) (i : Inlining) : Type 0 where
  pub within : (a : ℕ) → 0 < times_in i.assigns a → (lo ≤ a) × (a < hi)
  pub as_often : (a : ℕ) → 0 < times_in i.assigns a → count a ≡ times_in i.names a
  pub reads : are_in i.assigns i.reads ≡ true

abbrev pub AllKeepToThemselves : ℕ → ℕ → (ℕ → ℕ) → List Inlining → Type 0
AllKeepToThemselves lo hi count [] = Unit {0}
AllKeepToThemselves lo hi count (i ∷ is) = KeepsToItself lo hi count i × AllKeepToThemselves lo hi count is

-- How often a local is named.
abbrev pub count_of : Uses → ℕ → ℕ
count_of u x = times_in (named u) x

-- A part that names only the n locals from b on and those from lo to hi, which its calls assign, each its own.
pub record Owns (b n lo hi : ℕ) (u : Uses) : Type 0 where
  pub rises : lo ≤ hi
  pub reads : (x : ℕ) → Outside b n lo hi x → times_in u.reads x ≡ 0
  pub assigns : (x : ℕ) → Outside b n lo hi x → times_in u.assigns x ≡ 0
  pub covers : (x : ℕ) → lo ≤ x → x < hi → 0 < times_in u.assigns x
  pub kept : AllKeepToThemselves lo hi (count_of u) u.inlined

abbrev pub nothing_named : Uses
nothing_named = record { reads = []; assigns = []; inlined = [] }

-- Of two parts.
abbrev pub joined : Uses → Uses → Uses
joined u v = record { reads = u.reads ++ v.reads; assigns = u.assigns ++ v.assigns; inlined = u.inlined ++ v.inlined }

pub record InlinedNodes : Type 0 where
  pub nothing : (b n lo : ℕ) → Owns b n lo lo nothing_named
  pub both : (b n lo mid hi : ℕ) (u v : Uses) → b + n ≤ lo → Owns b n lo mid u → Owns b n mid hi v → Owns b n lo hi (joined u v)
  pub read : (b n lo i : ℕ) → i < n → Owns b n lo lo (record { reads = (b + i) ∷ []; assigns = []; inlined = [] })
  pub assign : (b n lo hi i : ℕ) (u : Uses) → i < n → b + n ≤ lo → Owns b n lo hi u → Owns b n lo hi (assigning ((b + i) ∷ []) u)
  -- the body of a call has `own` locals, from mid on: its parameters and its statements name only these and its calls', and assign all of them
  pub inlined : (b n lo mid own hi : ℕ) (args body : Uses) (params : List ℕ) → b + n ≤ lo → Owns b n lo mid args → Owns mid own (mid + own) hi body →
      ((x : ℕ) → (x < mid) ⊎ (mid + own ≤ x) → times_in params x ≡ 0) → ((x : ℕ) → mid ≤ x → x < mid + own → 0 < times_in params x + times_in body.assigns x) →
      Owns b n lo hi (inlining args (assigning params body))
  -- only how often a local is read and assigned counts
  pub same : (b n lo hi : ℕ) (u v : Uses) → ((x : ℕ) → times_in v.reads x ≡ times_in u.reads x) → ((x : ℕ) → times_in v.assigns x ≡ times_in u.assigns x) → v.inlined ≡ u.inlined →
      Owns b n lo hi u → Owns b n lo hi v
  -- the rule of a flat program, of a whole body whose first locals are this many parameters
  pub body : (params b n lo hi : ℕ) (u : Uses) → params ≤ lo → Owns b n lo hi u → all_keep_to_themselves params u ≡ true
