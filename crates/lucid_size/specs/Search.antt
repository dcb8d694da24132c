-- The state of the search for used instances: those found, each once, and how many of them were looked into.
use Rattle.std.specs.Prelude.{◌≡◌, ℕ, ◌<◌, ◌≤◌, ◌==◌, ◌&&◌, if◌then◌else◌, Bool, List, [], ◌∷◌, ◌++◌, length, take, Option, Some, None, All, slice_get}
use Rattle.std.specs.List.{Contains, IsDistinct, list_any}
use Rattle.std.specs.HashSet.{HashSet, contains}
use Rattle.lucid_size.specs.declared.step.Instance.{Instance}
use Rattle.lucid_size.specs.declared.step.Step.{Step}
use Rattle.lucid_size.specs.Used.{uses, Used}

-- the two are one instance
abbrev pub same_instance : Instance → Instance → Bool
same_instance i j = i.template == j.template && i.width == j.width

-- the set has the members of the list
abbrev pub Sees : {S : Type 0} → List Instance → HashSet Instance S → Type 0
Sees found seen = (i : Instance) → contains same_instance seen i ≡ list_any (same_instance i) found

-- with one instance more, where it is new
abbrev pub with_one : List Instance → Instance → List Instance
with_one found i = if list_any (same_instance i) found then found else found ++ i ∷ []

-- with all of these
abbrev pub with_all : List Instance → List Instance → List Instance
with_all found [] = found
with_all found (i ∷ is) = with_all (with_one found i) is

-- these steps, if there are any
abbrev pub or_none : Option (List Step) → List Step
or_none None = []
or_none (Some ss) = ss

-- the steps of the template of this number
abbrev pub body_in : List (List Step) → ℕ → List Step
body_in bodies k = or_none (slice_get bodies k)

-- each use is of a template that is there
abbrev pub AreWithin : ℕ → List Step → Type 0
AreWithin n ss = (width : ℕ) → All (λ i. i.template < n) (uses width ss)

-- the instance is used
abbrev pub IsUsed : List Step → List (List Step) → Instance → Type 0
IsUsed outside bodies i = Used outside (body_in bodies) i.template i.width

-- these are the used instances
pub record AreUsed (outside : List Step) (bodies : List (List Step)) (found : List Instance) : Type 0 where
  pub used : All (λ i. Used outside (body_in bodies) i.template i.width) found
  pub all : (k n : ℕ) → Used outside (body_in bodies) k n → Contains found (record { template = k; width = n })

-- the uses in an instance are found
abbrev pub HasUses : List (List Step) → List Instance → Instance → Type 0
HasUses bodies found i = All (Contains found) (uses i.width (body_in bodies i.template))

-- during the search for instances: the number of found ones that were looked into
pub record Searching (outside : List Step) (bodies : List (List Step)) (found : List Instance) (at : ℕ) : Type 0 where
  pub used : All (IsUsed outside bodies) found
  pub outer : All (Contains found) (uses 0 outside)
  pub inner : All (HasUses bodies found) (take at found)
  pub distinct : IsDistinct same_instance found
  pub within : All (λ i. i.template < length bodies) found
  pub reached : at ≤ length found
