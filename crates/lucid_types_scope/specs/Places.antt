-- Names as they are kept, the oldest first, and where the newest entry of each name is.
use Rattle.std.specs.Prelude.{◌≡◌, ℕ, List, [], ◌∷◌, Option, None, Some, bytes_eq, if◌then◌else◌, length, map, reverse}
use Rattle.std.specs.HashMap.{HashMap, get}
use Rattle.std.specs.Option.{unwrap_or}
use Rattle.lucid_types_spec.specs.Names.{Names}
use Rattle.lucid_types_scope.specs.declared.scope.Kept.{Kept}

-- The names as the rules see them.
abbrev pub names_of : List Kept → Names
names_of kept = map (λ (k : Kept). k.named) (reverse kept)

-- In a list with the newest first: the place of the newest entry of this name, counted from the oldest.
abbrev pub place : List ℕ → List Kept → Option ℕ
place name [] = None
place name (k ∷ ks) = if bytes_eq k.named.name name then Some (length ks) else place name ks

-- Each entry has the place of the entry that it hides.
abbrev pub IsLinked : List Kept → Type 0
IsLinked [] = Unit {0}
IsLinked (k ∷ ks) = (k.hides ≡ place k.named.name ks) × IsLinked ks

-- The place that the map has for a name, if it has one: a name that is left by all its entries stays in the map, with no place.
abbrev pub newest_of : {S : Type 0} → HashMap (List ℕ) (Option ℕ) S → List ℕ → Option ℕ
newest_of newest name = unwrap_or (get bytes_eq newest name) None

-- The map has the place of the newest entry of every name.
abbrev pub IsIndexed : {S : Type 0} → List Kept → HashMap (List ℕ) (Option ℕ) S → Type 0
IsIndexed kept newest = IsLinked (reverse kept) × ((name : List ℕ) → newest_of newest name ≡ place name (reverse kept))
