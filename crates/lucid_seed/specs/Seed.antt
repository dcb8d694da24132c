-- Tables of texts, whose hashers are seeded: the place of each text in a list.
use Rattle.std.specs.Prelude.{◌≡◌, ℕ, List, bytes_eq, position}
use Rattle.std.specs.HashMap.{HashMap, get}

-- The map has the place of every text, and no other.
abbrev pub IsIndexed : {S : Type 0} → List (List ℕ) → HashMap (List ℕ) ℕ S → Type 0
IsIndexed texts places = (text : List ℕ) → get bytes_eq places text ≡ position (bytes_eq text) texts
