-- The words of the items: a field that is missing or of another kind gives nothing, and then the item is bad.
use Rattle.std.specs.Prelude.{ℕ, List, [], ◌∷◌, ◌++◌, Bool, true, false, nat_lt, length, if◌then◌else◌, Option, None, Some, option_and_then, is_some}
use Rattle.serde_json.specs.Data.{Data, Items, no_items, item}
use Rattle.serde_json.specs.Find.{get, at, as_str, as_array}
use Rattle.lucid_conf.specs.Reading.{number_in}

-- One line after the other, up to the first that gives nothing.
infixl 10 ◌>>=◌
abbrev pub ◌>>=◌ : {A B : Type 0} → Option A → (A → Option B) → Option B
o >>= f = option_and_then f o

-- The condition has to hold.
abbrev pub must : Bool → Option (Unit {0})
must true = Some tt
must false = None

-- The number, or the text, at a place of a list or under a key of an object.
abbrev pub number_at : ℕ → Data → Option ℕ
number_at i d = option_and_then number_in (at i d)

abbrev pub number_of : List ℕ → Data → Option ℕ
number_of key d = option_and_then number_in (get key d)

abbrev pub text_at : ℕ → Data → Option (List ℕ)
text_at i d = option_and_then as_str (at i d)

abbrev pub text_of : List ℕ → Data → Option (List ℕ)
text_of key d = option_and_then as_str (get key d)

-- Nothing is at this place, so the list ends before it.
abbrev pub ends_at : ℕ → Data → Option (Unit {0})
ends_at i d = if is_some (at i d) then None else Some tt

-- The numbers of a list of at most 8 numbers.
abbrev pub args_from : List ℕ → Items → Option (List ℕ)
args_from before no_items = Some before
args_from before (item d ds) = option_and_then (λ n. if nat_lt (length before) 8 then args_from (before ++ n ∷ []) ds else None) (number_in d)

abbrev pub args_of : Data → Option (List ℕ)
args_of d = option_and_then (args_from []) (as_array d)
