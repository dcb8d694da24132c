-- The words of the tables: a JSON value is read key by key, and the first key that fails is the answer.
-- `Data` is the value, in which an object has each key once. A number is one that is written by digits alone and is below 2^64.
use Rattle.std.specs.Prelude.{ℕ, ◌≤◌, List, [], ◌∷◌, ◌++◌, length, Bool, true, false, ◌&&◌, nat_le, if◌then◌else◌}
use Rattle.std.specs.Prelude.{Option, Some, None, option_and_then, Result, Ok, Err}
use Rattle.serde_json.specs.Data.{Data, Items, no_items, item, Members}
use Rattle.serde_json.specs.Find.{get, as_number, as_u64, as_array, as_object}
use Rattle.lucid_json.specs.Keys.{every_key}
use Rattle.lucid_conf.specs.declared.key.Key.{Key}
use Rattle.lucid_conf.specs.declared.key.Key.TheVariants as key
use Rattle.lucid_conf.specs.Keys.{name_of, is_known}

-- A fault is the key that fails and, of a list, the place of the first bad item, from 0.
abbrev pub Fault : Type 0
Fault = Key × Option ℕ

abbrev pub Reading : Type 0 → Type 0
Reading A = Result A Fault

-- One line after the other, up to the first that fails.
infixl 10 ◌>>=◌
abbrev pub ◌>>=◌ : {A B : Type 0} → Reading A → (A → Reading B) → Reading B
(Ok x) >>= f = f x
(Err e) >>= f = Err e

abbrev pub bad : {A : Type 0} → Key → Reading A
bad k = Err (k, None)

abbrev pub or_bad : {A : Type 0} → Key → Option A → Reading A
or_bad k (Some x) = Ok x
or_bad k None = bad k

-- The key fails where the condition does.
abbrev pub check : Key → Bool → Reading (Unit {0})
check k true = Ok tt
check k false = bad k

-- The value is an object (else the fault is `File`), and has none but these keys (else it is `Other`).
abbrev pub all_known : List Key → Members → Bool
all_known keys = every_key (is_known keys)

abbrev pub known_of : List Key → Option Members → Reading (Unit {0})
known_of keys None = bad key.File
known_of keys (Some ms) = check key.Other (all_known keys ms)

abbrev pub file : Data → List Key → Reading (Unit {0})
file d keys = known_of keys (as_object d)

-- A number from the least to the most, or the default where the key is absent.
abbrev pub IsBetween : ℕ → ℕ → ℕ → Type 0
IsBetween least most n = (least ≤ n) × (n ≤ most)

abbrev pub number_in : Data → Option ℕ
number_in d = option_and_then as_u64 (as_number d)

abbrev pub within : ℕ → ℕ → ℕ → Option ℕ
within least most n = if nat_le least n && nat_le n most then Some n else None

abbrev pub number_or : Key → ℕ → ℕ → ℕ → Option Data → Reading ℕ
number_or k least most default None = Ok default
number_or k least most default (Some d) = or_bad k (option_and_then (within least most) (number_in d))

abbrev pub number : Data → Key → ℕ → ℕ → ℕ → Reading ℕ
number d k least most default = number_or k least most default (get (name_of k) d)

-- A number that has to be there.
abbrev pub required : Data → Key → Reading ℕ
required d k = or_bad k (option_and_then number_in (get (name_of k) d))

-- A list, empty where the key is absent, whose items are read in order; `one` is given the items before it. The first bad one is the fault.
abbrev pub items_or : Key → Option Data → Reading Items
items_or k None = Ok no_items
items_or k (Some d) = or_bad k (as_array d)

abbrev pub items : Data → Key → Reading Items
items d k = items_or k (get (name_of k) d)

abbrev pub or_bad_at : {A : Type 0} → Key → ℕ → Option A → Reading A
or_bad_at k place (Some x) = Ok x
or_bad_at k place None = Err (k, Some place)

abbrev pub each : {A : Type 0} → Key → (List A → Data → Option A) → List A → Items → Reading (List A)
each k one before no_items = Ok before
each k one before (item d ds) = or_bad_at k (length before) (one before d) >>= λ x. each k one (before ++ x ∷ []) ds

abbrev pub list : {A : Type 0} → Data → Key → (List A → Data → Option A) → Reading (List A)
list d k one = items d k >>= each k one []
