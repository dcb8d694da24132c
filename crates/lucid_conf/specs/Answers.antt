-- The answers of the calls to the bytes of a file, given the reading of its value.
use Rattle.std.specs.Prelude.{◌≡◌, ℕ, List, Some, Result, Ok, Err, IsUtf8}
use Rattle.serde_json.specs.Data.{Data}
use Rattle.serde_json.specs.Read.{read}
use Rattle.lucid_conf.specs.declared.error.ConfError.{ConfError}
use Rattle.lucid_conf.specs.declared.error.ConfError.TheVariants as error
use Rattle.lucid_conf.specs.Reading.{Reading}

-- The bytes spell this value. `read` is serde_json's definition, of whose values none has more than 127 lists and objects within one another.
abbrev pub Reads : List ℕ → Data → Type 0
Reads bytes d = IsUtf8 bytes × (read bytes ≡ Some d)

-- Within the crate: the error is that of the reading of a value, unless memory ran out.
abbrev pub Fails : {A : Type 0} → ConfError → Reading A → Type 0
Fails error.NotJson reading = ⊥
Fails (error.BadField k place) reading = reading ≡ Err (k, place)
Fails error.Memory reading = Unit {0}

abbrev pub Gives : {A : Type 0} → Result A ConfError → Reading A → Type 0
Gives (Ok x) reading = reading ≡ Ok x
Gives (Err e) reading = Fails e reading

-- For the calls: Ok if the bytes spell a value that reads so; `BadField` if they spell one that fails so; `NotJson` if they spell none.
-- Bytes spell one value at most, so each answer excludes the others, except Memory.
abbrev pub Refuses : {A : Type 0} → ConfError → (Data → Reading A) → List ℕ → Type 0
Refuses error.NotJson reading bytes = (d : Data) → ¬ (Reads bytes d)
Refuses (error.BadField k place) reading bytes = (d : Data) × Reads bytes d × (reading d ≡ Err (k, place))
Refuses error.Memory reading bytes = Unit {0}

abbrev pub Answers : {A : Type 0} → Result A ConfError → (Data → Reading A) → List ℕ → Type 0
Answers (Ok x) reading bytes = (d : Data) × Reads bytes d × (reading d ≡ Ok x)
Answers (Err e) reading bytes = Refuses e reading bytes
