-- The history of files: an entry for each call of `begin`, the newest first, with the bytes that the reads after it returned.
use Rattle.std.specs.Prelude.{◌≡◌, ◌⊎◌, ℕ, zero, suc, ◌+◌, ◌≤◌, ◌&&◌, Bool, true, false, nat_lt, List, [], ◌∷◌, ◌++◌, length, take, Option, None, Some, IfSome, IsTrue, if◌then◌else◌, refl}
use Rattle.std.specs.Coded.{Coded, code_by, coded×, coded_ℕ, coded_bool, coded_list}
use Rattle.std.specs.Str.{bytes_eq}
use Rattle.lucid_io.specs.declared.reading.Take.{Take}
use Rattle.lucid_io.specs.declared.reading.Take.TheVariants as take

-- the name of a file; the bytes that its reads returned, in order; whether the last read returned none into a buffer that isn't empty: the end
pub record Heard : Type 0 where
  pub name : List ℕ
  pub bytes : List ℕ
  pub ended : Bool

-- an entry is stored as its fields
abbrev pub coded_heard : Coded Heard
coded_heard =
    code_by (List ℕ × (List ℕ × Bool)) (coded× (coded_list coded_ℕ) (coded× (coded_list coded_ℕ) coded_bool))
    (λ h. (h.name, (h.bytes, h.ended))) (λ p. record { name = p.0; bytes = p.1.0; ended = p.1.1 }) (λ _. refl)

-- the entry of a file that is being begun: no byte was returned yet
abbrev pub begun_now : List ℕ → Heard
begun_now name = record { name = name; bytes = []; ended = false }

-- the newest entry has these bytes more, and this is whether its last read was its end
abbrev pub gave : List ℕ → Bool → List Heard → List Heard
gave bytes ended [] = []
gave bytes ended (h ∷ rest) = record { name = h.name; bytes = h.bytes ++ bytes; ended = ended } ∷ rest

-- the number of bytes is 0
abbrev pub is_none : ℕ → Bool
is_none zero = true
is_none (suc n) = false

-- after a read that put n bytes into the front of this buffer; none in a buffer that isn't empty means the end
abbrev pub heard_more : ℕ → List ℕ → List Heard → List Heard
heard_more n room all = gave (take n room) (is_none n && nat_lt 0 (length room)) all

-- an entry has this name
abbrev pub IsAmong : List ℕ → List Heard → Type 0
IsAmong name [] = ⊥
IsAmong name (h ∷ rest) = IsAmong name rest ⊎ (name ≡ h.name)

-- the newest entry has this name
abbrev pub IsNewest : List ℕ → List Heard → Type 0
IsNewest name [] = ⊥
IsNewest name (h ∷ rest) = name ≡ h.name

-- one call more failed: that of the newest entry's file
abbrev pub faulted_now : List Heard → List (List ℕ) → List (List ℕ)
faulted_now [] faulted = faulted
faulted_now (h ∷ rest) faulted = h.name ∷ faulted

-- how often a name is in a list
abbrev pub times : List ℕ → List (List ℕ) → ℕ
times name [] = 0
times name (n ∷ rest) = if bytes_eq n name then suc (times name rest) else times name rest

-- one entry more, of this name: its reads returned this text up to its end
abbrev pub HeardWhole : List Heard → List Heard → List ℕ → List ℕ → Type 0
HeardWhole old new name text = new ≡ record { name = name; bytes = text; ended = true } ∷ old

-- One entry more, of a file that was not taken: its bytes are a part of the specified content, and all of it up to the end. The end was seen
-- only if memory ran out; a file that is too long gave one byte past the limit.
pub record HeardPart (old new : List Heard) (name : List ℕ) (held : Option (List ℕ)) (limit : ℕ) (why : Take) : Type 0 where
  pub text : List ℕ
  pub ended : Bool
  pub entry : new ≡ record { name = name; bytes = text; ended = ended } ∷ old
  pub fits : IfSome held (λ bytes. (length text ≤ length bytes) × (IsTrue ended → text ≡ bytes))
  pub memory : IsTrue ended → why ≡ take.Memory
  pub past : why ≡ take.TooLong → length text ≡ limit + 1

-- the newest entry has some bytes more, not up to the end
pub record GavePart (old new : List Heard) (left : Option (List ℕ)) (limit : ℕ) (why : Take) : Type 0 where
  pub text : List ℕ
  pub entry : new ≡ gave text false old
  pub fits : IfSome left (λ bytes. length text ≤ length bytes)
  pub past : why ≡ take.TooLong → length text ≡ limit + 1

-- these contents of names agree with an entry: the content of its name has at least its bytes, and just these if its end was seen
abbrev pub AgreesWith : (List ℕ → Option (List ℕ)) → Heard → Type 0
AgreesWith contents h = IfSome (contents h.name) (λ bytes. (length h.bytes ≤ length bytes) × (IsTrue h.ended → h.bytes ≡ bytes))

-- they agree with each entry
abbrev pub AgreesWithAll : (List ℕ → Option (List ℕ)) → List Heard → Type 0
AgreesWithAll contents [] = Unit {0}
AgreesWithAll contents (h ∷ rest) = AgreesWith contents h × AgreesWithAll contents rest

-- the contents that a history shows: of each name that was read to its end, the bytes that were returned
abbrev pub shown : List Heard → List ℕ → Option (List ℕ)
shown [] name = None
shown (h ∷ rest) name = if h.ended && bytes_eq h.name name then Some h.bytes else shown rest name

-- no two entries have one name
abbrev pub NamedOnce : List Heard → Type 0
NamedOnce [] = Unit {0}
NamedOnce (h ∷ rest) = (¬ IsAmong h.name rest) × NamedOnce rest
