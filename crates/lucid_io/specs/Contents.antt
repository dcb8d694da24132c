-- The specified contents of files.
use Rattle.std.specs.Prelude.{◌≡◌, ℕ, List, Option, Some, IfSome}

-- the content of every name is unchanged
abbrev pub SameHeld : (List ℕ → Option (List ℕ)) → (List ℕ → Option (List ℕ)) → Type 0
SameHeld before now = (name : List ℕ) → now name ≡ before name

-- if the content of a file is specified, so are its unread bytes
abbrev pub Tells : Option (List ℕ) → Option (List ℕ) → Type 0
Tells held left = IfSome held (λ bytes. left ≡ Some bytes)
