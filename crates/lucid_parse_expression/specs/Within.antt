-- The position of a token in its text.
use Rattle.std.specs.Prelude.{ℕ, ◌≤◌, ◌<◌, List, length, All}
use Rattle.lucid_lex.specs.declared.token.Token.{Token}
use Rattle.lucid_lex.specs.Reading.{bytes_of}

-- the token's span is in the text, and its bytes are ASCII
abbrev pub IsWithin : List ℕ → Token → Type 0
IsWithin text t = (t.span.start ≤ t.span.end) × (t.span.end ≤ length text) × All (λ b. b < 128) (bytes_of text t)
