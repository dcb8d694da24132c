-- How a text is read as tokens. A reading is a cut of the whole text into pieces; it has no state, and no text has two.
-- A text with no reading is cut up to the place where nothing begins.
use Rattle.std.specs.Prelude.{◌≡◌, ℕ, ◌+◌, ◌≤◌, ◌<◌, List, [], ◌∷◌, ◌++◌, length, drop, Option, Some, None, slice_range}
use Rattle.lucid_lex.specs.declared.token.Kind.{Kind}
use Rattle.lucid_lex.specs.declared.token.Token.{Token}
use Rattle.lucid_lex.specs.Piece.{IsToken, Piece, Stands, NothingBegins}

-- the bytes of the pieces, and then the rest
abbrev pub joined : List Piece → List ℕ → List ℕ
joined [] rest = rest
joined (p ∷ ps) rest = p.bytes ++ joined ps rest

-- each piece is the longest that begins at its place
abbrev pub AllStand : List Piece → List ℕ → Type 0
AllStand [] rest = Unit {0}
AllStand (p ∷ ps) rest = Stands p (joined ps rest) × AllStand ps rest

-- the token that a piece at this offset is, before others; a blank or a comment is none
abbrev pub with_token : ℕ → ℕ → Option Kind → List Token → List Token
with_token start len None ts = ts
with_token start len (Some k) ts = record { kind = k; span = record { start = start; end = start + len } } ∷ ts

-- the tokens among the pieces, with their kinds and places, in order; the first piece is at this offset
abbrev pub tokens_from : ℕ → List Piece → List Token
tokens_from start [] = []
tokens_from start (p ∷ ps) = with_token start (length p.bytes) p.kind (tokens_from (start + length p.bytes) ps)

-- the text up to the rest is a list of pieces, each the longest that begins at its place, and these are its tokens
pub record ReadsUpTo (text : List ℕ) (ts : List Token) (rest : List ℕ) : Type 0 where
  pub pieces : List Piece
  pub whole : text ≡ joined pieces rest
  pub each_stands : AllStand pieces rest
  pub tokens : ts ≡ tokens_from 0 pieces

-- the text is a list of pieces, and these are its tokens
abbrev pub Reads : List ℕ → List Token → Type 0
Reads text ts = ReadsUpTo text ts []

-- the text is read up to this offset, at which no blank, comment or token begins
pub record StopsAt (text : List ℕ) (at : ℕ) : Type 0 where
  pub within : at < length text
  pub before : (ts : List Token) × ReadsUpTo text ts (drop at text)
  pub nothing : NothingBegins (drop at text)

-- the bytes at a token's place
abbrev pub bytes_of : List ℕ → Token → List ℕ
bytes_of text t = slice_range text t.span.start t.span.end

-- the token is in the text
pub record IsTokenOf (text : List ℕ) (t : Token) : Type 0 where
  pub in_order : t.span.start ≤ t.span.end
  pub within : t.span.end ≤ length text
  pub written : IsToken (bytes_of text t) t.kind
