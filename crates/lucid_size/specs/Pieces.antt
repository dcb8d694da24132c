-- The replacement of a token, as pieces of a text: their bytes are the written text, and the tokens among them are its tokens.
use Rattle.std.specs.Prelude.{ℕ, List, [], ◌∷◌, ◌++◌, Option, Some, None, codes, decimal, unwrap_or, slice_range}
use Rattle.std.specs.List.{flat_map}
use Rattle.lucid_lex.specs.declared.token.Kind.{Kind}
use Rattle.lucid_lex.specs.Piece.{Piece}
use Rattle.lucid_lex.specs.Reading.{bytes_of}
use Rattle.lucid_size.specs.declared.step.Form.{Form}
use Rattle.lucid_size.specs.declared.step.Step.{Step}
use Rattle.lucid_size.specs.Suffix.{suffix}
use Rattle.lucid_lex.specs.declared.token.Kind.TheVariants as kinds
use Rattle.lucid_lex.specs.declared.sign.Sign.TheVariants as signs
use Rattle.lucid_size.specs.declared.step.Form.TheVariants as forms

-- a token with these bytes, or blanks and comments
abbrev pub piece : List ℕ → Option Kind → Piece
piece bytes kind = record { bytes = bytes; kind = kind }

-- a name
abbrev pub name_piece : List ℕ → Piece
name_piece bytes = piece bytes (Some kinds.Name)

-- The token and its continuation, in the instance of a width: a kept token alone; `<<` with the width and `>>`; the template's own name
-- with the suffix; the name of a use with the suffix of its width, and `(`. `m` is the number of underscores.
abbrev pub form_pieces : ℕ → ℕ → List ℕ → Kind → Form → List Piece
form_pieces m width bytes kind forms.Kept = piece bytes (Some kind) ∷ []
form_pieces m width bytes kind forms.Width =
    piece bytes (Some kind) ∷ piece (decimal width) (Some (kinds.Number width)) ∷ piece (codes ">>") (Some (kinds.Sign signs.ShiftRight)) ∷ []
form_pieces m width bytes kind forms.Named = name_piece (bytes ++ suffix m width) ∷ []
form_pieces m width bytes kind (forms.Use k size) =
    name_piece (bytes ++ suffix m (unwrap_or size width)) ∷ piece (codes "(") (Some (kinds.Sign signs.OpenParen)) ∷ []

-- blanks and comments
abbrev pub gap : List ℕ → Piece
gap bytes = piece bytes None

-- the bytes before the token, and then its replacement
abbrev pub step_pieces : List ℕ → ℕ → ℕ → Step → List Piece
step_pieces text m width s = gap (slice_range text s.from s.token.span.start) ∷ form_pieces m width (bytes_of text s.token) s.token.kind s.form

-- one step after another
abbrev pub pieces_of : List ℕ → ℕ → ℕ → List Step → List Piece
pieces_of text m width ss = flat_map (step_pieces text m width) ss
