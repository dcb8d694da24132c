-- The expansion of a text, as a substitution on its tokens. Each template is replaced by its used instances, by rising width; in an
-- instance each `<< w >>` has the width in place of `w`, and the name has the suffix of the width. Each use of an instance becomes its
-- name. All else stays, blanks and comments too. The result is a list of pieces: their bytes are the expanded text, and the tokens among
-- them are its tokens.
use Rattle.std.specs.Prelude.{◌≡◌, ℕ, ◌+◌, ◌<◌, if◌then◌else◌, List, [], ◌∷◌, ◌++◌, length, Option, Some, None, Ok, Err, codes, slice_get, bytes_eq, position}
use Rattle.std.specs.Option.{is_some}
use Rattle.std.specs.List.{Contains}
use Rattle.std.specs.List.Sorted.{IsStrictlyIncreasing}
use Rattle.lucid_lex.specs.declared.token.Token.{Token}
use Rattle.lucid_lex.specs.Piece.{Piece}
use Rattle.lucid_lex.specs.Reading.{joined}
use Rattle.lucid_size.specs.declared.template.Template.{Template}
use Rattle.lucid_size.specs.declared.step.Step.{Step}
use Rattle.lucid_size.specs.Templates.{templates}
use Rattle.lucid_size.specs.Suffix.{underscores}
use Rattle.lucid_size.specs.Pieces.{piece, gap, pieces_of}
use Rattle.lucid_size.specs.Used.{Used}
use Rattle.lucid_size.specs.Parts.{gap_before, names_of, steps_between, body_steps, steps_in, outside_from}
use Rattle.lucid_lex.specs.declared.token.Kind.TheVariants as kinds
use Rattle.lucid_lex.specs.declared.word.Word.TheVariants as words

-- `fun`, one blank and the rest
abbrev pub instance : List ℕ → ℕ → List Step → ℕ → List Piece
instance text m body n = piece (codes "fun") (Some (kinds.Word words.Fun)) ∷ gap (codes " ") ∷ pieces_of text m n body

-- the instances of one template, joined by one line feed; where there is none, a line feed
abbrev pub instances : List ℕ → ℕ → List Step → List ℕ → List Piece
instances text m body [] = gap (codes "\n") ∷ []
instances text m body (n ∷ []) = instance text m body n
instances text m body (n ∷ k ∷ ns) = instance text m body n ++ (gap (codes "\n") ∷ instances text m body (k ∷ ns))

-- The pieces from the token of number `i` on, where the first of these templates has the number `k`, and each has these widths.
abbrev pub written_from : List ℕ → List Token → ℕ → List (List ℕ) → (ℕ → List ℕ) → ℕ → ℕ → List Template → List Piece
written_from text ts m names widths i k [] = pieces_of text m 0 (steps_between text names None ts i (length ts)) ++ (gap_before text ts (length ts) ∷ [])
written_from text ts m names widths i k (x ∷ xs) =
    pieces_of text m 0 (steps_between text names None ts i x.first)
    ++ (gap_before text ts x.first ∷ (instances text m (body_steps text names ts x) (widths k) ++ written_from text ts m names widths x.end (k + 1) xs))

-- the whole text
abbrev pub written : List ℕ → List Token → List Template → (ℕ → List ℕ) → List Piece
written text ts xs widths = written_from text ts (underscores text ts) (names_of text ts xs) widths 0 0 xs

-- the template of this number, at this width, is used in the text
abbrev pub UsedIn : List ℕ → List Token → List Template → ℕ → ℕ → Type 0
UsedIn text ts xs = Used (outside_from text (names_of text ts xs) ts 0 xs) (λ k. steps_in text (names_of text ts xs) ts (slice_get xs k))

-- for each template the widths at which it is used, rising
pub record AreWidths (text : List ℕ) (ts : List Token) (xs : List Template) (widths : ℕ → List ℕ) : Type 0 where
  pub rising : (k : ℕ) → IsStrictlyIncreasing (widths k)
  pub used : (k n : ℕ) → Contains (widths k) n → UsedIn text ts xs k n
  pub all : (k n : ℕ) → UsedIn text ts xs k n → Contains (widths k) n

-- the first name that is among those before it
abbrev pub first_repeat : List (List ℕ) → List (List ℕ) → Option (List ℕ)
first_repeat before [] = None
first_repeat before (x ∷ xs) = if is_some (position (bytes_eq x) before) then Some x else first_repeat (before ++ (x ∷ [])) xs

-- each template of the text is whole, no two have one name, and these are the pieces of the text's expansion
pub record IsExpansion (text : List ℕ) (ts : List Token) (pieces : List Piece) : Type 0 where
  pub found : List Template
  pub whole : templates ts ≡ Ok found
  pub distinct : first_repeat [] (names_of text ts found) ≡ None
  pub widths : ℕ → List ℕ
  pub are_widths : AreWidths text ts found widths
  pub pieces_are : pieces ≡ written text ts found widths

-- the most bytes of an expanded text
abbrev pub most : ℕ
most = 8388608

-- the expansion has these bytes
abbrev pub ExpandsTo : List ℕ → List Token → List ℕ → Type 0
ExpandsTo text ts out = (pieces : List Piece) × IsExpansion text ts pieces × (out ≡ joined pieces [])

-- The causes of a refusal, in the order in which they are tried. First, a template that has no name before its first `{`, no `{` or
-- no `}` that closes it: the number from 1 of the first such `fun`.
abbrev pub IsBroken : List Token → ℕ → Type 0
IsBroken ts n = templates ts ≡ Err n

-- a name that an earlier template has: the first
pub record IsTwice (text : List ℕ) (ts : List Token) (name : List ℕ) : Type 0 where
  pub found : List Template
  pub whole : templates ts ≡ Ok found
  pub repeats : first_repeat [] (names_of text ts found) ≡ Some name

-- more bytes than an expanded text may have
abbrev pub IsTooBig : List ℕ → List Token → Type 0
IsTooBig text ts = (out : List ℕ) × ExpandsTo text ts out × (most < length out)
