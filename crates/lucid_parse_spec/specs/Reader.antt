-- The reading of tokens: a reading takes a part off the front of a list of lexemes. The parser's functions return the results of the
-- readings of this file and of its siblings; that these read exactly the spelled trees is a law (`Law`).
use Rattle.std.specs.Prelude.{ℕ, zero, suc, Bool, true, false, if◌then◌else◌, List, [], ◌∷◌, ◌++◌, length, codes, Option, Some, None, option_map, bytes_eq}
use denote.Enum.Bare.{sameb}
use Rattle.lucid_lex.specs.declared.sign.Sign.{Sign}
use Rattle.lucid_lex.specs.declared.sign.Sign.TheVariants as signs
use Rattle.lucid_lex.specs.declared.word.Word.{Word}
use Rattle.lucid_lex.specs.declared.word.Word.TheVariants as words
use Rattle.lucid_lex.specs.contracts.sign.Sign as sign_type
use Rattle.lucid_lex.specs.contracts.word.Word as word_type
use Rattle.lucid_parse_spec.specs.Lexemes.{Lexeme}
use Rattle.lucid_parse_spec.specs.Lexemes as lexemes
use Rattle.lucid_parse_tree.specs.declared.tree.Ty.{Ty}
use Rattle.lucid_parse_tree.specs.declared.tree.Ty.TheVariants as types

abbrev pub Text : Type 0
Text = List Lexeme

-- a part and the rest after it, if the text begins with such a part
abbrev pub Outcome : Type 0 → Type 0
Outcome A = Option (A × Text)

abbrev pub Parser : Type 0 → Type 0
Parser A = Text → Outcome A

infixl 10 ◌>>=◌
abbrev pub ◌>>=◌ : {A B : Type 0} → Option A → (A → Option B) → Option B
None >>= f = None
Some x >>= f = f x

-- ---- single tokens

abbrev pub after : Sign → Text → Option Text
after s (lexemes.Sign t ∷ ts) = if sameb sign_type.the_type t s then Some ts else None
after s _ = None

abbrev pub after_word : Word → Text → Option Text
after_word w (lexemes.Word v ∷ ts) = if sameb word_type.the_type v w then Some ts else None
after_word w _ = None

-- behind the name with these bytes
abbrev pub after_name : List ℕ → Text → Option Text
after_name bytes (lexemes.Name n ∷ ts) = if bytes_eq n bytes then Some ts else None
after_name bytes _ = None

abbrev pub name : Parser (List ℕ)
name (lexemes.Name n ∷ ts) = Some (n, ts)
name _ = None

abbrev pub number : Parser ℕ
number (lexemes.Number n ∷ ts) = Some (n, ts)
number _ = None

-- ---- a list of parts, as long as there is one more: `step` gives None where the list ends

abbrev pub repeat_on : {A : Type 0} → (List A → Parser (List A)) → List A → Text → Option (Outcome A) → Outcome (List A)
repeat_on next all ts None = Some (all, ts)
repeat_on next all ts (Some o) = do
  x ← o
  next (all ++ x.0 ∷ []) x.1

-- at most this many more turns
unfoldable pub repeat : {A : Type 0} → (Text → Option (Outcome A)) → ℕ → List A → Parser (List A)
repeat step zero all ts = Some (all, ts)
repeat step (suc n) all ts = repeat_on (repeat step n) all ts (step ts)

-- one more part behind a comma
abbrev pub after_comma : {A : Type 0} → Parser A → Text → Option (Outcome A)
after_comma item ts = option_map item (after signs.Comma ts)

-- parts with commas between them
unfoldable pub separated : {A : Type 0} → Parser A → Parser (List A)
separated item ts = do
  x ← item ts
  repeat (after_comma item) (length x.1) (x.0 ∷ []) x.1

-- the list, where it isn't empty
abbrev pub some : {A : Type 0} → List A → Option (List A)
some [] = None
some (x ∷ xs) = Some (x ∷ xs)

-- ---- types

-- the number behind `<<`, up to `>>`
unfoldable pub width_end : Parser ℕ
width_end ts = do
  n ← number ts
  r ← after signs.ShiftRight n.1
  Some (n.0, r)

-- `<<NUMBER>>`
unfoldable pub width : Parser ℕ
width ts = do
  r ← after signs.ShiftLeft ts
  width_end r

abbrev pub width_or : Text → Option Text → Outcome (Option ℕ)
width_or ts None = Some (None, ts)
width_or ts (Some r) = do
  n ← width_end r
  Some (Some n.0, n.1)

-- `<<NUMBER>>`, where it is there
unfoldable pub width_if : Parser (Option ℕ)
width_if ts = width_or ts (after signs.ShiftLeft ts)

unfoldable pub ty : Parser Ty
ty (lexemes.Word words.Int ∷ ts) = do
  w ← width_if ts
  Some (types.Int w.0, w.1)
ty (lexemes.Word words.Bool ∷ ts) = Some (types.Bool, ts)
ty _ = None

-- a type and a name
unfoldable pub typed_name : Parser (Ty × List ℕ)
typed_name ts = do
  t ← ty ts
  n ← name t.1
  Some ((t.0, n.0), n.1)

abbrev pub array_type_on : Text → Option Text → Outcome (Bool × ℕ)
array_type_on ts None = do
  w ← width ts
  Some ((true, w.0), w.1)
array_type_on ts (Some r) = do
  s ← after_name (codes "t") r
  w ← width s
  Some ((false, w.0), w.1)

-- the tokens after `Array` in a type: whether `.t` is absent, and the width
unfoldable pub array_type : Parser (Bool × ℕ)
array_type ts = array_type_on ts (after signs.Dot ts)
