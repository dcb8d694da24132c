-- Texts and their expansions, worked by hand.
use Rattle.std.specs.Prelude.{◌≡◌, ℕ, zero, suc, if◌then◌else◌, List, [], ◌∷◌, ◌++◌, length, drop, take, Option, Some, None, Result, Ok, Err, codes}
use Rattle.std.specs.List.{prefix_len}
use Rattle.std.specs.Char.{is_ascii_digit}
use Rattle.lucid_lex.specs.declared.token.Kind.{Kind}
use Rattle.lucid_lex.specs.declared.token.Kind.TheVariants as kinds
use Rattle.lucid_lex.specs.declared.token.Token.{Token}
use Rattle.lucid_lex.specs.declared.sign.Sign.{Sign}
use Rattle.lucid_lex.specs.declared.word.Word.{Word}
use Rattle.lucid_lex.specs.Byte.{is_blank, is_name_start, is_name_byte}
use Rattle.lucid_lex.specs.Piece.{Piece, number_of}
use Rattle.lucid_lex.specs.Reading.{joined, tokens_from}
use Rattle.lucid_lex.specs.Sign.{sign_text, sign_at}
use Rattle.lucid_lex.specs.Word.{word_in}
use Rattle.lucid_size.specs.declared.template.Template.{Template}
use Rattle.lucid_size.specs.Pieces.{piece}
use Rattle.lucid_size.specs.Parts.{names_of}
use Rattle.lucid_size.specs.Expansion.{first_repeat, written}
use Rattle.lucid_size.specs.Templates.{templates}

-- ---- the tokens of a text without comments, texts and hexadecimal numbers

unfoldable pub named_kind : Option Word → Kind
named_kind None = kinds.Name
named_kind (Some w) = kinds.Word w

unfoldable pub sign_piece : Option Sign → Piece
sign_piece None = piece [] None
sign_piece (Some s) = piece (sign_text s) (Some (kinds.Sign s))

unfoldable pub front : List ℕ → Piece
unfolding named_kind sign_piece sign_at word_in
front [] = piece [] None
front (b ∷ bs) =
    if is_blank b then piece (b ∷ []) None
    else if is_ascii_digit b then (let ds = take (prefix_len is_ascii_digit (b ∷ bs)) (b ∷ bs) in piece ds (Some (kinds.Number (number_of 10 ds))))
    else if is_name_start b then (let ds = take (prefix_len is_name_byte (b ∷ bs)) (b ∷ bs) in piece ds (Some (named_kind (word_in ds))))
    else sign_piece (sign_at (b ∷ bs))

unfoldable pub pieces : ℕ → List ℕ → List Piece
unfolding front
pieces zero text = []
pieces (suc n) [] = []
pieces (suc n) (b ∷ bs) = front (b ∷ bs) ∷ pieces n (drop (length (front (b ∷ bs)).bytes) (b ∷ bs))

unfoldable pub tokens : List ℕ → List Token
unfolding pieces
tokens text = tokens_from 0 (pieces (length text) text)

abbrev pub written_by : List ℕ → List Token → Result (List Template) ℕ → (ℕ → List ℕ) → List ℕ
written_by text ts (Err n) widths = []
written_by text ts (Ok xs) widths = joined (written text ts xs widths) []

abbrev pub repeated_in : List ℕ → List Token → Result (List Template) ℕ → Option (List ℕ)
repeated_in text ts (Err n) = None
repeated_in text ts (Ok xs) = first_repeat [] (names_of text ts xs)

-- the bytes of the expansion of this text, where its templates have these widths
unfoldable pub expanded : List ℕ → (ℕ → List ℕ) → List ℕ
unfolding tokens
expanded text widths = written_by text (tokens text) (templates (tokens text)) widths

abbrev pub at_widths : List (List ℕ) → ℕ → List ℕ
at_widths [] k = []
at_widths (ns ∷ nss) zero = ns
at_widths (ns ∷ nss) (suc k) = at_widths nss k

abbrev pub line : List ℕ → List ℕ
line text = text ++ (10 ∷ [])

-- ---- one template

abbrev pub inc : List ℕ
inc =
    line (codes "event out(int<<8>> a, int<<16>> b);")
    ++ (line (codes "fun <<w>> int<<w>> inc(int<<w>> x) { return x + 1; }")
    ++ (line (codes "event go();")
    ++ line (codes "handle go() { generate out(inc<<8>>(255), inc<<16>>(255)); }")))

abbrev pub inc_expanded : List ℕ
inc_expanded =
    line (codes "event out(int<<8>> a, int<<16>> b);")
    ++ (line (codes "fun  int<<8>> inc_8(int<<8>> x) { return x + 1; }")
    ++ (line (codes "fun  int<<16>> inc_16(int<<16>> x) { return x + 1; }")
    ++ (line (codes "event go();")
    ++ line (codes "handle go() { generate out(inc_8(255), inc_16(255)); }"))))

-- ---- several

-- `f` uses `g` at its own width and at 3
abbrev pub two : List ℕ
two = codes "fun <<w>> int g() { return 1; } fun << v >> int << v>> f ( ) { return g << v >> () + g<<03>>(v); } x = f<<8>>(w);"

abbrev pub two_expanded : List ℕ
two_expanded = line (codes "fun  int g_3() { return 1; }") ++ codes "fun  int g_8() { return 1; } fun  int <<8>> f_8 ( ) { return g_8() + g_3(v); } x = f_8(w);"

-- each uses the other, and itself
abbrev pub mutual_uses : List ℕ
mutual_uses = codes "fun <<w>> int f() { g<<w>>(); } f<<1>>(); fun <<w>> int g() { f<<w>>(); g<<2>>(); }"

abbrev pub mutual_expanded : List ℕ
mutual_expanded = line (codes "fun  int f_1() { g_1(); }") ++ (codes "fun  int f_2() { g_2(); } f_1(); " ++ (line (codes "fun  int g_1() { f_1(); g_2(); }") ++ codes "fun  int g_2() { f_2(); g_2(); }"))

-- two underscores in a row are part of a name
abbrev pub underscored : List ℕ
underscored = codes "fun <<w>> int f() { } int a__b; int _c = f<<7>>(f, f<<w>>(1));"

abbrev pub underscored_expanded : List ℕ
underscored_expanded = codes "fun  int f___7() { } int a__b; int _c = f___7(f, f<<w>>(1));"

-- a `fun` in braces, or after a bracket that is never closed, is no template
abbrev pub inner : List ℕ
inner = codes "handle h() { fun <<w>> int f() { } } ( fun <<w>> int f() { } f<<1>>()"

-- a template in a template is none; the width there is replaced, and a template that isn't used becomes a line feed
abbrev pub nested : List ℕ
nested = codes "fun <<w>> f() { fun <<w>> g() { w << w >> 3 } } a fun <<u>> h() { f<<5>>() } b f<<4>>()"

abbrev pub nested_expanded : List ℕ
nested_expanded = codes "fun  f_4() { fun <<4>> g() { w <<4>> 3 } } a " ++ (10 ∷ codes " b f_4()")

pub record Expanded : Type 0 where
  pub one : expanded inc (at_widths ((8 ∷ 16 ∷ []) ∷ [])) ≡ inc_expanded
  pub two : expanded two (at_widths ((3 ∷ 8 ∷ []) ∷ (8 ∷ []) ∷ [])) ≡ two_expanded
  pub mutual_uses : expanded mutual_uses (at_widths ((1 ∷ 2 ∷ []) ∷ (1 ∷ 2 ∷ []) ∷ [])) ≡ mutual_expanded
  pub underscored : expanded underscored (at_widths ((7 ∷ []) ∷ [])) ≡ underscored_expanded
  pub inner : expanded inner (at_widths []) ≡ inner
  pub nested : expanded nested (at_widths ((4 ∷ []) ∷ [] ∷ [])) ≡ nested_expanded

-- ---- refusals

unfoldable pub cut : List ℕ → Result (List Template) ℕ
unfolding tokens
cut text = templates (tokens text)

unfoldable pub repeated : List ℕ → Option (List ℕ)
unfolding tokens
repeated text = repeated_in text (tokens text) (templates (tokens text))

pub record Broken : Type 0 where
  pub no_name : cut (codes "a fun <<w>> int f { g(); }") ≡ Err 2
  pub no_brace : cut (codes "fun <<w>> int f();") ≡ Err 1
  pub not_closed : cut (codes "fun <<w>> int f() { } fun <<w>> int g() } { { } fun <<w>> h() { }") ≡ Err 11
  pub next_body : cut (codes "fun <<w>> int f(); fun <<w>> g() { }") ≡ Ok (record { first = 0; name = 5; end = 18 } ∷ [])
  pub twice : repeated (codes "fun <<w>> f() { } fun <<w>> g() { } fun <<w>> g() { } fun <<w>> f() { }") ≡ Some (codes "g")
