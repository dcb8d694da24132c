-- The kinds of a piece, by the class of its first byte; so the bytes of a piece determine its kind.
use Rattle.std.proofs.Common.{◌≡◌, ◌≢◌, ℕ, ◌<◌, ◌⊎◌, true, List, [], ◌∷◌, ◌++◌, length, get_or, Option, Some, None, refl, sym, ◌∙◌, ap, subst, inl, inr, arith}
use Rattle.std.specs.Prelude.{codes, option_map, unwrap_or}
use Rattle.std.specs.List.{AllPass}
use Rattle.std.specs.Char.{is_digit}
use Rattle.std.proofs.lemmas.Bool.{false≢true}
use Rattle.std.proofs.lemmas.List.{get_or_append_left}
use Rattle.std.proofs.lemmas.List.Elements.{All-cons, All-head, All-tail}
use Rattle.std.proofs.lemmas.List.Sums.{AllPass-from_list_all}
use Rattle.lucid_lex.specs.declared.byte.Class.{Class}
use Rattle.lucid_lex.specs.declared.byte.Class.TheVariants.{Blank, Quote, Slash, Digit, Letter, Mark}
use Rattle.lucid_lex.specs.declared.token.Kind.{Kind}
use Rattle.lucid_lex.specs.declared.token.Kind.TheVariants as kinds
use Rattle.lucid_lex.specs.declared.word.Word.{Word}
use Rattle.lucid_lex.specs.declared.sign.Sign.{Sign}
use Rattle.lucid_lex.specs.Byte.{is_name_byte, class_of}
use Rattle.lucid_lex.specs.Front.{kind_of_name}
use Rattle.lucid_lex.specs.Word.{word_text, word_in}
use Rattle.lucid_lex.specs.Sign.{sign_text}
use Rattle.lucid_lex.specs.Piece.{IsBlank, IsLineComment, IsBlockComment, IsName, IsNumeral, IsNumber, IsQuoted, IsToken, IsPiece, number_of}
use Rattle.lucid_lex.proofs.Classes.{class_of-blank, class_of-digit, class_of-letter, name_byte-from_start}
use Rattle.lucid_lex.proofs.Spellings.{sign_in, word_in-some, word_in-text, sign_in-text, word_class, word_bytes, word_length, sign_class, sign_length}

-- a piece whose first byte is of this class
abbrev pub Shape : Class → List ℕ → Option Kind → Type 0
Shape Blank bytes k = (length bytes ≡ 1) × (k ≡ None)
Shape Quote bytes k = ((body : List ℕ) × IsQuoted bytes body) × (k ≡ Some kinds.Text)
Shape Slash bytes k = (IsLineComment bytes ⊎ IsBlockComment bytes) × (k ≡ None)
Shape Digit bytes k = (n : ℕ) × IsNumber bytes n × (k ≡ Some (kinds.Number n))
Shape Letter bytes k = AllPass is_name_byte bytes × (k ≡ Some (kind_of_name bytes))
Shape Mark bytes k = (s : Sign) × (bytes ≡ sign_text s) × (k ≡ Some (kinds.Sign s))

-- the bytes begin, and with a byte of a class in which they are a piece
abbrev pub HasShape : List ℕ → Option Kind → Type 0
HasShape bytes k = (0 < length bytes) × Shape (class_of (get_or bytes 0 0)) bytes k

in_class : (x : Class) (bytes : List ℕ) (k : Option Kind) → 0 < length bytes → class_of (get_or bytes 0 0) ≡ x → Shape x bytes k → HasShape bytes k
in_class x bytes k begins class shape = (begins, subst (λ y. Shape y bytes k) (sym class) shape)

starting : (b : ℕ) (bs bytes : List ℕ) (k : Option Kind) → bytes ≡ b ∷ bs → HasShape (b ∷ bs) k → HasShape bytes k
starting b bs bytes k is h = subst (λ l. HasShape l k) (sym is) h

gap_shape : (bytes : List ℕ) → IsBlank bytes ⊎ IsLineComment bytes ⊎ IsBlockComment bytes → HasShape bytes None
gap_shape bytes (inl h) = starting h.0 [] bytes None h.1 (in_class Blank (h.0 ∷ []) None (omega arith) (class_of-blank h.0 h.2) (refl, refl))
gap_shape bytes (inr (inl h)) = starting 47 (47 ∷ h.0) bytes None h.1 (in_class Slash (47 ∷ 47 ∷ h.0) None (omega arith) refl (inl (h.0, refl, h.2), refl))
gap_shape bytes (inr (inr h)) = starting 47 (42 ∷ (h.0 ++ codes "*/")) bytes None h.1 (in_class Slash (47 ∷ 42 ∷ (h.0 ++ codes "*/")) None (omega arith) refl (inr (h.0, refl, h.2), refl))

-- a word that isn't reserved is a name
not_reserved : (o : Option Word) → ((w : Word) → o ≢ Some w) → unwrap_or (option_map (λ w. kinds.Word w) o) kinds.Name ≡ kinds.Name
not_reserved None none = refl
not_reserved (Some w) none = absurd (none w refl)

name_shape : (bytes : List ℕ) → IsName bytes → HasShape bytes (Some kinds.Name)
name_shape bytes h =
    let passes : AllPass is_name_byte (h.0 ∷ h.1) = All-cons (λ b. is_name_byte b ≡ true) h.0 h.1 (name_byte-from_start h.0 h.3) h.4 in
    let name : kind_of_name bytes ≡ kinds.Name = not_reserved (word_in bytes) (λ w found. h.5 w (sym (word_in-some bytes w found))) in
    let name_too : kind_of_name (h.0 ∷ h.1) ≡ kinds.Name = ap kind_of_name (sym h.2) ∙ name in
    starting h.0 h.1 bytes (Some kinds.Name) h.2 (in_class Letter (h.0 ∷ h.1) (Some kinds.Name) (omega arith) (class_of-letter h.0 h.3) (passes, ap Some (sym name_too)))

decimal_shape : (bytes : List ℕ) (n : ℕ) → IsNumeral 10 bytes n → HasShape bytes (Some (kinds.Number n))
decimal_shape [] n h = absurd (omega (arith, h.0))
decimal_shape (b ∷ bs) n h = in_class Digit (b ∷ bs) (Some (kinds.Number n)) (omega arith) (class_of-digit b (All-head (λ c. is_digit c 10 ≡ true) b bs h.1)) (n, inl h, refl)

number_shape : (bytes : List ℕ) (n : ℕ) → IsNumber bytes n → HasShape bytes (Some (kinds.Number n))
number_shape bytes n (inl h) = decimal_shape bytes n h
number_shape bytes n (inr h) = starting 48 (120 ∷ h.0) bytes (Some (kinds.Number n)) h.1 (in_class Digit (48 ∷ 120 ∷ h.0) (Some (kinds.Number n)) (omega arith) refl (n, inr (h.0, refl, h.2), refl))

text_shape : (bytes body : List ℕ) → IsQuoted bytes body → HasShape bytes (Some kinds.Text)
text_shape bytes body h = starting 34 (body ++ 34 ∷ []) bytes (Some kinds.Text) h.0 (in_class Quote (34 ∷ (body ++ 34 ∷ [])) (Some kinds.Text) (omega arith) refl ((body, (refl, h.1)), refl))

word_shape : (w : Word) → HasShape (word_text w) (Some (kinds.Word w))
word_shape w =
    let found : kind_of_name (word_text w) ≡ kinds.Word w = ap (λ o. unwrap_or (option_map (λ v. kinds.Word v) o) kinds.Name) (word_in-text w) in
    in_class Letter (word_text w) (Some (kinds.Word w)) (word_length w) (word_class w) (AllPass-from_list_all is_name_byte (word_text w) (word_bytes w), ap Some (sym found))

token_shape : (bytes : List ℕ) (k : Kind) → IsToken bytes k → HasShape bytes (Some k)
token_shape bytes kinds.Name h = name_shape bytes h
token_shape bytes (kinds.Number n) h = number_shape bytes n h
token_shape bytes kinds.Text h = text_shape bytes h.0 h.1
token_shape bytes (kinds.Word w) h = subst (λ l. HasShape l (Some (kinds.Word w))) (sym h) (word_shape w)
token_shape bytes (kinds.Sign s) h = subst (λ l. HasShape l (Some (kinds.Sign s))) (sym h) (in_class Mark (sign_text s) (Some (kinds.Sign s)) (sign_length s) (sign_class s) (s, refl, refl))

pub has_shape : (bytes : List ℕ) (k : Option Kind) → IsPiece bytes k → HasShape bytes k
has_shape bytes None h = gap_shape bytes h
has_shape bytes (Some k) h = token_shape bytes k h

-- a piece at the front of a text has the shape of the text's first byte
pub shape_at : (bytes after : List ℕ) (k : Option Kind) (b : ℕ) (bs : List ℕ) (x : Class) → class_of b ≡ x → IsPiece bytes k → bytes ++ after ≡ b ∷ bs → Shape x bytes k
shape_at bytes after k b bs x class piece front =
    let shape = has_shape bytes k piece in
    let first : get_or bytes 0 0 ≡ b = sym (get_or_append_left bytes after 0 0 shape.0) ∙ ap (λ l. get_or l 0 0) front in
    subst (λ y. Shape y bytes k) (ap class_of first ∙ class) shape.1

-- `x` (120) is no decimal digit
pub no_x : (bytes digits : List ℕ) → AllPass (λ c. is_digit c 10) bytes → bytes ≡ 48 ∷ 120 ∷ digits → ⊥
no_x bytes digits passes is =
    let Passes : ℕ → Type 0 = λ c. is_digit c 10 ≡ true in
    let whole : AllPass (λ c. is_digit c 10) (48 ∷ 120 ∷ digits) = subst (AllPass (λ c. is_digit c 10)) is passes in
    let x_passes : is_digit 120 10 ≡ true = All-head Passes 120 digits (All-tail Passes 48 (120 ∷ digits) whole) in
    false≢true x_passes

-- a numeral has one value
same_number : (bytes : List ℕ) (n m : ℕ) → IsNumber bytes n → IsNumber bytes m → n ≡ m
same_number bytes n m (inl h) (inl g) = h.2 ∙ sym g.2
same_number bytes n m (inl h) (inr g) = absurd (no_x bytes g.0 h.1 g.1)
same_number bytes n m (inr h) (inl g) = absurd (no_x bytes h.0 g.1 h.1)
same_number bytes n m (inr h) (inr g) = let same : h.0 ≡ g.0 = cc in h.2.2 ∙ ap (number_of 16) same ∙ sym g.2.2

-- the bytes of a piece determine its kind
same_kind : (x : Class) (bytes : List ℕ) (k j : Option Kind) → Shape x bytes k → Shape x bytes j → k ≡ j
same_kind Blank bytes k j h g = h.1 ∙ sym g.1
same_kind Quote bytes k j h g = h.1 ∙ sym g.1
same_kind Slash bytes k j h g = h.1 ∙ sym g.1
same_kind Digit bytes k j h g = h.2 ∙ ap (λ n. Some (kinds.Number n)) (same_number bytes h.0 g.0 h.1 g.1) ∙ sym g.2
same_kind Letter bytes k j h g = h.1 ∙ sym g.1
same_kind Mark bytes k j h g =
    let same : Some h.0 ≡ Some g.0 = sym (sign_in-text h.0) ∙ ap sign_in (sym h.1 ∙ g.1) ∙ sign_in-text g.0 in
    h.2 ∙ ap (option_map (λ s. kinds.Sign s)) same ∙ sym g.2

pub kind_of_bytes : (bytes : List ℕ) (k j : Option Kind) → IsPiece bytes k → IsPiece bytes j → k ≡ j
kind_of_bytes bytes k j h g = same_kind (class_of (get_or bytes 0 0)) bytes k j (has_shape bytes k h).1 (has_shape bytes j g).1
