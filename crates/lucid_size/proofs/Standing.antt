-- New text is valid where it is written.
use Rattle.std.proofs.Common.{◌≡◌, ℕ, zero, suc, ◌+◌, ◌*◌, ◌^◌, ◌<◌, Bool, true, false, ◌||◌, List, [], ◌∷◌, ◌++◌, length, Option, Some, None, refl, sym, ◌∙◌, ap, subst, inl, inr, ⊎_elim, arith}
use Rattle.std.specs.Prelude.{codes, ◌==◌, not, decimal}
use Rattle.std.specs.List.{AllPass, list_all, repeat, fold}
use Rattle.std.specs.Char.{is_digit, digit_value}
use Rattle.std.specs.Str.Parse.{AllDigits, digits_value_after}
use Rattle.std.proofs.str.Laws.{order}
use Rattle.std.proofs.lemmas.Bool.{false≢true, lt-ltb}
use Rattle.std.proofs.lemmas.Bool.Decides.{nat_tests}
use Rattle.std.proofs.lemmas.Fmt.{decimal_is_IsNumeral}
use Rattle.std.proofs.lemmas.List.Elements.{All-nil, All-cons, All-head, All-tail, All-append}
use Rattle.std.proofs.lemmas.List.Sums.{AllPass-from_list_all}
use Rattle.lucid_lex.specs.declared.token.Kind.{Kind}
use Rattle.lucid_lex.specs.declared.token.Kind.TheVariants as kinds
use Rattle.lucid_lex.specs.declared.word.Word.{Word}
use Rattle.lucid_lex.specs.declared.word.Word.TheVariants as words
use Rattle.lucid_lex.specs.declared.sign.Sign.{Sign}
use Rattle.lucid_lex.specs.declared.sign.Sign.TheVariants as signs
use Rattle.lucid_lex.specs.Byte.{is_name_byte}
use Rattle.lucid_lex.specs.Word.{word_text}
use Rattle.lucid_lex.specs.Sign.{sign_text}
use Rattle.lucid_lex.specs.Piece.{IsName, IsNumeral, IsNumber, IsPiece, Fits, Stands}
use Rattle.lucid_lex.proofs.Classes.{class_of-digit, class_of-letter}
use Rattle.lucid_lex.proofs.Shapes.{shape_at}
use Rattle.lucid_size.specs.Suffix.{suffix}
use Rattle.lucid_size.proofs.Seams.{Grows, is_pair, grows, longer_front, long_sign, IsLong, AllPass-right}

-- a piece that no byte and no pair makes longer is valid
abbrev pub NoOne : List ℕ → List ℕ → Type 0
NoOne bytes rest = (b : ℕ) (more : List ℕ) (j : Option Kind) → rest ≡ b ∷ more → IsPiece (bytes ++ b ∷ []) j → ⊥

abbrev pub NoTwo : List ℕ → List ℕ → Type 0
NoTwo bytes rest = (b c : ℕ) (more : List ℕ) (j : Option Kind) → rest ≡ b ∷ c ∷ more → is_pair b c ≡ true → IsPiece (bytes ++ b ∷ c ∷ []) j → ⊥

not_grown : (bytes rest : List ℕ) (b : ℕ) (more after : List ℕ) → rest ≡ b ∷ (more ++ after) → NoOne bytes rest → NoTwo bytes rest → Grows bytes (b ∷ more) → ⊥
not_grown bytes rest b more after is no_one no_two (inl g) = no_one g.b (g.rest ++ after) g.kind (is ∙ ap (λ l. l ++ after) g.front) g.is_piece
not_grown bytes rest b more after is no_one no_two (inr g) = no_two g.b g.c (g.rest ++ after) g.kind (is ∙ ap (λ l. l ++ after) g.front) g.pair g.is_piece

pub stands_by : (bytes : List ℕ) (k : Option Kind) (rest : List ℕ) → IsPiece bytes k → Fits k → NoOne bytes rest → NoTwo bytes rest → Stands (record { bytes = bytes; kind = k }) rest
stands_by bytes k rest piece fits no_one no_two = record {
  is_piece = piece;
  longest = λ q after is_piece front. ⊎_elim
      (λ longer.
      let more = longer_front bytes q.bytes rest after front longer in
      absurd (not_grown bytes rest more.0 more.1 after more.3 no_one no_two (grows bytes k more.0 more.1 q.kind piece (subst (λ l. IsPiece l q.kind) more.2 is_piece))))
      (λ within. within)
      (order (length bytes) (length q.bytes));
  fits = fits;
}

-- ---- names

-- no letter, digit or underscore is next
abbrev pub NoName : List ℕ → Type 0
NoName [] = Unit {0}
NoName (b ∷ r) = is_name_byte b ≡ false

all_name : (bytes s : List ℕ) (j : Option Kind) → IsName bytes → IsPiece (bytes ++ s) j → AllPass is_name_byte s
all_name bytes s j h piece =
    let whole : bytes ++ s ≡ h.0 ∷ (h.1 ++ s) = ap (λ l. l ++ s) h.2 in
    let shape = shape_at (bytes ++ s) [] j h.0 ((h.1 ++ s) ++ []) _ (class_of-letter h.0 h.3) piece (ap (λ l. l ++ []) whole) in
    AllPass-right is_name_byte bytes s shape.0

no_name_next : (b : ℕ) (rest more s : List ℕ) → NoName rest → rest ≡ b ∷ more → AllPass is_name_byte (b ∷ s) → ⊥
no_name_next b rest more s none is all =
    let fails : is_name_byte b ≡ false = subst NoName is none in
    false≢true (sym fails ∙ All-head (λ y. is_name_byte y ≡ true) b s all)

pub name_stands : (bytes rest : List ℕ) → IsName bytes → NoName rest → Stands (record { bytes = bytes; kind = Some kinds.Name }) rest
name_stands bytes rest name none = stands_by bytes (Some kinds.Name) rest name tt
    (λ b more j is piece. no_name_next b rest more [] none is (all_name bytes (b ∷ []) j name piece))
    (λ b c more j is pair piece. no_name_next b rest (c ∷ more) (c ∷ []) none is (all_name bytes (b ∷ c ∷ []) j name piece))

-- ---- signs

opens_len : (b : ℕ) (c : ℕ) (s : List ℕ) (bytes : List ℕ) → IsLong bytes → (b ≡ 124 → ⊥) → b ∷ c ∷ s ≡ bytes → 0 < length s → ⊥
opens_len b c s bytes (inl short) apart is some = omega (arith, ap length is, short, some)
opens_len b c s bytes (inr (inl long)) apart is some = apart (let whole : b ∷ c ∷ s ≡ 124 ∷ 43 ∷ 124 ∷ [] = is ∙ long in cc)
opens_len b c s bytes (inr (inr long)) apart is some = apart (let whole : b ∷ c ∷ s ≡ 124 ∷ 45 ∷ 124 ∷ [] = is ∙ long in cc)

pub shift_left_stands : (rest : List ℕ) → Stands (record { bytes = codes "<<"; kind = Some (kinds.Sign signs.ShiftLeft) }) rest
shift_left_stands rest = stands_by (codes "<<") (Some (kinds.Sign signs.ShiftLeft)) rest refl tt
    (λ b more j is piece. let shape = shape_at (60 ∷ 60 ∷ b ∷ []) [] j 60 (60 ∷ b ∷ []) _ refl piece refl in opens_len 60 60 (b ∷ []) (sign_text shape.0) (long_sign shape.0) (λ e. omega (arith, e)) shape.1 (omega arith))
    (λ b c more j is pair piece. let shape = shape_at (60 ∷ 60 ∷ b ∷ c ∷ []) [] j 60 (60 ∷ b ∷ c ∷ []) _ refl piece refl in opens_len 60 60 (b ∷ c ∷ []) (sign_text shape.0) (long_sign shape.0) (λ e. omega (arith, e)) shape.1 (omega arith))

pub shift_right_stands : (rest : List ℕ) → Stands (record { bytes = codes ">>"; kind = Some (kinds.Sign signs.ShiftRight) }) rest
shift_right_stands rest = stands_by (codes ">>") (Some (kinds.Sign signs.ShiftRight)) rest refl tt
    (λ b more j is piece. let shape = shape_at (62 ∷ 62 ∷ b ∷ []) [] j 62 (62 ∷ b ∷ []) _ refl piece refl in opens_len 62 62 (b ∷ []) (sign_text shape.0) (long_sign shape.0) (λ e. omega (arith, e)) shape.1 (omega arith))
    (λ b c more j is pair piece. let shape = shape_at (62 ∷ 62 ∷ b ∷ c ∷ []) [] j 62 (62 ∷ b ∷ c ∷ []) _ refl piece refl in opens_len 62 62 (b ∷ c ∷ []) (sign_text shape.0) (long_sign shape.0) (λ e. omega (arith, e)) shape.1 (omega arith))

-- `(` and more
abbrev goes_on : List ℕ → Bool
goes_on [] = false
goes_on (a ∷ []) = false
goes_on (a ∷ b ∷ s) = a == 40

alone : (u : Sign) → goes_on (sign_text u) ≡ false
alone signs.SatAdd = refl
alone u = refl

no_paren : (u : Sign) (b : ℕ) (s : List ℕ) → 40 ∷ b ∷ s ≡ sign_text u → ⊥
no_paren u b s h = false≢true (sym (alone u) ∙ ap goes_on (sym h))

pub paren_stands : (rest : List ℕ) → Stands (record { bytes = codes "("; kind = Some (kinds.Sign signs.OpenParen) }) rest
paren_stands rest = stands_by (codes "(") (Some (kinds.Sign signs.OpenParen)) rest refl tt
    (λ b more j is piece. let shape = shape_at (40 ∷ b ∷ []) [] j 40 (b ∷ []) _ refl piece refl in no_paren shape.0 b [] shape.1)
    (λ b c more j is pair piece. let shape = shape_at (40 ∷ b ∷ c ∷ []) [] j 40 (b ∷ c ∷ []) _ refl piece refl in no_paren shape.0 b (c ∷ []) shape.1)

-- ---- `fun`, a blank and a line feed

pub blank_stands : (rest : List ℕ) → Stands (record { bytes = codes " "; kind = None }) rest
blank_stands rest = stands_by (codes " ") None rest (inl (32, refl, refl)) tt
    (λ b more j is piece. let shape = shape_at (32 ∷ b ∷ []) [] j 32 (b ∷ []) _ refl piece refl in omega (arith, shape.0))
    (λ b c more j is pair piece. let shape = shape_at (32 ∷ b ∷ c ∷ []) [] j 32 (b ∷ c ∷ []) _ refl piece refl in omega (arith, shape.0))

pub feed_stands : (rest : List ℕ) → Stands (record { bytes = codes "\n"; kind = None }) rest
feed_stands rest = stands_by (codes "\n") None rest (inl (10, refl, refl)) tt
    (λ b more j is piece. let shape = shape_at (10 ∷ b ∷ []) [] j 10 (b ∷ []) _ refl piece refl in omega (arith, shape.0))
    (λ b c more j is pair piece. let shape = shape_at (10 ∷ b ∷ c ∷ []) [] j 10 (b ∷ c ∷ []) _ refl piece refl in omega (arith, shape.0))

pub fun_stands : (rest : List ℕ) → Stands (record { bytes = codes "fun"; kind = Some (kinds.Word words.Fun) }) (32 ∷ rest)
fun_stands rest = stands_by (codes "fun") (Some (kinds.Word words.Fun)) (32 ∷ rest) refl tt
    (λ b more j is piece.
    let shape = shape_at (102 ∷ 117 ∷ 110 ∷ b ∷ []) [] j 102 (117 ∷ 110 ∷ b ∷ []) _ refl piece refl in
    no_name_next b (32 ∷ rest) more [] refl is (AllPass-right is_name_byte (codes "fun") (b ∷ []) shape.0))
    (λ b c more j is pair piece.
    let shape = shape_at (102 ∷ 117 ∷ 110 ∷ b ∷ c ∷ []) [] j 102 (117 ∷ 110 ∷ b ∷ c ∷ []) _ refl piece refl in
    no_name_next b (32 ∷ rest) (c ∷ more) (c ∷ []) refl is (AllPass-right is_name_byte (codes "fun") (b ∷ c ∷ []) shape.0))

-- ---- decimal numbers

folds : (n : ℕ) (ds : List ℕ) → digits_value_after 10 n ds ≡ fold (λ m c. m * 10 + digit_value c) n ds
folds n [] = refl
folds n (c ∷ cs) = folds (n * 10 + digit_value c) cs

all_digits : (ds : List ℕ) → AllDigits 10 ds → AllPass (λ c. is_digit c 10) ds
all_digits [] all = All-nil (λ c. is_digit c 10 ≡ true)
all_digits (c ∷ cs) all = All-cons (λ c. is_digit c 10 ≡ true) c cs (lt-ltb (digit_value c) 10 all.0) (all_digits cs all.1)

pub decimal_is : (n : ℕ) → n < 2 ^ 64 → IsNumeral 10 (decimal n) n
decimal_is n small =
    let is = decimal_is_IsNumeral n small in
    (is.0.0, all_digits (decimal n) is.0.1, sym is.1 ∙ folds 0 (decimal n))

-- the bytes of a number: hexadecimal digits or `x`
abbrev in_number : ℕ → Bool
in_number b = is_digit b 16 || b == 120

weaker : (p q : ℕ → Bool) (xs : List ℕ) → ((b : ℕ) → p b ≡ true → q b ≡ true) → AllPass p xs → AllPass q xs
weaker p q [] each all = All-nil (λ b. q b ≡ true)
weaker p q (x ∷ xs) each all = All-cons (λ b. q b ≡ true) x xs (each x (All-head (λ b. p b ≡ true) x xs all)) (weaker p q xs each (All-tail (λ b. p b ≡ true) x xs all))

number_bytes : (bytes : List ℕ) (n : ℕ) → IsNumber bytes n → AllPass in_number bytes
number_bytes bytes n (inl h) = weaker (λ c. is_digit c 10) in_number bytes (λ b h. grind (arith, nat_tests)) h.1
number_bytes bytes n (inr h) = subst (AllPass in_number) (sym h.1) (All-cons (λ b. in_number b ≡ true) 48 (120 ∷ h.0) refl (All-cons (λ b. in_number b ≡ true) 120 h.0 refl (weaker (λ c. is_digit c 16) in_number h.0 (λ b h. grind (arith, nat_tests)) h.2.1)))

-- a piece that begins with a decimal digit is a number
numeral_shape : (ds s : List ℕ) (j : Option Kind) (n : ℕ) → IsNumeral 10 ds n → IsPiece (ds ++ s) j → AllPass in_number (ds ++ s)
numeral_shape [] s j n is piece = absurd (omega (arith, is.0))
numeral_shape (d ∷ ds) s j n is piece =
    let shape = shape_at (d ∷ (ds ++ s)) [] j d ((ds ++ s) ++ []) _ (class_of-digit d (All-head (λ c. is_digit c 10 ≡ true) d ds is.1)) piece refl in
    number_bytes (d ∷ (ds ++ s)) shape.0 shape.1

pub decimal_stands : (n : ℕ) (rest : List ℕ) → n < 2 ^ 64 → Stands (record { bytes = decimal n; kind = Some (kinds.Number n) }) (62 ∷ rest)
decimal_stands n rest small =
    let is_number = decimal_is n small in
    stands_by (decimal n) (Some (kinds.Number n)) (62 ∷ rest) (inl is_number) small
    (λ b more j is piece.
    let all = AllPass-right in_number (decimal n) (b ∷ []) (numeral_shape (decimal n) (b ∷ []) j n is_number piece) in
    let first : 62 ≡ b = cc in
    false≢true (ap in_number first ∙ All-head (λ y. in_number y ≡ true) b [] all))
    (λ b c more j is pair piece.
    let all = AllPass-right in_number (decimal n) (b ∷ c ∷ []) (numeral_shape (decimal n) (b ∷ c ∷ []) j n is_number piece) in
    let first : 62 ≡ b = cc in
    false≢true (ap in_number first ∙ All-head (λ y. in_number y ≡ true) b (c ∷ []) all))

-- ---- names of instances

no_score : (w : Word) → list_all (λ b. not (b == 95)) (word_text w) ≡ true
no_score words.Const = refl
no_score x = refl

digit_is_name : (b : ℕ) → is_digit b 10 ≡ true → is_name_byte b ≡ true
digit_is_name b h = grind (arith, nat_tests)

scores : (m : ℕ) → AllPass is_name_byte (repeat m (95 ∷ []))
scores zero = All-nil (λ b. is_name_byte b ≡ true)
scores (suc m) = All-cons (λ b. is_name_byte b ≡ true) 95 (repeat m (95 ∷ [])) refl (scores m)

suffix_bytes : (m n : ℕ) → n < 2 ^ 64 → AllPass is_name_byte (suffix m n)
suffix_bytes m n small = All-append (λ b. is_name_byte b ≡ true) (repeat m (95 ∷ [])) (decimal n) (scores m) (weaker (λ c. is_digit c 10) is_name_byte (decimal n) digit_is_name (decimal_is n small).1)

pub instance_is_name : (bytes : List ℕ) (m n : ℕ) → IsName bytes → n < 2 ^ 64 → IsName (bytes ++ suffix (suc m) n)
instance_is_name bytes m n h small = (
  h.0,
  h.1 ++ suffix (suc m) n,
  ap (λ l. l ++ suffix (suc m) n) h.2,
  h.3,
  All-append (λ b. is_name_byte b ≡ true) h.1 (suffix (suc m) n) h.4 (suffix_bytes (suc m) n small),
  λ w is.
      let all : AllPass (λ b. not (b == 95)) (bytes ++ suffix (suc m) n) = subst (AllPass (λ b. not (b == 95))) (sym is) (AllPass-from_list_all (λ b. not (b == 95)) (word_text w) (no_score w)) in
      let here = AllPass-right (λ b. not (b == 95)) bytes (suffix (suc m) n) all in
      false≢true (All-head (λ b. not (b == 95) ≡ true) 95 (repeat m (95 ∷ []) ++ decimal n) here),
)
