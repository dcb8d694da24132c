-- A word is the number whose decimal text it is, whatever way it was parsed.
use Rattle.std.proofs.Common.{◌≡◌, ℕ, ◌+◌, ◌<◌, ◌^◌, ◌&&◌, Bool, true, false, List, [], ◌∷◌, ◌++◌, length, get_or, drop, drop-cons, add-one, append_assoc, map, option_map, string_bytes, String, Global, Option, Some, None, Result, Ok, Err, refl, sym, ◌∙◌, ap, subst, if◌then◌else◌}
use Rattle.std.specs.Str.{bytes_eq}
use Rattle.std.specs.Str.Parse.{ParsesUnsigned, digits_value}
use Rattle.std.specs.Fmt.{decimal}
use Rattle.std.specs.Prelude.{nat_lt, option_and_then}
use Rattle.std.proofs.lemmas.Fmt.{parse-decimal, decimal_is_IsNumeral}
use Rattle.std.proofs.lemmas.Bool.{ltb-true, lt-ltb}
use Rattle.std.proofs.lemmas.Slice.Eq.{bytes_eq-Decides}
use Rattle.lucid_top_words.specs.Words.{number_of, numbers_of}

-- which way a choice went
chosen : (a b : Bool) (m n : ℕ) → ◌≡◌ {A = Option ℕ} (if a && b then Some m else None) (Some n) → (a ≡ true) × (b ≡ true) × (m ≡ n)
chosen true true m n h = (refl, refl, cc)
chosen true false m n h = absurd (cc)
chosen false b m n h = absurd (cc)

-- what a number's word is
number_text : (word : List ℕ) (n : ℕ) → number_of word ≡ Some n → (n < 2 ^ 64) × (word ≡ decimal n)
number_text word n h =
    let way = chosen (nat_lt (digits_value 10 word) (2 ^ 64)) (bytes_eq word (decimal (digits_value 10 word))) (digits_value 10 word) n h in
    let value : digits_value 10 word ≡ n = way.2 in
    let below : digits_value 10 word < 2 ^ 64 = ltb-true (digits_value 10 word) (2 ^ 64) way.0 in
    let text : word ≡ decimal (digits_value 10 word) = (bytes_eq-Decides word (decimal (digits_value 10 word))).0 way.1 in
    (subst (λ m. m < 2 ^ 64) value below, text ∙ ap decimal value)

-- and back
text_number : (word : List ℕ) (n : ℕ) → n < 2 ^ 64 → word ≡ decimal n → number_of word ≡ Some n
text_number word n below text =
    let value : digits_value 10 word ≡ n = ap (digits_value 10) text ∙ (decimal_is_IsNumeral n below).1 in
    let small : nat_lt n (2 ^ 64) ≡ true = lt-ltb n (2 ^ 64) below in
    let same : bytes_eq word (decimal n) ≡ true = (bytes_eq-Decides word (decimal n)).1 text in
    rw (value, small, same) refl

-- what a parsed number gives, tried against its own text
abbrev pub kept : {E : Type 0} → List ℕ → Result ℕ E → Option ℕ
kept word (Ok n) = if bytes_eq (decimal n) word then Some n else None
kept word (Err e) = None

-- a number that was parsed is below 2^64
parsed_below : (E : Type 0) (word : List ℕ) (n : ℕ) → ParsesUnsigned {E = E} 64 10 word (Ok n) → n < 2 ^ 64
parsed_below E word n parsed = subst (λ m. m < 2 ^ 64) (sym parsed.1) parsed.0.1

-- a word that is no number is not kept
not_kept : {E : Type 0} (word : List ℕ) (r : Result ℕ E) → ParsesUnsigned 64 10 word r → number_of word ≡ None → kept word r ≡ None
not_kept word (Err e) parsed h = refl
not_kept {E = E} word (Ok n) parsed h = at (bytes_eq (decimal n) word) refl
  where
    at : (b : Bool) → bytes_eq (decimal n) word ≡ b → ◌≡◌ {A = Option ℕ} (if b then Some n else None) None
    at false e = refl
    at true e =
        let is : number_of word ≡ Some n = text_number word n (parsed_below E word n parsed) (sym ((bytes_eq-Decides (decimal n) word).0 e)) in
        absurd (cc)

-- the word of a number is kept
is_kept : {E : Type 0} (word : List ℕ) (r : Result ℕ E) (n : ℕ) → ParsesUnsigned 64 10 word r → number_of word ≡ Some n → kept word r ≡ Some n
is_kept word r n parsed h =
    let text = number_text word n h in
    let is : r ≡ Ok n = parse-decimal 64 n word r text.0 text.0 text.1 parsed in
    let same : bytes_eq (decimal n) word ≡ true = (bytes_eq-Decides (decimal n) word).1 (sym text.1) in
    rw (is, same) refl

-- a number that was parsed is kept exactly where it is the word's
pub number_by : {E : Type 0} (word : List ℕ) (r : Result ℕ E) → ParsesUnsigned 64 10 word r → kept word r ≡ number_of word
number_by {E = E} word r parsed = at (number_of word) refl
  where
    at : (o : Option ℕ) → number_of word ≡ o → kept word r ≡ o
    at None h = not_kept {E = E} word r parsed h
    at (Some n) h = is_kept {E = E} word r n parsed h

-- the three ways of the code
pub number_kept : {E : Type 0} (word : List ℕ) (r : Result ℕ E) (n : ℕ) → ParsesUnsigned 64 10 word r → r ≡ Ok n → bytes_eq (decimal n) word ≡ true → Some n ≡ number_of word
number_kept {E = E} word r n parsed is same = sym (rw (is, same) refl) ∙ number_by {E = E} word r parsed

pub number_dropped : {E : Type 0} (word : List ℕ) (r : Result ℕ E) (n : ℕ) → ParsesUnsigned 64 10 word r → r ≡ Ok n → bytes_eq (decimal n) word ≡ false → None ≡ number_of word
number_dropped {E = E} word r n parsed is same = sym (rw (is, same) refl) ∙ number_by {E = E} word r parsed

pub number_unread : {E : Type 0} (word : List ℕ) (r : Result ℕ E) (e : E) → ParsesUnsigned 64 10 word r → r ≡ Err e → None ≡ number_of word
number_unread {E = E} word r e parsed is = sym (rw is refl) ∙ number_by {E = E} word r parsed

-- one number more
joined : (before : List ℕ) (n : ℕ) (rest : Option (List ℕ)) →
    option_map (λ ns. before ++ ns) (option_map (λ ns. n ∷ ns) rest) ≡ option_map (λ ns. (before ++ n ∷ []) ++ ns) rest
joined before n None = refl
joined before n (Some ns) = ap (λ (l : List ℕ). Some l) (sym (append_assoc before (n ∷ []) ns))

pub numbers-next : (before : List ℕ) (words : List (String Global)) (i : ℕ) (word : String Global) (n : ℕ) →
    i < length words → word ≡ get_or words i word → number_of (string_bytes word) ≡ Some n →
    option_map (λ ns. (before ++ n ∷ []) ++ ns) (numbers_of (map string_bytes (drop (i + 1) words))) ≡ option_map (λ ns. before ++ ns) (numbers_of (map string_bytes (drop i words)))
numbers-next before words i word n lt is number =
    let step : drop i words ≡ get_or words i word ∷ drop (i + 1) words = rw add-one (drop-cons words i word lt) in
    let next : drop i words ≡ word ∷ drop (i + 1) words = step ∙ ap (λ (w : String Global). w ∷ drop (i + 1) words) (sym is) in
    let rest = numbers_of (map string_bytes (drop (i + 1) words)) in
    sym (ap (λ (ws : List (String Global)). option_map (λ ns. before ++ ns) (numbers_of (map string_bytes ws))) next
    ∙ ap (λ (o : Option ℕ). option_map (λ ns. before ++ ns) (option_and_then (λ m. option_map (λ ns. m ∷ ns) rest) o)) number
    ∙ joined before n rest)
