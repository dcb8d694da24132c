-- A token's bytes are ASCII.
use Rattle.std.proofs.Common.{◌≡◌, ℕ, ◌<◌, ◌≤◌, Bool, true, ltb, List, [], ◌∷◌, ◌++◌, inl, inr, refl, sym, subst, arith, ltb-true}
use Rattle.std.specs.Prelude.{All}
use Rattle.std.specs.List.{AllPass, list_all}
use Rattle.std.specs.Char.{is_digit}
use Rattle.std.proofs.lemmas.Bool.Decides.{nat_tests}
use Rattle.std.proofs.lemmas.List.Elements.{All-nil, All-cons, All-append, All-weaker}
use Rattle.std.proofs.lemmas.List.Sums.{AllPass-from_list_all}
use Rattle.lucid_lex.specs.declared.token.Kind.{Kind}
use Rattle.lucid_lex.specs.declared.token.Kind.TheVariants as kinds
use Rattle.lucid_lex.specs.declared.sign.Sign.{Sign}
use Rattle.lucid_lex.specs.declared.sign.Sign.TheVariants as signs
use Rattle.lucid_lex.specs.Byte.{is_name_byte, is_quotable}
use Rattle.lucid_lex.specs.Word.{word_text}
use Rattle.lucid_lex.specs.Sign.{sign_text}
use Rattle.lucid_lex.specs.Piece.{IsNumber, IsQuoted, IsToken}
use Rattle.lucid_lex.proofs.Classes.{name_byte-from_start}
use Rattle.lucid_lex.proofs.Spellings.{word_bytes}

abbrev IsAsciiByte : ℕ → Type 0
IsAsciiByte b = b < 128

name_ascii : (b : ℕ) → is_name_byte b ≡ true → IsAsciiByte b
name_ascii b h = grind (arith, nat_tests)

digit_ascii : (base b : ℕ) → base ≤ 16 → is_digit b base ≡ true → IsAsciiByte b
digit_ascii base b small h = grind (arith, nat_tests)

quotable_ascii : (b : ℕ) → is_quotable b ≡ true → IsAsciiByte b
quotable_ascii b h = grind (arith, nat_tests)

from_test : (p : ℕ → Bool) (bytes : List ℕ) → ((b : ℕ) → p b ≡ true → IsAsciiByte b) → AllPass p bytes → All IsAsciiByte bytes
from_test p bytes each passes = All-weaker (λ b. p b ≡ true) IsAsciiByte each bytes passes

number_ascii : (bytes : List ℕ) (n : ℕ) → IsNumber bytes n → All IsAsciiByte bytes
number_ascii bytes n (inl h) = from_test (λ c. is_digit c 10) bytes (λ b. digit_ascii 10 b (omega arith)) h.1
number_ascii bytes n (inr h) = subst (All IsAsciiByte) (sym h.1) (All-cons IsAsciiByte 48 (120 ∷ h.0) (omega arith) (All-cons IsAsciiByte 120 h.0 (omega arith) (from_test (λ c. is_digit c 16) h.0 (λ b. digit_ascii 16 b (omega arith)) h.2.1)))

pub quoted_ascii : (bytes body : List ℕ) → IsQuoted bytes body → All IsAsciiByte body
quoted_ascii bytes body h = from_test is_quotable body quotable_ascii h.1

text_ascii : (bytes body : List ℕ) → IsQuoted bytes body → All IsAsciiByte bytes
text_ascii bytes body h = subst (All IsAsciiByte) (sym h.0) (All-cons IsAsciiByte 34 (body ++ 34 ∷ []) (omega arith) (All-append IsAsciiByte body (34 ∷ []) (quoted_ascii bytes body h) (All-cons IsAsciiByte 34 [] (omega arith) (All-nil IsAsciiByte))))

sign_bytes : (s : Sign) → list_all (λ b. ltb b 128) (sign_text s) ≡ true
sign_bytes signs.SatAdd = refl
sign_bytes x = refl

pub token_ascii : (bytes : List ℕ) (k : Kind) → IsToken bytes k → All (λ b. b < 128) bytes
token_ascii bytes kinds.Name h = subst (All IsAsciiByte) (sym h.2) (All-cons IsAsciiByte h.0 h.1 (name_ascii h.0 (name_byte-from_start h.0 h.3)) (from_test is_name_byte h.1 name_ascii h.4))
token_ascii bytes (kinds.Number n) h = number_ascii bytes n h
token_ascii bytes kinds.Text h = text_ascii bytes h.0 h.1
token_ascii bytes (kinds.Word w) h = subst (All IsAsciiByte) (sym h) (from_test is_name_byte (word_text w) name_ascii (AllPass-from_list_all is_name_byte (word_text w) (word_bytes w)))
token_ascii bytes (kinds.Sign s) h = subst (All IsAsciiByte) (sym h) (from_test (λ b. ltb b 128) (sign_text s) (λ b. ltb-true b 128) (AllPass-from_list_all (λ b. ltb b 128) (sign_text s) (sign_bytes s)))
