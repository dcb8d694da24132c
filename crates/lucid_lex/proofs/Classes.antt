-- The meaning of the first byte of a piece.
use Rattle.std.proofs.Common.{◌≡◌, ℕ, Bool, true, false, cond, eqb, refl, subst, arith}
use Rattle.std.specs.Char.{is_ascii_digit, is_digit}
use Rattle.std.proofs.lemmas.Bool.{eqb-true}
use Rattle.std.proofs.lemmas.Bool.Decides.{nat_tests}
use Rattle.lucid_lex.specs.declared.byte.Class.{Class}
use Rattle.lucid_lex.specs.declared.byte.Class.TheVariants.{Blank, Quote, Slash, Digit, Letter, Mark}
use Rattle.lucid_lex.specs.Byte.{is_blank, is_name_start, is_name_byte, class_of}

-- the test that a class passed: of a blank, of the quote (34), of the slash (47), of a digit and of a name's start
abbrev Passed : Class → Bool → Bool → Bool → Bool → Bool → Type 0
Passed Blank blank quote slash digit start = blank ≡ true
Passed Quote blank quote slash digit start = quote ≡ true
Passed Slash blank quote slash digit start = slash ≡ true
Passed Digit blank quote slash digit start = digit ≡ true
Passed Letter blank quote slash digit start = start ≡ true
Passed Mark blank quote slash digit start = Unit {0}

passed : (blank quote slash digit start : Bool) → Passed (cond blank Blank (cond quote Quote (cond slash Slash (cond digit Digit (cond start Letter Mark))))) blank quote slash digit start
passed true quote slash digit start = refl
passed false true slash digit start = refl
passed false false true digit start = refl
passed false false false true start = refl
passed false false false false true = refl
passed false false false false false = tt

tells : (b : ℕ) (x : Class) → class_of b ≡ x → Passed x (is_blank b) (eqb b 34) (eqb b 47) (is_ascii_digit b) (is_name_start b)
tells b x class = subst (λ y. Passed y (is_blank b) (eqb b 34) (eqb b 47) (is_ascii_digit b) (is_name_start b)) class (passed (is_blank b) (eqb b 34) (eqb b 47) (is_ascii_digit b) (is_name_start b))

-- from the class to the byte
pub blank_of : (b : ℕ) → class_of b ≡ Blank → is_blank b ≡ true
blank_of b class = tells b Blank class

pub quote_of : (b : ℕ) → class_of b ≡ Quote → b ≡ 34
quote_of b class = eqb-true b 34 (tells b Quote class)

pub slash_of : (b : ℕ) → class_of b ≡ Slash → b ≡ 47
slash_of b class = eqb-true b 47 (tells b Slash class)

pub digit_of : (b : ℕ) → class_of b ≡ Digit → is_digit b 10 ≡ true
digit_of b class = let test : is_ascii_digit b ≡ true = tells b Digit class in grind (arith, nat_tests)

pub letter_of : (b : ℕ) → class_of b ≡ Letter → is_name_start b ≡ true
letter_of b class = tells b Letter class

-- from the byte to the class
pub class_of-blank : (b : ℕ) → is_blank b ≡ true → class_of b ≡ Blank
class_of-blank b h = rw h refl

pub class_of-digit : (b : ℕ) → is_digit b 10 ≡ true → class_of b ≡ Digit
class_of-digit b h =
    let digit : is_ascii_digit b ≡ true = grind (arith, nat_tests) in
    let no_blank : is_blank b ≡ false = grind (arith, nat_tests) in
    let no_quote : eqb b 34 ≡ false = grind (arith, nat_tests) in
    let no_slash : eqb b 47 ≡ false = grind (arith, nat_tests) in
    rw (no_blank, no_quote, no_slash, digit) refl

pub class_of-letter : (b : ℕ) → is_name_start b ≡ true → class_of b ≡ Letter
class_of-letter b h =
    let no_blank : is_blank b ≡ false = grind (arith, nat_tests) in
    let no_quote : eqb b 34 ≡ false = grind (arith, nat_tests) in
    let no_slash : eqb b 47 ≡ false = grind (arith, nat_tests) in
    let no_digit : is_ascii_digit b ≡ false = grind (arith, nat_tests) in
    rw (no_blank, no_quote, no_slash, no_digit, h) refl

-- a name may continue with any byte that it may begin with
pub name_byte-from_start : (b : ℕ) → is_name_start b ≡ true → is_name_byte b ≡ true
name_byte-from_start b h = grind (arith, nat_tests)
