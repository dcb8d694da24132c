-- A text with a template, which is used at one width, and its expansion.
use Rattle.std.proofs.Common.{◌≡◌, ℕ, zero, suc, [], ◌∷◌, List, Some, None, Ok, ap, codes, refl, subst, arith}
use Rattle.std.specs.Fmt.{digits}
use Rattle.std.specs.List.{Contains}
use Rattle.std.specs.List.Sorted.{IsStrictlyIncreasing}
use Rattle.std.specs.Prelude.{slice_get}
use Rattle.lucid_lex.proofs.Fronts.{cut}
use Rattle.lucid_lex.specs.declared.sign.Sign.TheVariants as sign
use Rattle.lucid_lex.specs.declared.token.Kind.TheVariants as kind
use Rattle.lucid_lex.specs.declared.token.Token.{Token}
use Rattle.lucid_lex.specs.declared.word.Word.TheVariants as word
use Rattle.lucid_lex.specs.Front.{after_prefix, front_of, gap, name_front, number_front, sign_front, token}
use Rattle.lucid_lex.specs.Reading.{Reads, joined}
use Rattle.lucid_lex.specs.Sign.{sign_at}
use Rattle.lucid_lex.specs.Word.{word_in}
use Rattle.lucid_size.specs.Examples.{at_widths}
use Rattle.lucid_size.specs.Expansion.{IsExpansion, UsedIn, written}
use Rattle.lucid_size.specs.Parts.{names_of, steps_in}
use Rattle.lucid_size.specs.Used.{uses}
use Rattle.lucid_size.specs.Used.Used.{Outside, Within}
use Rattle.lucid_top_program.specs.Program.{IsSource}
use Rattle.lucid_top_words.specs.Words.{Bytes}
use Rattle.lucid_top_laws.proofs.Declares.{gap_stands, token_stands}

abbrev pub text : Bytes
text = codes "fun <<w>> f(){}f<<8>>()"

abbrev tokens : List Token
tokens =
    record { kind = kind.Word word.Fun; span = record { start = 0; end = 3 } }
    ∷ record { kind = kind.Sign sign.ShiftLeft; span = record { start = 4; end = 6 } }
    ∷ record { kind = kind.Name; span = record { start = 6; end = 7 } }
    ∷ record { kind = kind.Sign sign.ShiftRight; span = record { start = 7; end = 9 } }
    ∷ record { kind = kind.Name; span = record { start = 10; end = 11 } }
    ∷ record { kind = kind.Sign sign.OpenParen; span = record { start = 11; end = 12 } }
    ∷ record { kind = kind.Sign sign.CloseParen; span = record { start = 12; end = 13 } }
    ∷ record { kind = kind.Sign sign.OpenBrace; span = record { start = 13; end = 14 } }
    ∷ record { kind = kind.Sign sign.CloseBrace; span = record { start = 14; end = 15 } }
    ∷ record { kind = kind.Name; span = record { start = 15; end = 16 } }
    ∷ record { kind = kind.Sign sign.ShiftLeft; span = record { start = 16; end = 18 } }
    ∷ record { kind = kind.Number 8; span = record { start = 18; end = 19 } }
    ∷ record { kind = kind.Sign sign.ShiftRight; span = record { start = 19; end = 21 } }
    ∷ record { kind = kind.Sign sign.OpenParen; span = record { start = 21; end = 22 } }
    ∷ record { kind = kind.Sign sign.CloseParen; span = record { start = 22; end = 23 } }
    ∷ []

-- ---- the pieces of the text

at_0 : front_of (codes "fun <<w>> f(){}f<<8>>()") ≡ token 3 (kind.Word word.Fun)
unfolding front_of name_front word_in
at_0 = refl

at_3 : front_of (codes " <<w>> f(){}f<<8>>()") ≡ gap 1
unfolding front_of
at_3 = refl

at_4 : front_of (codes "<<w>> f(){}f<<8>>()") ≡ token 2 (kind.Sign sign.ShiftLeft)
unfolding front_of sign_front sign_at
at_4 = refl

at_6 : front_of (codes "w>> f(){}f<<8>>()") ≡ token 1 kind.Name
unfolding front_of name_front word_in
at_6 = refl

at_7 : front_of (codes ">> f(){}f<<8>>()") ≡ token 2 (kind.Sign sign.ShiftRight)
unfolding front_of sign_front sign_at
at_7 = refl

at_9 : front_of (codes " f(){}f<<8>>()") ≡ gap 1
unfolding front_of
at_9 = refl

at_10 : front_of (codes "f(){}f<<8>>()") ≡ token 1 kind.Name
unfolding front_of name_front word_in
at_10 = refl

at_11 : front_of (codes "(){}f<<8>>()") ≡ token 1 (kind.Sign sign.OpenParen)
unfolding front_of sign_front sign_at
at_11 = refl

at_12 : front_of (codes "){}f<<8>>()") ≡ token 1 (kind.Sign sign.CloseParen)
unfolding front_of sign_front sign_at
at_12 = refl

at_13 : front_of (codes "{}f<<8>>()") ≡ token 1 (kind.Sign sign.OpenBrace)
unfolding front_of sign_front sign_at
at_13 = refl

at_14 : front_of (codes "}f<<8>>()") ≡ token 1 (kind.Sign sign.CloseBrace)
unfolding front_of sign_front sign_at
at_14 = refl

at_15 : front_of (codes "f<<8>>()") ≡ token 1 kind.Name
unfolding front_of name_front word_in
at_15 = refl

at_16 : front_of (codes "<<8>>()") ≡ token 2 (kind.Sign sign.ShiftLeft)
unfolding front_of sign_front sign_at
at_16 = refl

at_18 : front_of (codes "8>>()") ≡ token 1 (kind.Number 8)
unfolding front_of number_front after_prefix
at_18 = refl

at_19 : front_of (codes ">>()") ≡ token 2 (kind.Sign sign.ShiftRight)
unfolding front_of sign_front sign_at
at_19 = refl

at_21 : front_of (codes "()") ≡ token 1 (kind.Sign sign.OpenParen)
unfolding front_of sign_front sign_at
at_21 = refl

at_22 : front_of (codes ")") ≡ token 1 (kind.Sign sign.CloseParen)
unfolding front_of sign_front sign_at
at_22 = refl

reads : Reads text tokens
reads = record {
  pieces = cut 3 (Some (kind.Word word.Fun)) (codes "fun <<w>> f(){}f<<8>>()")
      ∷ cut 1 None (codes " <<w>> f(){}f<<8>>()")
      ∷ cut 2 (Some (kind.Sign sign.ShiftLeft)) (codes "<<w>> f(){}f<<8>>()")
      ∷ cut 1 (Some kind.Name) (codes "w>> f(){}f<<8>>()")
      ∷ cut 2 (Some (kind.Sign sign.ShiftRight)) (codes ">> f(){}f<<8>>()")
      ∷ cut 1 None (codes " f(){}f<<8>>()")
      ∷ cut 1 (Some kind.Name) (codes "f(){}f<<8>>()")
      ∷ cut 1 (Some (kind.Sign sign.OpenParen)) (codes "(){}f<<8>>()")
      ∷ cut 1 (Some (kind.Sign sign.CloseParen)) (codes "){}f<<8>>()")
      ∷ cut 1 (Some (kind.Sign sign.OpenBrace)) (codes "{}f<<8>>()")
      ∷ cut 1 (Some (kind.Sign sign.CloseBrace)) (codes "}f<<8>>()")
      ∷ cut 1 (Some kind.Name) (codes "f<<8>>()")
      ∷ cut 2 (Some (kind.Sign sign.ShiftLeft)) (codes "<<8>>()")
      ∷ cut 1 (Some (kind.Number 8)) (codes "8>>()")
      ∷ cut 2 (Some (kind.Sign sign.ShiftRight)) (codes ">>()")
      ∷ cut 1 (Some (kind.Sign sign.OpenParen)) (codes "()")
      ∷ cut 1 (Some (kind.Sign sign.CloseParen)) (codes ")") ∷ [];
  whole = refl;
  each_stands = (token_stands 3 (kind.Word word.Fun) (codes "fun <<w>> f(){}f<<8>>()") at_0, (gap_stands 1 (codes " <<w>> f(){}f<<8>>()") at_3, (token_stands 2 (kind.Sign sign.ShiftLeft) (codes "<<w>> f(){}f<<8>>()") at_4, (token_stands 1 kind.Name (codes "w>> f(){}f<<8>>()") at_6, (token_stands 2 (kind.Sign sign.ShiftRight) (codes ">> f(){}f<<8>>()") at_7, (gap_stands 1 (codes " f(){}f<<8>>()") at_9, (token_stands 1 kind.Name (codes "f(){}f<<8>>()") at_10, (token_stands 1 (kind.Sign sign.OpenParen) (codes "(){}f<<8>>()") at_11, (token_stands 1 (kind.Sign sign.CloseParen) (codes "){}f<<8>>()") at_12, (token_stands 1 (kind.Sign sign.OpenBrace) (codes "{}f<<8>>()") at_13, (token_stands 1 (kind.Sign sign.CloseBrace) (codes "}f<<8>>()") at_14, (token_stands 1 kind.Name (codes "f<<8>>()") at_15, (token_stands 2 (kind.Sign sign.ShiftLeft) (codes "<<8>>()") at_16, (token_stands 1 (kind.Number 8) (codes "8>>()") at_18, (token_stands 2 (kind.Sign sign.ShiftRight) (codes ">>()") at_19, (token_stands 1 (kind.Sign sign.OpenParen) (codes "()") at_21, (token_stands 1 (kind.Sign sign.CloseParen) (codes ")") at_22, tt)))))))))))))))));
  tokens = refl;
}

-- ---- the template is used at width 8, and at no other

abbrev widths : ℕ → List ℕ
widths = at_widths ((8 ∷ []) ∷ [])

used : (k n : ℕ) → Contains (widths k) n → UsedIn text tokens (record { first = 0; name = 4; end = 9 } ∷ []) k n
used zero n (zero, within, is) = Outside zero n (zero, omega arith, λ i. record { template = 0; width = is i })
used zero n (suc j, within, is) = absurd (omega (arith, within))
used (suc k) n (j, within, is) = absurd (omega (arith, within))

none_within : (j w : ℕ) → uses w (steps_in text (names_of text tokens (record { first = 0; name = 4; end = 9 } ∷ [])) tokens (slice_get (record { first = 0; name = 4; end = 9 } ∷ []) j)) ≡ []
none_within zero w = refl
none_within (suc j) w = refl

all : (k n : ℕ) → UsedIn text tokens (record { first = 0; name = 4; end = 9 } ∷ []) k n → Contains (widths k) n
all k n (Outside _ _ (zero, within, is)) = subst (λ m. Contains (widths m) n) (ap (λ i. i.template) is) (zero, omega arith, ap (λ i. i.width) is)
all k n (Outside _ _ (suc j, within, is)) = absurd (omega (arith, within))
all k n (Within j w _ _ before has) =
    let none : Contains [] _ = subst (λ is. Contains is (record { template = k; width = n })) (none_within j w) has in
    let within = none.1 in
    absurd (omega (arith, within))

rising : (k : ℕ) → IsStrictlyIncreasing (widths k)
rising zero k within = absurd (omega (arith, within))
rising (suc j) k within = absurd (omega (arith, within))

is_expansion : IsExpansion text tokens (written text tokens (record { first = 0; name = 4; end = 9 } ∷ []) widths)
unfolding digits
is_expansion = record {
  found = record { first = 0; name = 4; end = 9 } ∷ [];
  whole = refl;
  distinct = refl;
  widths = widths;
  are_widths = record { rising = rising; used = used; all = all };
  pieces_are = refl;
}

written_is : codes "fun  f_8(){}f_8()" ≡ joined (written text tokens (record { first = 0; name = 4; end = 9 } ∷ []) widths) []
unfolding digits
written_is = refl

pub is_source : IsSource text (Ok (codes "fun  f_8(){}f_8()"))
is_source = (Ok tokens, reads, ((written text tokens (record { first = 0; name = 4; end = 9 } ∷ []) widths, is_expansion, written_is), omega arith))
