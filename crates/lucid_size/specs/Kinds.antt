-- The tokens of templates and uses: tests on the kind of a token, and the count of open brackets.
use Rattle.std.specs.Prelude.{ℕ, ◌+◌, ◌-◌, Bool, true, false}
use Rattle.lucid_lex.specs.declared.token.Kind.{Kind}
use Rattle.lucid_lex.specs.declared.token.Kind.TheVariants as kinds
use Rattle.lucid_lex.specs.declared.sign.Sign.TheVariants as signs
use Rattle.lucid_lex.specs.declared.word.Word.TheVariants as words

-- the word `fun`
abbrev pub is_fun : Kind → Bool
is_fun (kinds.Word words.Fun) = true
is_fun k = false

abbrev pub is_name : Kind → Bool
is_name kinds.Name = true
is_name k = false

-- `<<`
abbrev pub opens_width : Kind → Bool
opens_width (kinds.Sign signs.ShiftLeft) = true
opens_width k = false

-- `>>`
abbrev pub closes_width : Kind → Bool
closes_width (kinds.Sign signs.ShiftRight) = true
closes_width k = false

-- `(`
abbrev pub opens_paren : Kind → Bool
opens_paren (kinds.Sign signs.OpenParen) = true
opens_paren k = false

-- `{`
abbrev pub opens_brace : Kind → Bool
opens_brace (kinds.Sign signs.OpenBrace) = true
opens_brace k = false

-- `}`
abbrev pub closes_brace : Kind → Bool
closes_brace (kinds.Sign signs.CloseBrace) = true
closes_brace k = false

-- The open brackets after one more token: one more at `(` and `{`, one less at `)` and `}`, never below 0.
abbrev pub open_after : ℕ → Kind → ℕ
open_after n (kinds.Sign signs.OpenParen) = n + 1
open_after n (kinds.Sign signs.OpenBrace) = n + 1
open_after n (kinds.Sign signs.CloseParen) = n - 1
open_after n (kinds.Sign signs.CloseBrace) = n - 1
open_after n k = n
