-- How deeply tokens nest: three counts, taken over the tokens in order, and the first token at which one of them passes
-- its limit.
use Rattle.std.specs.Prelude.{ℕ, ◌+◌, ◌-◌, Bool, false, ◌||◌, ◌==◌, if◌then◌else◌, nat_lt, List, [], ◌∷◌, Option, Some, None}
use Rattle.lucid_lex.specs.declared.token.Kind.{Kind}
use Rattle.lucid_lex.specs.declared.token.Kind.TheVariants as kinds
use Rattle.lucid_lex.specs.declared.sign.Sign.TheVariants as signs
use Rattle.lucid_lex.specs.declared.word.Word.TheVariants as words
use Rattle.lucid_parse.specs.declared.nesting.Counts.{Counts}

-- the open brackets, never below 0
abbrev pub brackets_after : ℕ → Kind → ℕ
brackets_after n (kinds.Sign signs.OpenParen) = n + 1
brackets_after n (kinds.Sign signs.OpenBrace) = n + 1
brackets_after n (kinds.Sign signs.CloseParen) = n - 1
brackets_after n (kinds.Sign signs.CloseBrace) = n - 1
brackets_after n _ = n

-- the tokens since the last `;`, `{` or `}`, which are not counted themselves
abbrev pub run_after : ℕ → Kind → ℕ
run_after n (kinds.Sign signs.Semicolon) = 0
run_after n (kinds.Sign signs.OpenBrace) = 0
run_after n (kinds.Sign signs.CloseBrace) = 0
run_after n _ = n + 1

-- the count of `else` after a token that is none: 0 after a `}` that leaves no bracket open
abbrev pub kept : Counts → ℕ
kept c = if c.ended then 0 else c.elses

-- The `else` tokens. A `}` or a `;` that leaves no bracket open sets them back, but not such a `}` with an `else`
-- straight after it.
abbrev pub elses_after : Counts → ℕ → Kind → ℕ
elses_after c brackets_now (kinds.Word words.Else) = c.elses + 1
elses_after c brackets_now (kinds.Sign signs.Semicolon) = if brackets_now == 0 then 0 else kept c
elses_after c brackets_now _ = kept c

-- whether the token is a `}` that leaves no bracket open
abbrev pub ends : ℕ → Kind → Bool
ends brackets_now (kinds.Sign signs.CloseBrace) = brackets_now == 0
ends brackets_now _ = false

-- the counts after one more token
abbrev pub counted : Counts → Kind → Counts
counted c k = record { brackets = brackets_after c.brackets k; run = run_after c.run k; elses = elses_after c (brackets_after c.brackets k) k; ended = ends (brackets_after c.brackets k) k }

-- whether a count is past its limit
abbrev pub passes : Counts → Bool
passes c = nat_lt 64 c.brackets || (nat_lt 256 c.run || nat_lt 256 c.elses)

-- the number of the first token at which a count passes its limit, where the first of these tokens has this number
abbrev pub deep_from : ℕ → Counts → List Kind → Option ℕ
deep_from n c [] = None
deep_from n c (k ∷ ks) = if passes (counted c k) then Some n else deep_from (n + 1) (counted c k) ks

-- the number, from 1, of the first token at which a count passes its limit
abbrev pub too_deep : List Kind → Option ℕ
too_deep ks = deep_from 1 (record { brackets = 0; run = 0; elses = 0; ended = false }) ks
