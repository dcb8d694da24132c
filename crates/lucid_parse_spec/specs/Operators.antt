-- The signs of expressions, and how tightly they bind.
use Rattle.std.specs.Prelude.{ℕ, ◌+◌}
use Rattle.lucid_lex.specs.declared.sign.Sign.{Sign}
use Rattle.lucid_lex.specs.declared.sign.Sign.TheVariants as signs
use Rattle.lucid_parse_tree.specs.declared.tree.Pre.{Pre}
use Rattle.lucid_parse_tree.specs.declared.tree.Pre.TheVariants as pres
use Rattle.lucid_parse_tree.specs.declared.tree.Infix.{Infix}
use Rattle.lucid_parse_tree.specs.declared.tree.Infix.TheVariants as infixes

-- the levels, from the loosest on
abbrev pub disjunction : ℕ
disjunction = 1

abbrev pub conjunction : ℕ
conjunction = 2

abbrev pub comparison : ℕ
comparison = 3

abbrev pub bit_or : ℕ
bit_or = 4

abbrev pub bit_xor : ℕ
bit_xor = 5

abbrev pub bit_and : ℕ
bit_and = 6

abbrev pub shift : ℕ
shift = 7

abbrev pub sum : ℕ
sum = 8

-- an operand by itself
abbrev pub tightest : ℕ
tightest = 9

abbrev pub pre_sign : Pre → Sign
pre_sign pres.Minus = signs.Minus
pre_sign pres.Tilde = signs.Tilde
pre_sign pres.Not = signs.Not

abbrev pub infix_sign : Infix → Sign
infix_sign infixes.OrOr = signs.OrOr
infix_sign infixes.AndAnd = signs.AndAnd
infix_sign infixes.EqualEqual = signs.EqualEqual
infix_sign infixes.NotEqual = signs.NotEqual
infix_sign infixes.Less = signs.Less
infix_sign infixes.Greater = signs.Greater
infix_sign infixes.LessEqual = signs.LessEqual
infix_sign infixes.GreaterEqual = signs.GreaterEqual
infix_sign infixes.Or = signs.Or
infix_sign infixes.Caret = signs.Caret
infix_sign infixes.And = signs.And
infix_sign infixes.Plus = signs.Plus
infix_sign infixes.Minus = signs.Minus
infix_sign infixes.SatAdd = signs.SatAdd
infix_sign infixes.SatSub = signs.SatSub

-- the level of an expression with an infix sign
abbrev pub level : Infix → ℕ
level infixes.OrOr = disjunction
level infixes.AndAnd = conjunction
level infixes.EqualEqual = comparison
level infixes.NotEqual = comparison
level infixes.Less = comparison
level infixes.Greater = comparison
level infixes.LessEqual = comparison
level infixes.GreaterEqual = comparison
level infixes.Or = bit_or
level infixes.Caret = bit_xor
level infixes.And = bit_and
level infixes.Plus = sum
level infixes.Minus = sum
level infixes.SatAdd = sum
level infixes.SatSub = sum

-- The least level of a left operand: signs of one level group to the left, but comparisons don't group. A right operand
-- is of a higher level than its sign.
abbrev pub left_level : Infix → ℕ
left_level infixes.EqualEqual = comparison + 1
left_level infixes.NotEqual = comparison + 1
left_level infixes.Less = comparison + 1
left_level infixes.Greater = comparison + 1
left_level infixes.LessEqual = comparison + 1
left_level infixes.GreaterEqual = comparison + 1
left_level op = level op
