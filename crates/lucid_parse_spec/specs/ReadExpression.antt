-- The reading of expressions: an operand, and then, as long as a sign follows that binds tightly enough, that sign with its right
-- operand. `inner` reads a nested expression of at least a level.
use Rattle.std.specs.Prelude.{ℕ, zero, suc, ◌+◌, Bool, true, false, ◌&&◌, nat_le, if◌then◌else◌, List, [], ◌∷◌, length, codes, Option, Some, None, option_map, bytes_eq}
use Rattle.lucid_lex.specs.declared.sign.Sign.{Sign}
use Rattle.lucid_lex.specs.declared.sign.Sign.TheVariants as signs
use Rattle.lucid_lex.specs.declared.word.Word.TheVariants as words
use Rattle.lucid_parse_spec.specs.Lexemes as lexemes
use Rattle.lucid_parse_tree.specs.declared.tree.E.{E, out-E}
use Rattle.lucid_parse_tree.specs.declared.tree.E.TheVariants as e
use Rattle.lucid_parse_tree.specs.declared.tree.A.{A}
use Rattle.lucid_parse_tree.specs.declared.tree.A.TheOpen.{E-F}
use Rattle.lucid_parse_tree.specs.declared.tree.A.TheVariants as a
use Rattle.lucid_parse_tree.specs.declared.tree.Pre.{Pre}
use Rattle.lucid_parse_tree.specs.declared.tree.Pre.TheVariants as pres
use Rattle.lucid_parse_tree.specs.declared.tree.Infix.{Infix}
use Rattle.lucid_parse_tree.specs.declared.tree.Infix.TheVariants as infixes
use Rattle.lucid_parse_spec.specs.declared.operator.Next.{Next}
use Rattle.lucid_parse_spec.specs.declared.operator.Next.TheVariants as nexts
use Rattle.lucid_parse_spec.specs.declared.method.Method.{Method}
use Rattle.lucid_parse_spec.specs.declared.method.Method.TheVariants as methods
use Rattle.lucid_parse_spec.specs.Operators.{disjunction, shift, tightest, level, left_level}
use Rattle.lucid_parse_spec.specs.Reader.{Text, Outcome, Parser, ◌>>=◌, after, after_name, name, width, width_if, separated, some}

-- ---- signs between operands

abbrev pub infix_of : Sign → Option Infix
infix_of signs.OrOr = Some infixes.OrOr
infix_of signs.AndAnd = Some infixes.AndAnd
infix_of signs.EqualEqual = Some infixes.EqualEqual
infix_of signs.NotEqual = Some infixes.NotEqual
infix_of signs.Less = Some infixes.Less
infix_of signs.Greater = Some infixes.Greater
infix_of signs.LessEqual = Some infixes.LessEqual
infix_of signs.GreaterEqual = Some infixes.GreaterEqual
infix_of signs.Or = Some infixes.Or
infix_of signs.Caret = Some infixes.Caret
infix_of signs.And = Some infixes.And
infix_of signs.Plus = Some infixes.Plus
infix_of signs.Minus = Some infixes.Minus
infix_of signs.SatAdd = Some infixes.SatAdd
infix_of signs.SatSub = Some infixes.SatSub
infix_of _ = None

-- a shift, behind its sign
abbrev pub shift_of : Bool → Text → Option (Next × Text)
shift_of up (lexemes.Number n ∷ ts) = Some (nexts.Shift up n, ts)
shift_of up _ = None

-- the operator after an operand: an infix sign, or a whole shift
unfoldable pub next_of : Text → Option (Next × Text)
next_of (lexemes.Sign signs.ShiftLeft ∷ ts) = shift_of true ts
next_of (lexemes.Sign signs.ShiftRight ∷ ts) = shift_of false ts
next_of (lexemes.Sign s ∷ ts) = option_map (λ op. (nexts.Infix op, ts)) (infix_of s)
next_of _ = None

abbrev pub next_level : Next → ℕ
next_level (nexts.Infix op) = level op
next_level (nexts.Shift up n) = shift

abbrev pub next_left : Next → ℕ
next_left (nexts.Infix op) = left_level op
next_left (nexts.Shift up n) = shift

-- only if it binds at least this tightly, and accepts an operand of this level on its left
abbrev pub within : ℕ → ℕ → Option (Next × Text) → Option (Next × Text)
within least tight None = None
within least tight (Some p) = if nat_le least (next_level p.0) && nat_le (next_left p.0) tight then Some p else None

unfoldable pub next_within : ℕ → ℕ → Text → Option (Next × Text)
next_within least tight ts = within least tight (next_of ts)

-- the left operand with the operators after it
abbrev pub grown : (ℕ → Parser E) → E → Next → Parser E
grown inner left (nexts.Infix op) ts = do
  x ← inner (level op + 1) ts
  Some (e.Infix op left x.0, x.1)
grown inner left (nexts.Shift up n) ts = Some (e.Shift left up n, ts)

abbrev pub climb_on : (ℕ → Parser E) → (ℕ → E → Parser E) → E → Text → Option (Next × Text) → Outcome E
climb_on inner next left ts None = Some (left, ts)
climb_on inner next left ts (Some p) = do
  x ← grown inner left p.0 p.1
  next (next_level p.0) x.0 x.1

-- the left operand, of level `tight`, with all operators after it, in at most `turns` turns
unfoldable pub climb : (ℕ → Parser E) → ℕ → ℕ → ℕ → E → Parser E
climb inner least zero tight left ts = Some (left, ts)
climb inner least (suc n) tight left ts = climb_on inner (climb inner least n) left ts (next_within least tight ts)

-- ---- operands

abbrev pub arguments_on : Parser (List E) → Text → Option Text → Outcome (List E)
arguments_on some ts (Some r) = Some ([], r)
arguments_on some ts None = do
  xs ← some ts
  r ← after signs.CloseParen xs.1
  Some (xs.0, r)

-- the arguments of a call, after its open parenthesis
unfoldable pub arguments : (ℕ → Parser E) → Parser (List E)
arguments inner ts = arguments_on (separated (inner disjunction)) ts (after signs.CloseParen ts)

abbrev pub named_on : (ℕ → Parser E) → List ℕ → Text → Option Text → Outcome E
named_on inner n ts None = Some (e.Name n, ts)
named_on inner n ts (Some r) = do
  xs ← arguments inner r
  Some (e.Call n xs.0, xs.1)

-- an expression that begins with a name
unfoldable pub named : (ℕ → Parser E) → List ℕ → Parser E
named inner n ts = named_on inner n ts (after signs.OpenParen ts)

-- behind `Sys`
unfoldable pub after_time : Text → Option Text
after_time ts = do
  r ← after signs.Dot ts
  s ← after_name (codes "time") r
  t ← after signs.OpenParen s
  after signs.CloseParen t

-- the width of a hash, up to the open parenthesis
unfoldable pub hash_head : Parser ℕ
hash_head ts = do
  w ← width ts
  r ← after signs.OpenParen w.1
  Some (w.0, r)

-- behind `hash`
abbrev pub hash : (ℕ → Parser E) → Parser E
hash inner ts = do
  w ← hash_head ts
  xs ← arguments inner w.1
  ys ← some xs.0
  Some (e.Hash w.0 ys, xs.1)

abbrev pub pre_of : Sign → Option Pre
pre_of signs.Minus = Some pres.Minus
pre_of signs.Tilde = Some pres.Tilde
pre_of signs.Not = Some pres.Not
pre_of _ = None

-- behind a prefix sign
abbrev pub prefixed : (ℕ → Parser E) → Text → Option Pre → Outcome E
prefixed inner ts None = None
prefixed inner ts (Some p) = do
  x ← inner tightest ts
  Some (e.Prefix p x.0, x.1)

-- behind an open parenthesis: the type of a cast and its operand, or an expression
unfoldable pub in_parens : (ℕ → Parser E) → Parser E
in_parens inner (lexemes.Word words.Int ∷ ts) = do
  w ← width_if ts
  r ← after signs.CloseParen w.1
  x ← inner tightest r
  Some (e.Cast w.0 x.0, x.1)
in_parens inner ts = do
  x ← inner disjunction ts
  r ← after signs.CloseParen x.1
  Some (e.Paren x.0, r)

-- ---- calls of arrays

abbrev pub method_of : List ℕ → Option Method
method_of bytes =
    if bytes_eq bytes (codes "get") then Some methods.Get
    else (if bytes_eq bytes (codes "set") then Some methods.Set
    else (if bytes_eq bytes (codes "getm") then Some methods.Getm
    else (if bytes_eq bytes (codes "setm") then Some methods.Setm
    else (if bytes_eq bytes (codes "update") then Some methods.Update
    else None))))

-- behind `Array`, up to the open parenthesis
unfoldable pub array_method : Parser Method
array_method ts = do
  r ← after signs.Dot ts
  n ← name r
  m ← method_of n.0
  s ← after signs.OpenParen n.1
  Some (m, s)

-- the arguments of a call, one after another
abbrev pub first : List E → Option (E × List E)
first [] = None
first (x ∷ xs) = Some (x, xs)

abbrev pub name_at : E-F A E → Option (List ℕ)
name_at (E-F.Name n) = Some n
name_at _ = None

-- where a name comes first
unfoldable pub first_name : List E → Option (List ℕ × List E)
first_name xs = do
  x ← first xs
  n ← name_at (out-E x.0)
  Some (n, x.1)

-- a memop and its argument
unfoldable pub memop_part : List E → Option ((List ℕ × E) × List E)
memop_part xs = do
  m ← first_name xs
  x ← first m.1
  Some ((m.0, x.0), x.1)

-- where nothing is left over
abbrev pub with_all : {X : Type 0} → X → List E → Option X
with_all x [] = Some x
with_all x (y ∷ ys) = None

-- the only one
unfoldable pub last : List E → Option E
last xs = do
  x ← first xs
  with_all x.0 x.1

-- a memop and its argument, and nothing else
unfoldable pub last_memop : List E → Option (List ℕ × E)
last_memop xs = do
  m ← first_name xs
  x ← last m.1
  Some (m.0, x)

-- two of them, and nothing else
unfoldable pub last_memops : List E → Option ((List ℕ × E) × (List ℕ × E))
last_memops xs = do
  x ← memop_part xs
  y ← last_memop x.1
  Some (x.0, y)

-- by the tokens after the array's name and the index
unfoldable pub array_with : List ℕ → E → Method → List E → Option A
array_with n i methods.Get xs = with_all (a.Get n i) xs
array_with n i methods.Set xs = do
  x ← last xs
  Some (a.Set n i x)
array_with n i methods.Getm xs = do
  x ← last_memop xs
  Some (a.Getm n i x.0 x.1)
array_with n i methods.Setm xs = do
  x ← last_memop xs
  Some (a.Setm n i x.0 x.1)
array_with n i methods.Update xs = do
  x ← last_memops xs
  Some (a.Update n i x.0.0 x.0.1 x.1.0 x.1.1)

-- by the tokens after the array's name
unfoldable pub array_at : List ℕ → Method → List E → Option A
array_at n m xs = do
  i ← first xs
  array_with n i.0 m i.1

-- the call by this method that is given these, all of them
unfoldable pub array_of : Method → List E → Option A
array_of m xs = do
  n ← first_name xs
  array_at n.0 m n.1

-- behind `Array`
unfoldable pub array_call : (ℕ → Parser E) → Parser A
array_call inner ts = do
  m ← array_method ts
  xs ← arguments inner m.1
  x ← array_of m.0 xs.0
  Some (x, xs.1)

-- ---- expressions

unfoldable pub operand : (ℕ → Parser E) → Parser E
operand inner (lexemes.Number n ∷ ts) = Some (e.Number n, ts)
operand inner (lexemes.Name n ∷ ts) = named inner n ts
operand inner (lexemes.Word words.True ∷ ts) = Some (e.Truth true, ts)
operand inner (lexemes.Word words.False ∷ ts) = Some (e.Truth false, ts)
operand inner (lexemes.Word words.Me ∷ ts) = Some (e.Me, ts)
operand inner (lexemes.Word words.SysCalls ∷ ts) = do
  r ← after_time ts
  Some (e.Time, r)
operand inner (lexemes.Word words.Hash ∷ ts) = hash inner ts
operand inner (lexemes.Word words.ArrayCalls ∷ ts) = do
  x ← array_call inner ts
  Some (e.Array x.0, x.1)
operand inner (lexemes.Sign signs.OpenParen ∷ ts) = in_parens inner ts
operand inner (lexemes.Sign s ∷ ts) = prefixed inner ts (pre_of s)
operand inner _ = None

-- an expression of at least this level, nested at most `depth` deep
unfoldable pub expression_at : ℕ → ℕ → Parser E
expression_at zero least ts = None
expression_at (suc d) least ts = do
  x ← operand (expression_at d) ts
  climb (expression_at d) least (length x.1) tightest x.0 x.1

-- an expression; it has no more expressions round one another than tokens
unfoldable pub expression : Parser E
expression ts = expression_at (length ts) disjunction ts

-- the arguments of a call, after its open parenthesis
unfoldable pub call_arguments : Parser (List E)
call_arguments ts = arguments (expression_at (length ts)) ts

abbrev pub operands_on : Text → Option Text → Outcome (List E)
operands_on ts None = Some ([], ts)
operands_on ts (Some r) = separated (expression_at (length r) disjunction) r

-- expressions, each behind a comma
unfoldable pub operands : Parser (List E)
operands ts = operands_on ts (after signs.Comma ts)

-- a call of an array, behind `Array`
unfoldable pub whole_array_call : Parser A
whole_array_call ts = array_call (expression_at (length ts)) ts
