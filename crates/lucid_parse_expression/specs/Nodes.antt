-- Nodes made of the expressions that were read, with the rest after them.
use Rattle.std.specs.Prelude.{ℕ, List, Option, Some}
use Rattle.lucid_lex.specs.declared.sign.Sign.TheVariants as signs
use Rattle.lucid_parse_tree.specs.declared.tree.A.{A}
use Rattle.lucid_parse_tree.specs.declared.tree.E.{E}
use Rattle.lucid_parse_tree.specs.declared.tree.E.TheVariants as e
use Rattle.lucid_parse_spec.specs.declared.method.Method.{Method}
use Rattle.lucid_parse_spec.specs.Reader.{Text, Outcome, Parser, ◌>>=◌, after, width_if, some}
use Rattle.lucid_parse_spec.specs.ReadExpression.{array_of, after_time}
use Rattle.lucid_parse_spec.specs.ReadExpression as whole

-- the call by this method, given all of them
abbrev pub array_call : Method → List E × Text → Outcome A
array_call m xs = do
  x ← array_of m xs.0
  Some (x, xs.1)

abbrev pub array : Method → List E × Text → Outcome E
array m xs = do
  x ← array_call m xs
  Some (e.Array x.0, x.1)

-- a hash has an operand at least
abbrev pub hash : ℕ → List E × Text → Outcome E
hash w xs = do
  ys ← some xs.0
  Some (e.Hash w ys, xs.1)

-- a call of an array, behind `Array`
abbrev pub array_value : (ℕ → Parser E) → Text → Outcome E
array_value inner ts = do
  x ← whole.array_call inner ts
  Some (e.Array x.0, x.1)

-- the width of a cast, up to the close parenthesis
abbrev pub cast_head : Parser (Option ℕ)
cast_head ts = do
  w ← width_if ts
  r ← after signs.CloseParen w.1
  Some (w.0, r)

-- up to the close parenthesis
abbrev pub in_parentheses : E × Text → Outcome E
in_parentheses x = do
  r ← after signs.CloseParen x.1
  Some (e.Paren x.0, r)

-- the time, behind `Sys`
abbrev pub time : Parser E
time ts = do
  r ← after_time ts
  Some (e.Time, r)
