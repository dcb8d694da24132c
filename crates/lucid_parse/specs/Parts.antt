-- Parts beside others.
use Rattle.std.specs.Prelude.{ℕ, List, Some}
use Rattle.lucid_lex.specs.declared.sign.Sign.TheVariants as signs
use Rattle.lucid_parse_tree.specs.declared.tree.P.{P}
use Rattle.lucid_parse_tree.specs.declared.tree.E.{E}
use Rattle.lucid_parse_tree.specs.declared.tree.V.{V}
use Rattle.lucid_parse_tree.specs.declared.tree.V.TheVariants as v
use Rattle.lucid_parse_spec.specs.Reader.{Text, Outcome, Parser, ◌>>=◌, after, name}
use Rattle.lucid_parse_spec.specs.ReadExpression.{expression, call_arguments}
use Rattle.lucid_parse_spec.specs.ReadDeclaration.{parameters}

-- a name, and the parameters behind it
abbrev pub signature : Parser (List ℕ × List P)
signature ts = do
  m ← name ts
  ps ← parameters m.1
  Some ((m.0, ps.0), ps.1)

-- the part that was read and the expression behind it, up to the close parenthesis
abbrev pub with_value : {A : Type 0} → A × Text → Outcome (A × E)
with_value x = do
  y ← expression x.1
  r ← after signs.CloseParen y.1
  Some ((x.0, y.0), r)

-- an event that was read, up to the close parenthesis
abbrev pub event_in_parentheses : V × Text → Outcome V
event_in_parentheses x = do
  r ← after signs.CloseParen x.1
  Some (v.Paren x.0, r)

-- behind this name: the arguments of an event
abbrev pub event_called : List ℕ → Parser V
event_called m ts = do
  r ← after signs.OpenParen ts
  xs ← call_arguments r
  Some (v.Call m xs.0, xs.1)
