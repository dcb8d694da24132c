-- How declarations are read: each begins with a word that no other has.
use Rattle.std.specs.Prelude.{ℕ, List, [], ◌∷◌, codes, Option, Some, None}
use Rattle.lucid_lex.specs.declared.sign.Sign.TheVariants as signs
use Rattle.lucid_lex.specs.declared.word.Word.TheVariants as words
use Rattle.lucid_parse_spec.specs.Lexemes as lexemes
use Rattle.lucid_parse_tree.specs.declared.tree.Ty.{Ty}
use Rattle.lucid_parse_tree.specs.declared.tree.P.{P}
use Rattle.lucid_parse_tree.specs.declared.tree.P.TheVariants as p
use Rattle.lucid_parse_tree.specs.declared.tree.Size.{Size}
use Rattle.lucid_parse_tree.specs.declared.tree.Size.TheVariants as sizes
use Rattle.lucid_parse_tree.specs.declared.tree.DeclKind.{DeclKind}
use Rattle.lucid_parse_tree.specs.declared.tree.DeclKind.TheVariants as d
use Rattle.lucid_parse_spec.specs.Reader.{Text, Outcome, Parser, ◌>>=◌, after, after_word, after_name, name, number, separated, ty, typed_name, array_type}
use Rattle.lucid_parse_spec.specs.ReadStatement.{body}

-- ---- parameters

unfoldable pub parameter : Parser P
parameter (lexemes.Word words.ArrayCalls ∷ ts) = do
  t ← array_type ts
  m ← name t.1
  Some (p.Array t.0.0 t.0.1 m.0, m.1)
parameter ts = do
  t ← typed_name ts
  Some (p.Value t.0.0 t.0.1, t.1)

abbrev pub parameters_on : Text → Option Text → Outcome (List P)
parameters_on ts (Some r) = Some ([], r)
parameters_on ts None = do
  ps ← separated parameter ts
  r ← after signs.CloseParen ps.1
  Some (ps.0, r)

-- in parentheses, with none too
unfoldable pub parameters : Parser (List P)
parameters ts = do
  r ← after signs.OpenParen ts
  parameters_on r (after signs.CloseParen r)

-- ---- declarations, each behind its word

unfoldable pub constant : Parser DeclKind
constant ts = do
  t ← typed_name ts
  r ← after signs.Equal t.1
  m ← number r
  q ← after signs.Semicolon m.1
  Some (d.Const t.0.0 t.0.1 m.0, q)

unfoldable pub size : Parser Size
size (lexemes.Number m ∷ ts) = Some (sizes.Number m, ts)
size (lexemes.Name m ∷ ts) = Some (sizes.Named m, ts)
size _ = None

-- `Array.create(SIZE);`
unfoldable pub created : Parser Size
created ts = do
  r ← after_word words.ArrayCalls ts
  q ← after signs.Dot r
  o ← after_name (codes "create") q
  n ← after signs.OpenParen o
  x ← size n
  m ← after signs.CloseParen x.1
  l ← after signs.Semicolon m
  Some (x.0, l)

unfoldable pub global_array : Parser DeclKind
global_array ts = do
  r ← after_word words.ArrayCalls ts
  t ← array_type r
  m ← name t.1
  q ← after signs.Equal m.1
  x ← created q
  Some (d.Global t.0.0 t.0.1 m.0 x.0, x.1)

-- the two parameters of a memop, in parentheses
unfoldable pub two_parameters : Parser ((Ty × List ℕ) × (Ty × List ℕ))
two_parameters ts = do
  r ← after signs.OpenParen ts
  t ← typed_name r
  q ← after signs.Comma t.1
  u ← typed_name q
  o ← after signs.CloseParen u.1
  Some ((t.0, u.0), o)

unfoldable pub memop : Parser DeclKind
memop ts = do
  m ← name ts
  ps ← two_parameters m.1
  ss ← body ps.1
  Some (d.Memop m.0 ps.0.0 ps.0.1 ss.0, ss.1)

unfoldable pub event_declared : Parser DeclKind
event_declared ts = do
  m ← name ts
  ps ← parameters m.1
  r ← after signs.Semicolon ps.1
  Some (d.Event m.0 ps.0, r)

unfoldable pub handler : Parser DeclKind
handler ts = do
  m ← name ts
  ps ← parameters m.1
  ss ← body ps.1
  Some (d.Handle m.0 ps.0 ss.0, ss.1)

unfoldable pub answer : Parser (Option Ty)
answer (lexemes.Word words.Void ∷ ts) = Some (None, ts)
answer ts = do
  t ← ty ts
  Some (Some t.0, t.1)

unfoldable pub function : Parser DeclKind
function ts = do
  t ← answer ts
  m ← name t.1
  ps ← parameters m.1
  ss ← body ps.1
  Some (d.Fun t.0 m.0 ps.0 ss.0, ss.1)

unfoldable pub group : Parser DeclKind
group ts = do
  m ← name ts
  r ← after signs.Equal m.1
  q ← after signs.OpenBrace r
  ns ← separated number q
  o ← after signs.CloseBrace ns.1
  n ← after signs.Semicolon o
  Some (d.Group m.0 ns.0, n)

unfoldable pub declaration : Parser DeclKind
declaration (lexemes.Word words.Const ∷ ts) = constant ts
declaration (lexemes.Word words.Global ∷ ts) = global_array ts
declaration (lexemes.Word words.Memop ∷ ts) = memop ts
declaration (lexemes.Word words.Event ∷ ts) = event_declared ts
declaration (lexemes.Word words.Handle ∷ ts) = handler ts
declaration (lexemes.Word words.Fun ∷ ts) = function ts
declaration (lexemes.Word words.Group ∷ ts) = group ts
declaration _ = None
