-- How statements are read: each begins with a token or two that no other has.
use Rattle.std.specs.Prelude.{ℕ, zero, suc, if◌then◌else◌, List, [], ◌∷◌, length, codes, Option, Some, None, option_map, is_some, bytes_eq}
use Rattle.lucid_lex.specs.declared.sign.Sign.TheVariants as signs
use Rattle.lucid_lex.specs.declared.word.Word.TheVariants as words
use Rattle.lucid_parse_spec.specs.Lexemes as lexemes
use Rattle.lucid_parse_tree.specs.declared.tree.E.{E}
use Rattle.lucid_parse_tree.specs.declared.tree.V.{V}
use Rattle.lucid_parse_tree.specs.declared.tree.V.TheVariants as v
use Rattle.lucid_parse_tree.specs.declared.tree.S.{S}
use Rattle.lucid_parse_tree.specs.declared.tree.S.TheVariants as s
use Rattle.lucid_parse_tree.specs.declared.tree.C.{C, roll-C}
use Rattle.lucid_parse_tree.specs.declared.tree.No.{No}
use Rattle.lucid_parse_tree.specs.declared.tree.No.TheVariants as n
use Rattle.lucid_parse_spec.specs.Reader.{Text, Outcome, Parser, ◌>>=◌, after, after_word, after_name, name, number, repeat, some, typed_name}
use Rattle.lucid_parse_spec.specs.ReadExpression.{expression, call_arguments, operands, whole_array_call}

-- ---- the event of a `generate`

-- behind `.delay` or `.locate`: an event and an expression
unfoldable pub event_pair : Parser V → Parser (V × E)
event_pair inner ts = do
  r ← after signs.OpenParen ts
  x ← inner r
  q ← after signs.Comma x.1
  y ← expression q
  o ← after signs.CloseParen y.1
  Some ((x.0, y.0), o)

-- behind `Event.` and this name
unfoldable pub event_by : Parser V → List ℕ → Parser V
event_by inner bytes ts =
    if bytes_eq bytes (codes "delay") then event_pair inner ts >>= (λ x. Some (v.Delay x.0.0 x.0.1, x.1))
    else (if bytes_eq bytes (codes "locate") then event_pair inner ts >>= (λ x. Some (v.Locate x.0.0 x.0.1, x.1))
    else None)

unfoldable pub event_within : Parser V → Parser V
event_within inner (lexemes.Sign signs.OpenParen ∷ ts) = do
  x ← inner ts
  r ← after signs.CloseParen x.1
  Some (v.Paren x.0, r)
event_within inner (lexemes.Name m ∷ ts) = do
  r ← after signs.OpenParen ts
  xs ← call_arguments r
  Some (v.Call m xs.0, xs.1)
event_within inner (lexemes.Word words.EventCalls ∷ ts) = do
  r ← after signs.Dot ts
  m ← name r
  event_by inner m.0 m.1
event_within inner _ = None

-- nested at most `depth` deep
unfoldable pub event_at : ℕ → Parser V
event_at zero ts = None
event_at (suc k) ts = event_within (event_at k) ts

unfoldable pub event : Parser V
event ts = event_at (length ts) ts

-- ---- statements without statements in them

-- an expression, up to the `;` behind it
unfoldable pub ended_value : Parser E
ended_value ts = do
  x ← expression ts
  r ← after signs.Semicolon x.1
  Some (x.0, r)

-- the arguments of a call, after its open parenthesis, up to the `;`
unfoldable pub ended_arguments : Parser (List E)
ended_arguments ts = do
  xs ← call_arguments ts
  r ← after signs.Semicolon xs.1
  Some (xs.0, r)

-- behind the name that a statement begins with
unfoldable pub after_its_name : List ℕ → Parser S
after_its_name m (lexemes.Sign signs.Equal ∷ ts) = do
  x ← ended_value ts
  Some (s.Assign m x.0, x.1)
after_its_name m (lexemes.Sign signs.OpenParen ∷ ts) = do
  xs ← ended_arguments ts
  Some (s.Call m xs.0, xs.1)
after_its_name m _ = None

unfoldable pub declared : Parser S
declared ts = do
  t ← typed_name ts
  r ← after signs.Equal t.1
  x ← ended_value r
  Some (s.Declare t.0.0 t.0.1 x.0, x.1)

-- a call of an array, behind `Array`
unfoldable pub array_statement : Parser S
array_statement ts = do
  x ← whole_array_call ts
  r ← after signs.Semicolon x.1
  Some (s.Array x.0, r)

abbrev pub returned_on : Text → Option Text → Outcome S
returned_on ts (Some r) = Some (s.Return None, r)
returned_on ts None = do
  x ← ended_value ts
  Some (s.Return (Some x.0), x.1)

-- behind `return`
unfoldable pub returned : Parser S
returned ts = returned_on ts (after signs.Semicolon ts)

-- behind `generate`
unfoldable pub generated : Parser S
generated ts = do
  x ← event ts
  r ← after signs.Semicolon x.1
  Some (s.Generate x.0, r)

abbrev pub quoted : Parser (List ℕ)
quoted (lexemes.Text t ∷ ts) = Some (t, ts)
quoted _ = None

-- behind `printf`
unfoldable pub printed : Parser S
printed ts = do
  r ← after signs.OpenParen ts
  t ← quoted r
  xs ← operands t.1
  q ← after signs.CloseParen xs.1
  o ← after signs.Semicolon q
  Some (s.Printf t.0 xs.0, o)

unfoldable pub simple : Parser S
simple (lexemes.Name m ∷ ts) = after_its_name m ts
simple (lexemes.Word words.ArrayCalls ∷ ts) = array_statement ts
simple (lexemes.Word words.Return ∷ ts) = returned ts
simple (lexemes.Word words.Generate ∷ ts) = generated ts
simple (lexemes.Word words.Printf ∷ ts) = printed ts
simple ts = declared ts

-- ---- statements with statements in them; `inner` reads the nested ones

pub record Inner : Type 0 where
  pub statement : Parser S
  pub choice : Parser C

-- one more statement, up to a `}`
abbrev pub before_brace : Parser S → Text → Option (Outcome S)
before_brace item ts = if is_some (after signs.CloseBrace ts) then None else Some (item ts)

unfoldable pub statements : Parser S → Parser (List S)
statements item ts = repeat (before_brace item) (length ts) [] ts

unfoldable pub block : Parser S → Parser (List S)
block item ts = do
  r ← after signs.OpenBrace ts
  xs ← statements item r
  q ← after signs.CloseBrace xs.1
  Some (xs.0, q)

-- behind `if`
unfoldable pub alternative : Inner → Parser No
alternative inner (lexemes.Word words.Else ∷ lexemes.Word words.If ∷ ts) = do
  x ← inner.choice ts
  Some (n.Cond x.0, x.1)
alternative inner (lexemes.Word words.Else ∷ ts) = do
  xs ← block inner.statement ts
  Some (n.Block xs.0, xs.1)
alternative inner ts = Some (n.Absent, ts)

-- the condition, in parentheses
unfoldable pub condition : Parser E
condition ts = do
  r ← after signs.OpenParen ts
  x ← expression r
  q ← after signs.CloseParen x.1
  Some (x.0, q)

unfoldable pub choice_within : Inner → Parser C
choice_within inner ts = do
  x ← condition ts
  xs ← block inner.statement x.1
  y ← alternative inner xs.1
  Some (roll-C (record { test = x.0; yes = xs.0; no = y.0 }), y.1)

-- the beginning of a case, up to its block
unfoldable pub case_head : Text → Option (ℕ × Text)
case_head ts = do
  r ← after signs.Or ts
  m ← number r
  q ← after signs.Arrow m.1
  Some (m.0, q)

abbrev pub case_body : Parser S → ℕ × Text → Outcome (ℕ × List S)
case_body item h = do
  xs ← block item h.1
  Some ((h.0, xs.0), xs.1)

abbrev pub one_case : Parser S → Text → Option (Outcome (ℕ × List S))
one_case item ts = option_map (case_body item) (case_head ts)

unfoldable pub cases : Parser S → Parser (List (ℕ × List S))
cases item ts = repeat (one_case item) (length ts) [] ts

-- the beginning of the last arm, up to its block
unfoldable pub last_head : Text → Option Text
last_head ts = do
  r ← after signs.Or ts
  q ← after_name (codes "_") r
  after signs.Arrow q

abbrev pub last_on : Parser S → Text → Option Text → Outcome (Option (List S))
last_on item ts None = Some (None, ts)
last_on item ts (Some r) = do
  xs ← block item r
  Some (Some xs.0, xs.1)

unfoldable pub last_arm : Parser S → Parser (Option (List S))
last_arm item ts = last_on item ts (last_head ts)

-- the matched expressions, up to the cases
unfoldable pub match_head : Parser E
match_head ts = do
  x ← expression ts
  r ← after_word words.With x.1
  Some (x.0, r)

-- a match has a case at least
abbrev pub match_of : E → List (ℕ × List S) → Option (List S) → Option S
match_of x cs last = option_map (λ all. s.Match x all last) (some cs)

-- behind `match`
unfoldable pub matched : Parser S → Parser S
matched item ts = do
  x ← match_head ts
  cs ← cases item x.1
  l ← last_arm item cs.1
  y ← match_of x.0 cs.0 l.0
  Some (y, l.1)

unfoldable pub statement_within : Inner → Parser S
statement_within inner (lexemes.Word words.If ∷ ts) = do
  x ← inner.choice ts
  Some (s.Cond x.0, x.1)
statement_within inner (lexemes.Word words.Match ∷ ts) = matched inner.statement ts
statement_within inner ts = simple ts

-- nested at most `depth` deep
unfoldable pub inner_at : ℕ → Inner
inner_at zero = record { statement = λ ts. None; choice = λ ts. None }
inner_at (suc k) = record { statement = statement_within (inner_at k); choice = choice_within (inner_at k) }

unfoldable pub body : Parser (List S)
body ts = block ((inner_at (length ts)).statement) ts
