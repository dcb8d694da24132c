-- When the tokens of a text are a program, with which tree, and how far they are one where they are none.
use Rattle.std.specs.Prelude.{◌≡◌, ℕ, ◌+◌, ◌-◌, ◌^◌, ◌<◌, ◌≤◌, ◌==◌, min, true, List, [], ◌∷◌, length, take, drop, map, count_by}
use Rattle.lucid_lex.specs.declared.token.Kind.{Kind}
use Rattle.lucid_lex.specs.declared.token.Token.{Token}
use Rattle.lucid_parse.specs.declared.error.ParseError.{ParseError}
use Rattle.lucid_parse.specs.declared.error.ParseError.TheVariants as errors
use Rattle.lucid_parse_tree.specs.declared.tree.Decl.{Decl}
use Rattle.lucid_parse_tree.specs.declared.tree.Tree.{Tree}
use Rattle.lucid_parse_spec.specs.Lexemes.{lexemes_of}
use Rattle.lucid_parse_spec.specs.Spelling.{Text, declarations, spell, all_written, IsWritten}

-- the kinds of tokens, which nesting is counted over
abbrev pub kinds_of : List Token → List Kind
kinds_of ts = map (λ t. t.kind) ts

-- the line of an offset, from 1: by the line feeds (10) before it, as far as 32 bits count
abbrev pub line_at : List ℕ → ℕ → ℕ
line_at text at = min (1 + count_by (λ b. b == 10) (take at text)) (2 ^ 32 - 1)

-- the line of the first of these tokens
abbrev pub line_of : List ℕ → List Token → ℕ
line_of text [] = 1
line_of text (t ∷ ts) = line_at text t.span.start

-- the last tokens, of this number
abbrev pub last_of : ℕ → List Token → List Token
last_of n ts = drop (length ts - n) ts

-- Each declaration has the line of its first token: it and those behind it, before the rest, have as many tokens as there
-- are from that one on.
abbrev pub HasLines : List ℕ → List Token → List Decl → Text → Type 0
HasLines text ts [] rest = Unit {0}
HasLines text ts (x ∷ xs) rest = (x.line ≡ line_of text (last_of (length (declarations (x ∷ xs) rest)) ts)) × HasLines text ts xs rest

-- the grammar builds the tree, the tokens spell it, and its lines are those of its declarations' first tokens
pub record IsTreeOf (text : List ℕ) (ts : List Token) (t : Tree) : Type 0 where
  pub written : IsWritten t
  pub spelled : lexemes_of text ts ≡ spell t
  pub lines : HasLines text ts t.decls []

-- the lexemes before this place are a program's: some tree spells them, with the rest behind it
pub record IsProgramBefore (ls : Text) (at : ℕ) : Type 0 where
  pub decls : List Decl
  pub rest : Text
  pub written : all_written decls ≡ true
  pub spelled : ls ≡ declarations decls rest
  pub place : at + length rest ≡ length ls

-- The lexemes are no program, and the one with this number, from 1, begins the first declaration that has no tree: those
-- before it are the longest front of them that is a program's.
pub record IsFault (ls : Text) (n : ℕ) : Type 0 where
  pub at : ℕ
  pub number : n ≡ at + 1
  pub within : at < length ls
  pub before : IsProgramBefore ls at
  pub longest : (m : ℕ) → IsProgramBefore ls m → m ≤ at

-- ---- while a program is read

-- the declarations read so far, before the rest
pub record Progress (text : List ℕ) (ts : List Token) (ls : Text) (all : List Decl) (rest : Text) : Type 0 where
  pub written : all_written all ≡ true
  pub spelled : ls ≡ declarations all rest
  pub lines : HasLines text ts all rest

-- why reading stops
abbrev pub IsWhy : Text → ParseError → Type 0
IsWhy ls (errors.NoTree n) = IsFault ls n
IsWhy ls (errors.TooDeep n) = ⊥
IsWhy ls errors.Memory = Unit {0}

-- the tokens begin one behind another, and none before this offset
abbrev pub Rising : ℕ → List Token → Type 0
Rising n [] = Unit {0}
Rising n (t ∷ ts) = (n ≤ t.span.start) × Rising t.span.start ts
