-- The language without `match`: its spelling and its typing. A core has no `match`, so its step has no such form.
use Rattle.std.specs.Prelude.{◌≡◌, ◌↔◌, ℕ, List, [], ◌∷◌, ◌++◌, Bool, true, false, map, Option, None, Some, length, slice_get, slice_set}
use Rattle.std.specs.List.{list_all}
use Rattle.lucid_core.specs.Typing.{◌>>=◌, same}
use Rattle.lucid_lex.specs.declared.sign.Sign.TheVariants as signs
use Rattle.lucid_lex.specs.declared.word.Word.TheVariants as words
use Rattle.lucid_parse_spec.specs.Spelling as spelling
use Rattle.lucid_parse_spec.specs.Spelling.{Spelled, spelled_No, spelled_S, spelled_C}
use Rattle.lucid_parse_tree.specs.declared.tree.DeclKind.{DeclKind}
use Rattle.lucid_parse_tree.specs.declared.tree.DeclKind.TheVariants as d
use Rattle.lucid_parse_tree.specs.declared.tree.E.{E}
use Rattle.lucid_parse_tree.specs.declared.tree.No.TheOpen.{S-F}
use Rattle.lucid_parse_tree.specs.declared.tree.P.{P}
use Rattle.lucid_parse_tree.specs.declared.tree.S.{S, fold-S}
use Rattle.lucid_parse_tree.specs.declared.tree.Tree.{Tree}
use Rattle.lucid_parse_tree.specs.declared.tree.Ty.{Ty}
use Rattle.lucid_types_laws.specs.Declaration.{answer_of, declaration, ends_well, event_at, int_params, parameters}
use Rattle.lucid_types_laws.specs.Partial.{given, when}
use Rattle.lucid_types_laws.specs.Sending.{is_none}
use Rattle.lucid_types_laws.specs.Statement as typing
use Rattle.lucid_types_laws.specs.Statement.{Blocking, Other, Taking}
use Rattle.lucid_types_spec.specs.declared.body.Body.{Body}
use Rattle.lucid_types_spec.specs.declared.scope.Entry.TheVariants as entry
use Rattle.lucid_types_spec.specs.declared.scope.ValueType.{ValueType}
use Rattle.lucid_types_spec.specs.Block.{Block, Numbered}
use Rattle.lucid_types_spec.specs.Declaration.{Definitions}
use Rattle.lucid_types_spec.specs.Found.{Decides}
use Rattle.lucid_types_spec.specs.Limits.{cases_are_few, cases_of_choice, cases_of_no}
use Rattle.lucid_types_spec.specs.Names.{Names, called, seen}
use Rattle.lucid_types_spec.specs.Types.{answer_width, cell_widths, value_widths}

-- ---- bodies without `match`

abbrev pub no_match_step : S-F Bool Bool Bool → Bool
no_match_step (S-F.Match x cases last) = false
no_match_step (S-F.«S::Cond» c) = c
no_match_step s = true

abbrev pub has_no_match : S → Bool
has_no_match = fold-S Bool Bool Bool cases_of_no no_match_step cases_of_choice

abbrev pub statements_of : DeclKind → List S
statements_of (d.Memop n first second body) = body
statements_of (d.Handle n ps body) = body
statements_of (d.Fun a n ps body) = body
statements_of x = []

abbrev pub is_without_match : Tree → Bool
is_without_match tree = list_all (λ x. list_all has_no_match (statements_of x.kind)) tree.decls

-- ---- the spelling, if a `match` has any other

-- The spelling of a `match`: by its test, its cases and its last arm.
abbrev pub Spelling : Type 0
Spelling = E → List (ℕ × List Spelled) → Option (List Spelled) → Spelled

abbrev pub spelled_with : Spelling → S-F Spelled Spelled Spelled → Spelled
spelled_with other (S-F.Match x cases last) = other x cases last
spelled_with other s = spelled_S s

abbrev pub body_spelled_with : Spelling → List S → Spelled
body_spelled_with other ss = spelling.block (map (fold-S Spelled Spelled Spelled spelled_No (spelled_with other) spelled_C) ss)

abbrev pub declaration_with : Spelling → DeclKind → Spelled
declaration_with other (d.Memop n first second ss) = λ r. spelling.word words.Memop (spelling.name n (spelling.in_parens
    (λ q. spelling.typed_name first.0 first.1 (spelling.sign signs.Comma (spelling.typed_name second.0 second.1 q))) (body_spelled_with other ss r)))
declaration_with other (d.Handle n ps ss) = λ r. spelling.word words.Handle (spelling.name n (spelling.parameters ps (body_spelled_with other ss r)))
declaration_with other (d.Fun t n ps ss) = λ r. spelling.word words.Fun (spelling.answer t (spelling.name n (spelling.parameters ps (body_spelled_with other ss r))))
declaration_with other x = spelling.declaration x

abbrev pub spell_with : Spelling → Tree → spelling.Text
spell_with other tree = spelling.all_of (map (λ x. declaration_with other x.kind) tree.decls) []

-- ---- the typing function, if a `match` has any other meaning

-- The typing of a `match`: by its test, its cases and its last arm.
abbrev pub Typing : Type 0
Typing = E → List (ℕ × List Taking) → Option (List Taking) → Taking

abbrev pub statement_with : Typing → S-F Other Taking Taking → Taking
statement_with other (S-F.Match x cases last) = other x cases last
statement_with other s = typing.statement_step s

abbrev pub body_with : Typing → List S → Blocking
body_with other ss = typing.block (map (fold-S Other Taking Taking typing.other_step (statement_with other) typing.choice_step) ss)

-- The rules of a handler and of a function by the typing of its body (`declaration` of lucid_types_laws has `body_of` there).
abbrev pub handle_with : Blocking → ℕ → ℕ → List ℕ → List P → Definitions → Option Definitions
handle_with body number line n ps m = do
  y ← event_at (seen n m.names)
  e ← slice_get m.events y.0
  qs ← when (is_none e.handler) (parameters 0 0 m.names ps)
  ws ← int_params qs.0
  b ← when (same ws y.1) (body None qs.1 (record { locals = y.1; forms = m.forms }))
  Some (record m {
    events = slice_set m.events y.0 (record e { handler = Some (length m.handlers) });
    handlers = m.handlers ++ record { event = y.0; locals = b.1.locals; body = b.0.steps; decl = number; line = line } ∷ [];
    forms = b.1.forms;
  })

abbrev pub fun_with : Blocking → ℕ → ℕ → Option Ty → List ℕ → List P → Definitions → Option Definitions
fun_with body number line a n ps m = do
  t ← answer_of a
  qs ← parameters 0 0 m.names ps
  b ← body t qs.1 (record { locals = value_widths qs.0; forms = m.forms })
  given (ends_well t b.0.ending) (record m {
    names = called n (entry.Fun (length m.funs) qs.0 t) ∷ m.names;
    funs = m.funs ++ record {
      name = n;
      arrays = cell_widths qs.0;
      params = length (value_widths qs.0);
      locals = b.1.locals;
      answer = answer_width t;
      body = b.0.steps;
      decl = number;
      line = line;
    } ∷ [];
    forms = b.1.forms;
  })

-- No rule of a memop's body has a `match`, so memops are those of `declaration`.
abbrev pub definitions_with : Typing → ℕ → ℕ → DeclKind → Definitions → Option Definitions
definitions_with other number line (d.Handle n ps body) m = handle_with (body_with other body) number line n ps m
definitions_with other number line (d.Fun a n ps body) m = fun_with (body_with other body) number line a n ps m
definitions_with other number line x m = declaration number line x m

-- ---- the law

-- If no statement of a program is a `match`, its spelling and its typing are those of the language without it. They do not depend on the
-- spelling and the typing of a `match`, and its limit is kept. Whatever a `match` means, the rules derive the core that is found, or refuse
-- the declaration that is found, at its line and for its limit.
pub record MatchesAreApart : Type 0 where
  pub spelling : (other : Spelling) (tree : Tree) → is_without_match tree ≡ true → spell_with other tree ≡ spelling.spell tree
  pub typing : (other : Typing) (tree : Tree) → is_without_match tree ≡ true → Decides (definitions_with other) tree
  pub bodies : (other : Typing) (xs : List S) → list_all has_no_match xs ≡ true → (a : Option ValueType) (s : Names) (m : Numbered) (b : Body) (k : Numbered) →
      (body_with other xs a s m ≡ Some (b, k)) ↔ Block a s m xs b k
  pub limit : (xs : List S) → list_all has_no_match xs ≡ true → list_all cases_are_few xs ≡ true
