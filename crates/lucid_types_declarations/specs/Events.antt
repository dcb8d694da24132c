-- Handlers, in the words of the typing function.
use Rattle.std.specs.Prelude.{◌≡◌, ℕ, List, [], ◌∷◌, ◌++◌, Option, None, Some, Result, Ok, Err, length, slice_get, slice_set}
use Rattle.lucid_core.specs.declared.body.Stmt.{Stmt}
use Rattle.lucid_core.specs.declared.defs.EventDef.{EventDef}
use Rattle.lucid_core.specs.Typing.{◌>>=◌, same}
use Rattle.lucid_parse_tree.specs.declared.tree.P.{P}
use Rattle.lucid_parse_tree.specs.declared.tree.S.{S}
use Rattle.lucid_types_spec.specs.declared.body.Body.{Body}
use Rattle.lucid_types_spec.specs.Block.{Numbered}
use Rattle.lucid_types_spec.specs.Declaration.{Definitions}
use Rattle.lucid_types_spec.specs.Names.{Names}
use Rattle.lucid_types_laws.specs.Declaration.{int_params, parameters}
use Rattle.lucid_types_laws.specs.Partial.{when}
use Rattle.lucid_types_laws.specs.Sending.{is_none}
use Rattle.lucid_types_laws.specs.Statement.{body_of}
use Rattle.lucid_types_expressions.specs.declared.fault.Fault.{Fault}
use Rattle.lucid_types_expressions.specs.Gives.{Fails}
use Rattle.lucid_types_scope.specs.Numbered.{numbered_of}
use Rattle.lucid_types_declarations.specs.declared.known.Known.{Known}

-- The body of a handler of an event of these widths.
abbrev pub handler_of : List ℕ → List P → List S → Names → List (List ℕ) → Option (Body × Numbered)
handler_of widths ps body s forms = do
  qs ← parameters 0 0 s ps
  ws ← int_params qs.0
  when (same ws widths) (body_of body None qs.1 (record { locals = widths; forms = forms }))

-- A handler of event i of these widths.
abbrev pub handle_event : ℕ → ℕ → ℕ → List ℕ → List P → List S → Definitions → Option Definitions
handle_event decl line i widths ps body m = do
  e ← slice_get m.events i
  b ← when (is_none e.handler) (handler_of widths ps body m.names m.forms)
  Some (record m {
    events = slice_set m.events i (record e { handler = Some (length m.handlers) });
    handlers = m.handlers ++ record { event = i; locals = b.1.locals; body = b.0.steps; decl = decl; line = line } ∷ [];
    forms = b.1.forms;
  })

-- Known names and parts are unchanged, except the numbered locals and texts.
abbrev pub Handles : Result Body Fault → Known → Known → Option (Body × Numbered) → Type 0
Handles (Ok b) old new o = (o ≡ Some (b, numbered_of new.numbering)) × (new ≡ record old { numbering = new.numbering })
Handles (Err f) old new o = Fails f o

-- With a handler of event i, which was e.
abbrev pub with_handler : ℕ → EventDef → ℕ → ℕ → List ℕ → List Stmt → Definitions → Definitions
with_handler i e decl line locals body m = record m {
  events = slice_set m.events i (record e { handler = Some (length m.handlers) });
  handlers = m.handlers ++ record { event = i; locals = locals; body = body; decl = decl; line = line } ∷ [];
}
