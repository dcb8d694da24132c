-- The program of the worked texts: its tokens and its tree, computed from the text, its core, and the order of its array.
use Rattle.std.proofs.Common.{◌≡◌, ◌≤◌, ℕ, List, [], ◌∷◌, false, true, None, Some, Ok, ap, arith, codes, length, refl, subst, sym, ◌∙◌}
use Rattle.std.proofs.lemmas.Bool.{and_from}
use Rattle.std.proofs.lemmas.List.Elements.{All-cons, All-nil}
use Rattle.std.specs.Option.{unwrap_or}
use Rattle.lucid_base.specs.Bits.{bits_of}
use Rattle.lucid_base.specs.declared.array.ArrayName.TheVariants.{Global}
use Rattle.lucid_base.specs.declared.memory_alu.MemArg.TheVariants.{Stored}
use Rattle.lucid_base.specs.declared.ops.BinOp.TheVariants.{Add}
use Rattle.lucid_base.specs.declared.ops.CmpOp.TheVariants.{Eq}
use Rattle.lucid_core.proofs.Folds.{folds}
use Rattle.lucid_core.specs.declared.body.Expr.{Expr}
use Rattle.lucid_core.specs.declared.body.Expr.TheOpen.{Expr-F}
use Rattle.lucid_core.specs.declared.body.Expr.TheViews.{roll-Expr}
use Rattle.lucid_core.specs.declared.body.Stmt.{Stmt}
use Rattle.lucid_core.specs.declared.body.Stmt.TheVariants as stmt
use Rattle.lucid_core.specs.declared.body.Touch.{Touch, roll-Touch}
use Rattle.lucid_core.specs.declared.ending.Ending.TheVariants.{Never}
use Rattle.lucid_core.specs.ExamplePrograms.{assign, choose, drop_value, generate_with, local, number, plus}
use Rattle.lucid_core.specs.Parts.{CoreParts}
use Rattle.lucid_effects_spec.specs.Laws.{own_numbers}
use Rattle.lucid_effects_spec.specs.Order.{Body, InOrder, IsAccepted}
use Rattle.lucid_lex.specs.declared.token.Token.{Token}
use Rattle.lucid_lex.specs.Front.{after_prefix, front_of, name_front, number_front, sign_front}
use Rattle.lucid_lex.specs.Reading.{Reads}
use Rattle.lucid_lex.specs.Sign.{sign_at}
use Rattle.lucid_lex.specs.Word.{word_in}
use Rattle.lucid_memop.specs.Shape as shape
use Rattle.lucid_parse.specs.Nesting.{too_deep}
use Rattle.lucid_parse.specs.Program.{kinds_of}
use Rattle.lucid_parse_spec.specs.Law.{ReadAsSpelled}
use Rattle.lucid_parse_spec.specs.Lexemes.{lexemes_of}
use Rattle.lucid_parse_spec.specs.ReadDeclaration.{parameter, parameters, size, created, global_array, two_parameters, memop, event_declared, handler, declaration}
use Rattle.lucid_parse_spec.specs.ReadExpression.{next_of, next_within, climb, arguments, named, in_parens, array_method, first_name, memop_part, last, last_memop, last_memops, array_with, array_at, array_of, array_call, operand, expression_at, expression, call_arguments, operands, whole_array_call}
use Rattle.lucid_parse_spec.specs.ReadStatement.{declared, event_pair, event_by, event_within, event_at, event, ended_value, ended_arguments, after_its_name, array_statement, returned, generated, simple, statements, block, alternative, condition, choice_within, statement_within, inner_at, body}
use Rattle.lucid_parse_spec.specs.Reader.{repeat, separated, width_end, width, width_if, ty, typed_name, array_type}
use Rattle.lucid_parse_tree.specs.declared.tree.A.TheVariants as a
use Rattle.lucid_parse_tree.specs.declared.tree.C.{roll-C}
use Rattle.lucid_parse_tree.specs.declared.tree.Decl.{Decl}
use Rattle.lucid_parse_tree.specs.declared.tree.DeclKind.TheVariants as decl
use Rattle.lucid_parse_tree.specs.declared.tree.E as trees
use Rattle.lucid_parse_tree.specs.declared.tree.E.TheVariants as e
use Rattle.lucid_parse_tree.specs.declared.tree.Infix.TheVariants.{EqualEqual, Plus}
use Rattle.lucid_parse_tree.specs.declared.tree.No.TheOpen.{S-F}
use Rattle.lucid_parse_tree.specs.declared.tree.No.TheVariants as no
use Rattle.lucid_parse_tree.specs.declared.tree.P.{P}
use Rattle.lucid_parse_tree.specs.declared.tree.P.TheVariants as p
use Rattle.lucid_parse_tree.specs.declared.tree.S.{S, fold-roll-S}
use Rattle.lucid_parse_tree.specs.declared.tree.S.TheVariants as s
use Rattle.lucid_parse_tree.specs.declared.tree.Size.TheVariants as sizes
use Rattle.lucid_parse_tree.specs.declared.tree.Ty.{Ty}
use Rattle.lucid_parse_tree.specs.declared.tree.Ty.TheVariants as ty_of
use Rattle.lucid_parse_tree.specs.declared.tree.V.TheVariants as v
use Rattle.lucid_size.proofs.Plain.{plain_expands}
use Rattle.lucid_size.specs.Expansion.{ExpandsTo, most}
use Rattle.lucid_size.specs.Templates.{templates}
use Rattle.lucid_top.specs.Premises.{HasCore}
use Rattle.lucid_types_spec.proofs.FewCases as few
use Rattle.lucid_types_spec.proofs.Leaves.{no_name}
use Rattle.lucid_types_spec.proofs.Rolled as rolled
use Rattle.lucid_types_spec.specs.Block.{Block, Numbered}
use Rattle.lucid_types_spec.specs.Block as block_rule
use Rattle.lucid_types_spec.specs.Declaration as rule
use Rattle.lucid_types_spec.specs.Leaves as leaves
use Rattle.lucid_types_spec.specs.Limits.{cases_are_few, cases_of_choice, cases_of_no, cases_of_statement}
use Rattle.lucid_types_spec.specs.Makes.{IsTyped}
use Rattle.lucid_types_spec.specs.Makes as made
use Rattle.lucid_types_spec.specs.Memop as memop_rule
use Rattle.lucid_types_spec.specs.Names.{Names, called}
use Rattle.lucid_types_spec.specs.Sends as sends
use Rattle.lucid_types_spec.specs.Typed.{returning}
use Rattle.lucid_types_spec.specs.Typed as typed
use Rattle.lucid_types_spec.specs.Types.{IsWidth}
use Rattle.lucid_types_spec.specs.Types as types
use Rattle.lucid_types_spec.specs.declared.scope.Entry.TheVariants as entry
use Rattle.lucid_types_spec.specs.declared.scope.ValueType.TheVariants.{Int}
use Rattle.lucid_top_laws.proofs.HandlerExamples.{ends}
use Rattle.lucid_top_laws.proofs.ParsingLemmas.{decls_of, tree_by}
use Rattle.lucid_top_laws.proofs.ReadingLemmas.{reads_by, tokens_of}
use Rattle.lucid_top_laws.proofs.RolledLemmas as rolls
use Rattle.lucid_top_laws.specs.TextsWorked.{texts}

abbrev text : List ℕ
text = texts.program

abbrev tokens : List Token
tokens = unwrap_or (tokens_of 110 text) []

reads : Reads text tokens
unfolding front_of name_front word_in sign_front sign_at number_front after_prefix
reads = reads_by 110 text tokens refl

shallow : too_deep (kinds_of tokens) ≡ None
unfolding front_of name_front word_in sign_front sign_at number_front after_prefix
shallow = refl

no_templates : templates tokens ≡ Ok []
unfolding front_of name_front word_in sign_front sign_at number_front after_prefix
no_templates = refl

-- No template begins in the program, so it is its own expansion.
expands : ExpandsTo text tokens text
expands = plain_expands text tokens reads no_templates

-- ---- its tree

abbrev int : Ty
int = ty_of.Int None

abbrev sum : List S
sum = s.Return (Some (e.Infix Plus (e.Name (codes "a")) (e.Name (codes "b")))) ∷ []

abbrev sent : List S
sent = s.Generate (v.Locate (v.Call (codes "f") []) (e.Infix Plus (e.Number 0) (e.Number 1))) ∷ []

abbrev statements_of : List S
statements_of =
    s.Declare int (codes "y") (e.Name (codes "v"))
    ∷ s.Array (a.Setm (codes "x") (e.Number 0) (codes "m") (e.Name (codes "y")))
    ∷ s.Cond (roll-C (record { test = e.Infix EqualEqual (e.Name (codes "v")) (e.Number 5); yes = sent; no = no.Absent }))
    ∷ []

abbrev values : List P
values = p.Value int (codes "v") ∷ []

abbrev decls : List Decl
decls =
    record { kind = decl.Global false 32 (codes "x") (sizes.Number 1); line = 1 }
    ∷ record { kind = decl.Memop (codes "m") (int, codes "a") (int, codes "b") sum; line = 1 }
    ∷ record { kind = decl.Event (codes "e") values; line = 1 }
    ∷ record { kind = decl.Event (codes "f") []; line = 1 }
    ∷ record { kind = decl.Handle (codes "e") values statements_of; line = 1 }
    ∷ []

decls_are : decls_of text tokens 10 (lexemes_of text tokens) ≡ Some decls
unfolding front_of name_front word_in sign_front sign_at number_front after_prefix parameter parameters size created global_array two_parameters memop event_declared handler declaration next_of next_within climb arguments named in_parens array_method first_name memop_part last last_memop last_memops array_with array_at array_of array_call operand expression_at expression call_arguments operands whole_array_call declared event_pair event_by event_within event_at event ended_value ended_arguments after_its_name array_statement returned generated simple statements block alternative condition choice_within statement_within inner_at body repeat separated width_end width width_if ty typed_name array_type trees.out-E denote.Hole.Carrier.out
decls_are = refl

-- ---- its core

abbrev pub call : Touch
call = roll-Touch (record { array = Global 0; index = number 0; get = returning 32 Stored; get_arg = number 0; set = plus; set_arg = local 1; answers = false })

abbrev test : Expr
test = roll-Expr (Expr-F.Cmp Eq (local 0) (number 5))

abbrev pub to : Expr
to = roll-Expr (Expr-F.Bin Add (number 0) (number 1))

abbrev pub steps : List Stmt
steps = assign 1 (local 0) ∷ drop_value (roll-Expr (Expr-F.Array call)) ∷ choose test (generate_with 1 [] None (Some to) false ∷ []) [] ∷ []

abbrev pub core : CoreParts
core = record {
  arrays = record { name = codes "x"; width = 32; size = 1 } ∷ [];
  memops = record { name = codes "m"; alu = plus } ∷ [];
  events = record { name = codes "e"; params = 32 ∷ []; handler = Some 0 } ∷ record { name = codes "f"; params = []; handler = None } ∷ [];
  funs = [];
  handlers = record { event = 0; locals = 32 ∷ 32 ∷ []; body = steps; decl = 5; line = 1 } ∷ [];
  forms = [];
}

wide : IsWidth 32
wide = (omega arith, omega arith)

-- The derived statements are these, in rolls.
abbrev is_rolled : (ss : List Stmt) × (ss ≡ steps)
is_rolled = (
  _,
  rolled.parts (rolled.assign 1 (rolled.local 0))
      (rolled.parts
      (ap stmt.Drop (rolled.array (ap roll-Touch (rolled.touched _ (rolled.fixed (bits_of 32 0)) (rolled.fixed (bits_of 32 0)) (rolled.local 1))))
      ∙ sym (stmt.rolls-Drop _))
      (rolled.parts
      (rolled.choose (rolled.cmp Eq (rolled.local 0) (rolled.fixed (bits_of 32 5)))
      (rolled.parts
      (rolls.generated 1 false refl refl (ap (λ (x : Expr). Some x) (rolls.computed Add (rolled.fixed (bits_of 32 0)) (rolled.fixed (bits_of 32 1)))))
      refl)
      refl)
      refl)),
)

abbrev at_top : Names
at_top =
    called (codes "f") (entry.Event 1 [])
    ∷ called (codes "e") (entry.Event 0 (32 ∷ []))
    ∷ called (codes "m") (entry.Memop plus)
    ∷ called (codes "x") (entry.Array (Global 0) 32)
    ∷ []

abbrev in_handler : Names
in_handler = called (codes "v") (entry.Local 0 (Int 32)) ∷ at_top

abbrev numbered : Numbered
numbered = record { locals = 32 ∷ []; forms = [] }

abbrev numbered_then : Numbered
numbered_then = record { locals = 32 ∷ 32 ∷ []; forms = [] }

is_body : Block None in_handler numbered statements_of (record { steps = steps; ending = Never }) numbered_then
is_body = subst (λ (ss : List Stmt). Block None in_handler numbered statements_of (record { steps = ss; ending = Never }) numbered_then) is_rolled.1 (
    block_rule.declare _ _ _ (Int 32) _ _ _ _ _ _ (types.int _ wide) (typed.local _ _ _ refl)
    (block_rule.goes_on _ _ _ _ _ _ _ _
    (block_rule.array _ _ _ _ _
    (typed.setm _ _ _ _ 32 _ _ _ _ _ refl (typed.free _ _ _ (leaves.of_numbers _ (leaves.number _, tt)) (typed.number _ _ (omega arith))) refl refl (typed.local _ _ _ refl)))
    refl
    (block_rule.goes_on _ _ _ _ _ _ _ _
    (block_rule.choose _ _ _ _ _ _ _ _ _
    (typed.compare 32 _ _ _ _ _ _ refl (leaves.of_leaves _ _ wide (λ all. no_name (codes "v") all.0)) (typed.local _ _ _ refl) (typed.number _ _ (omega arith)))
    (block_rule.alone _ _ _ _ _
    (block_rule.goes_on _ _ _ _ _ _ _ _
    (block_rule.generate _ _ _ _
    (sends.locate _ _ _ 32 _ (sends.call _ _ _ _ _ refl typed.nothing) refl
    (typed.free _ _ _ (leaves.of_numbers _ (leaves.sum _ _ _ _ refl (leaves.number _) (leaves.number _), tt))
    (typed.sum _ _ _ _ _ _ _ refl (typed.number _ _ (omega arith)) (typed.number _ _ (omega arith))))))
    refl
    (block_rule.end _ _))
    (λ is. cc)))
    refl
    (block_rule.end _ _))))

called_few : cases_are_few (s.Array (a.Setm (codes "x") (e.Number 0) (codes "m") (e.Name (codes "y")))) ≡ true
called_few = ap cases_are_few (sym (s.rolls-Array _)) ∙ fold-roll-S _ _ _ cases_of_no cases_of_statement cases_of_choice (S-F.Array _)

are_few : few.Few statements_of
are_few = and_from _ _ (few.declared _ _ _) (and_from _ _ called_few (and_from _ _ (few.alone _ _ (and_from _ _ (few.generated _) refl)) refl))

is_typed : IsTyped (record { decls = decls }) core
is_typed = (
  _,
  made.one_more _ _ _ _ _ _ (rule.global _ _ _ _ _ wide (rule.number _) (omega arith) (omega arith)) refl
      (made.one_more _ _ _ _ _ _
      (rule.memop _ _ _ _ _ _ _ _ _ (types.int _ wide) (types.int _ wide)
      (memop_rule.plain _ _ (memop_rule.returned _ _ (typed.sum _ _ _ _ _ _ _ refl (typed.local _ _ _ refl) (typed.local _ _ _ refl))))
      (shape.plain _ _ _ (shape.two _ _ _ _ _ _ refl (shape.stored _) (shape.argument _) refl))) refl
      (made.one_more _ _ _ _ _ _ (rule.event _ _ (32 ∷ []) _ (types.value _ _ _ _ _ _ _ _ _ (types.int _ wide) (types.none _ _ _))) refl
      (made.one_more _ _ _ _ _ _ (rule.event _ _ [] _ (types.none _ _ _)) refl
      (made.one_more _ _ _ _ _ _
      (rule.handle _ _ _ 0 (32 ∷ []) _ _ _ _ refl refl refl (types.value _ _ _ _ _ _ _ _ _ (types.int _ wide) (types.none _ _ _)) is_body) (rw are_few (simp folds refl))
      (made.done _ _))))),
  refl,
)

-- ---- the order of its array

abbrev ordered : Body
ordered = record { decl = 5; funs = []; body = steps }

in_order : InOrder 1 [] steps
in_order = record { numbering = own_numbers; rises = λ a b less within. less; end = 1; derived = simp ends refl }

is_accepted : IsAccepted core
is_accepted = All-cons (λ (b : Body). InOrder 1 b.funs b.body) ordered [] in_order (All-nil _)

short : length text ≤ most
short = omega arith

pub has_core : ReadAsSpelled → HasCore texts.program core
has_core law = record {
  written = tokens;
  reads = reads;
  source = text;
  expands = expands;
  fits = short;
  tokens = tokens;
  reads_source = reads;
  nests = shallow;
  tree = record { decls = decls };
  spelled = tree_by text tokens law 10 decls decls_are;
  typed = is_typed;
  ordered = is_accepted;
}
