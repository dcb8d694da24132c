-- A program with an array, a memop and a handler that calls the array.
use Rattle.std.proofs.Common.{◌≡◌, ℕ, List, [], ◌∷◌, true, false, None, Some, codes, refl, ap, subst, sym, ◌∙◌, arith}
use Rattle.std.proofs.lemmas.Bool.{and_from}
use Rattle.std.proofs.lemmas.List.Elements.{All-cons, All-nil}
use Rattle.lucid_base.specs.Bits.{bits_of}
use Rattle.lucid_base.specs.declared.array.ArrayName.TheVariants.{Global}
use Rattle.lucid_core.specs.declared.body.Expr.{Expr}
use Rattle.lucid_core.specs.declared.body.Stmt.{Stmt}
use Rattle.lucid_core.specs.declared.body.Stmt.TheVariants as stmt
use Rattle.lucid_core.specs.declared.body.Touch.{Touch, roll-Touch}
use Rattle.lucid_core.specs.declared.body.Expr.TheOpen.{Expr-F, Stmt-F, Touch-F}
use Rattle.lucid_core.specs.declared.body.Expr.TheViews.{roll-Expr, roll-Stmt}
use Rattle.lucid_core.specs.declared.body.Expr.TheFolds.{fold-roll-Expr, fold-roll-Stmt, fold-roll-Touch, map-Expr, map-Stmt, map-Touch}
use Rattle.lucid_core.specs.declared.ending.Ending.TheVariants.{Never}
use Rattle.lucid_core.specs.ExamplePrograms.{drop_value, local, number, plus}
use Rattle.lucid_core.specs.Parts.{CoreParts}
use Rattle.lucid_core.proofs.Folds.{folds}
use Rattle.lucid_effects_spec.specs.Ends.{End, FunEnd, Numbering, ends as ends_walk, expr_end, stmt_end, touch_end}
use Rattle.lucid_effects_spec.specs.Evaluation as walk
use Rattle.lucid_effects_spec.specs.Laws.{own_numbers}
use Rattle.lucid_effects_spec.specs.Order.{Body, InOrder, IsAccepted}
use Rattle.lucid_lex.specs.declared.sign.Sign.TheVariants as sign
use Rattle.lucid_lex.specs.declared.token.Kind.{Kind}
use Rattle.lucid_lex.specs.declared.token.Kind.TheVariants as kind
use Rattle.lucid_lex.specs.declared.token.Token.{Token}
use Rattle.lucid_lex.specs.declared.word.Word.TheVariants as word
use Rattle.lucid_lex.specs.Front.{after_prefix, front_of, name_front, number_front, sign_front}
use Rattle.lucid_lex.specs.Sign.{sign_at}
use Rattle.lucid_lex.specs.Word.{word_in}
use Rattle.lucid_memop.specs.Shape as shape
use Rattle.lucid_parse_tree.specs.declared.tree.A.TheVariants as a
use Rattle.lucid_parse_tree.specs.declared.tree.DeclKind.TheVariants as decl
use Rattle.lucid_parse_tree.specs.declared.tree.E.TheVariants as e
use Rattle.lucid_parse_tree.specs.declared.tree.Infix.TheVariants.{Plus}
use Rattle.lucid_parse_tree.specs.declared.tree.No.TheOpen.{S-F}
use Rattle.lucid_parse_tree.specs.declared.tree.P.{P}
use Rattle.lucid_parse_tree.specs.declared.tree.P.TheVariants as p
use Rattle.lucid_parse_tree.specs.declared.tree.S.{S, fold-roll-S}
use Rattle.lucid_parse_tree.specs.declared.tree.S.TheVariants as s
use Rattle.lucid_parse_tree.specs.declared.tree.Size.TheVariants as size
use Rattle.lucid_parse_tree.specs.declared.tree.Tree.{Tree}
use Rattle.lucid_parse_tree.specs.declared.tree.Ty.{Ty}
use Rattle.lucid_parse_tree.specs.declared.tree.Ty.TheVariants as ty
use Rattle.lucid_types_spec.specs.declared.scope.Entry.TheVariants as entry
use Rattle.lucid_types_spec.specs.declared.scope.ValueType.TheVariants.{Int}
use Rattle.lucid_types_spec.specs.Block.{Block, Numbered}
use Rattle.lucid_types_spec.specs.Block as block
use Rattle.lucid_types_spec.specs.Declaration as rule
use Rattle.lucid_types_spec.specs.Leaves as leaves
use Rattle.lucid_types_spec.specs.Limits.{cases_are_few, cases_of_choice, cases_of_no, cases_of_statement}
use Rattle.lucid_types_spec.specs.Makes.{IsTyped}
use Rattle.lucid_types_spec.specs.Makes as made
use Rattle.lucid_types_spec.specs.Memop as memop
use Rattle.lucid_types_spec.specs.Names.{Names, called}
use Rattle.lucid_types_spec.specs.Typed.{returning}
use Rattle.lucid_types_spec.specs.Typed as typed
use Rattle.lucid_types_spec.specs.Types.{IsWidth}
use Rattle.lucid_types_spec.specs.Types as types
use Rattle.lucid_types_spec.proofs.FewCases as few
use Rattle.lucid_types_spec.proofs.Rolled as rolled
use Rattle.lucid_base.specs.declared.memory_alu.MemArg.TheVariants.{Stored}
use Rattle.lucid_top_words.specs.Words.{Bytes}
use Rattle.lucid_top_laws.proofs.Programs.{Worked}
use Rattle.lucid_top_laws.proofs.ReadingLemmas.{reads_by, tokens_of}
use Rattle.lucid_top_laws.proofs.SpellingLemmas.{spellings}

abbrev pub text : Bytes
text = codes "global Array.t<<32>>x=Array.create(1);memop m(int a,int b){return a+b;}event e(int v);handle e(int v){Array.setm(x,0,m,v);}"

-- ---- its tokens

abbrev token_at : ℕ → ℕ → Kind → Token
token_at start end kind = record { kind = kind; span = record { start = start; end = end } }

abbrev pub tokens : List Token
tokens =
    token_at 0 6 (kind.Word word.Global)
    ∷ token_at 7 12 (kind.Word word.ArrayCalls)
    ∷ token_at 12 13 (kind.Sign sign.Dot)
    ∷ token_at 13 14 kind.Name
    ∷ token_at 14 16 (kind.Sign sign.ShiftLeft)
    ∷ token_at 16 18 (kind.Number 32)
    ∷ token_at 18 20 (kind.Sign sign.ShiftRight)
    ∷ token_at 20 21 kind.Name
    ∷ token_at 21 22 (kind.Sign sign.Equal)
    ∷ token_at 22 27 (kind.Word word.ArrayCalls)
    ∷ token_at 27 28 (kind.Sign sign.Dot)
    ∷ token_at 28 34 kind.Name
    ∷ token_at 34 35 (kind.Sign sign.OpenParen)
    ∷ token_at 35 36 (kind.Number 1)
    ∷ token_at 36 37 (kind.Sign sign.CloseParen)
    ∷ token_at 37 38 (kind.Sign sign.Semicolon)
    ∷ token_at 38 43 (kind.Word word.Memop)
    ∷ token_at 44 45 kind.Name
    ∷ token_at 45 46 (kind.Sign sign.OpenParen)
    ∷ token_at 46 49 (kind.Word word.Int)
    ∷ token_at 50 51 kind.Name
    ∷ token_at 51 52 (kind.Sign sign.Comma)
    ∷ token_at 52 55 (kind.Word word.Int)
    ∷ token_at 56 57 kind.Name
    ∷ token_at 57 58 (kind.Sign sign.CloseParen)
    ∷ token_at 58 59 (kind.Sign sign.OpenBrace)
    ∷ token_at 59 65 (kind.Word word.Return)
    ∷ token_at 66 67 kind.Name
    ∷ token_at 67 68 (kind.Sign sign.Plus)
    ∷ token_at 68 69 kind.Name
    ∷ token_at 69 70 (kind.Sign sign.Semicolon)
    ∷ token_at 70 71 (kind.Sign sign.CloseBrace)
    ∷ token_at 71 76 (kind.Word word.Event)
    ∷ token_at 77 78 kind.Name
    ∷ token_at 78 79 (kind.Sign sign.OpenParen)
    ∷ token_at 79 82 (kind.Word word.Int)
    ∷ token_at 83 84 kind.Name
    ∷ token_at 84 85 (kind.Sign sign.CloseParen)
    ∷ token_at 85 86 (kind.Sign sign.Semicolon)
    ∷ token_at 86 92 (kind.Word word.Handle)
    ∷ token_at 93 94 kind.Name
    ∷ token_at 94 95 (kind.Sign sign.OpenParen)
    ∷ token_at 95 98 (kind.Word word.Int)
    ∷ token_at 99 100 kind.Name
    ∷ token_at 100 101 (kind.Sign sign.CloseParen)
    ∷ token_at 101 102 (kind.Sign sign.OpenBrace)
    ∷ token_at 102 107 (kind.Word word.ArrayCalls)
    ∷ token_at 107 108 (kind.Sign sign.Dot)
    ∷ token_at 108 112 kind.Name
    ∷ token_at 112 113 (kind.Sign sign.OpenParen)
    ∷ token_at 113 114 kind.Name
    ∷ token_at 114 115 (kind.Sign sign.Comma)
    ∷ token_at 115 116 (kind.Number 0)
    ∷ token_at 116 117 (kind.Sign sign.Comma)
    ∷ token_at 117 118 kind.Name
    ∷ token_at 118 119 (kind.Sign sign.Comma)
    ∷ token_at 119 120 kind.Name
    ∷ token_at 120 121 (kind.Sign sign.CloseParen)
    ∷ token_at 121 122 (kind.Sign sign.Semicolon)
    ∷ token_at 122 123 (kind.Sign sign.CloseBrace)
    ∷ []

tokens_are : tokens_of 80 text ≡ Some tokens
unfolding front_of name_front word_in sign_front sign_at number_front after_prefix
tokens_are = refl

-- ---- its tree

abbrev int : Ty
int = ty.Int None

abbrev sum : List S
sum = s.Return (Some (e.Infix Plus (e.Name (codes "a")) (e.Name (codes "b")))) ∷ []

abbrev calls : List S
calls = s.Array (a.Setm (codes "x") (e.Number 0) (codes "m") (e.Name (codes "v"))) ∷ []

abbrev values : List P
values = p.Value int (codes "v") ∷ []

abbrev pub tree : Tree
tree = record {
  decls = record { kind = decl.Global false 32 (codes "x") (size.Number 1); line = 1 }
      ∷ record { kind = decl.Memop (codes "m") (int, codes "a") (int, codes "b") sum; line = 1 }
      ∷ record { kind = decl.Event (codes "e") values; line = 1 }
      ∷ record { kind = decl.Handle (codes "e") values calls; line = 1 }
      ∷ [];
}

-- ---- its core

abbrev pub call : Touch
call = roll-Touch (record { array = Global 0; index = number 0; get = returning 32 Stored; get_arg = number 0; set = plus; set_arg = local 0; answers = false })

abbrev pub steps : List Stmt
steps = drop_value (roll-Expr (Expr-F.Array call)) ∷ []

abbrev pub core : CoreParts
core = record {
  arrays = record { name = codes "x"; width = 32; size = 1 } ∷ [];
  memops = record { name = codes "m"; alu = plus } ∷ [];
  events = record { name = codes "e"; params = 32 ∷ []; handler = Some 0 } ∷ [];
  funs = [];
  handlers = record { event = 0; locals = 32 ∷ []; body = steps; decl = 4; line = 1 } ∷ [];
  forms = [];
}

wide : IsWidth 32
wide = (omega arith, omega arith)

-- The derived statements are these, in rolls.
abbrev is_rolled : (ss : List Stmt) × (ss ≡ steps)
is_rolled = (
  _,
  rolled.parts
      (ap stmt.Drop (rolled.array (ap roll-Touch (rolled.touched _ (rolled.fixed (bits_of 32 0)) (rolled.fixed (bits_of 32 0)) (rolled.local 0))))
      ∙ sym (stmt.rolls-Drop _))
      refl,
)

abbrev at_top : Names
at_top = called (codes "e") (entry.Event 0 (32 ∷ [])) ∷ called (codes "m") (entry.Memop plus) ∷ called (codes "x") (entry.Array (Global 0) 32) ∷ []

abbrev in_handler : Names
in_handler = called (codes "v") (entry.Local 0 (Int 32)) ∷ at_top

abbrev numbered : Numbered
numbered = record { locals = 32 ∷ []; forms = [] }

is_body : Block None in_handler numbered calls (record { steps = steps; ending = Never }) numbered
is_body = subst (λ (ss : List Stmt). Block None in_handler numbered calls (record { steps = ss; ending = Never }) numbered) is_rolled.1 (
    block.goes_on _ _ _ _ _ _ _ _
    (block.array _ _ _ _ _
    (typed.setm _ _ _ _ 32 _ _ _ _ _ refl (typed.free _ _ _ (leaves.of_numbers _ (leaves.number _, tt)) (typed.number _ _ (omega arith))) refl refl (typed.local _ _ _ refl)))
    refl
    (block.end _ _))

called_few : cases_are_few (s.Array (a.Setm (codes "x") (e.Number 0) (codes "m") (e.Name (codes "v")))) ≡ true
called_few = ap cases_are_few (sym (s.rolls-Array _)) ∙ fold-roll-S _ _ _ cases_of_no cases_of_statement cases_of_choice (S-F.Array _)

are_few : few.Few calls
are_few = and_from _ _ called_few refl

is_typed : IsTyped tree core
is_typed = (
  _,
  made.one_more _ _ _ _ _ _ (rule.global _ _ _ _ _ wide (rule.number _) (omega arith) (omega arith)) refl
      (made.one_more _ _ _ _ _ _
      (rule.memop _ _ _ _ _ _ _ _ _ (types.int _ wide) (types.int _ wide) (memop.plain _ _ (memop.returned _ _ (typed.sum _ _ _ _ _ _ _ refl (typed.local _ _ _ refl) (typed.local _ _ _ refl))))
      (shape.plain _ _ _ (shape.two _ _ _ _ _ _ refl (shape.stored _) (shape.argument _) refl))) refl
      (made.one_more _ _ _ _ _ _ (rule.event _ _ (32 ∷ []) _ (types.value _ _ _ _ _ _ _ _ _ (types.int _ wide) (types.none _ _ _))) refl
      (made.one_more _ _ _ _ _ _
      (rule.handle _ _ _ 0 (32 ∷ []) _ _ _ _ refl refl refl (types.value _ _ _ _ _ _ _ _ _ (types.int _ wide) (types.none _ _ _)) is_body) (rw are_few (simp folds refl))
      (made.done _ _)))),
  refl,
)

-- ---- the order of its array

pub expr_ends : (y : Expr-F Expr Stmt Touch) (fs : List FunEnd) (N : Numbering) (c : ℕ) → expr_end (roll-Expr y) fs N c ≡ walk.expr_step ends_walk (map-Expr Expr Stmt Touch End End End expr_end stmt_end touch_end y) fs N c
expr_ends y fs N c = ap (λ (f : End). f fs N c) (fold-roll-Expr End End End (walk.expr_step ends_walk) (walk.stmt_step ends_walk) (walk.touch_step ends_walk) y)

pub stmt_ends : (y : Stmt-F Expr Stmt Touch) (fs : List FunEnd) (N : Numbering) (c : ℕ) → stmt_end (roll-Stmt y) fs N c ≡ walk.stmt_step ends_walk (map-Stmt Expr Stmt Touch End End End expr_end stmt_end touch_end y) fs N c
stmt_ends y fs N c = ap (λ (f : End). f fs N c) (fold-roll-Stmt End End End (walk.expr_step ends_walk) (walk.stmt_step ends_walk) (walk.touch_step ends_walk) y)

pub touch_ends : (y : Touch-F Expr Stmt Touch) (fs : List FunEnd) (N : Numbering) (c : ℕ) → touch_end (roll-Touch y) fs N c ≡ walk.touch_step ends_walk (map-Touch Expr Stmt Touch End End End expr_end stmt_end touch_end y) fs N c
touch_ends y fs N c = ap (λ (f : End). f fs N c) (fold-roll-Touch End End End (walk.expr_step ends_walk) (walk.stmt_step ends_walk) (walk.touch_step ends_walk) y)

pub ruleset ends = (expr_ends, stmt_ends, touch_ends)

abbrev body : Body
body = record { decl = 4; funs = []; body = steps }

in_order : InOrder 1 [] steps
in_order = record { numbering = own_numbers; rises = λ a b less within. less; end = 1; derived = simp ends refl }

is_accepted : IsAccepted core
is_accepted = All-cons (λ (b : Body). InOrder 1 b.funs b.body) body [] in_order (All-nil _)

pub worked : Worked text tokens tree core
worked = record {
  reads = reads_by 80 text tokens tokens_are;
  within = omega arith;
  shallow = refl;
  is_tree = record { written = simp spellings refl; spelled = simp spellings refl; lines = (simp spellings refl, (simp spellings refl, (simp spellings refl, (simp spellings refl, tt)))) };
  typed = is_typed;
  accepted = is_accepted;
}
