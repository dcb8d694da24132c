-- The program of seed 69426392: its tokens and its tree, computed from the text.
use Rattle.std.proofs.Common.{◌≡◌, ℕ, List, [], ◌∷◌, None, Some, codes, false, refl}
use Rattle.std.specs.Fmt.{digits}
use Rattle.std.specs.Option.{unwrap_or}
use Rattle.lucid_gen.specs.Draws.{times}
use Rattle.lucid_gen.specs.Program.{program_text}
use Rattle.lucid_lex.specs.declared.token.Token.{Token}
use Rattle.lucid_lex.specs.Front.{after_prefix, front_of, name_front, number_front, sign_front}
use Rattle.lucid_lex.specs.Reading.{Reads}
use Rattle.lucid_lex.specs.Sign.{sign_at}
use Rattle.lucid_lex.specs.Word.{word_in}
use Rattle.lucid_parse.specs.Nesting.{too_deep}
use Rattle.lucid_parse.specs.Program.{IsTreeOf, kinds_of}
use Rattle.lucid_parse_spec.specs.Law.{ReadAsSpelled}
use Rattle.lucid_parse_spec.specs.Lexemes.{lexemes_of}
use Rattle.lucid_parse_spec.specs.ReadDeclaration.{parameter, parameters, size, created, global_array, two_parameters, memop, event_declared, handler, declaration}
use Rattle.lucid_parse_spec.specs.ReadExpression.{next_of, next_within, climb, arguments, named, in_parens, array_method, first_name, memop_part, last, last_memop, last_memops, array_with, array_at, array_of, array_call, operand, expression_at, expression, call_arguments, operands, whole_array_call}
use Rattle.lucid_parse_spec.specs.ReadStatement.{event_pair, event_by, event_within, event_at, event, ended_value, ended_arguments, after_its_name, array_statement, returned, generated, simple, statements, block, alternative, condition, choice_within, statement_within, inner_at, body}
use Rattle.lucid_parse_spec.specs.Reader.{repeat, separated, width_end, width, width_if, ty, typed_name, array_type}
use Rattle.lucid_parse_tree.specs.declared.tree.A.TheVariants as a
use Rattle.lucid_parse_tree.specs.declared.tree.C.{roll-C}
use Rattle.lucid_parse_tree.specs.declared.tree.Decl.{Decl}
use Rattle.lucid_parse_tree.specs.declared.tree.DeclKind.TheVariants as decl
use Rattle.lucid_parse_tree.specs.declared.tree.E.{E}
use Rattle.lucid_parse_tree.specs.declared.tree.E.TheVariants as e
use Rattle.lucid_parse_tree.specs.declared.tree.E as trees
use Rattle.lucid_parse_tree.specs.declared.tree.Infix.TheVariants.{Caret, Greater, Plus}
use Rattle.lucid_parse_tree.specs.declared.tree.No.TheVariants as no
use Rattle.lucid_parse_tree.specs.declared.tree.P.{P}
use Rattle.lucid_parse_tree.specs.declared.tree.P.TheVariants as p
use Rattle.lucid_parse_tree.specs.declared.tree.S.{S}
use Rattle.lucid_parse_tree.specs.declared.tree.S.TheVariants as s
use Rattle.lucid_parse_tree.specs.declared.tree.Size.TheVariants as sizes
use Rattle.lucid_parse_tree.specs.declared.tree.Ty.{Ty}
use Rattle.lucid_parse_tree.specs.declared.tree.Ty.TheVariants as types
use Rattle.lucid_parse_tree.specs.declared.tree.V.{V}
use Rattle.lucid_parse_tree.specs.declared.tree.V.TheVariants as v
use Rattle.lucid_top_laws.proofs.ReadingLemmas.{reads_by, tokens_of}
use Rattle.lucid_top_laws.proofs.ParsingLemmas.{decls_of, tree_by}

abbrev pub text : List ℕ
text = program_text 69426392

abbrev pub tokens : List Token
tokens = unwrap_or (tokens_of 1700 text) []

pub reads : Reads text tokens
unfolding times digits front_of name_front word_in sign_front sign_at number_front after_prefix
reads = reads_by 1700 text tokens refl

pub shallow : too_deep (kinds_of tokens) ≡ None
unfolding times digits front_of name_front word_in sign_front sign_at number_front after_prefix
shallow = refl

-- ---- its tree

abbrev pub int : Ty
int = types.Int None

abbrev pub sum : List S
sum = s.Return (Some (e.Infix Plus (e.Name (codes "stored")) (e.Name (codes "x")))) ∷ []

abbrev pub values : List P
values = p.Value int (codes "i") ∷ p.Value int (codes "v") ∷ []

abbrev pub i_name : E
i_name = e.Name (codes "i")

abbrev pub v_name : E
v_name = e.Name (codes "v")

abbrev pub got : List ℕ → S
got n = s.Assign (codes "v") (e.Array (a.Getm n i_name (codes "plus") v_name))

abbrev pub put : List ℕ → S
put n = s.Array (a.Setm n i_name (codes "plus") v_name)

abbrev pub updated : List ℕ → ℕ → S
updated n above = s.Cond (roll-C (record {
  test = e.Infix Greater v_name (e.Number above);
  yes = s.Assign (codes "v") (e.Array (a.Update n i_name (codes "plus") (e.Number 1) (codes "plus") v_name)) ∷ [];
  no = no.Absent;
}))

abbrev pub late : List ℕ → ℕ → V
late n delay = v.Delay (v.Call n (e.Infix Plus i_name (e.Number 1) ∷ v_name ∷ [])) (e.Number delay)

abbrev pub sent_here : List ℕ → ℕ → S
sent_here n delay = s.Generate (late n delay)

abbrev pub sent_across : List ℕ → ℕ → S
sent_across n delay = s.Generate (v.Locate (late n delay) (e.Infix Caret e.Me (e.Number 1)))

abbrev pub body_0 : List S
body_0 = updated (codes "a1") 9 ∷ got (codes "a2") ∷ put (codes "a5") ∷ updated (codes "a6") 59 ∷ sent_across (codes "e0") 17 ∷ []

abbrev pub body_1 : List S
body_1 = put (codes "a1") ∷ got (codes "a4") ∷ sent_across (codes "e4") 37 ∷ []

abbrev pub body_2 : List S
body_2 = updated (codes "a6") 915 ∷ updated (codes "a7") 615 ∷ sent_across (codes "e3") 8 ∷ []

abbrev pub body_3 : List S
body_3 = updated (codes "a1") 998 ∷ put (codes "a6") ∷ sent_across (codes "e1") 58 ∷ []

abbrev pub body_4 : List S
body_4 = got (codes "a0") ∷ sent_across (codes "e5") 91 ∷ []

abbrev pub body_5 : List S
body_5 = got (codes "a0") ∷ updated (codes "a1") 309 ∷ updated (codes "a3") 652 ∷ updated (codes "a4") 726 ∷ got (codes "a6") ∷ sent_here (codes "e7") 64 ∷ []

abbrev pub body_6 : List S
body_6 = updated (codes "a0") 812 ∷ put (codes "a3") ∷ got (codes "a5") ∷ got (codes "a6") ∷ sent_across (codes "e4") 49 ∷ []

abbrev pub body_7 : List S
body_7 = got (codes "a1") ∷ updated (codes "a2") 519 ∷ updated (codes "a3") 731 ∷ updated (codes "a4") 318 ∷ got (codes "a5") ∷ put (codes "a6") ∷ sent_across (codes "e6") 96 ∷ []

abbrev pub decls : List Decl
decls =
    record { kind = decl.Global false 32 (codes "a0") (sizes.Number 22); line = 1 }
    ∷ record { kind = decl.Global false 32 (codes "a1") (sizes.Number 24); line = 2 }
    ∷ record { kind = decl.Global false 32 (codes "a2") (sizes.Number 31); line = 3 }
    ∷ record { kind = decl.Global false 32 (codes "a3") (sizes.Number 28); line = 4 }
    ∷ record { kind = decl.Global false 32 (codes "a4") (sizes.Number 52); line = 5 }
    ∷ record { kind = decl.Global false 32 (codes "a5") (sizes.Number 62); line = 6 }
    ∷ record { kind = decl.Global false 32 (codes "a6") (sizes.Number 51); line = 7 }
    ∷ record { kind = decl.Global false 32 (codes "a7") (sizes.Number 63); line = 8 }
    ∷ record { kind = decl.Memop (codes "plus") (int, codes "stored") (int, codes "x") sum; line = 9 }
    ∷ record { kind = decl.Event (codes "e0") values; line = 10 }
    ∷ record { kind = decl.Event (codes "e1") values; line = 11 }
    ∷ record { kind = decl.Event (codes "e2") values; line = 12 }
    ∷ record { kind = decl.Event (codes "e3") values; line = 13 }
    ∷ record { kind = decl.Event (codes "e4") values; line = 14 }
    ∷ record { kind = decl.Event (codes "e5") values; line = 15 }
    ∷ record { kind = decl.Event (codes "e6") values; line = 16 }
    ∷ record { kind = decl.Event (codes "e7") values; line = 17 }
    ∷ record { kind = decl.Handle (codes "e0") values body_0; line = 18 }
    ∷ record { kind = decl.Handle (codes "e1") values body_1; line = 25 }
    ∷ record { kind = decl.Handle (codes "e2") values body_2; line = 30 }
    ∷ record { kind = decl.Handle (codes "e3") values body_3; line = 35 }
    ∷ record { kind = decl.Handle (codes "e4") values body_4; line = 40 }
    ∷ record { kind = decl.Handle (codes "e5") values body_5; line = 44 }
    ∷ record { kind = decl.Handle (codes "e6") values body_6; line = 52 }
    ∷ record { kind = decl.Handle (codes "e7") values body_7; line = 59 }
    ∷ []

decls_are : decls_of text tokens 40 (lexemes_of text tokens) ≡ Some decls
unfolding times digits front_of name_front word_in sign_front sign_at number_front after_prefix parameter parameters size created global_array two_parameters memop event_declared handler declaration next_of next_within climb arguments named in_parens array_method first_name memop_part last last_memop last_memops array_with array_at array_of array_call operand expression_at expression call_arguments operands whole_array_call event_pair event_by event_within event_at event ended_value ended_arguments after_its_name array_statement returned generated simple statements block alternative condition choice_within statement_within inner_at body repeat separated width_end width width_if ty typed_name array_type trees.out-E denote.Hole.Carrier.out
decls_are = refl

pub is_tree : ReadAsSpelled → IsTreeOf text tokens (record { decls = decls })
is_tree law = tree_by text tokens law 40 decls decls_are
