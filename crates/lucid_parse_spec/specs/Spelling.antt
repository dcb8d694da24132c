-- The spelling of a tree, by the cases of the grammar, as a list of lexemes. Each definition gives the tokens of a part followed by those
-- of the rest, so that parts are put together without joining lists. A number or a name is a lexeme with any content: one that no token
-- has is spelled in no text.
use Rattle.std.specs.Prelude.{ℕ, ◌+◌, Bool, true, false, ◌&&◌, IsTrue, nat_le, if◌then◌else◌, List, [], ◌∷◌, codes, map, Option, Some, None}
use Rattle.std.specs.List.{list_all}
use Rattle.lucid_lex.specs.declared.sign.Sign.{Sign}
use Rattle.lucid_lex.specs.declared.sign.Sign.TheVariants as signs
use Rattle.lucid_lex.specs.declared.word.Word.{Word}
use Rattle.lucid_lex.specs.declared.word.Word.TheVariants as words
use Rattle.lucid_parse_spec.specs.Lexemes.{Lexeme}
use Rattle.lucid_parse_spec.specs.Lexemes as lexemes
use Rattle.lucid_parse_tree.specs.declared.tree.E.{E, fold-E}
use Rattle.lucid_parse_tree.specs.declared.tree.A.{A, fold-A}
use Rattle.lucid_parse_tree.specs.declared.tree.A.TheOpen.{A-F, E-F}
use Rattle.lucid_parse_tree.specs.declared.tree.V.{V, fold-V}
use Rattle.lucid_parse_tree.specs.declared.tree.V.TheOpen.{V-F}
use Rattle.lucid_parse_tree.specs.declared.tree.S.{S, fold-S}
use Rattle.lucid_parse_tree.specs.declared.tree.C.{C, fold-C}
use Rattle.lucid_parse_tree.specs.declared.tree.No.{No, fold-No}
use Rattle.lucid_parse_tree.specs.declared.tree.No.TheOpen.{No-F, S-F, C-F}
use Rattle.lucid_parse_tree.specs.declared.tree.Ty.{Ty}
use Rattle.lucid_parse_tree.specs.declared.tree.Ty.TheVariants as types
use Rattle.lucid_parse_tree.specs.declared.tree.P.{P}
use Rattle.lucid_parse_tree.specs.declared.tree.P.TheVariants as p
use Rattle.lucid_parse_tree.specs.declared.tree.Size.{Size}
use Rattle.lucid_parse_tree.specs.declared.tree.Size.TheVariants as sizes
use Rattle.lucid_parse_tree.specs.declared.tree.Decl.{Decl}
use Rattle.lucid_parse_tree.specs.declared.tree.DeclKind.{DeclKind}
use Rattle.lucid_parse_tree.specs.declared.tree.DeclKind.TheVariants as d
use Rattle.lucid_parse_tree.specs.declared.tree.Tree.{Tree}
use Rattle.lucid_parse_spec.specs.Operators.{pre_sign, infix_sign, disjunction, shift, tightest, level, left_level}

abbrev pub Text : Type 0
Text = List Lexeme

-- the tokens of a part, with the rest behind them
abbrev pub Spelled : Type 0
Spelled = Text → Text

abbrev pub sign : Sign → Spelled
sign s r = lexemes.Sign s ∷ r

abbrev pub word : Word → Spelled
word w r = lexemes.Word w ∷ r

abbrev pub name : List ℕ → Spelled
name n r = lexemes.Name n ∷ r

abbrev pub number : ℕ → Spelled
number n r = lexemes.Number n ∷ r

abbrev pub in_parens : Spelled → Spelled
in_parens f r = sign signs.OpenParen (f (sign signs.CloseParen r))

abbrev pub in_braces : Spelled → Spelled
in_braces f r = sign signs.OpenBrace (f (sign signs.CloseBrace r))

-- parts one behind another
abbrev pub all_of : List Spelled → Spelled
all_of [] r = r
all_of (f ∷ fs) r = f (all_of fs r)

-- a comma before each part
abbrev pub each_after_comma : List Spelled → Spelled
each_after_comma [] r = r
each_after_comma (f ∷ fs) r = sign signs.Comma (f (each_after_comma fs r))

-- commas between the parts
abbrev pub with_commas : List Spelled → Spelled
with_commas [] r = r
with_commas (f ∷ fs) r = f (each_after_comma fs r)

-- `<<NUMBER>>`
abbrev pub width : ℕ → Spelled
width n r = sign signs.ShiftLeft (number n (sign signs.ShiftRight r))

abbrev pub width_if : Option ℕ → Spelled
width_if None r = r
width_if (Some n) r = width n r

abbrev pub ty : Ty → Spelled
ty (types.Int w) r = word words.Int (width_if w r)
ty types.Bool r = word words.Bool r

abbrev pub typed_name : Ty → List ℕ → Spelled
typed_name t n r = ty t (name n r)

-- ---- expressions

-- a call of an array, by its name and arguments
abbrev pub array_call : List ℕ → Spelled → Spelled
array_call method f r = word words.ArrayCalls (sign signs.Dot (name method (in_parens f r)))

-- a memop and its argument, each behind a comma
abbrev pub memop_part : List ℕ → Spelled → Spelled
memop_part n f r = sign signs.Comma (name n (sign signs.Comma (f r)))

abbrev pub spelled_A : A-F Spelled Spelled → Spelled
spelled_A (A-F.Get n i) = array_call (codes "get") (λ r. name n (sign signs.Comma (i r)))
spelled_A (A-F.Set n i x) = array_call (codes "set") (λ r. name n (sign signs.Comma (i (sign signs.Comma (x r)))))
spelled_A (A-F.Getm n i m x) = array_call (codes "getm") (λ r. name n (sign signs.Comma (i (memop_part m x r))))
spelled_A (A-F.Setm n i m x) = array_call (codes "setm") (λ r. name n (sign signs.Comma (i (memop_part m x r))))
spelled_A (A-F.Update n i g x s y) = array_call (codes "update") (λ r. name n (sign signs.Comma (i (memop_part g x (memop_part s y r)))))

abbrev pub spelled_E : E-F Spelled Spelled → Spelled
spelled_E (E-F.Number n) = number n
spelled_E (E-F.Truth b) = word (if b then words.True else words.False)
spelled_E E-F.Me = word words.Me
spelled_E E-F.Time = λ r. word words.SysCalls (sign signs.Dot (name (codes "time") (in_parens (λ q. q) r)))
spelled_E (E-F.Hash w xs) = λ r. word words.Hash (width w (in_parens (with_commas xs) r))
spelled_E (E-F.Name n) = name n
spelled_E (E-F.Call n xs) = λ r. name n (in_parens (with_commas xs) r)
spelled_E (E-F.Array x) = x
spelled_E (E-F.Paren x) = in_parens x
spelled_E (E-F.Prefix op x) = λ r. sign (pre_sign op) (x r)
spelled_E (E-F.Cast w x) = λ r. in_parens (λ q. word words.Int (width_if w q)) (x r)
spelled_E (E-F.Shift x up n) = λ r. x (sign (if up then signs.ShiftLeft else signs.ShiftRight) (number n r))
spelled_E (E-F.Infix op x y) = λ r. x (sign (infix_sign op) (y r))

abbrev pub array_spelled : A → Spelled
array_spelled = fold-A Spelled Spelled spelled_A spelled_E

-- the tokens of an expression
abbrev pub spelled : E → Spelled
spelled = fold-E Spelled Spelled spelled_A spelled_E

-- ---- which expressions the grammar builds

-- whether a part of this level may be at a place for an expression
abbrev pub binds : ℕ → Bool
binds l = nat_le disjunction l

abbrev pub all_bind : List ℕ → Bool
all_bind ls = list_all binds ls

-- whether there is one at least
abbrev pub is_some : {X : Type 0} → List X → Bool
is_some [] = false
is_some (x ∷ xs) = true

-- the level, where the operands are as the grammar has them
abbrev pub level_if : Bool → ℕ → ℕ
level_if b l = if b then l else 0

abbrev pub level_A : A-F ℕ ℕ → ℕ
level_A (A-F.Get n i) = level_if (binds i) tightest
level_A (A-F.Set n i x) = level_if (binds i && binds x) tightest
level_A (A-F.Getm n i m x) = level_if (binds i && binds x) tightest
level_A (A-F.Setm n i m x) = level_if (binds i && binds x) tightest
level_A (A-F.Update n i g x s y) = level_if (binds i && (binds x && binds y)) tightest

abbrev pub level_E : E-F ℕ ℕ → ℕ
level_E (E-F.Number n) = tightest
level_E (E-F.Truth b) = tightest
level_E E-F.Me = tightest
level_E E-F.Time = tightest
level_E (E-F.Hash w ls) = level_if (is_some ls && all_bind ls) tightest
level_E (E-F.Name n) = tightest
level_E (E-F.Call n ls) = level_if (all_bind ls) tightest
level_E (E-F.Array l) = l
level_E (E-F.Paren l) = level_if (binds l) tightest
level_E (E-F.Prefix op l) = level_if (nat_le tightest l) tightest
level_E (E-F.Cast w l) = level_if (nat_le tightest l) tightest
level_E (E-F.Shift l up n) = level_if (nat_le shift l) shift
level_E (E-F.Infix op l m) = level_if (nat_le (left_level op) l && nat_le (level op + 1) m) (level op)

abbrev pub array_level : A → ℕ
array_level = fold-A ℕ ℕ level_A level_E

-- How tightly an expression binds, and 0 where the grammar doesn't build it, since an operand of a looser level
-- has no parentheses round it.
abbrev pub level_of : E → ℕ
level_of = fold-E ℕ ℕ level_A level_E

-- a place for an expression
abbrev pub is_built : E → Bool
is_built x = binds (level_of x)

abbrev pub all_built : List E → Bool
all_built xs = list_all is_built xs

-- ---- the event of a `generate`

abbrev pub spelled_V : V-F Spelled → Spelled
spelled_V (V-F.Paren f) = in_parens f
spelled_V (V-F.Call n xs) = λ r. name n (in_parens (with_commas (map spelled xs)) r)
spelled_V (V-F.Delay f x) = λ r. word words.EventCalls (sign signs.Dot (name (codes "delay") (in_parens (λ q. f (sign signs.Comma (spelled x q))) r)))
spelled_V (V-F.Locate f x) = λ r. word words.EventCalls (sign signs.Dot (name (codes "locate") (in_parens (λ q. f (sign signs.Comma (spelled x q))) r)))

abbrev pub event_spelled : V → Spelled
event_spelled = fold-V Spelled spelled_V

abbrev pub built_V : V-F Bool → Bool
built_V (V-F.Paren b) = b
built_V (V-F.Call n xs) = all_built xs
built_V (V-F.Delay b x) = b && is_built x
built_V (V-F.Locate b x) = b && is_built x

abbrev pub event_built : V → Bool
event_built = fold-V Bool built_V

-- ---- statements

abbrev pub block : List Spelled → Spelled
block fs r = in_braces (all_of fs) r

-- the cases of a match
abbrev pub cases : List (ℕ × List Spelled) → Spelled
cases [] r = r
cases (c ∷ cs) r = sign signs.Or (number c.0 (sign signs.Arrow (block c.1 (cases cs r))))

-- the last arm of a match
abbrev pub last_arm : Option (List Spelled) → Spelled
last_arm None r = r
last_arm (Some fs) r = sign signs.Or (name (codes "_") (sign signs.Arrow (block fs r)))

abbrev pub returned : Option E → Spelled
returned None r = word words.Return (sign signs.Semicolon r)
returned (Some x) r = word words.Return (spelled x (sign signs.Semicolon r))

abbrev pub spelled_No : No-F Spelled Spelled Spelled → Spelled
spelled_No No-F.Absent = λ r. r
spelled_No (No-F.Block fs) = λ r. word words.Else (block fs r)
spelled_No (No-F.«No::Cond» f) = λ r. word words.Else (f r)

abbrev pub spelled_S : S-F Spelled Spelled Spelled → Spelled
spelled_S (S-F.Declare t n x) = λ r. typed_name t n (sign signs.Equal (spelled x (sign signs.Semicolon r)))
spelled_S (S-F.Assign n x) = λ r. name n (sign signs.Equal (spelled x (sign signs.Semicolon r)))
spelled_S (S-F.Call n xs) = λ r. name n (in_parens (with_commas (map spelled xs)) (sign signs.Semicolon r))
spelled_S (S-F.Array x) = λ r. array_spelled x (sign signs.Semicolon r)
spelled_S (S-F.«S::Cond» f) = f
spelled_S (S-F.Return x) = returned x
spelled_S (S-F.Generate v) = λ r. word words.Generate (event_spelled v (sign signs.Semicolon r))
spelled_S (S-F.Printf t xs) = λ r. word words.Printf (in_parens (λ q. lexemes.Text t ∷ each_after_comma (map spelled xs) q) (sign signs.Semicolon r))
spelled_S (S-F.Match x cs last) = λ r. word words.Match (spelled x (word words.With (cases cs (last_arm last r))))

abbrev pub spelled_C : C-F Spelled Spelled Spelled → Spelled
spelled_C c = λ r. word words.If (in_parens (spelled c.test) (block c.yes (c.no r)))

abbrev pub statement_spelled : S → Spelled
statement_spelled = fold-S Spelled Spelled Spelled spelled_No spelled_S spelled_C

abbrev pub choice_spelled : C → Spelled
choice_spelled = fold-C Spelled Spelled Spelled spelled_No spelled_S spelled_C

abbrev pub no_spelled : No → Spelled
no_spelled = fold-No Spelled Spelled Spelled spelled_No spelled_S spelled_C

abbrev pub all_true : List Bool → Bool
all_true bs = list_all (λ b. b) bs

abbrev pub cases_built : List (ℕ × List Bool) → Bool
cases_built cs = list_all (λ c. all_true c.1) cs

abbrev pub last_built : Option (List Bool) → Bool
last_built None = true
last_built (Some bs) = all_true bs

abbrev pub returned_built : Option E → Bool
returned_built None = true
returned_built (Some x) = is_built x

abbrev pub built_No : No-F Bool Bool Bool → Bool
built_No No-F.Absent = true
built_No (No-F.Block bs) = all_true bs
built_No (No-F.«No::Cond» b) = b

abbrev pub built_S : S-F Bool Bool Bool → Bool
built_S (S-F.Declare t n x) = is_built x
built_S (S-F.Assign n x) = is_built x
built_S (S-F.Call n xs) = all_built xs
built_S (S-F.Array x) = binds (array_level x)
built_S (S-F.«S::Cond» b) = b
built_S (S-F.Return x) = returned_built x
built_S (S-F.Generate v) = event_built v
built_S (S-F.Printf t xs) = all_built xs
built_S (S-F.Match x cs last) = is_built x && ((is_some cs && cases_built cs) && last_built last)

abbrev pub built_C : C-F Bool Bool Bool → Bool
built_C c = is_built c.test && (all_true c.yes && c.no)

abbrev pub statement_built : S → Bool
statement_built = fold-S Bool Bool Bool built_No built_S built_C

abbrev pub choice_built : C → Bool
choice_built = fold-C Bool Bool Bool built_No built_S built_C

abbrev pub no_built : No → Bool
no_built = fold-No Bool Bool Bool built_No built_S built_C

-- ---- declarations

-- the type of an array
abbrev pub array_type : Bool → ℕ → Spelled
array_type short w r = word words.ArrayCalls (if short then width w r else sign signs.Dot (name (codes "t") (width w r)))

abbrev pub parameter : P → Spelled
parameter (p.Value t n) r = typed_name t n r
parameter (p.Array short w n) r = array_type short w (name n r)

abbrev pub parameters : List P → Spelled
parameters ps r = in_parens (with_commas (map parameter ps)) r

abbrev pub size : Size → Spelled
size (sizes.Number n) r = number n r
size (sizes.Named n) r = name n r

abbrev pub answer : Option Ty → Spelled
answer None r = word words.Void r
answer (Some t) r = ty t r

abbrev pub body : List S → Spelled
body ss r = block (map statement_spelled ss) r

-- the tokens of a declaration
abbrev pub declaration : DeclKind → Spelled
declaration (d.Const t n v) r = word words.Const (typed_name t n (sign signs.Equal (number v (sign signs.Semicolon r))))
declaration (d.Global short w n s) r = word words.Global (array_type short w (name n (sign signs.Equal (array_call (codes "create") (size s) (sign signs.Semicolon r)))))
declaration (d.Memop n first second ss) r = word words.Memop (name n (in_parens (λ q. typed_name first.0 first.1 (sign signs.Comma (typed_name second.0 second.1 q))) (body ss r)))
declaration (d.Event n ps) r = word words.Event (name n (parameters ps (sign signs.Semicolon r)))
declaration (d.Handle n ps ss) r = word words.Handle (name n (parameters ps (body ss r)))
declaration (d.Fun t n ps ss) r = word words.Fun (answer t (name n (parameters ps (body ss r))))
declaration (d.Group n ms) r = word words.Group (name n (sign signs.Equal (in_braces (with_commas (map number ms)) (sign signs.Semicolon r))))

abbrev pub body_built : List S → Bool
body_built ss = list_all statement_built ss

-- whether the grammar builds the declaration
abbrev pub declaration_built : DeclKind → Bool
declaration_built (d.Const t n v) = true
declaration_built (d.Global short w n s) = true
declaration_built (d.Memop n first second ss) = body_built ss
declaration_built (d.Event n ps) = true
declaration_built (d.Handle n ps ss) = body_built ss
declaration_built (d.Fun t n ps ss) = body_built ss
declaration_built (d.Group n ms) = is_some ms

-- the tokens of declarations one behind another, and of the rest
abbrev pub declarations : List Decl → Spelled
declarations ds r = all_of (map (λ x. declaration x.kind) ds) r

-- the tokens of a program
abbrev pub spell : Tree → Text
spell t = declarations t.decls []

-- the grammar builds all these declarations
abbrev pub all_written : List Decl → Bool
all_written ds = list_all (λ x. declaration_built x.kind) ds

-- the grammar builds the tree
abbrev pub IsWritten : Tree → Type 0
IsWritten t = IsTrue (all_written t.decls)
