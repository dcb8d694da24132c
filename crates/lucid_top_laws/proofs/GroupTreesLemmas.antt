-- The core of a tree that declares no group sends to none: no name in scope is a group, by induction over the derivations.
use Rattle.std.proofs.Common.{◌≡◌, ℕ, List, [], ◌∷◌, ◌++◌, Bool, true, false, ◌&&◌, Option, None, Some, map, refl, ap, ap₂, subst, ◌∙◌, if◌then◌else◌, bytes_eq, option_map, option_to_list}
use Rattle.std.specs.List.{list_all}
use Rattle.std.proofs.lemmas.Bool.{and_from, and_parts}
use Rattle.std.proofs.lemmas.List.Folds.{list_all-append, list_all-map}
use Rattle.lucid_core.specs.declared.body.Expr.{Expr}
use Rattle.lucid_core.specs.declared.body.Expr.TheVariants as expr
use Rattle.lucid_core.specs.declared.body.Stmt.{Stmt}
use Rattle.lucid_core.specs.declared.body.Stmt.TheVariants as stmt
use Rattle.lucid_core.specs.declared.body.Touch.{Touch}
use Rattle.lucid_core.specs.declared.body.Expr.TheOpen.{Expr-F, Stmt-F, Touch-F}
use Rattle.lucid_core.specs.declared.body.Expr.TheViews.{roll-Expr, roll-Stmt, roll-Touch}
use Rattle.lucid_core.specs.declared.body.Expr.TheFolds.{fold-roll-Expr, fold-roll-Stmt, fold-roll-Touch, map-Expr, map-Stmt}
use Rattle.lucid_core.specs.declared.defs.FunDef.{FunDef}
use Rattle.lucid_core.specs.declared.defs.HandlerDef.{HandlerDef}
use Rattle.lucid_core.specs.Numbers.{all_hold}
use Rattle.lucid_core.specs.Parts.{CoreParts}
use Rattle.lucid_core.specs.Syntax.{not_group, touch_step}
use Rattle.lucid_parse_spec.specs.Spelling.{Spelled, all_of, declaration}
use Rattle.lucid_parse_tree.specs.declared.tree.A.{A}
use Rattle.lucid_parse_tree.specs.declared.tree.Decl.{Decl}
use Rattle.lucid_parse_tree.specs.declared.tree.DeclKind.{DeclKind}
use Rattle.lucid_parse_tree.specs.declared.tree.DeclKind.TheVariants as d
use Rattle.lucid_parse_tree.specs.declared.tree.E.{E}
use Rattle.lucid_parse_tree.specs.declared.tree.No.{No}
use Rattle.lucid_parse_tree.specs.declared.tree.P.{P}
use Rattle.lucid_parse_tree.specs.declared.tree.S.{S}
use Rattle.lucid_parse_tree.specs.declared.tree.Tree.{Tree}
use Rattle.lucid_parse_tree.specs.declared.tree.V.{V}
use Rattle.lucid_types_laws.proofs.Lists.{all_end}
use Rattle.lucid_types_spec.specs.declared.body.Body.{Body}
use Rattle.lucid_types_spec.specs.declared.body.Destination.{Destination}
use Rattle.lucid_types_spec.specs.declared.body.Destination.TheVariants.{Here, Switch, Group}
use Rattle.lucid_types_spec.specs.declared.body.Sending.{Sending}
use Rattle.lucid_types_spec.specs.declared.scope.Entry.{Entry}
use Rattle.lucid_types_spec.specs.declared.scope.Entry.TheVariants as entry
use Rattle.lucid_types_spec.specs.declared.scope.Param.{Param}
use Rattle.lucid_types_spec.specs.declared.scope.ValueType.{ValueType}
use Rattle.lucid_types_spec.specs.Block.{Block, Branches, Cases, Numbered, Statement}
use Rattle.lucid_types_spec.specs.Block as body
use Rattle.lucid_types_spec.specs.Declaration.{Declared, Definitions, parts_of, start}
use Rattle.lucid_types_spec.specs.Declaration as decl
use Rattle.lucid_types_spec.specs.Makes.{IsTyped, Makes}
use Rattle.lucid_types_spec.specs.Makes as makes
use Rattle.lucid_types_spec.specs.Names.{Names, seen}
use Rattle.lucid_types_spec.specs.Sends.{Sends, sent}
use Rattle.lucid_types_spec.specs.Sends as sends
use Rattle.lucid_types_spec.specs.Typed.{AllFree, Called, Free, Given, Touched, Typed}
use Rattle.lucid_types_spec.specs.Typed as rule
use Rattle.lucid_types_spec.specs.Types.{Parameters}
use Rattle.lucid_types_spec.specs.Types as params
use Rattle.lucid_top_laws.specs.Groups.{any_expr, has_no_groups, sends_to_no_group}
use Rattle.lucid_top_laws.specs.GroupTrees.{UndeclaredGroupsAreApart, group_spelled_with, is_no_group}
use Rattle.lucid_top_laws.proofs.GroupsLemmas as groups
use Rattle.lucid_top_laws.proofs.GroupsLemmas.{expr_test, touch_test}

-- ---- expressions send nothing

abbrev Plain : Expr → Type 0
Plain c = expr_test c ≡ true

abbrev AllPlain : List Expr → Type 0
AllPlain cs = all_hold (map expr_test cs) ≡ true

node : (y : Expr-F Expr Stmt Touch) {c : Expr} → roll-Expr y ≡ c → any_expr (map-Expr Expr Stmt Touch Bool Bool Bool expr_test sends_to_no_group touch_test y) ≡ true → Plain c
node y is there = subst Plain is (fold-roll-Expr Bool Bool Bool any_expr not_group touch_step y ∙ there)

alone : {a : Bool} → a ≡ true → (a && true) ≡ true
alone h = and_from _ _ h refl

touch_node : (t : Touch-F Expr Stmt Touch) → Plain t.index → Plain t.get_arg → Plain t.set_arg → touch_test (roll-Touch t) ≡ true
touch_node t i x y = fold-roll-Touch Bool Bool Bool any_expr not_group touch_step t ∙ and_from _ _ i (and_from _ _ x (alone y))

zero_is : (w : ℕ) → Plain (rule.zero_of w)
zero_is w = node (Expr-F.Fixed _) (expr.rolls-Fixed _) refl

mutual
  typed : {s : Names} {t : ValueType} {x : E} {c : Expr} → Typed s t x c → Plain c
  typed (rule.number w n fits) = node (Expr-F.Fixed _) (expr.rolls-Fixed _) refl
  typed (rule.truth b) = node (Expr-F.Fixed _) (expr.rolls-Fixed _) refl
  typed rule.me = node Expr-F.Me expr.rolls-Me refl
  typed rule.time = node Expr-F.Now expr.rolls-Now refl
  typed (rule.constant n b is) = node (Expr-F.Fixed _) (expr.rolls-Fixed _) refl
  typed (rule.local n i t is) = node (Expr-F.Local _) (expr.rolls-Local _) refl
  typed (rule.paren t x c of) = typed of
  typed (rule.minus w x c of) = node (Expr-F.Un _ c) (expr.rolls-Un _ _) (alone (typed of))
  typed (rule.tilde w x c of) = node (Expr-F.Un _ c) (expr.rolls-Un _ _) (alone (typed of))
  typed (rule.not x c of) = node (Expr-F.Un _ c) (expr.rolls-Un _ _) (alone (typed of))
  typed (rule.shift w x left k c of) = node (Expr-F.Un _ c) (expr.rolls-Un _ _) (alone (typed of))
  typed (rule.sum w sign op x y c e is of and) = node (Expr-F.Bin op c e) (expr.rolls-Bin _ _ _) (and_from _ _ (typed of) (alone (typed and)))
  typed (rule.logical sign op x y c e is of and) = node (Expr-F.Bin op c e) (expr.rolls-Bin _ _ _) (and_from _ _ (typed of) (alone (typed and)))
  typed (rule.compare w sign op x y c e is ok of and) = node (Expr-F.Cmp op c e) (expr.rolls-Cmp _ _ _) (and_from _ _ (typed of) (alone (typed and)))
  typed (rule.cast w v x c ok of) = node (Expr-F.Cast _ c) (expr.rolls-Cast _ _) (alone (free of))
  typed (rule.hash w v x xs c cs ok of all) = node (Expr-F.Hash w (c ∷ cs)) (expr.rolls-Hash _ _) (and_from _ _ (free of) (all_free all))
  typed (rule.call t n xs c of) = called of
  typed (rule.array w x c of) = node (Expr-F.Array c) (expr.rolls-Array _) (alone (touched of))

  free : {s : Names} {x : E} {w : ℕ} {c : Expr} → Free s x w c → Plain c
  free (rule.free x w c ok of) = typed of

  all_free : {s : Names} {xs : List E} {cs : List Expr} → AllFree s xs cs → AllPlain cs
  all_free rule.none = refl
  all_free (rule.more x xs w c cs of all) = and_from _ _ (free of) (all_free all)

  touched : {s : Names} {x : A} {o : Option ℕ} {c : Touch} → Touched s x o c → touch_test c ≡ true
  touched (rule.get n name w v i j is of) = touch_node _ (free of) (zero_is w) (zero_is w)
  touched (rule.set n name w v i x j c is of value) = touch_node _ (free of) (zero_is w) (typed value)
  touched (rule.getm n m name w v alu i x j c is of memop aw value) = touch_node _ (free of) (typed value) (zero_is w)
  touched (rule.setm n m name w v alu i x j c is of memop aw value) = touch_node _ (free of) (zero_is w) (typed value)
  touched (rule.update n m k name w v one two i x y j c e is of first fw one_value second sw two_value) = touch_node _ (free of) (typed one_value) (typed two_value)

  called : {s : Names} {n : List ℕ} {xs : List E} {t : Option ValueType} {c : Expr} → Called s n xs t c → Plain c
  called (rule.fun n k ps t xs arrays cs is all) = node (Expr-F.Fun k arrays cs) (expr.rolls-Fun _ _ _) (given all)

  given : {s : Names} {ps : List Param} {xs : List E} {arrays : List _} {cs : List Expr} → Given s ps xs arrays cs → AllPlain cs
  given rule.nothing = refl
  given (rule.value t ps x xs arrays c cs of all) = and_from _ _ (typed of) (given all)
  given (rule.array_name w ps n xs name arrays cs is all) = given all

-- ---- names that are no groups

abbrev is_plain : Entry → Bool
is_plain (entry.Group members) = false
is_plain e = true

abbrev AreNoGroups : Names → Type 0
AreNoGroups s = list_all (λ d. is_plain d.entry) s ≡ true

hidden : (x : Entry) (members : List ℕ) → is_plain x ≡ true → Some x ≡ Some (entry.Group members) → ⊥
hidden (entry.Group ms) members h i = cc
hidden (entry.Constant b) members h i = cc
hidden (entry.Array a w) members h i = cc
hidden (entry.Memop m) members h i = cc
hidden (entry.Event k ws) members h i = cc
hidden (entry.Fun k ps t) members h i = cc
hidden (entry.Local k t) members h i = cc

newest : (e : Entry) (members : List ℕ) (same : Bool) (o : Option Entry) → is_plain e ≡ true → (o ≡ Some (entry.Group members) → ⊥) →
    (if same then Some e else o) ≡ Some (entry.Group members) → ⊥
newest e members true o plain older is = hidden e members plain is
newest e members false o plain older is = older is

no_group : (n : List ℕ) (members : List ℕ) (s : Names) → AreNoGroups s → seen n s ≡ Some (entry.Group members) → ⊥
no_group n members [] plain is = cc
no_group n members (e ∷ s) plain is =
    let parts = and_parts _ _ plain in newest e.entry members (bytes_eq e.name n) (seen n s) parts.0 (no_group n members s parts.1) is

parameters : {i j : ℕ} {s k : Names} {ps : List P} {qs : List Param} → Parameters i j s ps qs k → AreNoGroups s → AreNoGroups k
parameters (params.none i j s) plain = plain
parameters (params.value i j s k t v n ps qs ok rest) plain = parameters rest (and_from _ _ refl plain)
parameters (params.array i j s k short w n ps qs ok rest) plain = parameters rest (and_from _ _ refl plain)

-- ---- sends

abbrev MaybePlain : Option Expr → Type 0
MaybePlain o = all_hold (option_to_list (option_map expr_test o)) ≡ true

abbrev NoGroup : Destination → Type 0
NoGroup Here = Unit {0}
NoGroup (Switch c) = Plain c
NoGroup (Group members) = ⊥

record PlainSend (g : Sending) : Type 0 where
  args : AllPlain g.args
  delay : MaybePlain g.delay
  to : NoGroup g.to

plain_send : {s : Names} {x : V} {g : Sending} → Sends s x g → AreNoGroups s → PlainSend g
plain_send (sends.call n i ws xs cs is all) plain = record { args = given all; delay = refl; to = tt }
plain_send (sends.paren x g of) plain = plain_send of plain
plain_send (sends.delay x g y w c of is late) plain = let p = plain_send of plain in record { args = p.args; delay = alone (free late); to = p.to }
plain_send (sends.locate x g y w c of here at) plain = let p = plain_send of plain in record { args = p.args; delay = p.delay; to = free at }
plain_send {s} (sends.group x g n members of here is) plain = absurd (no_group n members s plain is)

-- ---- statements

abbrev Apart : Stmt → Type 0
Apart c = sends_to_no_group c ≡ true

abbrev AllApart : List Stmt → Type 0
AllApart cs = list_all sends_to_no_group cs ≡ true

statement_node : (y : Stmt-F Expr Stmt Touch) {c : Stmt} → roll-Stmt y ≡ c → not_group (map-Stmt Expr Stmt Touch Bool Bool Bool expr_test sends_to_no_group touch_test y) ≡ true → Apart c
statement_node y is there = subst Apart is (fold-roll-Stmt Bool Bool Bool any_expr not_group touch_step y ∙ there)

both : (xs ys : List Bool) → all_hold xs ≡ true → all_hold ys ≡ true → all_hold (xs ++ ys) ≡ true
both xs ys one two = list_all-append (λ b. b) xs ys ∙ and_from _ _ one two

both_apart : (xs ys : List Stmt) → AllApart xs → AllApart ys → AllApart (xs ++ ys)
both_apart xs ys one two = list_all-append sends_to_no_group xs ys ∙ and_from _ _ one two

all_tests : (cs : List Stmt) → AllApart cs → all_hold (map sends_to_no_group cs) ≡ true
all_tests cs h = list_all-map (λ b. b) sends_to_no_group cs ∙ h

gen_node : (event : ℕ) (cs : List Expr) (delay to : Option Expr) (first : Bool) → AllPlain cs → MaybePlain delay → MaybePlain to → Apart (stmt.Gen event cs delay to first)
gen_node event cs None None first args late target =
    statement_node (Stmt-F.Gen event cs None None first) (stmt.rolls-Gen _ _ _ _ _) (both (map expr_test cs ++ []) [] (both (map expr_test cs) [] args refl) refl)
gen_node event cs None (Some t) first args late target =
    statement_node (Stmt-F.Gen event cs None (Some t) first) (stmt.rolls-Gen _ _ _ _ _) (both (map expr_test cs ++ []) (expr_test t ∷ []) (both (map expr_test cs) [] args refl) target)
gen_node event cs (Some e) None first args late target =
    statement_node (Stmt-F.Gen event cs (Some e) None first) (stmt.rolls-Gen _ _ _ _ _) (both (map expr_test cs ++ (expr_test e ∷ [])) [] (both (map expr_test cs) (expr_test e ∷ []) args late) refl)
gen_node event cs (Some e) (Some t) first args late target =
    statement_node (Stmt-F.Gen event cs (Some e) (Some t) first) (stmt.rolls-Gen _ _ _ _ _) (both (map expr_test cs ++ (expr_test e ∷ [])) (expr_test t ∷ []) (both (map expr_test cs) (expr_test e ∷ []) args late) target)

send_node : (event : ℕ) (cs : List Expr) (late : Option Expr) (to : Destination) (first : Bool) → AllPlain cs → MaybePlain late → NoGroup to →
    Apart (sent (record { event = event; args = cs; delay = late; to = to; delay_first = first }))
send_node event cs late Here first args delay to = gen_node event cs late None first args delay refl
send_node event cs late (Switch c) first args delay to = gen_node event cs late (Some c) first args delay (alone to)
send_node event cs late (Group members) first args delay to = absurd to

if_node : (c : Expr) (ss ts : List Stmt) → Plain c → AllApart ss → AllApart ts → AllApart (stmt.If c ss ts ∷ [])
if_node c ss ts test one two =
    alone (statement_node (Stmt-F.If c ss ts) (stmt.rolls-If _ _ _) (and_from _ _ test (both (map sends_to_no_group ss) (map sends_to_no_group ts) (all_tests ss one) (all_tests ts two))))

assign_node : (i : ℕ) (c : Expr) → Plain c → Apart (stmt.Assign i c)
assign_node i c h = statement_node (Stmt-F.Assign i c) (stmt.rolls-Assign _ _) (alone h)

drop_node : (c : Expr) → Plain c → AllApart (stmt.Drop c ∷ [])
drop_node c h = alone (statement_node (Stmt-F.Drop c) (stmt.rolls-Drop _) (alone h))

test_node : (i w n : ℕ) → Plain (body.is_number i w n)
test_node i w n = node (Expr-F.Cmp _ _ _) (expr.rolls-Cmp _ _ _) (and_from _ _ (node (Expr-F.Local i) (expr.rolls-Local _) refl) (alone (node (Expr-F.Fixed _) (expr.rolls-Fixed _) refl)))

mutual
  statement : {a : Option ValueType} {s : Names} {m : Numbered} {x : S} {b : Body} {k : Numbered} → Statement a s m x b k → AreNoGroups s → AllApart b.steps
  statement (body.assign s m n i t x c is of) plain = alone (assign_node i c (typed of))
  statement (body.call s m n xs t c of) plain = drop_node c (called of)
  statement (body.array s m x w c of) plain = drop_node _ (node (Expr-F.Array c) (expr.rolls-Array _) (alone (touched of)))
  statement (body.generate s m x g of) plain = let p = plain_send of plain in alone (send_node g.event g.args g.delay g.to g.delay_first p.args p.delay p.to)
  statement (body.printf s m text xs cs all filled) plain = alone (statement_node (Stmt-F.Say _ cs) (stmt.rolls-Say _ _) (all_free all))
  statement (body.return_nothing s m is) plain = alone (statement_node (Stmt-F.Return None) (stmt.rolls-Return _) refl)
  statement (body.return_value s m t x c is of) plain = alone (statement_node (Stmt-F.Return (Some c)) (stmt.rolls-Return _) (alone (typed of)))
  statement (body.choose s m x ys other c b e k of two) plain = let p = branches two plain in if_node c b.steps e.steps (typed of) p.0 p.1
  statement (body.matched s m x w c y ys last b k of far all) plain = and_from _ _ (assign_node _ c (free of)) (cases all plain)

  block : {a : Option ValueType} {s : Names} {m : Numbered} {xs : List S} {b : Body} {k : Numbered} → Block a s m xs b k → AreNoGroups s → AllApart b.steps
  block (body.end s m) plain = refl
  block (body.declare s m t v n x c xs b k ok of rest) plain = and_from _ _ (assign_node _ c (typed of)) (block rest (and_from _ _ refl plain))
  block (body.goes_on s m x e l xs b k of is rest) plain = both_apart e.steps b.steps (statement of plain) (block rest plain)
  block (body.stops s m x e k of is) plain = statement of plain
  block (body.guards s m x c ys e l xs b k of first is rest) plain = if_node c e.steps b.steps (typed of) (block first plain) (block rest plain)

  branches : {a : Option ValueType} {s : Names} {m : Numbered} {ys : List S} {other : No} {b e : Body} {k : Numbered} → Branches a s m ys other b e k → AreNoGroups s →
      AllApart b.steps × AllApart e.steps
  branches (body.alone s m ys b k of is) plain = (block of plain, refl)
  branches (body.block s m ys b l zs e k of and) plain = (block of plain, block and plain)
  branches (body.chain s m ys b l z e k of and) plain = (block of plain, block and plain)

  cases : {a : Option ValueType} {s : Names} {m : Numbered} {i w : ℕ} {cs : List (ℕ × List S)} {last : Option (List S)} {b : Body} {k : Numbered} →
      Cases a s m i w cs last b k → AreNoGroups s → AllApart b.steps
  cases (body.no_last s m i w) plain = refl
  cases (body.last_arm s m i w zs b k of) plain = block of plain
  cases (body.next s m i w n ys b l cs last e k fits of rest) plain = if_node _ b.steps e.steps (test_node i w n) (block of plain) (cases rest plain)

-- ---- declarations

record AreApart (m : Definitions) : Type 0 where
  names : AreNoGroups m.names
  funs : list_all (λ (f : FunDef). list_all sends_to_no_group f.body) m.funs ≡ true
  handlers : list_all (λ (h : HandlerDef). list_all sends_to_no_group h.body) m.handlers ≡ true

declared : {number line : ℕ} {m l : Definitions} {x : DeclKind} → Declared number line m x l → is_no_group x ≡ true → AreApart m → AreApart l
declared (decl.constant t w n v ok fits) no_groups p = record { names = and_from _ _ refl p.names; funs = p.funs; handlers = p.handlers }
declared (decl.global short w n size k ok is low high) no_groups p = record { names = and_from _ _ refl p.names; funs = p.funs; handlers = p.handlers }
declared (decl.memop t u w n first second ss steps alu ok same of shape) no_groups p = record { names = and_from _ _ refl p.names; funs = p.funs; handlers = p.handlers }
declared (decl.event n ps ws s ok) no_groups p = record { names = and_from _ _ refl p.names; funs = p.funs; handlers = p.handlers }
declared {m = m} (decl.handle n ps ss i ws e s b k is there unhandled ok of) no_groups p =
    record { names = p.names; funs = p.funs; handlers = all_end (λ (h : HandlerDef). list_all sends_to_no_group h.body) m.handlers _ p.handlers (block of (parameters ok p.names)) }
declared {m = m} (decl.fun a n ps ss t qs s b k answers ok of) no_groups p =
    record { names = and_from _ _ refl p.names; funs = all_end (λ (f : FunDef). list_all sends_to_no_group f.body) m.funs _ p.funs (block of (parameters ok p.names)); handlers = p.handlers }
declared (decl.group n members ok) no_groups p = absurd (cc)

made : {number : ℕ} {m k : Definitions} {xs : List Decl} → Makes number m xs k → list_all (λ (x : Decl). is_no_group x.kind) xs ≡ true → AreApart m → AreApart k
made (makes.done number m) no_groups p = p
made (makes.one_more number m l k x xs of kept rest) no_groups p = let parts = and_parts _ _ no_groups in made rest parts.1 (declared of parts.0 p)

typed_apart : (tree : Tree) (core : CoreParts) → list_all (λ (x : Decl). is_no_group x.kind) tree.decls ≡ true → IsTyped tree core → has_no_groups core ≡ true
typed_apart tree core no_groups of =
    let p = made of.1 no_groups (record { names = refl; funs = refl; handlers = refl }) in
    subst (λ (c : CoreParts). has_no_groups c ≡ true) of.2 (and_from _ _ p.funs p.handlers)

-- ---- the spelling

spelled : (other : List ℕ → List ℕ → Spelled) (x : DeclKind) → is_no_group x ≡ true → group_spelled_with other x ≡ declaration x
spelled other (d.Const t n v) there = refl
spelled other (d.Global short w n s) there = refl
spelled other (d.Memop n first second ss) there = refl
spelled other (d.Event n ps) there = refl
spelled other (d.Handle n ps ss) there = refl
spelled other (d.Fun t n ps ss) there = refl
spelled other (d.Group n ms) there = absurd (cc)

all_spelled : (other : List ℕ → List ℕ → Spelled) (xs : List Decl) → list_all (λ (x : Decl). is_no_group x.kind) xs ≡ true →
    map (λ (x : Decl). group_spelled_with other x.kind) xs ≡ map (λ (x : Decl). declaration x.kind) xs
all_spelled other [] there = refl
all_spelled other (x ∷ xs) there = let parts = and_parts _ _ there in ap₂ (λ (f : Spelled) (fs : List Spelled). f ∷ fs) (spelled other x.kind parts.0) (all_spelled other xs parts.1)

pub apart : UndeclaredGroupsAreApart
apart = record {
  spelling = λ other tree there. ap (λ (fs : List Spelled). all_of fs []) (all_spelled other tree.decls there);
  typing = typed_apart;
  step = λ send tree core there of. groups.apart send core (typed_apart tree core there of);
}
