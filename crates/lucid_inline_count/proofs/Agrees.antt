-- The findings for the parts of a core are the length of its normal form and the size of its flat form, both capped.
use Rattle.std.proofs.Common.{◌≡◌, ◌⊎◌, inl, inr, ℕ, ◌+◌, ◌*◌, ◌-◌, ◌^◌, ◌<◌, length-append, min, List, [], ◌∷◌, ◌++◌, Bool, true, false, if◌then◌else◌, ◌&&◌, ◌||◌, Option, None, Some, fold, is_some, length, map, option_to_list, refl, sym, ap, ap₂, ◌∙◌, arith, nat_eq, slice_index, slice_index_or, slice_set}
use Rattle.std.specs.Prelude.{option_map}
use Rattle.std.proofs.lemmas.Bool.{and_parts, cases_eq, eq-eqb, ne_eqb}
use Rattle.std.proofs.lemmas.Grind.{get_or-set_at}
use Rattle.std.proofs.lemmas.List.{get_or-set_other, length-map, length-set}
use Rattle.lucid_base.proofs.NumbersLemmas.{is_in_append, nat_eq_swap}
use Rattle.lucid_core.specs.declared.body.Expr.{Expr}
use Rattle.lucid_core.specs.declared.body.Stmt.{Stmt}
use Rattle.lucid_core.specs.declared.body.Touch.{Touch}
use Rattle.lucid_core.specs.declared.body.Expr.TheOpen.{Expr-F, Stmt-F, Touch-F}
use Rattle.lucid_core.specs.declared.body.Expr.TheViews.{roll-Expr, roll-Stmt, roll-Touch}
use Rattle.lucid_core.specs.declared.body.Expr.TheFolds.{fold-roll-Expr, fold-roll-Stmt, fold-roll-Touch, map-Expr, map-Stmt, map-Touch}
use Rattle.lucid_core.specs.Length as l
use Rattle.lucid_core.specs.Length.{Around, Measure, Piece, any_changes, expr_measure, stmt_piece, total_ops, touch_measure, with_held}
use Rattle.lucid_base.specs.Numbers.{is_in}
use Rattle.lucid_core.specs.Numbers.{all_hold}
use Rattle.lucid_core.specs.OutCount.{Count, total as sum}
use Rattle.lucid_core.specs.Syntax as c
use Rattle.lucid_core.specs.Syntax.{is_core_expr, is_core_stmt, is_core_touch}
use Rattle.lucid_core.proofs.Fine.{both_pass}
use Rattle.lucid_core.proofs.Induction.{Cases, body_by, opened4}
use Rattle.lucid_inline_spec.proofs.Kept.{or_false}
use Rattle.lucid_inline_spec.proofs.Outs.{total-append}
use Rattle.lucid_inline_spec.specs.Counts as z
use Rattle.lucid_inline_spec.specs.Counts.{expr_size, stmt_size, touch_size}
use Rattle.lucid_inline_count.specs.declared.counts.Counts.{Counts}
use Rattle.lucid_inline_count.specs.Found as t
use Rattle.lucid_inline_count.specs.Found.{ExprTally, Round, Tally, expr_found, group, held_with, joined, names_of, one_more, ops, stmt_tally, total, touch_found}
use Rattle.lucid_inline_count.specs.Counts.{capped, counted, counts_at, plus}
use Rattle.lucid_inline_count.proofs.Joining.{count_alike}

-- Both numbers, capped.
unfoldable pub both : ℕ → ℕ → Counts
both length size = counted (capped length) (capped size)

-- The counts of functions, capped, beside their lengths and sizes.
pub record Known (funs : List Counts) (lengths sizes : List ℕ) : Type 0 where
  pub at : (k : ℕ) → counts_at funs k ≡ both (slice_index lengths k) (slice_index sizes k)

-- The same functions, and the same locals held.
pub record Alike (r : Round) (a : Around) (sizes : List ℕ) : Type 0 where
  pub funs : Known r.funs a.funs sizes
  pub locals : a.locals ≡ length r.held
  pub held : (i : ℕ) → i < length r.held → slice_index_or r.held i false ≡ a.held i

pub record Agrees (x : ExprTally) (m : Measure) (size : Count) : Type 0 where
  pub counts : (funs : List Counts) (a : Around) (sizes : List ℕ) → Known funs a.funs sizes → x.counts funs ≡ both (m.ops a) (size sizes)
  pub needs_move : x.needs_move ≡ m.needs_move

abbrev sets_it : Option ℕ → ℕ → Bool
sets_it None k = false
sets_it (Some i) k = nat_eq k i

pub record Tallies (x : Tally) (m : Piece) (size : Count) : Type 0 where
  pub counts : (r : Round) (a : Around) (sizes : List ℕ) → Alike r a sizes → x.counts r ≡ both (m.ops a) (size sizes)
  pub names : (i : ℕ) → is_in i x.names ≡ m.changes i
  pub sets : (i : ℕ) → m.sets i ≡ sets_it x.sets i
  pub returns : x.returns ≡ m.returns
  pub value : x.value ≡ m.value

abbrev ExprAgrees : ExprTally → Measure → Count → Bool → Type 0
ExprAgrees x m size core = core ≡ true → Agrees x m size

abbrev StmtAgrees : Tally → Piece → Count → Bool → Type 0
StmtAgrees x m size core = core ≡ true → Tallies x m size

abbrev E : Type 0
E = (e : Expr) × ExprAgrees (expr_found e) (expr_measure e) (expr_size e) (is_core_expr e)

abbrev S : Type 0
S = (e : Stmt) × StmtAgrees (stmt_tally e) (stmt_piece e) (stmt_size e) (is_core_stmt e)

abbrev T : Type 0
T = (e : Touch) × ExprAgrees (touch_found e) (touch_measure e) (touch_size e) (is_core_touch e)

abbrev exprs : List E → List Expr
exprs es = map (λ (e : E). e.0) es

abbrev stmts : List S → List Stmt
stmts es = map (λ (e : S). e.0) es

plus_both : (m n p q : ℕ) → plus (both m n) (both p q) ≡ both (m + p) (n + q)
unfolding both
plus_both m n p q = ap₂ counted (at m p) (at n q)
  where
    at : (a b : ℕ) → min (capped a + capped b) (2 ^ 64 - 1) ≡ capped (a + b)
    at a b = omega arith

plus_some : (m n p q : ℕ) → plus (both m n) (counted p q) ≡ both (m + p) (n + q)
unfolding both
plus_some m n p q = ap₂ counted (at m p) (at n q)
  where
    at : (a b : ℕ) → min (capped a + b) (2 ^ 64 - 1) ≡ capped (a + b)
    at a b = omega arith

-- One part after another, and more after a part.
behind : {x y : Counts} (m n p q : ℕ) → x ≡ both m n → y ≡ both p q → plus x y ≡ both (m + p) (n + q)
behind m n p q e f = ap₂ plus e f ∙ plus_both m n p q

more : {x : Counts} (m n p q : ℕ) → x ≡ both m n → plus x (counted p q) ≡ both (m + p) (n + q)
more m n p q e = ap (λ (c : Counts). plus c (counted p q)) e ∙ plus_some m n p q

-- The same numbers, added in another way.
same : {x : Counts} (m n p q : ℕ) → x ≡ both m n → m ≡ p → n ≡ q → x ≡ both p q
same m n p q e f g = e ∙ ap₂ both f g

none : counted 0 0 ≡ both 0 0
unfolding both
none = ap₂ counted (omega arith) (omega arith)

abbrev ops_of : List E → Around → ℕ
ops_of es a = total_ops (map expr_measure (exprs es)) a

abbrev size_of : List E → List ℕ → ℕ
size_of es sizes = sum (map expr_size (exprs es)) sizes

totals : (es : List E) → all_hold (map is_core_expr (exprs es)) ≡ true → (x : Counts) (m n : ℕ) → x ≡ both m n → (funs : List Counts) (a : Around) (sizes : List ℕ) → Known funs a.funs sizes →
    fold (λ so_far y. plus so_far (y.counts funs)) x (map expr_found (exprs es)) ≡ both (m + ops_of es a) (n + size_of es sizes)
totals [] core x m n e funs a sizes known = same _ _ _ _ e (omega arith) (omega arith)
totals (y ∷ es) core x m n e funs a sizes known =
    let parts = and_parts _ _ core in
    same _ _ _ _ (totals es parts.1 (plus x ((expr_found y.0).counts funs)) (m + (expr_measure y.0).ops a) (n + expr_size y.0 sizes) (behind _ _ _ _ e ((y.1 parts.0).counts funs a sizes known)) funs a sizes known) (omega arith) (omega arith)

total_is : (es : List E) → all_hold (map is_core_expr (exprs es)) ≡ true → (funs : List Counts) (a : Around) (sizes : List ℕ) → Known funs a.funs sizes →
    total (map expr_found (exprs es)) funs ≡ both (ops_of es a) (size_of es sizes)
total_is es core funs a sizes known = same _ _ _ _ (totals es core (counted 0 0) 0 0 none funs a sizes known) (omega arith) (omega arith)

abbrev expr_tree : Expr-F E S T → Expr-F Expr Stmt Touch
expr_tree = map-Expr E S T Expr Stmt Touch (λ e. e.0) (λ e. e.0) (λ e. e.0)

abbrev touch_tree : Touch-F E S T → Touch-F Expr Stmt Touch
touch_tree = map-Touch E S T Expr Stmt Touch (λ e. e.0) (λ e. e.0) (λ e. e.0)

abbrev stmt_tree : Stmt-F E S T → Stmt-F Expr Stmt Touch
stmt_tree = map-Stmt E S T Expr Stmt Touch (λ e. e.0) (λ e. e.0) (λ e. e.0)

abbrev ExprLevel : Expr-F Expr Stmt Touch → Type 0
ExprLevel y = ExprAgrees (t.expr_step (map-Expr Expr Stmt Touch ExprTally Tally ExprTally expr_found stmt_tally touch_found y))
    (l.expr_step (map-Expr Expr Stmt Touch Measure Piece Measure expr_measure stmt_piece touch_measure y))
    (z.expr_step (map-Expr Expr Stmt Touch Count Count Count expr_size stmt_size touch_size y))
    (c.not_inlined (map-Expr Expr Stmt Touch Bool Bool Bool is_core_expr is_core_stmt is_core_touch y))

abbrev StmtLevel : Stmt-F Expr Stmt Touch → Type 0
StmtLevel y = StmtAgrees (t.stmt_step (map-Stmt Expr Stmt Touch ExprTally Tally ExprTally expr_found stmt_tally touch_found y))
    (l.stmt_step (map-Stmt Expr Stmt Touch Measure Piece Measure expr_measure stmt_piece touch_measure y))
    (z.stmt_step (map-Stmt Expr Stmt Touch Count Count Count expr_size stmt_size touch_size y))
    (c.any_stmt (map-Stmt Expr Stmt Touch Bool Bool Bool is_core_expr is_core_stmt is_core_touch y))

abbrev TouchLevel : Touch-F Expr Stmt Touch → Type 0
TouchLevel y = ExprAgrees (t.touch_step (map-Touch Expr Stmt Touch ExprTally Tally ExprTally expr_found stmt_tally touch_found y))
    (l.touch_step (map-Touch Expr Stmt Touch Measure Piece Measure expr_measure stmt_piece touch_measure y))
    (z.touch_step (map-Touch Expr Stmt Touch Count Count Count expr_size stmt_size touch_size y))
    (c.touch_step (map-Touch Expr Stmt Touch Bool Bool Bool is_core_expr is_core_stmt is_core_touch y))

one_operand : (e : E) → is_core_expr e.0 ≡ true → (funs : List Counts) (a : Around) (sizes : List ℕ) → Known funs a.funs sizes →
    plus ((expr_found e.0).counts funs) (counted 1 0) ≡ both ((expr_measure e.0).ops a + 1) (expr_size e.0 sizes + 0)
one_operand e core funs a sizes known = more _ _ 1 0 ((e.1 core).counts funs a sizes known)

two_operands : (e g : E) → is_core_expr e.0 ≡ true → is_core_expr g.0 ≡ true → (funs : List Counts) (a : Around) (sizes : List ℕ) → Known funs a.funs sizes →
    plus (plus ((expr_found e.0).counts funs) ((expr_found g.0).counts funs)) (counted 1 0) ≡ both ((expr_measure e.0).ops a + (expr_measure g.0).ops a + 1) (expr_size e.0 sizes + (expr_size g.0 sizes + 0))
two_operands e g core core2 funs a sizes known = same _ _ _ _ (more _ _ 1 0 (behind _ _ _ _ ((e.1 core).counts funs a sizes known) ((g.1 core2).counts funs a sizes known))) refl (omega arith)

leaf : (m : Measure) (needs_move : Bool) (size : Count) → ((a : Around) → m.ops a ≡ 0) → ((sizes : List ℕ) → size sizes ≡ 0) → needs_move ≡ m.needs_move → Agrees (t.found needs_move (λ funs. counted 0 0)) m size
leaf m needs_move size no_ops no_size e = record { counts = λ funs a sizes known. same _ _ _ _ none (sym (no_ops a)) (sym (no_size sizes)); needs_move = e }

expr_level : (y : Expr-F E S T) → ExprLevel (expr_tree y)
expr_level (Expr-F.Fixed n) core = leaf _ true _ (λ a. refl) (λ ns. refl) refl
expr_level (Expr-F.Local i) core = leaf _ true _ (λ a. refl) (λ ns. refl) refl
expr_level Expr-F.Now core = leaf _ true _ (λ a. refl) (λ ns. refl) refl
expr_level Expr-F.Me core = leaf _ true _ (λ a. refl) (λ ns. refl) refl
expr_level (Expr-F.Un op e) core = record { counts = one_operand e (and_parts _ _ core).0; needs_move = refl }
expr_level (Expr-F.Bin op e g) core = let x = and_parts _ _ core in record { counts = two_operands e g x.0 (and_parts _ _ x.1).0; needs_move = refl }
expr_level (Expr-F.Cmp op e g) core = let x = and_parts _ _ core in record { counts = two_operands e g x.0 (and_parts _ _ x.1).0; needs_move = refl }
expr_level (Expr-F.Cast w e) core = record { counts = one_operand e (and_parts _ _ core).0; needs_move = refl }
expr_level (Expr-F.Hash w es) core = record { counts = λ funs a sizes known. same _ _ _ _ (more _ _ 1 0 (total_is es core funs a sizes known)) refl (omega arith); needs_move = refl }
expr_level (Expr-F.Array e) core = record { counts = λ funs a sizes known. same _ _ _ _ ((e.1 (and_parts _ _ core).0).counts funs a sizes known) refl (omega arith); needs_move = refl }
expr_level (Expr-F.Fun k names es) core = record {
  counts = λ funs a sizes known. same _ _ _ _ (more _ _ 0 1 (behind _ _ _ _ (total_is es core funs a sizes known) (known.at k))) (omega arith) (omega arith);
  needs_move = refl;
}
expr_level (Expr-F.Inlined given es) core = absurd (cc)

touch_level : (y : Touch-F E S T) → TouchLevel (touch_tree y)
touch_level y core =
    let x = and_parts _ _ core in
    let u = and_parts _ _ x.1 in
    let v = and_parts _ _ u.1 in record {
      counts = λ funs a sizes known.
          same _ _ _ _ (more _ _ 1 0 (behind _ _ _ _ (behind _ _ _ _ ((y.index.1 x.0).counts funs a sizes known) ((y.get_arg.1 u.0).counts funs a sizes known)) ((y.set_arg.1 v.0).counts funs a sizes known))) refl (omega arith);
      needs_move = refl;
    }

optional_is : (o : Option E) → all_hold (option_to_list (option_map (λ (e : E). is_core_expr e.0) o)) ≡ true → (funs : List Counts) (a : Around) (sizes : List ℕ) → Known funs a.funs sizes →
    t.optional (option_map (λ (e : E). expr_found e.0) o) funs ≡ both (total_ops (option_to_list (option_map (λ (e : E). expr_measure e.0) o)) a) (sum (option_to_list (option_map (λ (e : E). expr_size e.0) o)) sizes)
optional_is None core funs a sizes known = none
optional_is (Some e) core funs a sizes known = same _ _ _ _ ((e.1 (and_parts _ _ core).0).counts funs a sizes known) (omega arith) (omega arith)

ops-append : (xs ys : List Measure) (a : Around) → total_ops (xs ++ ys) a ≡ total_ops xs a + total_ops ys a
ops-append [] ys a = omega arith
ops-append (x ∷ xs) ys a = let e = ops-append xs ys a in omega arith

plain_tally : (f : List Counts → Counts) (g : Around → ℕ) (size : Count) → ((funs : List Counts) (a : Around) (sizes : List ℕ) → Known funs a.funs sizes → f funs ≡ both (g a) (size sizes)) → Tallies (t.plainly f) (l.plainly g) size
plain_tally f g size h = record { counts = λ r a sizes alike. h r.funs a sizes alike.funs; names = λ i. refl; sets = λ i. refl; returns = refl; value = refl }

-- Behind an assignment.
set_alike : (r : Round) (sets : Option ℕ) (a : Around) (more : ℕ → Bool) (sizes : List ℕ) → ((i : ℕ) → more i ≡ sets_it sets i) → Alike r a sizes → Alike (record r { held = held_with r.held sets }) (with_held a more) sizes
set_alike r None a more sizes is h = record { funs = record { at = h.funs.at }; locals = h.locals; held = λ i l. h.held i l ∙ or_false (a.held i) ∙ ap (λ (b : Bool). a.held i || b) (sym (is i)) }
set_alike r (Some j) a more sizes is h = record {
  funs = record { at = h.funs.at };
  locals = h.locals ∙ sym (length-set r.held j true);
  held = λ i l. let n = length-set r.held j true in at i (omega arith) (cases_eq i j);
}
  where
    or_true : (b : Bool) → true ≡ (b || true)
    or_true true = refl
    or_true false = refl

    at : (i : ℕ) → i < length r.held → (i ≡ j) ⊎ (i ≡ j → ⊥) → slice_index_or (slice_set r.held j true) i false ≡ (a.held i || more i)
    at i l (inl e) = get_or-set_at r.held j i true false e (omega arith) ∙ or_true (a.held i) ∙ ap (λ (b : Bool). a.held i || b) (sym (is i ∙ eq-eqb i j e))
    at i l (inr ne) = get_or-set_other r.held j i true false ne ∙ h.held i l ∙ or_false (a.held i) ∙ ap (λ (b : Bool). a.held i || b) (sym (is i ∙ ne_eqb i j ne))

abbrev block_ops_of : List S → Around → ℕ
block_ops_of es a = l.block_ops (map stmt_piece (stmts es)) a

abbrev block_size_of : List S → List ℕ → ℕ
block_size_of es sizes = sum (map stmt_size (stmts es)) sizes

blocks : (es : List S) → all_hold (map is_core_stmt (stmts es)) ≡ true → (x : Counts) (m n : ℕ) → x ≡ both m n → (r : Round) (a : Around) (sizes : List ℕ) → Alike r a sizes →
    (fold (one_more r.funs) (record { counts = x; held = r.held }) (map stmt_tally (stmts es))).counts ≡ both (m + block_ops_of es a) (n + block_size_of es sizes)
blocks [] core x m n e r a sizes alike = same _ _ _ _ e (omega arith) (omega arith)
blocks (y ∷ es) core x m n e r a sizes alike =
    let parts = and_parts _ _ core in
    let own = y.1 parts.0 in
    let piece = stmt_piece y.0 in
    let after = set_alike r (stmt_tally y.0).sets a piece.sets sizes own.sets alike in
    same _ _ _ _ (blocks es parts.1 (plus x ((stmt_tally y.0).counts r)) (m + piece.ops a) (n + stmt_size y.0 sizes) (behind _ _ _ _ e (own.counts r a sizes alike)) (record r { held = held_with r.held (stmt_tally y.0).sets }) (with_held a piece.sets) sizes after)
    (omega arith) (omega arith)

block_is : (es : List S) → all_hold (map is_core_stmt (stmts es)) ≡ true → (r : Round) (a : Around) (sizes : List ℕ) → Alike r a sizes → t.block_counts (map stmt_tally (stmts es)) r ≡ both (block_ops_of es a) (block_size_of es sizes)
block_is es core r a sizes alike = same _ _ _ _ (blocks es core (counted 0 0) 0 0 none r a sizes alike) (omega arith) (omega arith)

names_are : (es : List S) → all_hold (map is_core_stmt (stmts es)) ≡ true → (i : ℕ) → is_in i (names_of (map stmt_tally (stmts es))) ≡ any_changes (map stmt_piece (stmts es)) i
names_are [] core i = refl
names_are (x ∷ es) core i =
    let parts = and_parts _ _ core in
    is_in_append i (stmt_tally x.0).names (names_of (map stmt_tally (stmts es))) ∙ ap₂ (λ (a b : Bool). a || b) ((x.1 parts.0).names i) (names_are es parts.1 i)

returns_are : (es : List S) → all_hold (map is_core_stmt (stmts es)) ≡ true → t.any_returns (map stmt_tally (stmts es)) ≡ l.any_returns (map stmt_piece (stmts es))
returns_are [] core = refl
returns_are (x ∷ es) core = let parts = and_parts _ _ core in ap₂ (λ (a b : Bool). a || b) (x.1 parts.0).returns (returns_are es parts.1)

value_is : (es : List S) → all_hold (map is_core_stmt (stmts es)) ≡ true → t.any_value (map stmt_tally (stmts es)) ≡ l.any_value (map stmt_piece (stmts es))
value_is [] core = refl
value_is (x ∷ es) core = let parts = and_parts _ _ core in ap₂ (λ (a b : Bool). a || b) (x.1 parts.0).value (value_is es parts.1)

joins_are : (es gs : List S) → all_hold (map is_core_stmt (stmts es)) ≡ true → all_hold (map is_core_stmt (stmts gs)) ≡ true → (r : Round) (a : Around) (sizes : List ℕ) → Alike r a sizes →
    counted (t.joins (t.any_returns (map stmt_tally (stmts es)) || t.any_returns (map stmt_tally (stmts gs))) (t.any_value (map stmt_tally (stmts es)) && t.any_value (map stmt_tally (stmts gs))) r.held (names_of (map stmt_tally (stmts es)) ++ names_of (map stmt_tally (stmts gs)))) 0
    ≡ both (l.joins (map stmt_piece (stmts es)) (map stmt_piece (stmts gs)) a) 0
unfolding both
joins_are es gs core core2 r a sizes alike =
    let names = names_of (map stmt_tally (stmts es)) ++ names_of (map stmt_tally (stmts gs)) in
    let changes : (i : ℕ) → Bool = λ i. any_changes (map stmt_piece (stmts es)) i || any_changes (map stmt_piece (stmts gs)) i in
    let held : joined r.held names ≡ l.count_below a.locals (λ i. a.held i && changes i) =
    count_alike (length r.held) _ (λ i. a.held i && changes i) (λ i below. ap₂ (λ (x y : Bool). x && y) (alike.held i below)
    (is_in_append i (names_of (map stmt_tally (stmts es))) (names_of (map stmt_tally (stmts gs))) ∙ ap₂ (λ (x y : Bool). x || y) (names_are es core i) (names_are gs core2 i)))
    ∙ ap (λ (n : ℕ). l.count_below n (λ i. a.held i && changes i)) (sym alike.locals) in
    ap₂ counted (
    ap₂ (λ (x y : Bool). t.joins x y r.held names) (ap₂ (λ (x y : Bool). x || y) (returns_are es core) (returns_are gs core2)) (ap₂ (λ (x y : Bool). x && y) (value_is es core) (value_is gs core2))
    ∙ at (l.any_returns (map stmt_piece (stmts es)) || l.any_returns (map stmt_piece (stmts gs))) (l.any_value (map stmt_piece (stmts es)) && l.any_value (map stmt_piece (stmts gs))) _ _ held
    ) (omega arith)
  where
    at : (x y : Bool) (m n : ℕ) → m ≡ n → (if x then (if y then 2 else 0) else capped (2 * m)) ≡ capped (if x then (if y then 2 else 0) else 2 * n)
    at true true m n e = omega arith
    at true false m n e = omega arith
    at false y m n e = ap (λ (k : ℕ). capped (2 * k)) e

gen_level : (event : ℕ) (es : List E) (d u : Option E) (b : Bool) → StmtAgrees
    (t.stmt_step (Stmt-F.Gen event (map expr_found (exprs es)) (option_map (λ (e : E). expr_found e.0) d) (option_map (λ (e : E). expr_found e.0) u) b))
    (l.stmt_step (Stmt-F.Gen event (map expr_measure (exprs es)) (option_map (λ (e : E). expr_measure e.0) d) (option_map (λ (e : E). expr_measure e.0) u) b))
    (z.stmt_step (Stmt-F.Gen event (map expr_size (exprs es)) (option_map (λ (e : E). expr_size e.0) d) (option_map (λ (e : E). expr_size e.0) u) b))
    (c.any_stmt (Stmt-F.Gen event (map is_core_expr (exprs es)) (option_map (λ (e : E). is_core_expr e.0) d) (option_map (λ (e : E). is_core_expr e.0) u) b))
gen_level event es d u b core =
    let one = both_pass (λ (x : Bool). x) (map is_core_expr (exprs es) ++ option_to_list (option_map (λ (e : E). is_core_expr e.0) d)) (option_to_list (option_map (λ (e : E). is_core_expr e.0) u)) core in
    let other = both_pass (λ (x : Bool). x) (map is_core_expr (exprs es)) (option_to_list (option_map (λ (e : E). is_core_expr e.0) d)) one.0 in
    let mds = option_to_list (option_map (λ (e : E). expr_measure e.0) d) in
    let mus = option_to_list (option_map (λ (e : E). expr_measure e.0) u) in
    let sds = option_to_list (option_map (λ (e : E). expr_size e.0) d) in
    let sus = option_to_list (option_map (λ (e : E). expr_size e.0) u) in
    plain_tally _ _ _ (λ funs a sizes known.
    let m1 = ops-append (map expr_measure (exprs es) ++ mds) mus a in
    let m2 = ops-append (map expr_measure (exprs es)) mds a in
    let s1 = total-append (map expr_size (exprs es) ++ sds) sus sizes in
    let s2 = total-append (map expr_size (exprs es)) sds sizes in
    same _ _ _ _ (more _ _ 1 1 (behind _ _ _ _ (behind _ _ _ _ (total_is es other.0 funs a sizes known) (optional_is d other.1 funs a sizes known)) (optional_is u one.1 funs a sizes known)))
    (omega (arith, m1, m2)) (omega (arith, s1, s2)))

multi_level : (event : ℕ) (es : List E) (d : Option E) (members : List ℕ) → StmtAgrees
    (t.stmt_step (Stmt-F.Multi event (map expr_found (exprs es)) (option_map (λ (e : E). expr_found e.0) d) members))
    (l.stmt_step (Stmt-F.Multi event (map expr_measure (exprs es)) (option_map (λ (e : E). expr_measure e.0) d) members))
    (z.stmt_step (Stmt-F.Multi event (map expr_size (exprs es)) (option_map (λ (e : E). expr_size e.0) d) members))
    (c.any_stmt (Stmt-F.Multi event (map is_core_expr (exprs es)) (option_map (λ (e : E). is_core_expr e.0) d) members))
multi_level event es d members core =
    let other = both_pass (λ (x : Bool). x) (map is_core_expr (exprs es)) (option_to_list (option_map (λ (e : E). is_core_expr e.0) d)) core in
    let mds = option_to_list (option_map (λ (e : E). expr_measure e.0) d) in
    let sds = option_to_list (option_map (λ (e : E). expr_size e.0) d) in
    let m1 = length-append (map expr_measure (exprs es)) mds in
    let m2 = length-map (exprs es) expr_measure in
    let s1 = length-append (map expr_size (exprs es)) sds in
    let s2 = length-map (exprs es) expr_size in
    let f = length-map (exprs es) expr_found in
    let em = held_by (λ (e : E). expr_measure e.0) d in
    let es2 = held_by (λ (e : E). expr_size e.0) d in
    plain_tally _ _ _ (λ funs a sizes known.
    let m = ops-append (map expr_measure (exprs es)) mds a in
    let s = total-append (map expr_size (exprs es)) sds sizes in
    same _ _ _ _ (more _ _ (length members) (length members) (more _ _ delays delays (more _ _ (length (map expr_found (exprs es))) (length (map expr_found (exprs es))) (behind _ _ _ _ (total_is es other.0 funs a sizes known) (optional_is d other.1 funs a sizes known)))))
    (omega (arith, m, m1, m2, f, em)) (omega (arith, s, s1, s2, f, es2)))
  where
    delays : ℕ
    delays = if is_some (option_map (λ (e : E). expr_found e.0) d) then 1 else 0

    held_by : {X : Type 0} (f : E → X) (o : Option E) → (if is_some (option_map (λ (e : E). expr_found e.0) o) then 1 else 0) ≡ length (option_to_list (option_map f o))
    held_by f None = refl
    held_by f (Some e) = refl

if_level : (e : E) (es gs : List S) → StmtLevel (Stmt-F.If e.0 (stmts es) (stmts gs))
if_level e es gs core =
    let one = and_parts _ _ core in
    let parts = both_pass (λ (x : Bool). x) (map is_core_stmt (stmts es)) (map is_core_stmt (stmts gs)) one.1 in
    let own = e.1 one.0 in
    record {
      counts = λ r a sizes alike.
          let s = total-append (map stmt_size (stmts es)) (map stmt_size (stmts gs)) sizes in
          let condition = more _ _ (if (expr_found e.0).needs_move then 1 else 0) 1 (own.counts r.funs a sizes alike.funs) in
          let branches = behind _ _ _ _ (behind _ _ _ _ condition (block_is es parts.0 r a sizes alike)) (block_is gs parts.1 r a sizes alike) in
          same _ _ _ _ (behind _ _ _ _ branches (joins_are es gs parts.0 parts.1 r a sizes alike))
          (ap (λ (b : Bool). (expr_measure e.0).ops a + (if b then 1 else 0) + block_ops_of es a + block_ops_of gs a + l.joins (map stmt_piece (stmts es)) (map stmt_piece (stmts gs)) a) own.needs_move)
          (omega (arith, s));
      names = λ i. is_in_append i (names_of (map stmt_tally (stmts es))) (names_of (map stmt_tally (stmts gs))) ∙ ap₂ (λ (x y : Bool). x || y) (names_are es parts.0 i) (names_are gs parts.1 i);
      sets = λ i. refl;
      returns = ap₂ (λ (x y : Bool). x || y) (returns_are es parts.0) (returns_are gs parts.1);
      value = ap₂ (λ (x y : Bool). x && y) (value_is es parts.0) (value_is gs parts.1);
    }

stmt_level : (y : Stmt-F E S T) → StmtLevel (stmt_tree y)
stmt_level (Stmt-F.Assign i e) core = record {
  counts = λ r a sizes alike. same _ _ _ _ (more _ _ 1 1 ((e.1 (and_parts _ _ core).0).counts r.funs a sizes alike.funs)) refl (omega arith);
  names = λ k. sym (or_false (nat_eq i k)) ∙ nat_eq_swap i k;
  sets = λ k. refl;
  returns = refl;
  value = refl;
}
stmt_level (Stmt-F.Drop e) core = plain_tally _ _ _ (λ funs a sizes known. same _ _ _ _ (more _ _ 0 1 ((e.1 (and_parts _ _ core).0).counts funs a sizes known)) (omega arith) (omega arith))
stmt_level (Stmt-F.If e es gs) core = if_level e es gs core
stmt_level (Stmt-F.Gen event es None None b) core = gen_level event es None None b core
stmt_level (Stmt-F.Gen event es None (Some u) b) core = gen_level event es None (Some u) b core
stmt_level (Stmt-F.Gen event es (Some d) None b) core = gen_level event es (Some d) None b core
stmt_level (Stmt-F.Gen event es (Some d) (Some u) b) core = gen_level event es (Some d) (Some u) b core
stmt_level (Stmt-F.Multi event es None members) core = multi_level event es None members core
stmt_level (Stmt-F.Multi event es (Some d) members) core = multi_level event es (Some d) members core
stmt_level (Stmt-F.Say form es) core = plain_tally _ _ _ (λ funs a sizes known. same _ _ _ _ (more _ _ 1 1 (total_is es core funs a sizes known)) refl (omega arith))
stmt_level (Stmt-F.Return None) core = record { counts = λ r a sizes alike. more _ _ 0 1 none; names = λ i. refl; sets = λ i. refl; returns = refl; value = refl }
stmt_level (Stmt-F.Return (Some e)) core = record {
  counts = λ r a sizes alike. same _ _ _ _ (more _ _ 0 1 ((e.1 (and_parts _ _ core).0).counts r.funs a sizes alike.funs)) (omega arith) (omega arith);
  names = λ i. refl;
  sets = λ i. refl;
  returns = refl;
  value = refl;
}

abbrev OfExpr : Expr → Type 0
OfExpr e = ExprAgrees (expr_found e) (expr_measure e) (expr_size e) (is_core_expr e)

abbrev OfStmt : Stmt → Type 0
OfStmt s = StmtAgrees (stmt_tally s) (stmt_piece s) (stmt_size s) (is_core_stmt s)

abbrev OfTouch : Touch → Type 0
OfTouch u = ExprAgrees (touch_found u) (touch_measure u) (touch_size u) (is_core_touch u)

of_expr : (y : Expr-F E S T) → OfExpr (roll-Expr (expr_tree y))
of_expr y = opened4 ExprAgrees (fold-roll-Expr ExprTally Tally ExprTally t.expr_step t.stmt_step t.touch_step (expr_tree y)) (fold-roll-Expr Measure Piece Measure l.expr_step l.stmt_step l.touch_step (expr_tree y))
    (fold-roll-Expr Count Count Count z.expr_step z.stmt_step z.touch_step (expr_tree y)) (fold-roll-Expr Bool Bool Bool c.not_inlined c.any_stmt c.touch_step (expr_tree y)) (expr_level y)

of_stmt : (y : Stmt-F E S T) → OfStmt (roll-Stmt (stmt_tree y))
of_stmt y = opened4 StmtAgrees (fold-roll-Stmt ExprTally Tally ExprTally t.expr_step t.stmt_step t.touch_step (stmt_tree y)) (fold-roll-Stmt Measure Piece Measure l.expr_step l.stmt_step l.touch_step (stmt_tree y))
    (fold-roll-Stmt Count Count Count z.expr_step z.stmt_step z.touch_step (stmt_tree y)) (fold-roll-Stmt Bool Bool Bool c.not_inlined c.any_stmt c.touch_step (stmt_tree y)) (stmt_level y)

of_touch : (y : Touch-F E S T) → OfTouch (roll-Touch (touch_tree y))
of_touch y = opened4 ExprAgrees (fold-roll-Touch ExprTally Tally ExprTally t.expr_step t.stmt_step t.touch_step (touch_tree y)) (fold-roll-Touch Measure Piece Measure l.expr_step l.stmt_step l.touch_step (touch_tree y))
    (fold-roll-Touch Count Count Count z.expr_step z.stmt_step z.touch_step (touch_tree y)) (fold-roll-Touch Bool Bool Bool c.not_inlined c.any_stmt c.touch_step (touch_tree y)) (touch_level y)

by_nodes : Cases OfExpr OfStmt OfTouch
by_nodes = record { expr = of_expr; stmt = of_stmt; touch = of_touch }

abbrev BlockAgrees : List Stmt → Type 0
BlockAgrees ss = all_hold (map is_core_stmt ss) ≡ true → (r : Round) (a : Around) (sizes : List ℕ) → Alike r a sizes →
    t.block_counts (map stmt_tally ss) r ≡ both (l.block_ops (map stmt_piece ss) a) (sum (map stmt_size ss) sizes)

pub block_agrees : (ss : List Stmt) → BlockAgrees ss
block_agrees = body_by BlockAgrees by_nodes block_is
