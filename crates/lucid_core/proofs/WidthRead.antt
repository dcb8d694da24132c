-- The width that is read off an expression is the answer of the typing rules.
use Rattle.std.proofs.Common.{◌≡◌, ℕ, List, [], ◌∷◌, ◌++◌, Option, None, Some, map, refl, sym, ap, ◌∙◌, nat_eq}
use Rattle.std.specs.List.{list_all}
use Rattle.std.specs.Option.{option_and_then, option_eq, option_or}
use Rattle.lucid_core.specs.declared.body.Expr.{Expr}
use Rattle.lucid_core.specs.declared.body.Stmt.{Stmt}
use Rattle.lucid_core.specs.declared.body.Touch.{Touch}
use Rattle.lucid_core.specs.declared.body.Expr.TheOpen.{Expr-F, Stmt-F, Touch-F}
use Rattle.lucid_core.specs.declared.body.Expr.TheViews.{roll-Expr, roll-Stmt, roll-Touch}
use Rattle.lucid_core.specs.declared.body.Expr.TheFolds.{fold-roll-Expr, fold-roll-Stmt, fold-roll-Touch, map-Expr, map-Stmt, map-Touch}
use Rattle.lucid_core.specs.declared.defs.FunDef.{FunDef}
use Rattle.lucid_core.specs.Scope.{Scope}
use Rattle.lucid_core.specs.Typing as t
use Rattle.lucid_core.specs.Typing.{Answer, Typed, all_typed, answer_of, joined, one_answer, returns_of, touch_answer}
use Rattle.lucid_core.specs.Width as w
use Rattle.lucid_core.specs.Width.{Read, expr_width, first_of, first_return, touch_width}
use Rattle.lucid_core.proofs.TypingRules.{all_rule, assign_rule, bin_rule, call_rule, cast_rule, cmp_rule, drop_rule, gen_rule, hash_rule, holds, if_rule, inlined_rule, local_rule, multi_rule, return_rule, say_rule, touch_rule, un_rule}
use Rattle.lucid_core.proofs.Induction.{Cases, expr_by, opened2}

-- The first of some returns.
abbrev head : List Answer → Option Answer
head [] = None
head (a ∷ rest) = Some a

head_append : (xs ys : List Answer) → option_or (head xs) (head ys) ≡ head (xs ++ ys)
head_append [] ys = refl
head_append (x ∷ xs) ys = refl

-- The one answer of all returns is that of the first.
one_is_first : (rs : List Answer) (a : Answer) → one_answer rs ≡ Some a → option_and_then (λ answer. answer) (head rs) ≡ a
one_is_first [] a h = cc
one_is_first (r ∷ rs) a h = (holds (list_all (option_eq nat_eq r) rs) r a h).1

module _ (s : Scope) where
  abbrev Reads : Typed Answer → Read Answer → Type 0
  Reads typed read = (a : Answer) → typed s ≡ Some a → read s.locals s.funs ≡ a

  abbrev Returns : Typed (List Answer) → Read (Option Answer) → Type 0
  Returns typed read = (rs : List Answer) → typed s ≡ Some rs → read s.locals s.funs ≡ head rs

  abbrev E : Type 0
  E = (e : Expr) × Reads (answer_of e) (expr_width e)

  abbrev S : Type 0
  S = (e : Stmt) × Returns (returns_of e) (first_return e)

  abbrev T : Type 0
  T = (e : Touch) × Reads (touch_answer e) (touch_width e)

  abbrev exprs : List E → List Expr
  exprs es = map (λ (e : E). e.0) es

  abbrev stmts : List S → List Stmt
  stmts es = map (λ (e : S). e.0) es

  abbrev given_trees : List (ℕ × E) → List (ℕ × Expr)
  given_trees gs = map (λ (g : ℕ × E). (g.0, g.1.0)) gs

  block_reads : (es : List S) (rs : List (List Answer)) → all_typed (map returns_of (stmts es)) s ≡ Some rs → first_of (map first_return (stmts es)) s.locals s.funs ≡ head (joined rs)
  block_reads [] rs h = let e : rs ≡ [] = cc in ap (λ (q : List (List Answer)). head (joined q)) (sym e)
  block_reads (e ∷ es) rs h =
      let rule = all_rule s (returns_of e.0) (map returns_of (stmts es)) rs h in
      rw (e.1 rule.0 rule.1, block_reads es rule.2.0 rule.2.1) (head_append rule.0 (joined rule.2.0) ∙ ap (λ (q : List (List Answer)). head (joined q)) (sym rule.2.2))

  abbrev expr_tree : Expr-F E S T → Expr-F Expr Stmt Touch
  expr_tree = map-Expr E S T Expr Stmt Touch (λ e. e.0) (λ e. e.0) (λ e. e.0)

  abbrev touch_tree : Touch-F E S T → Touch-F Expr Stmt Touch
  touch_tree = map-Touch E S T Expr Stmt Touch (λ e. e.0) (λ e. e.0) (λ e. e.0)

  abbrev stmt_tree : Stmt-F E S T → Stmt-F Expr Stmt Touch
  stmt_tree = map-Stmt E S T Expr Stmt Touch (λ e. e.0) (λ e. e.0) (λ e. e.0)

  abbrev ExprNode : Expr-F Expr Stmt Touch → Type 0
  ExprNode y = Reads
      (t.expr_step (map-Expr Expr Stmt Touch (Typed Answer) (Typed (List Answer)) (Typed Answer) answer_of returns_of touch_answer y))
      (w.expr_step (map-Expr Expr Stmt Touch (Read Answer) (Read (Option Answer)) (Read Answer) expr_width first_return touch_width y))

  expr_level : (y : Expr-F E S T) → ExprNode (expr_tree y)
  expr_level (Expr-F.Fixed n) a h = cc
  expr_level (Expr-F.Local i) a h = let rule = local_rule s i a h in rule.1 ∙ sym rule.2
  expr_level Expr-F.Now a h = cc
  expr_level Expr-F.Me a h = cc
  expr_level (Expr-F.Un op x) a h = let rule = un_rule s op (answer_of x.0) a h in x.1 (Some rule.0) rule.1 ∙ sym rule.2
  expr_level (Expr-F.Bin op x y) a h = let rule = bin_rule s op (answer_of x.0) (answer_of y.0) a h in x.1 (Some rule.0) rule.1 ∙ sym rule.3
  expr_level (Expr-F.Cmp op x y) a h = sym (cmp_rule s op (answer_of x.0) (answer_of y.0) a h).3
  expr_level (Expr-F.Cast w x) a h = sym (cast_rule s w (answer_of x.0) a h).2
  expr_level (Expr-F.Hash w xs) a h = sym (hash_rule s w (map answer_of (exprs xs)) a h).2
  expr_level (Expr-F.Array t) a h = t.1 a h
  expr_level (Expr-F.Fun k names xs) a h = let rule = call_rule s k names (map answer_of (exprs xs)) a h in ap (option_and_then (λ (f : FunDef). f.answer)) rule.1 ∙ sym rule.4
  expr_level (Expr-F.Inlined given ss) a h =
      let rule = inlined_rule s (map (λ (g : ℕ × Expr). (g.0, answer_of g.1)) (given_trees given)) (map returns_of (stmts ss)) a h in
      ap (option_and_then (λ (answer : Answer). answer)) (block_reads ss rule.returns rule.typed) ∙ one_is_first (joined rule.returns) a rule.answer

  abbrev TouchNode : Touch-F Expr Stmt Touch → Type 0
  TouchNode y = Reads
      (t.touch_step (map-Touch Expr Stmt Touch (Typed Answer) (Typed (List Answer)) (Typed Answer) answer_of returns_of touch_answer y))
      (w.touch_step (map-Touch Expr Stmt Touch (Read Answer) (Read (Option Answer)) (Read Answer) expr_width first_return touch_width y))

  touch_level : (y : Touch-F E S T) → TouchNode (touch_tree y)
  touch_level y a h = sym (touch_rule s (map-Touch Expr Stmt Touch (Typed Answer) (Typed (List Answer)) (Typed Answer) answer_of returns_of touch_answer (touch_tree y)) a h).answer

  abbrev StmtNode : Stmt-F Expr Stmt Touch → Type 0
  StmtNode y = Returns
      (t.stmt_step (map-Stmt Expr Stmt Touch (Typed Answer) (Typed (List Answer)) (Typed Answer) answer_of returns_of touch_answer y))
      (w.stmt_step (map-Stmt Expr Stmt Touch (Read Answer) (Read (Option Answer)) (Read Answer) expr_width first_return touch_width y))

  none : (rs : List Answer) → rs ≡ [] → None ≡ head rs
  none rs e = ap head (sym e)

  stmt_level : (y : Stmt-F E S T) → StmtNode (stmt_tree y)
  stmt_level (Stmt-F.Assign i x) rs h = none rs (assign_rule s i (answer_of x.0) rs h).3
  stmt_level (Stmt-F.Drop x) rs h = none rs (drop_rule s (answer_of x.0) rs h).2
  stmt_level (Stmt-F.If x ss ts) rs h =
      let rule = if_rule s (answer_of x.0) (map returns_of (stmts ss)) (map returns_of (stmts ts)) rs h in
      rw (block_reads ss rule.first rule.typed, block_reads ts rule.second rule.typed_too) (head_append (joined rule.first) (joined rule.second) ∙ ap head (sym rule.returns))
  stmt_level (Stmt-F.Gen event xs None None delay_first) rs h = none rs (gen_rule s event (map answer_of (exprs xs)) None None delay_first rs h).returns
  stmt_level (Stmt-F.Gen event xs None (Some y) delay_first) rs h = none rs (gen_rule s event (map answer_of (exprs xs)) None (Some (answer_of y.0)) delay_first rs h).returns
  stmt_level (Stmt-F.Gen event xs (Some x) None delay_first) rs h = none rs (gen_rule s event (map answer_of (exprs xs)) (Some (answer_of x.0)) None delay_first rs h).returns
  stmt_level (Stmt-F.Gen event xs (Some x) (Some y) delay_first) rs h = none rs (gen_rule s event (map answer_of (exprs xs)) (Some (answer_of x.0)) (Some (answer_of y.0)) delay_first rs h).returns
  stmt_level (Stmt-F.Multi event xs None members) rs h = none rs (multi_rule s event (map answer_of (exprs xs)) None members rs h).returns
  stmt_level (Stmt-F.Multi event xs (Some x) members) rs h = none rs (multi_rule s event (map answer_of (exprs xs)) (Some (answer_of x.0)) members rs h).returns
  stmt_level (Stmt-F.Say form xs) rs h = none rs (say_rule s form (map answer_of (exprs xs)) rs h).2
  stmt_level (Stmt-F.Return None) rs h = let e : rs ≡ None ∷ [] = cc in ap head (sym e)
  stmt_level (Stmt-F.Return (Some x)) rs h = let rule = return_rule s (answer_of x.0) rs h in ap (λ (a : Answer). Some a) (x.1 (Some rule.0) rule.1) ∙ ap head (sym rule.2)

  of_expr : (y : Expr-F E S T) → Reads (answer_of (roll-Expr (expr_tree y))) (expr_width (roll-Expr (expr_tree y)))
  of_expr y = opened2 Reads (fold-roll-Expr (Typed Answer) (Typed (List Answer)) (Typed Answer) t.expr_step t.stmt_step t.touch_step (expr_tree y))
      (fold-roll-Expr (Read Answer) (Read (Option Answer)) (Read Answer) w.expr_step w.stmt_step w.touch_step (expr_tree y)) (expr_level y)

  of_touch : (y : Touch-F E S T) → Reads (touch_answer (roll-Touch (touch_tree y))) (touch_width (roll-Touch (touch_tree y)))
  of_touch y = opened2 Reads (fold-roll-Touch (Typed Answer) (Typed (List Answer)) (Typed Answer) t.expr_step t.stmt_step t.touch_step (touch_tree y))
      (fold-roll-Touch (Read Answer) (Read (Option Answer)) (Read Answer) w.expr_step w.stmt_step w.touch_step (touch_tree y)) (touch_level y)

  of_stmt : (y : Stmt-F E S T) → Returns (returns_of (roll-Stmt (stmt_tree y))) (first_return (roll-Stmt (stmt_tree y)))
  of_stmt y = opened2 Returns (fold-roll-Stmt (Typed Answer) (Typed (List Answer)) (Typed Answer) t.expr_step t.stmt_step t.touch_step (stmt_tree y))
      (fold-roll-Stmt (Read Answer) (Read (Option Answer)) (Read Answer) w.expr_step w.stmt_step w.touch_step (stmt_tree y)) (stmt_level y)

  by_nodes : Cases (λ e. Reads (answer_of e) (expr_width e)) (λ e. Returns (returns_of e) (first_return e)) (λ e. Reads (touch_answer e) (touch_width e))
  by_nodes = record { expr = of_expr; stmt = of_stmt; touch = of_touch }

  pub expr_reads : (e : Expr) → Reads (answer_of e) (expr_width e)
  expr_reads = expr_by by_nodes
