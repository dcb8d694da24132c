-- Prints that fill their texts and have few arguments: the rules on texts and on limits for prints, as one fold.
use Rattle.std.proofs.Common.{◌≡◌, ℕ, List, [], ◌∷◌, ◌++◌, Bool, true, false, ◌&&◌, length, map, None, Some, suc, refl, ap, subst, ◌∙◌, nat_eq, nat_le, slice_get}
use Rattle.std.specs.List.{list_all}
use Rattle.std.specs.Option.{option_map_or}
use Rattle.std.proofs.lemmas.Bool.{and_from, and_parts}
use Rattle.std.proofs.lemmas.List.Folds.{list_all-append}
use Rattle.lucid_core.specs.declared.body.Expr.{Expr}
use Rattle.lucid_core.specs.declared.body.Stmt.{Stmt}
use Rattle.lucid_core.specs.declared.body.Touch.{Touch}
use Rattle.lucid_core.specs.declared.body.Expr.TheOpen.{Expr-F, Stmt-F, Touch-F}
use Rattle.lucid_core.specs.declared.body.Expr.TheViews.{roll-Expr, roll-Stmt, roll-Touch}
use Rattle.lucid_core.specs.declared.body.Expr.TheFolds.{fold-Expr, fold-Stmt, fold-Touch, fold-roll-Expr, fold-roll-Stmt, fold-roll-Touch, map-Expr, map-Stmt, map-Touch}
use Rattle.lucid_core.specs.Children.{stmt_children}
use Rattle.lucid_core.specs.Limits as l
use Rattle.lucid_core.specs.Limits.{expr_limits, stmt_limits, touch_limits, body_keeps_limits}
use Rattle.lucid_core.specs.Texts as x
use Rattle.lucid_core.specs.Texts.{Printed, each_filled, holes_of, expr_texts, stmt_texts, touch_texts, body_fills_texts}
use Rattle.lucid_core.proofs.Fine.{both_pass}
use Rattle.lucid_core.proofs.Induction.{Cases, opened3, stmt_by}

abbrev pub prints_step : Stmt-F Printed Printed Printed → Printed
prints_step (Stmt-F.Say form xs) = λ forms. nat_le (length xs) 8 && option_map_or (λ text. nat_eq (length xs) (holes_of text)) (slice_get forms form) false && each_filled xs forms
prints_step s = each_filled (stmt_children s)

abbrev pub expr_prints : Expr → Printed
expr_prints = fold-Expr Printed Printed Printed x.expr_step prints_step x.touch_step

abbrev pub stmt_prints : Stmt → Printed
stmt_prints = fold-Stmt Printed Printed Printed x.expr_step prints_step x.touch_step

abbrev pub touch_prints : Touch → Printed
touch_prints = fold-Touch Printed Printed Printed x.expr_step prints_step x.touch_step

-- As many of one as of another.
same_count : {X A B : Type 0} (f : X → A) (g : X → B) (xs : List X) → length (map f xs) ≡ length (map g xs)
same_count f g [] = refl
same_count f g (y ∷ ys) = ap suc (same_count f g ys)

module _ (forms : List (List ℕ)) where
  abbrev Filled : Printed → Bool → Printed → Type 0
  Filled texts limits prints = texts forms ≡ true → limits ≡ true → prints forms ≡ true

  abbrev E : Type 0
  E = (e : Expr) × Filled (expr_texts e) (expr_limits e) (expr_prints e)

  abbrev S : Type 0
  S = (e : Stmt) × Filled (stmt_texts e) (stmt_limits e) (stmt_prints e)

  abbrev T : Type 0
  T = (e : Touch) × Filled (touch_texts e) (touch_limits e) (touch_prints e)

  abbrev exprs : List E → List Expr
  exprs es = map (λ (e : E). e.0) es

  abbrev stmts : List S → List Stmt
  stmts es = map (λ (e : S). e.0) es

  abbrev given_trees : List (ℕ × E) → List (ℕ × Expr)
  given_trees gs = map (λ (g : ℕ × E). (g.0, g.1.0)) gs

  abbrev filled : List Printed → Bool
  filled tests = list_all (λ (test : Printed). test forms) tests

  abbrev hold : List Bool → Bool
  hold tests = list_all (λ (test : Bool). test) tests

  exprs_print : (es : List E) → filled (map expr_texts (exprs es)) ≡ true → hold (map expr_limits (exprs es)) ≡ true → filled (map expr_prints (exprs es)) ≡ true
  exprs_print [] texts limits = refl
  exprs_print (e ∷ es) texts limits =
      let text = and_parts _ _ texts in
      let limit = and_parts _ _ limits in
      and_from _ _ (e.1 text.0 limit.0) (exprs_print es text.1 limit.1)

  stmts_print : (es : List S) → filled (map stmt_texts (stmts es)) ≡ true → hold (map stmt_limits (stmts es)) ≡ true → filled (map stmt_prints (stmts es)) ≡ true
  stmts_print [] texts limits = refl
  stmts_print (e ∷ es) texts limits =
      let text = and_parts _ _ texts in
      let limit = and_parts _ _ limits in
      and_from _ _ (e.1 text.0 limit.0) (stmts_print es text.1 limit.1)

  given_print : (gs : List (ℕ × E)) →
      filled (map (λ (g : ℕ × Printed). g.1) (map (λ (g : ℕ × Expr). (g.0, expr_texts g.1)) (given_trees gs))) ≡ true →
      hold (map (λ (g : ℕ × Bool). g.1) (map (λ (g : ℕ × Expr). (g.0, expr_limits g.1)) (given_trees gs))) ≡ true →
      filled (map (λ (g : ℕ × Printed). g.1) (map (λ (g : ℕ × Expr). (g.0, expr_prints g.1)) (given_trees gs))) ≡ true
  given_print [] texts limits = refl
  given_print (g ∷ gs) texts limits =
      let text = and_parts _ _ texts in
      let limit = and_parts _ _ limits in
      and_from _ _ (g.1.1 text.0 limit.0) (given_print gs text.1 limit.1)

  -- Of two lists.
  both_print : (ts us ps qs : List Printed) (ls ms : List Bool) → (filled ts ≡ true → hold ls ≡ true → filled ps ≡ true) → (filled us ≡ true → hold ms ≡ true → filled qs ≡ true) →
      filled (ts ++ us) ≡ true → hold (ls ++ ms) ≡ true → filled (ps ++ qs) ≡ true
  both_print ts us ps qs ls ms first second texts limits =
      let text = both_pass (λ (test : Printed). test forms) ts us texts in
      let limit = both_pass (λ (test : Bool). test) ls ms limits in
      list_all-append (λ (test : Printed). test forms) ps qs ∙ and_from _ _ (first text.0 limit.0) (second text.1 limit.1)

  abbrev expr_tree : Expr-F E S T → Expr-F Expr Stmt Touch
  expr_tree = map-Expr E S T Expr Stmt Touch (λ e. e.0) (λ e. e.0) (λ e. e.0)

  abbrev touch_tree : Touch-F E S T → Touch-F Expr Stmt Touch
  touch_tree = map-Touch E S T Expr Stmt Touch (λ e. e.0) (λ e. e.0) (λ e. e.0)

  abbrev stmt_tree : Stmt-F E S T → Stmt-F Expr Stmt Touch
  stmt_tree = map-Stmt E S T Expr Stmt Touch (λ e. e.0) (λ e. e.0) (λ e. e.0)

  abbrev ExprNode : Expr-F Expr Stmt Touch → Type 0
  ExprNode y = Filled
      (x.expr_step (map-Expr Expr Stmt Touch Printed Printed Printed expr_texts stmt_texts touch_texts y))
      (l.expr_step (map-Expr Expr Stmt Touch Bool Bool Bool expr_limits stmt_limits touch_limits y))
      (x.expr_step (map-Expr Expr Stmt Touch Printed Printed Printed expr_prints stmt_prints touch_prints y))

  expr_level : (y : Expr-F E S T) → ExprNode (expr_tree y)
  expr_level (Expr-F.Fixed b) texts limits = refl
  expr_level (Expr-F.Local i) texts limits = refl
  expr_level Expr-F.Now texts limits = refl
  expr_level Expr-F.Me texts limits = refl
  expr_level (Expr-F.Un op e) texts limits = exprs_print (e ∷ []) texts limits
  expr_level (Expr-F.Bin op e f) texts limits = exprs_print (e ∷ f ∷ []) texts limits
  expr_level (Expr-F.Cmp op e f) texts limits = exprs_print (e ∷ f ∷ []) texts limits
  expr_level (Expr-F.Cast w e) texts limits = exprs_print (e ∷ []) texts limits
  expr_level (Expr-F.Hash w es) texts limits = exprs_print es texts (and_parts _ _ limits).1
  expr_level (Expr-F.Array t) texts limits = and_from _ _ (t.1 (and_parts _ _ texts).0 (and_parts _ _ limits).0) refl
  expr_level (Expr-F.Fun k names es) texts limits = exprs_print es texts limits
  expr_level (Expr-F.Inlined gs es) texts limits = both_print
      (map (λ (g : ℕ × Printed). g.1) (map (λ (g : ℕ × Expr). (g.0, expr_texts g.1)) (given_trees gs))) (map stmt_texts (stmts es))
      (map (λ (g : ℕ × Printed). g.1) (map (λ (g : ℕ × Expr). (g.0, expr_prints g.1)) (given_trees gs))) (map stmt_prints (stmts es))
      (map (λ (g : ℕ × Bool). g.1) (map (λ (g : ℕ × Expr). (g.0, expr_limits g.1)) (given_trees gs))) (map stmt_limits (stmts es))
      (given_print gs) (stmts_print es) texts limits

  abbrev TouchNode : Touch-F Expr Stmt Touch → Type 0
  TouchNode y = Filled
      (x.touch_step (map-Touch Expr Stmt Touch Printed Printed Printed expr_texts stmt_texts touch_texts y))
      (l.touch_step (map-Touch Expr Stmt Touch Bool Bool Bool expr_limits stmt_limits touch_limits y))
      (x.touch_step (map-Touch Expr Stmt Touch Printed Printed Printed expr_prints stmt_prints touch_prints y))

  touch_level : (y : Touch-F E S T) → TouchNode (touch_tree y)
  touch_level y texts limits = exprs_print (y.index ∷ y.get_arg ∷ y.set_arg ∷ []) texts (and_parts _ _ limits).1

  abbrev StmtNode : Stmt-F Expr Stmt Touch → Type 0
  StmtNode y = Filled
      (x.stmt_step (map-Stmt Expr Stmt Touch Printed Printed Printed expr_texts stmt_texts touch_texts y))
      (l.stmt_step (map-Stmt Expr Stmt Touch Bool Bool Bool expr_limits stmt_limits touch_limits y))
      (prints_step (map-Stmt Expr Stmt Touch Printed Printed Printed expr_prints stmt_prints touch_prints y))

  -- Arguments and others behind them.
  with_more : (es fs : List E) → filled (map expr_texts (exprs es) ++ map expr_texts (exprs fs)) ≡ true → hold (map expr_limits (exprs es) ++ map expr_limits (exprs fs)) ≡ true →
      filled (map expr_prints (exprs es) ++ map expr_prints (exprs fs)) ≡ true
  with_more es fs = both_print (map expr_texts (exprs es)) (map expr_texts (exprs fs)) (map expr_prints (exprs es)) (map expr_prints (exprs fs)) (map expr_limits (exprs es)) (map expr_limits (exprs fs))
      (exprs_print es) (exprs_print fs)

  with_two : (es fs gs : List E) → filled ((map expr_texts (exprs es) ++ map expr_texts (exprs fs)) ++ map expr_texts (exprs gs)) ≡ true →
      hold ((map expr_limits (exprs es) ++ map expr_limits (exprs fs)) ++ map expr_limits (exprs gs)) ≡ true →
      filled ((map expr_prints (exprs es) ++ map expr_prints (exprs fs)) ++ map expr_prints (exprs gs)) ≡ true
  with_two es fs gs = both_print (map expr_texts (exprs es) ++ map expr_texts (exprs fs)) (map expr_texts (exprs gs)) (map expr_prints (exprs es) ++ map expr_prints (exprs fs)) (map expr_prints (exprs gs))
      (map expr_limits (exprs es) ++ map expr_limits (exprs fs)) (map expr_limits (exprs gs)) (with_more es fs) (exprs_print gs)

  stmt_level : (y : Stmt-F E S T) → StmtNode (stmt_tree y)
  stmt_level (Stmt-F.Assign i e) texts limits = exprs_print (e ∷ []) texts limits
  stmt_level (Stmt-F.Drop e) texts limits = exprs_print (e ∷ []) texts limits
  stmt_level (Stmt-F.If e es fs) texts limits =
      let text = and_parts _ _ texts in
      let limit = and_parts _ _ limits in
      and_from _ _ (e.1 text.0 limit.0)
      (both_print (map stmt_texts (stmts es)) (map stmt_texts (stmts fs)) (map stmt_prints (stmts es)) (map stmt_prints (stmts fs)) (map stmt_limits (stmts es)) (map stmt_limits (stmts fs))
      (stmts_print es) (stmts_print fs) text.1 limit.1)
  stmt_level (Stmt-F.Gen event es None None delay_first) texts limits = with_two es [] [] texts (and_parts _ _ limits).1
  stmt_level (Stmt-F.Gen event es None (Some f) delay_first) texts limits = with_two es [] (f ∷ []) texts (and_parts _ _ limits).1
  stmt_level (Stmt-F.Gen event es (Some e) None delay_first) texts limits = with_two es (e ∷ []) [] texts (and_parts _ _ limits).1
  stmt_level (Stmt-F.Gen event es (Some e) (Some f) delay_first) texts limits = with_two es (e ∷ []) (f ∷ []) texts (and_parts _ _ limits).1
  stmt_level (Stmt-F.Multi event es None members) texts limits = with_more es [] texts (and_parts _ _ limits).1
  stmt_level (Stmt-F.Multi event es (Some e) members) texts limits = with_more es (e ∷ []) texts (and_parts _ _ limits).1
  stmt_level (Stmt-F.Say form es) texts limits =
      let text = and_parts _ _ texts in
      let limit = and_parts _ _ limits in
      let few = subst (λ n. nat_le n 8 ≡ true) (same_count expr_limits expr_prints (exprs es)) limit.0 in
      let holes = subst (λ n. option_map_or (λ t. nat_eq n (holes_of t)) (slice_get forms form) false ≡ true) (same_count expr_texts expr_prints (exprs es)) text.0 in
      and_from _ _ (and_from _ _ few holes) (exprs_print es text.1 limit.1)
  stmt_level (Stmt-F.Return None) texts limits = refl
  stmt_level (Stmt-F.Return (Some e)) texts limits = exprs_print (e ∷ []) texts limits

  abbrev ExprHolds : Expr → Type 0
  ExprHolds e = Filled (expr_texts e) (expr_limits e) (expr_prints e)

  abbrev StmtHolds : Stmt → Type 0
  StmtHolds e = Filled (stmt_texts e) (stmt_limits e) (stmt_prints e)

  abbrev TouchHolds : Touch → Type 0
  TouchHolds e = Filled (touch_texts e) (touch_limits e) (touch_prints e)

  of_expr : (y : Expr-F E S T) → ExprHolds (roll-Expr (expr_tree y))
  of_expr y = let tree = expr_tree y in opened3 Filled
      (fold-roll-Expr Printed Printed Printed x.expr_step x.stmt_step x.touch_step tree)
      (fold-roll-Expr Bool Bool Bool l.expr_step l.stmt_step l.touch_step tree)
      (fold-roll-Expr Printed Printed Printed x.expr_step prints_step x.touch_step tree)
      (expr_level y)

  of_touch : (y : Touch-F E S T) → TouchHolds (roll-Touch (touch_tree y))
  of_touch y = let tree = touch_tree y in opened3 Filled
      (fold-roll-Touch Printed Printed Printed x.expr_step x.stmt_step x.touch_step tree)
      (fold-roll-Touch Bool Bool Bool l.expr_step l.stmt_step l.touch_step tree)
      (fold-roll-Touch Printed Printed Printed x.expr_step prints_step x.touch_step tree)
      (touch_level y)

  of_stmt : (y : Stmt-F E S T) → StmtHolds (roll-Stmt (stmt_tree y))
  of_stmt y = let tree = stmt_tree y in opened3 Filled
      (fold-roll-Stmt Printed Printed Printed x.expr_step x.stmt_step x.touch_step tree)
      (fold-roll-Stmt Bool Bool Bool l.expr_step l.stmt_step l.touch_step tree)
      (fold-roll-Stmt Printed Printed Printed x.expr_step prints_step x.touch_step tree)
      (stmt_level y)

  by_nodes : Cases ExprHolds StmtHolds TouchHolds
  by_nodes = record { expr = of_expr; stmt = of_stmt; touch = of_touch }

  stmt_filled : (e : Stmt) → StmtHolds e
  stmt_filled = stmt_by by_nodes

  pub body_prints : (ss : List Stmt) → body_fills_texts ss forms ≡ true → body_keeps_limits ss ≡ true → filled (map stmt_prints ss) ≡ true
  body_prints [] texts limits = refl
  body_prints (e ∷ es) texts limits =
      let text = and_parts _ _ texts in
      let limit = and_parts _ _ limits in
      and_from _ _ (stmt_filled e text.0 limit.0) (body_prints es text.1 limit.1)
