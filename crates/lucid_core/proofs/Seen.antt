-- The widths of a block's returns and its ways to return: if one has a value the rule for returns knows it, and if the block always
-- returns there is one.
use Rattle.std.proofs.Common.{◌≡◌, ℕ, List, [], ◌∷◌, ◌++◌, Bool, true, false, ◌||◌, ◌⊎◌, inl, inr, is_some, map, None, Some, refl, sym, ap, subst, ◌∙◌}
use Rattle.std.specs.List.{list_any}
use Rattle.std.proofs.lemmas.Bool.{and_parts, or_cases, or_left, or_right}
use Rattle.std.proofs.lemmas.List.Folds.{list_any-append}
use Rattle.lucid_core.specs.declared.body.Expr.{Expr}
use Rattle.lucid_core.specs.declared.body.Stmt.{Stmt}
use Rattle.lucid_core.specs.declared.body.Touch.{Touch}
use Rattle.lucid_core.specs.declared.body.Expr.TheOpen.{Stmt-F}
use Rattle.lucid_core.specs.declared.body.Expr.TheViews.{roll-Stmt}
use Rattle.lucid_core.specs.declared.body.Expr.TheFolds.{fold-roll-Stmt, map-Stmt}
use Rattle.lucid_core.specs.Returns as r
use Rattle.lucid_core.specs.Returns.{Returns, block_returns, expr_returns, stmt_returns, touch_returns}
use Rattle.lucid_core.specs.Scope.{Scope}
use Rattle.lucid_core.specs.Typing as t
use Rattle.lucid_core.specs.Typing.{Answer, Typed, all_typed, answer_of, returns_of, touch_answer, joined}
use Rattle.lucid_core.proofs.TypingRules.{all_rule, assign_rule, drop_rule, if_rule, gen_rule, multi_rule, say_rule, return_rule}
use Rattle.lucid_core.proofs.Induction.{Cases, body_by, opened2}

-- If a return has a value, the rule for returns knows it; a block that always returns has a return.
pub record Sees (rs : List Answer) (returns : Returns) : Type 0 where
  pub value : list_any is_some rs ≡ true → returns.value ≡ true
  pub always : returns.always ≡ true → rs ≡ [] → ⊥

some_left : {A : Type 0} (xs ys : List A) → xs ++ ys ≡ [] → xs ≡ []
some_left [] ys e = refl
some_left (x ∷ xs) ys e = absurd (cc)

some_right : {A : Type 0} (xs ys : List A) → xs ++ ys ≡ [] → ys ≡ []
some_right [] ys e = e
some_right (x ∷ xs) ys e = absurd (cc)

-- A block without a return.
sees_nothing : (rs : List Answer) (returns : Returns) → rs ≡ [] → returns.always ≡ false → Sees rs returns
sees_nothing rs returns e never = record {
  value = λ some. let no : list_any (is_some {T = ℕ}) [] ≡ true = subst (λ (q : List Answer). list_any is_some q ≡ true) e some in absurd (cc);
  always = λ always. let no : false ≡ true = sym never ∙ always in absurd (cc);
}

either_value : (first second rs : List Answer) (one two : Bool) → rs ≡ first ++ second → (list_any is_some first ≡ true → one ≡ true) → (list_any is_some second ≡ true → two ≡ true) →
    list_any is_some rs ≡ true → (one || two) ≡ true
either_value first second rs one two e here there h = of_either (or_cases _ _ (sym (list_any-append is_some first second) ∙ ap (λ (q : List Answer). list_any is_some q) (sym e) ∙ h))
  where
    of_either : (list_any is_some first ≡ true) ⊎ (list_any is_some second ≡ true) → (one || two) ≡ true
    of_either (inl some) = or_left _ _ (here some)
    of_either (inr some) = or_right _ _ (there some)

module _ (s : Scope) where
  abbrev StmtSees : Typed (List Answer) → Returns → Type 0
  StmtSees typed returns = (rs : List Answer) → typed s ≡ Some rs → Sees rs returns

  abbrev S : Type 0
  S = (e : Stmt) × StmtSees (returns_of e) (stmt_returns e)

  -- Nothing is asked of expressions.
  abbrev E : Type 0
  E = Expr × Unit {0}

  abbrev T : Type 0
  T = Touch × Unit {0}

  abbrev stmts : List S → List Stmt
  stmts es = map (λ (e : S). e.0) es

  abbrev exprs : List E → List Expr
  exprs es = map (λ (e : E). e.0) es

  abbrev Block : List Stmt → Type 0
  Block ss = (rs : List (List Answer)) → all_typed (map returns_of ss) s ≡ Some rs → Sees (joined rs) (block_returns (map stmt_returns ss))

  block_level : (es : List S) → Block (stmts es)
  block_level [] rs h = let e : rs ≡ [] = cc in sees_nothing (joined rs) _ (ap joined e) refl
  block_level (e ∷ es) rs h =
      let rule = all_rule s (returns_of e.0) (map returns_of (stmts es)) rs h in
      let first = e.1 rule.0 rule.1 in
      let later = block_level es rule.2.0 rule.2.1 in
      let after = block_returns (map stmt_returns (stmts es)) in
      record {
        value = either_value rule.0 (joined rule.2.0) (joined rs) (stmt_returns e.0).value after.value (ap joined rule.2.2) first.value later.value;
        always = λ always none.
            let e : rule.0 ++ joined rule.2.0 ≡ [] = sym (ap joined rule.2.2) ∙ none in
            no_return (or_cases _ _ always) (some_left _ _ e) (some_right _ _ e) first.always later.always;
      }
    where
      no_return : {rs qs : List Answer} {a b : Bool} → (a ≡ true) ⊎ (b ≡ true) → rs ≡ [] → qs ≡ [] → (a ≡ true → rs ≡ [] → ⊥) → (b ≡ true → qs ≡ [] → ⊥) → ⊥
      no_return (inl is) e f one two = one is e
      no_return (inr is) e f one two = two is f

  abbrev Node : Stmt-F Expr Stmt Touch → Type 0
  Node y = StmtSees
      (t.stmt_step (map-Stmt Expr Stmt Touch (Typed Answer) (Typed (List Answer)) (Typed Answer) answer_of returns_of touch_answer y))
      (r.stmt_step (map-Stmt Expr Stmt Touch Returns Returns Returns expr_returns stmt_returns touch_returns y))

  abbrev tree : Stmt-F E S T → Stmt-F Expr Stmt Touch
  tree = map-Stmt E S T Expr Stmt Touch (λ e. e.0) (λ e. e.0) (λ e. e.0)

  level : (y : Stmt-F E S T) → Node (tree y)
  level (Stmt-F.Assign i e) rs h = sees_nothing rs _ (assign_rule s i (answer_of e.0) rs h).3 refl
  level (Stmt-F.Drop e) rs h = sees_nothing rs _ (drop_rule s (answer_of e.0) rs h).2 refl
  level (Stmt-F.If e es fs) rs h =
      let rule = if_rule s (answer_of e.0) (map returns_of (stmts es)) (map returns_of (stmts fs)) rs h in
      let first = block_level es rule.first rule.typed in
      let second = block_level fs rule.second rule.typed_too in
      record {
        value = either_value (joined rule.first) (joined rule.second) rs _ _ rule.returns first.value second.value;
        always = λ always none. first.always (and_parts _ _ always).0 (some_left (joined rule.first) (joined rule.second) (sym rule.returns ∙ none));
      }
  level (Stmt-F.Gen event es None None delay_first) rs h = sees_nothing rs _ (gen_rule s event (map answer_of (exprs es)) None None delay_first rs h).returns refl
  level (Stmt-F.Gen event es None (Some f) delay_first) rs h = sees_nothing rs _ (gen_rule s event (map answer_of (exprs es)) None (Some (answer_of f.0)) delay_first rs h).returns refl
  level (Stmt-F.Gen event es (Some e) None delay_first) rs h = sees_nothing rs _ (gen_rule s event (map answer_of (exprs es)) (Some (answer_of e.0)) None delay_first rs h).returns refl
  level (Stmt-F.Gen event es (Some e) (Some f) delay_first) rs h = sees_nothing rs _ (gen_rule s event (map answer_of (exprs es)) (Some (answer_of e.0)) (Some (answer_of f.0)) delay_first rs h).returns refl
  level (Stmt-F.Multi event es None members) rs h = sees_nothing rs _ (multi_rule s event (map answer_of (exprs es)) None members rs h).returns refl
  level (Stmt-F.Multi event es (Some e) members) rs h = sees_nothing rs _ (multi_rule s event (map answer_of (exprs es)) (Some (answer_of e.0)) members rs h).returns refl
  level (Stmt-F.Say form es) rs h = sees_nothing rs _ (say_rule s form (map answer_of (exprs es)) rs h).2 refl
  level (Stmt-F.Return None) rs h = record {
    value = λ some. let e : rs ≡ None ∷ [] = cc in let no : list_any (is_some {T = ℕ}) (None ∷ []) ≡ true = subst (λ (q : List Answer). list_any is_some q ≡ true) e some in absurd (cc);
    always = λ always none. let e : rs ≡ None ∷ [] = cc in absurd (cc);
  }
  level (Stmt-F.Return (Some e)) rs h = record {
    value = λ some. refl;
    always = λ always none. let e = (return_rule s (answer_of e.0) rs h).2 in absurd (cc);
  }

  of_stmt : (y : Stmt-F E S T) → StmtSees (returns_of (roll-Stmt (tree y))) (stmt_returns (roll-Stmt (tree y)))
  of_stmt y = opened2 StmtSees (fold-roll-Stmt (Typed Answer) (Typed (List Answer)) (Typed Answer) t.expr_step t.stmt_step t.touch_step (tree y)) (fold-roll-Stmt Returns Returns Returns r.expr_step r.stmt_step r.touch_step (tree y)) (level y)

  by_nodes : Cases (λ e. Unit {0}) (λ e. StmtSees (returns_of e) (stmt_returns e)) (λ e. Unit {0})
  by_nodes = record { expr = λ y. tt; stmt = of_stmt; touch = λ y. tt }

  pub block_sees : (ss : List Stmt) → Block ss
  block_sees = body_by Block by_nodes block_level
