-- In a valid core each body fits.
use Rattle.std.proofs.Common.{◌≡◌, ℕ, suc, List, [], ◌∷◌, ◌++◌, Bool, true, false, Option, None, Some, length, map, refl, sym, ap, subst, ◌∙◌, arith, nat_eq, nat_le, slice_get, option_map, option_to_list}
use Rattle.std.specs.List.{list_all}
use Rattle.std.specs.Option.{option_map_or}
use Rattle.std.proofs.lemmas.Bool.{and_from, and_parts, leb-true, eq-eqb}
use Rattle.std.proofs.lemmas.List.{length-map, length-take-le}
use Rattle.std.proofs.lemmas.List.Folds.{list_all-append}
use Rattle.std.proofs.lemmas.Option.{slice_get-map}
use Rattle.lucid_core.specs.declared.body.Expr.{Expr}
use Rattle.lucid_core.specs.declared.body.Stmt.{Stmt}
use Rattle.lucid_core.specs.declared.body.Touch.{Touch}
use Rattle.lucid_core.specs.declared.body.Expr.TheOpen.{Expr-F, Stmt-F, Touch-F}
use Rattle.lucid_core.specs.declared.body.Expr.TheViews.{roll-Expr, roll-Stmt, roll-Touch}
use Rattle.lucid_core.specs.declared.body.Expr.TheFolds.{fold-roll-Expr, fold-roll-Stmt, fold-roll-Touch, ind-Stmt, map-Expr, map-Stmt, map-Touch}
use Rattle.lucid_core.specs.declared.defs.FunDef.{FunDef}
use Rattle.lucid_core.specs.Syntax as c
use Rattle.lucid_core.specs.Syntax.{is_core_expr, is_core_stmt, is_core_touch}
use Rattle.lucid_core.specs.Limits as l
use Rattle.lucid_core.specs.Limits.{expr_limits, stmt_limits, touch_limits}
use Rattle.lucid_core.specs.Names as a
use Rattle.lucid_core.specs.Names.{expr_names, stmt_names, touch_names}
use Rattle.lucid_core.specs.Scope.{Scope, Test}
use Rattle.lucid_core.specs.Typing as t
use Rattle.lucid_core.specs.Typing.{Answer, Typed, answer_of, returns_of, touch_answer, body_gives_only}
use Rattle.lucid_core.proofs.Fine.{both_pass}
use Rattle.lucid_core.proofs.TypingRules.{AllGive, give_parts, un_rule, bin_rule, cmp_rule, cast_rule, hash_rule, all_rule, values_rule, call_rule, touch_rule, assign_rule, drop_rule, if_rule, gen_rule, multi_rule, say_rule, return_rule}
use Rattle.lucid_core.proofs.WidthLists.{passes_at}
use Rattle.lucid_inline_spec.proofs.Fit as r
use Rattle.lucid_inline_spec.proofs.Fit.{Fit, expr_fit, stmt_fit, touch_fit}

-- How many parameters each function has.
abbrev pub rooms_of : List FunDef → List ℕ
rooms_of ds = map (λ d. d.params) ds

module _ (s : Scope) (small : list_all (λ d. nat_le d.params (length d.locals)) s.funs ≡ true) where
  abbrev n : ℕ
  n = length s.locals

  abbrev rooms : List ℕ
  rooms = rooms_of s.funs

  abbrev Fits : {A : Type 0} → Test → Typed A → Bool → Bool → Fit → Type 0
  Fits {A} names typed core limits fit = names s ≡ true → (x : A) → typed s ≡ Some x → core ≡ true → limits ≡ true → fit n rooms ≡ true

  abbrev E : Type 0
  E = (e : Expr) × Fits (expr_names e) (answer_of e) (is_core_expr e) (expr_limits e) (expr_fit e)

  abbrev S : Type 0
  S = (e : Stmt) × Fits (stmt_names e) (returns_of e) (is_core_stmt e) (stmt_limits e) (stmt_fit e)

  abbrev T : Type 0
  T = (e : Touch) × Fits (touch_names e) (touch_answer e) (is_core_touch e) (touch_limits e) (touch_fit e)

  abbrev exprs : List E → List Expr
  exprs es = map (λ (e : E). e.0) es

  abbrev stmts : List S → List Stmt
  stmts es = map (λ (e : S). e.0) es

  abbrev all_names : List Test → Bool
  all_names tests = list_all (λ test. test s) tests

  abbrev all_true : List Bool → Bool
  all_true tests = list_all (λ test. test) tests

  -- Each gives a value.
  these : (es : List E) → all_names (map expr_names (exprs es)) ≡ true → (ws : List ℕ) → t.values (map answer_of (exprs es)) s ≡ Some ws → all_true (map is_core_expr (exprs es)) ≡ true → all_true (map expr_limits (exprs es)) ≡ true →
      (r.each (map expr_fit (exprs es)) n rooms ≡ true) × (length ws ≡ length es)
  these [] names ws h core limits = (refl, let e : ws ≡ [] = cc in ap length e)
  these (e ∷ es) names ws h core limits =
      let rule = values_rule s (answer_of e.0) (map answer_of (exprs es)) ws h in
      let name = and_parts _ _ names in
      let cores = and_parts _ _ core in
      let limit = and_parts _ _ limits in
      let rest = these es name.1 rule.2.0 rule.2.1 cores.1 limit.1 in
      (and_from _ _ (e.1 name.0 (Some rule.0) rule.1 cores.0 limit.0) rest.0, ap length rule.2.2 ∙ ap suc rest.1)

  those : (es : List S) → all_names (map stmt_names (stmts es)) ≡ true → (rs : List (List Answer)) → t.all_typed (map returns_of (stmts es)) s ≡ Some rs → all_true (map is_core_stmt (stmts es)) ≡ true → all_true (map stmt_limits (stmts es)) ≡ true →
      r.each (map stmt_fit (stmts es)) n rooms ≡ true
  those [] names rs h core limits = refl
  those (e ∷ es) names rs h core limits =
      let rule = all_rule s (returns_of e.0) (map returns_of (stmts es)) rs h in
      let name = and_parts _ _ names in
      let cores = and_parts _ _ core in
      let limit = and_parts _ _ limits in
      and_from _ _ (e.1 name.0 rule.0 rule.1 cores.0 limit.0) (those es name.1 rule.2.0 rule.2.1 cores.1 limit.1)

  optional : (o : Option E) → all_names (option_to_list (option_map (λ (e : E). expr_names e.0) o)) ≡ true → AllGive s (option_to_list (option_map (λ (e : E). answer_of e.0) o)) →
      all_true (option_to_list (option_map (λ (e : E). is_core_expr e.0) o)) ≡ true → all_true (option_to_list (option_map (λ (e : E). expr_limits e.0) o)) ≡ true → r.each (option_to_list (option_map (λ (e : E). expr_fit e.0) o)) n rooms ≡ true
  optional None names give core limits = refl
  optional (Some e) names give core limits = and_from _ _ (e.1 (and_parts _ _ names).0 (Some give.0.0) give.0.1 (and_parts _ _ core).0 (and_parts _ _ limits).0) refl

  all_tests : (xs ys : List Fit) → r.each xs n rooms ≡ true → r.each ys n rooms ≡ true → r.each (xs ++ ys) n rooms ≡ true
  all_tests xs ys h k = list_all-append (λ (test : Fit). test n rooms) xs ys ∙ and_from _ _ h k

  abbrev expr_tree : Expr-F E S T → Expr-F Expr Stmt Touch
  expr_tree = map-Expr E S T Expr Stmt Touch (λ e. e.0) (λ e. e.0) (λ e. e.0)

  abbrev touch_tree : Touch-F E S T → Touch-F Expr Stmt Touch
  touch_tree = map-Touch E S T Expr Stmt Touch (λ e. e.0) (λ e. e.0) (λ e. e.0)

  abbrev stmt_tree : Stmt-F E S T → Stmt-F Expr Stmt Touch
  stmt_tree = map-Stmt E S T Expr Stmt Touch (λ e. e.0) (λ e. e.0) (λ e. e.0)

  abbrev ExprNode : Expr-F Expr Stmt Touch → Type 0
  ExprNode y = Fits
      (a.expr_step (map-Expr Expr Stmt Touch Test Test Test expr_names stmt_names touch_names y))
      (t.expr_step (map-Expr Expr Stmt Touch (Typed Answer) (Typed (List Answer)) (Typed Answer) answer_of returns_of touch_answer y))
      (c.not_inlined (map-Expr Expr Stmt Touch Bool Bool Bool is_core_expr is_core_stmt is_core_touch y))
      (l.expr_step (map-Expr Expr Stmt Touch Bool Bool Bool expr_limits stmt_limits touch_limits y))
      (r.expr_step (map-Expr Expr Stmt Touch Fit Fit Fit expr_fit stmt_fit touch_fit y))

  abbrev TouchNode : Touch-F Expr Stmt Touch → Type 0
  TouchNode y = Fits
      (a.touch_step (map-Touch Expr Stmt Touch Test Test Test expr_names stmt_names touch_names y))
      (t.touch_step (map-Touch Expr Stmt Touch (Typed Answer) (Typed (List Answer)) (Typed Answer) answer_of returns_of touch_answer y))
      (c.touch_step (map-Touch Expr Stmt Touch Bool Bool Bool is_core_expr is_core_stmt is_core_touch y))
      (l.touch_step (map-Touch Expr Stmt Touch Bool Bool Bool expr_limits stmt_limits touch_limits y))
      (r.touch_step (map-Touch Expr Stmt Touch Fit Fit Fit expr_fit stmt_fit touch_fit y))

  abbrev StmtNode : Stmt-F Expr Stmt Touch → Type 0
  StmtNode y = Fits
      (a.stmt_step (map-Stmt Expr Stmt Touch Test Test Test expr_names stmt_names touch_names y))
      (t.stmt_step (map-Stmt Expr Stmt Touch (Typed Answer) (Typed (List Answer)) (Typed Answer) answer_of returns_of touch_answer y))
      (c.any_stmt (map-Stmt Expr Stmt Touch Bool Bool Bool is_core_expr is_core_stmt is_core_touch y))
      (l.stmt_step (map-Stmt Expr Stmt Touch Bool Bool Bool expr_limits stmt_limits touch_limits y))
      (r.stmt_step (map-Stmt Expr Stmt Touch Fit Fit Fit expr_fit stmt_fit touch_fit y))

  expr_level : (y : Expr-F E S T) → ExprNode (expr_tree y)
  expr_level (Expr-F.Fixed b) names x h core limits = refl
  expr_level (Expr-F.Local i) names x h core limits = names
  expr_level Expr-F.Now names x h core limits = refl
  expr_level Expr-F.Me names x h core limits = refl
  expr_level (Expr-F.Un op e) names x h core limits =
      let rule = un_rule s op (answer_of e.0) x h in
      and_from _ _ (e.1 (and_parts _ _ names).0 (Some rule.0) rule.1 (and_parts _ _ core).0 (and_parts _ _ limits).0) refl
  expr_level (Expr-F.Bin op e g) names x h core limits =
      let rule = bin_rule s op (answer_of e.0) (answer_of g.0) x h in
      let name = and_parts _ _ names in
      let cores = and_parts _ _ core in
      let limit = and_parts _ _ limits in
      and_from _ _ (e.1 name.0 (Some rule.0) rule.1 cores.0 limit.0) (and_from _ _ (g.1 (and_parts _ _ name.1).0 (Some rule.0) rule.2 (and_parts _ _ cores.1).0 (and_parts _ _ limit.1).0) refl)
  expr_level (Expr-F.Cmp op e g) names x h core limits =
      let rule = cmp_rule s op (answer_of e.0) (answer_of g.0) x h in
      let name = and_parts _ _ names in
      let cores = and_parts _ _ core in
      let limit = and_parts _ _ limits in
      and_from _ _ (e.1 name.0 (Some rule.0) rule.1 cores.0 limit.0) (and_from _ _ (g.1 (and_parts _ _ name.1).0 (Some rule.0) rule.2 (and_parts _ _ cores.1).0 (and_parts _ _ limit.1).0) refl)
  expr_level (Expr-F.Cast w e) names x h core limits =
      let rule = cast_rule s w (answer_of e.0) x h in
      and_from _ _ (e.1 (and_parts _ _ names).0 (Some rule.0) rule.1 (and_parts _ _ core).0 (and_parts _ _ limits).0) refl
  expr_level (Expr-F.Hash w es) names x h core limits =
      let rule = hash_rule s w (map answer_of (exprs es)) x h in
      (these es names rule.0 rule.1 core (and_parts _ _ limits).1).0
  expr_level (Expr-F.Array e) names x h core limits = and_from _ _ (e.1 (and_parts _ _ names).0 x h (and_parts _ _ core).0 (and_parts _ _ limits).0) refl
  expr_level (Expr-F.Fun k arrays es) names x h core limits =
      let rule = call_rule s k arrays (map answer_of (exprs es)) x h in
      let args = these es (and_parts _ _ names).1 _ rule.2 core limits in
      let d = rule.0 in
      let few : length (map expr_fit (exprs es)) ≡ d.params =
      let e0 = leb-true _ _ (passes_at (λ (g : FunDef). nat_le g.params (length g.locals)) s.funs k d small rule.1) in
      let e1 = length-map (exprs es) expr_fit in let e2 = length-map es (λ (e : E). e.0) in let e3 = length-take-le d.params d.locals e0 in let e4 = args.1 in omega arith in
      let there : slice_get rooms k ≡ Some d.params = slice_get-map (λ (g : FunDef). g.params) s.funs k ∙ ap (option_map (λ (g : FunDef). g.params)) rule.1 in
      and_from _ _ (ap (λ (o : Option ℕ). option_map_or (nat_eq (length (map expr_fit (exprs es)))) o false) there ∙ eq-eqb _ _ few) args.0
  expr_level (Expr-F.Inlined given es) names x h core limits = absurd (cc)

  touch_level : (y : Touch-F E S T) → TouchNode (touch_tree y)
  touch_level y names x h core limits =
      let rule = touch_rule s (map-Touch Expr Stmt Touch (Typed Answer) (Typed (List Answer)) (Typed Answer) answer_of returns_of touch_answer (touch_tree y)) x h in
      let name = and_parts _ _ (and_parts _ _ names).1 in
      let name2 = and_parts _ _ name.1 in
      let cores = and_parts _ _ core in
      let core2 = and_parts _ _ cores.1 in
      let limit = and_parts _ _ (and_parts _ _ limits).1 in
      let limit2 = and_parts _ _ limit.1 in
      and_from _ _ (y.index.1 name.0 (Some rule.index.0) rule.index.1 cores.0 limit.0)
      (and_from _ _ (y.get_arg.1 name2.0 (Some rule.get.0) rule.get.1 core2.0 limit2.0)
      (and_from _ _ (y.set_arg.1 (and_parts _ _ name2.1).0 (Some rule.set.0) rule.set.1 (and_parts _ _ core2.1).0 (and_parts _ _ limit2.1).0) refl))

  gen_level : (event : ℕ) (es : List E) (delay to : Option E) (b : Bool) → Fits
      (a.stmt_step (Stmt-F.Gen event (map expr_names (exprs es)) (option_map (λ (e : E). expr_names e.0) delay) (option_map (λ (e : E). expr_names e.0) to) b))
      (t.stmt_step (Stmt-F.Gen event (map answer_of (exprs es)) (option_map (λ (e : E). answer_of e.0) delay) (option_map (λ (e : E). answer_of e.0) to) b))
      (c.any_stmt (Stmt-F.Gen event (map is_core_expr (exprs es)) (option_map (λ (e : E). is_core_expr e.0) delay) (option_map (λ (e : E). is_core_expr e.0) to) b))
      (l.stmt_step (Stmt-F.Gen event (map expr_limits (exprs es)) (option_map (λ (e : E). expr_limits e.0) delay) (option_map (λ (e : E). expr_limits e.0) to) b))
      (r.stmt_step (Stmt-F.Gen event (map expr_fit (exprs es)) (option_map (λ (e : E). expr_fit e.0) delay) (option_map (λ (e : E). expr_fit e.0) to) b))
  gen_level event es delay to b names x h core limits =
      let rule = gen_rule s event (map answer_of (exprs es)) (option_map (λ (e : E). answer_of e.0) delay) (option_map (λ (e : E). answer_of e.0) to) b x h in
      let give = give_parts s (option_to_list (option_map (λ (e : E). answer_of e.0) delay)) (option_to_list (option_map (λ (e : E). answer_of e.0) to)) rule.others in
      let name = both_pass (λ (test : Test). test s) (map expr_names (exprs es) ++ option_to_list (option_map (λ (e : E). expr_names e.0) delay)) (option_to_list (option_map (λ (e : E). expr_names e.0) to)) (and_parts _ _ names).1 in
      let name2 = both_pass (λ (test : Test). test s) (map expr_names (exprs es)) (option_to_list (option_map (λ (e : E). expr_names e.0) delay)) name.0 in
      let cores = both_pass (λ (test : Bool). test) (map is_core_expr (exprs es) ++ option_to_list (option_map (λ (e : E). is_core_expr e.0) delay)) (option_to_list (option_map (λ (e : E). is_core_expr e.0) to)) core in
      let core2 = both_pass (λ (test : Bool). test) (map is_core_expr (exprs es)) (option_to_list (option_map (λ (e : E). is_core_expr e.0) delay)) cores.0 in
      let limit = both_pass (λ (test : Bool). test) (map expr_limits (exprs es) ++ option_to_list (option_map (λ (e : E). expr_limits e.0) delay)) (option_to_list (option_map (λ (e : E). expr_limits e.0) to)) (and_parts _ _ limits).1 in
      let limit2 = both_pass (λ (test : Bool). test) (map expr_limits (exprs es)) (option_to_list (option_map (λ (e : E). expr_limits e.0) delay)) limit.0 in
      all_tests (map expr_fit (exprs es) ++ option_to_list (option_map (λ (e : E). expr_fit e.0) delay)) (option_to_list (option_map (λ (e : E). expr_fit e.0) to))
      (all_tests (map expr_fit (exprs es)) (option_to_list (option_map (λ (e : E). expr_fit e.0) delay)) (these es name2.0 rule.params rule.typed core2.0 limit2.0).0 (optional delay name2.1 give.0 core2.1 limit2.1))
      (optional to name.1 give.1 cores.1 limit.1)

  multi_level : (event : ℕ) (es : List E) (delay : Option E) (members : List ℕ) → Fits
      (a.stmt_step (Stmt-F.Multi event (map expr_names (exprs es)) (option_map (λ (e : E). expr_names e.0) delay) members))
      (t.stmt_step (Stmt-F.Multi event (map answer_of (exprs es)) (option_map (λ (e : E). answer_of e.0) delay) members))
      (c.any_stmt (Stmt-F.Multi event (map is_core_expr (exprs es)) (option_map (λ (e : E). is_core_expr e.0) delay) members))
      (l.stmt_step (Stmt-F.Multi event (map expr_limits (exprs es)) (option_map (λ (e : E). expr_limits e.0) delay) members))
      (r.stmt_step (Stmt-F.Multi event (map expr_fit (exprs es)) (option_map (λ (e : E). expr_fit e.0) delay) members))
  multi_level event es delay members names x h core limits =
      let rule = multi_rule s event (map answer_of (exprs es)) (option_map (λ (e : E). answer_of e.0) delay) members x h in
      let name = both_pass (λ (test : Test). test s) (map expr_names (exprs es)) (option_to_list (option_map (λ (e : E). expr_names e.0) delay)) (and_parts _ _ names).1 in
      let cores = both_pass (λ (test : Bool). test) (map is_core_expr (exprs es)) (option_to_list (option_map (λ (e : E). is_core_expr e.0) delay)) core in
      let own = and_parts _ _ limits in
      let limit = both_pass (λ (test : Bool). test) (map expr_limits (exprs es)) (option_to_list (option_map (λ (e : E). expr_limits e.0) delay)) own.1 in
      let few = (and_parts _ _ (and_parts _ _ (and_parts _ _ own.0).1).0).1 in
      and_from _ _ few (all_tests (map expr_fit (exprs es)) (option_to_list (option_map (λ (e : E). expr_fit e.0) delay)) (these es name.0 rule.params rule.typed cores.0 limit.0).0 (optional delay name.1 rule.others cores.1 limit.1))

  stmt_level : (y : Stmt-F E S T) → StmtNode (stmt_tree y)
  stmt_level (Stmt-F.Assign i e) names x h core limits =
      let rule = assign_rule s i (answer_of e.0) x h in
      let name = and_parts _ _ names in
      and_from _ _ name.0 (e.1 name.1 (Some rule.0) rule.1 (and_parts _ _ core).0 (and_parts _ _ limits).0)
  stmt_level (Stmt-F.Drop e) names x h core limits =
      let rule = drop_rule s (answer_of e.0) x h in
      and_from _ _ (e.1 (and_parts _ _ names).0 rule.0 rule.1 (and_parts _ _ core).0 (and_parts _ _ limits).0) refl
  stmt_level (Stmt-F.If e es gs) names x h core limits =
      let rule = if_rule s (answer_of e.0) (map returns_of (stmts es)) (map returns_of (stmts gs)) x h in
      let name = and_parts _ _ names in
      let cores = and_parts _ _ core in
      let limit = and_parts _ _ limits in
      let name2 = both_pass (λ (test : Test). test s) (map stmt_names (stmts es)) (map stmt_names (stmts gs)) name.1 in
      let core2 = both_pass (λ (test : Bool). test) (map is_core_stmt (stmts es)) (map is_core_stmt (stmts gs)) cores.1 in
      let limit2 = both_pass (λ (test : Bool). test) (map stmt_limits (stmts es)) (map stmt_limits (stmts gs)) limit.1 in
      and_from _ _ (e.1 name.0 (Some 1) rule.condition cores.0 limit.0)
      (all_tests (map stmt_fit (stmts es)) (map stmt_fit (stmts gs)) (those es name2.0 rule.first rule.typed core2.0 limit2.0) (those gs name2.1 rule.second rule.typed_too core2.1 limit2.1))
  stmt_level (Stmt-F.Gen event es None None b) names x h core limits = gen_level event es None None b names x h core limits
  stmt_level (Stmt-F.Gen event es None (Some g) b) names x h core limits = gen_level event es None (Some g) b names x h core limits
  stmt_level (Stmt-F.Gen event es (Some e) None b) names x h core limits = gen_level event es (Some e) None b names x h core limits
  stmt_level (Stmt-F.Gen event es (Some e) (Some g) b) names x h core limits = gen_level event es (Some e) (Some g) b names x h core limits
  stmt_level (Stmt-F.Multi event es None members) names x h core limits = multi_level event es None members names x h core limits
  stmt_level (Stmt-F.Multi event es (Some e) members) names x h core limits = multi_level event es (Some e) members names x h core limits
  stmt_level (Stmt-F.Say form es) names x h core limits =
      let rule = say_rule s form (map answer_of (exprs es)) x h in
      (these es (and_parts _ _ names).1 rule.0 rule.1 core (and_parts _ _ limits).1).0
  stmt_level (Stmt-F.Return None) names x h core limits = refl
  stmt_level (Stmt-F.Return (Some e)) names x h core limits =
      let rule = return_rule s (answer_of e.0) x h in
      and_from _ _ (e.1 (and_parts _ _ names).0 (Some rule.0) rule.1 (and_parts _ _ core).0 (and_parts _ _ limits).0) refl

  -- Where five folds are opened at a node.
  opened : {B : Type 0} {names n2 : Test} {typed t2 : Typed B} {core c2 limits l2 : Bool} {fit f2 : Fit} → names ≡ n2 → typed ≡ t2 → core ≡ c2 → limits ≡ l2 → fit ≡ f2 →
      Fits n2 t2 c2 l2 f2 → Fits names typed core limits fit
  opened {B} {names} {n2} {typed} {t2} {core} {c2} {limits} {l2} {fit} {f2} e1 e2 e3 e4 e5 is h x k c3 l3 =
      ap (λ (q : Fit). q n rooms) e5 ∙ is (sym (ap (λ (q : Test). q s) e1) ∙ h) x (sym (ap (λ (q : Typed B). q s) e2) ∙ k) (sym e3 ∙ c3) (sym e4 ∙ l3)

  abbrev ExprHolds : Expr → Type 0
  ExprHolds e = Fits (expr_names e) (answer_of e) (is_core_expr e) (expr_limits e) (expr_fit e)

  abbrev StmtHolds : Stmt → Type 0
  StmtHolds e = Fits (stmt_names e) (returns_of e) (is_core_stmt e) (stmt_limits e) (stmt_fit e)

  abbrev TouchHolds : Touch → Type 0
  TouchHolds e = Fits (touch_names e) (touch_answer e) (is_core_touch e) (touch_limits e) (touch_fit e)

  of_expr : (y : Expr-F E S T) → ExprHolds (roll-Expr (expr_tree y))
  of_expr y = let tree = expr_tree y in opened
      (fold-roll-Expr Test Test Test a.expr_step a.stmt_step a.touch_step tree)
      (fold-roll-Expr (Typed Answer) (Typed (List Answer)) (Typed Answer) t.expr_step t.stmt_step t.touch_step tree)
      (fold-roll-Expr Bool Bool Bool c.not_inlined c.any_stmt c.touch_step tree)
      (fold-roll-Expr Bool Bool Bool l.expr_step l.stmt_step l.touch_step tree)
      (fold-roll-Expr Fit Fit Fit r.expr_step r.stmt_step r.touch_step tree)
      (expr_level y)

  of_touch : (y : Touch-F E S T) → TouchHolds (roll-Touch (touch_tree y))
  of_touch y = let tree = touch_tree y in opened
      (fold-roll-Touch Test Test Test a.expr_step a.stmt_step a.touch_step tree)
      (fold-roll-Touch (Typed Answer) (Typed (List Answer)) (Typed Answer) t.expr_step t.stmt_step t.touch_step tree)
      (fold-roll-Touch Bool Bool Bool c.not_inlined c.any_stmt c.touch_step tree)
      (fold-roll-Touch Bool Bool Bool l.expr_step l.stmt_step l.touch_step tree)
      (fold-roll-Touch Fit Fit Fit r.expr_step r.stmt_step r.touch_step tree)
      (touch_level y)

  of_stmt : (y : Stmt-F E S T) → StmtHolds (roll-Stmt (stmt_tree y))
  of_stmt y = let tree = stmt_tree y in opened
      (fold-roll-Stmt Test Test Test a.expr_step a.stmt_step a.touch_step tree)
      (fold-roll-Stmt (Typed Answer) (Typed (List Answer)) (Typed Answer) t.expr_step t.stmt_step t.touch_step tree)
      (fold-roll-Stmt Bool Bool Bool c.not_inlined c.any_stmt c.touch_step tree)
      (fold-roll-Stmt Bool Bool Bool l.expr_step l.stmt_step l.touch_step tree)
      (fold-roll-Stmt Fit Fit Fit r.expr_step r.stmt_step r.touch_step tree)
      (stmt_level y)

  stmt_holds : (e : Stmt) → StmtHolds e
  stmt_holds = ind-Stmt ExprHolds StmtHolds TouchHolds
      (λ e y is. subst (λ z. ExprHolds (roll-Expr z)) is (of_expr y))
      (λ e y is. subst (λ z. StmtHolds (roll-Stmt z)) is (of_stmt y))
      (λ e y is. subst (λ z. TouchHolds (roll-Touch z)) is (of_touch y))

  pub body_fits : (ss : List Stmt) → all_names (map stmt_names ss) ≡ true → (rs : List (List Answer)) → t.all_typed (map returns_of ss) s ≡ Some rs → list_all is_core_stmt ss ≡ true → all_true (map stmt_limits ss) ≡ true →
      r.each (map stmt_fit ss) n rooms ≡ true
  body_fits [] names rs h core limits = refl
  body_fits (e ∷ es) names rs h core limits =
      let rule = all_rule s (returns_of e) (map returns_of es) rs h in
      let name = and_parts _ _ names in
      let cores = and_parts _ _ core in
      let limit = and_parts _ _ limits in
      and_from _ _ (stmt_holds e name.0 rule.0 rule.1 cores.0 limit.0) (body_fits es name.1 rule.2.0 rule.2.1 cores.1 limit.1)
