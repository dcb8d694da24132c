-- What a body sends out stays when functions are declared behind those that it may call.
use Rattle.std.proofs.Common.{◌≡◌, ℕ, ◌+◌, ◌<◌, max, List, [], ◌∷◌, ◌++◌, true, ◌&&◌, Option, None, Some, length, map, nat_le, nat_lt, refl, sym, ap, ap₂, subst, ◌∙◌, arith, option_map, option_to_list, slice_index}
use Rattle.std.specs.List.{list_all}
use Rattle.std.proofs.lemmas.Bool.{and_from, and_parts, ltb-true}
use Rattle.std.proofs.lemmas.List.{get_or_append_left}
use Rattle.lucid_core.specs.declared.body.Expr.{Expr}
use Rattle.lucid_core.specs.declared.body.Stmt.{Stmt}
use Rattle.lucid_core.specs.declared.body.Touch.{Touch}
use Rattle.lucid_core.specs.declared.body.Expr.TheFolds.{fold-roll-Expr, fold-roll-Stmt, fold-roll-Touch, ind-Stmt, map-Expr, map-Stmt, map-Touch}
use Rattle.lucid_core.specs.declared.body.Expr.TheOpen.{Expr-F, Stmt-F, Touch-F}
use Rattle.lucid_core.specs.declared.body.Expr.TheViews.{roll-Expr, roll-Stmt, roll-Touch}
use Rattle.lucid_core.specs.declared.defs.HandlerDef.{HandlerDef}
use Rattle.lucid_core.specs.Names as n
use Rattle.lucid_core.specs.Names.{expr_names, stmt_names, touch_names}
use Rattle.lucid_core.specs.OutCount as o
use Rattle.lucid_core.specs.OutCount.{Count, body_outs, expr_outs, stmt_outs, total, touch_outs}
use Rattle.lucid_core.specs.Parts.{CoreParts}
use Rattle.lucid_core.specs.Scope.{Scope, Test, each, handler_scope}
use Rattle.lucid_core.proofs.Fine.{both_pass}
use Rattle.lucid_types_limits.proofs.Tallies.{total-append}

module _ (scope : Scope) (counts more : List ℕ) (long : length scope.funs ≡ length counts) where
  -- Where all names are there, the count is the same.
  abbrev Same : Test → Count → Type 0
  Same test count = test scope ≡ true → count (counts ++ more) ≡ count counts

  abbrev E : Type 0
  E = (e : Expr) × Same (expr_names e) (expr_outs e)

  abbrev S : Type 0
  S = (e : Stmt) × Same (stmt_names e) (stmt_outs e)

  abbrev T : Type 0
  T = (e : Touch) × Same (touch_names e) (touch_outs e)

  abbrev exprs : List E → List Expr
  exprs es = map (λ (e : E). e.0) es

  abbrev stmts : List S → List Stmt
  stmts es = map (λ (e : S). e.0) es

  abbrev AllSame : List Test → List Count → Type 0
  AllSame tests cs = each tests scope ≡ true → total cs (counts ++ more) ≡ total cs counts

  none : AllSame [] []
  none there = refl

  before : (t : Test) (c : Count) (ts : List Test) (cs : List Count) → Same t c → AllSame ts cs → AllSame (t ∷ ts) (c ∷ cs)
  before t c ts cs one rest there = let parts = and_parts _ _ there in ap₂ (λ (a b : ℕ). a + b) (one parts.0) (rest parts.1)

  joined : (ts us : List Test) (cs ds : List Count) → AllSame ts cs → AllSame us ds → AllSame (ts ++ us) (cs ++ ds)
  joined ts us cs ds first second there =
      let parts = both_pass (λ (test : Test). test scope) ts us there in
      total-append cs ds (counts ++ more) ∙ ap₂ (λ (a b : ℕ). a + b) (first parts.0) (second parts.1) ∙ sym (total-append cs ds counts)

  these : (es : List E) → AllSame (map expr_names (exprs es)) (map expr_outs (exprs es))
  these [] = none
  these (e ∷ es) = before (expr_names e.0) (expr_outs e.0) (map expr_names (exprs es)) (map expr_outs (exprs es)) e.1 (these es)

  those : (es : List S) → AllSame (map stmt_names (stmts es)) (map stmt_outs (stmts es))
  those [] = none
  those (e ∷ es) = before (stmt_names e.0) (stmt_outs e.0) (map stmt_names (stmts es)) (map stmt_outs (stmts es)) e.1 (those es)

  just : (e : E) → AllSame (expr_names e.0 ∷ []) (expr_outs e.0 ∷ [])
  just e = before (expr_names e.0) (expr_outs e.0) [] [] e.1 none

  pair : (e g : E) → AllSame (expr_names e.0 ∷ expr_names g.0 ∷ []) (expr_outs e.0 ∷ expr_outs g.0 ∷ [])
  pair e g = before (expr_names e.0) (expr_outs e.0) (expr_names g.0 ∷ []) (expr_outs g.0 ∷ []) e.1 (just g)

  -- The arguments of a call with the body put in.
  abbrev trees : List (ℕ × E) → List (ℕ × Expr)
  trees gs = map (λ (g : ℕ × E). (g.0, g.1.0)) gs

  given : (gs : List (ℕ × E)) → list_all (λ (g : ℕ × Test). nat_lt g.0 (length scope.locals) && g.1 scope) (map (λ (g : ℕ × Expr). (g.0, expr_names g.1)) (trees gs)) ≡ true →
      total (map (λ (g : ℕ × Count). g.1) (map (λ (g : ℕ × Expr). (g.0, expr_outs g.1)) (trees gs))) (counts ++ more)
      ≡ total (map (λ (g : ℕ × Count). g.1) (map (λ (g : ℕ × Expr). (g.0, expr_outs g.1)) (trees gs))) counts
  given [] there = refl
  given (g ∷ gs) there = let parts = and_parts _ _ there in ap₂ (λ (a b : ℕ). a + b) (g.1.1 (and_parts _ _ parts.0).1) (given gs parts.1)

  called : (k : ℕ) → nat_lt k (length scope.funs) ≡ true → slice_index (counts ++ more) k ≡ slice_index counts k
  called k there = get_or_append_left counts more 0 k (let low : k < length scope.funs = ltb-true k (length scope.funs) there in omega (arith, low, long))

  abbrev expr_tree : Expr-F E S T → Expr-F Expr Stmt Touch
  expr_tree = map-Expr E S T Expr Stmt Touch (λ e. e.0) (λ e. e.0) (λ e. e.0)

  abbrev touch_tree : Touch-F E S T → Touch-F Expr Stmt Touch
  touch_tree = map-Touch E S T Expr Stmt Touch (λ e. e.0) (λ e. e.0) (λ e. e.0)

  abbrev stmt_tree : Stmt-F E S T → Stmt-F Expr Stmt Touch
  stmt_tree = map-Stmt E S T Expr Stmt Touch (λ e. e.0) (λ e. e.0) (λ e. e.0)

  abbrev ExprLevel : Expr-F Expr Stmt Touch → Type 0
  ExprLevel y = Same (n.expr_step (map-Expr Expr Stmt Touch Test Test Test expr_names stmt_names touch_names y)) (o.expr_step (map-Expr Expr Stmt Touch Count Count Count expr_outs stmt_outs touch_outs y))

  abbrev StmtLevel : Stmt-F Expr Stmt Touch → Type 0
  StmtLevel y = Same (n.stmt_step (map-Stmt Expr Stmt Touch Test Test Test expr_names stmt_names touch_names y)) (o.stmt_step (map-Stmt Expr Stmt Touch Count Count Count expr_outs stmt_outs touch_outs y))

  abbrev TouchLevel : Touch-F Expr Stmt Touch → Type 0
  TouchLevel y = Same (n.touch_step (map-Touch Expr Stmt Touch Test Test Test expr_names stmt_names touch_names y)) (o.touch_step (map-Touch Expr Stmt Touch Count Count Count expr_outs stmt_outs touch_outs y))

  expr_level : (y : Expr-F E S T) → ExprLevel (expr_tree y)
  expr_level (Expr-F.Fixed v) there = refl
  expr_level (Expr-F.Local i) there = refl
  expr_level Expr-F.Now there = refl
  expr_level Expr-F.Me there = refl
  expr_level (Expr-F.Un op e) there = just e there
  expr_level (Expr-F.Bin op e g) there = pair e g there
  expr_level (Expr-F.Cmp op e g) there = pair e g there
  expr_level (Expr-F.Cast w e) there = just e there
  expr_level (Expr-F.Hash w es) there = these es there
  expr_level (Expr-F.Array e) there = before (touch_names e.0) (touch_outs e.0) [] [] e.1 none there
  expr_level (Expr-F.Fun k names es) there =
      let parts = and_parts _ _ there in
      ap₂ (λ (a b : ℕ). a + b) (these es parts.1) (called k (and_parts _ _ parts.0).0)
  expr_level (Expr-F.Inlined gs es) there =
      let parts = and_parts _ _ there in
      let cs = map (λ (g : ℕ × Count). g.1) (map (λ (g : ℕ × Expr). (g.0, expr_outs g.1)) (trees gs)) in
      let ds = map stmt_outs (stmts es) in
      total-append cs ds (counts ++ more) ∙ ap₂ (λ (a b : ℕ). a + b) (given gs parts.0) (those es parts.1) ∙ sym (total-append cs ds counts)

  touch_level : (y : Touch-F E S T) → TouchLevel (touch_tree y)
  touch_level y there =
      before (expr_names y.index.0) (expr_outs y.index.0) (expr_names y.get_arg.0 ∷ expr_names y.set_arg.0 ∷ []) (expr_outs y.get_arg.0 ∷ expr_outs y.set_arg.0 ∷ []) y.index.1 (pair y.get_arg y.set_arg) (and_parts _ _ there).1

  left_out : (d : Option E) → AllSame (option_to_list (option_map (λ (e : E). expr_names e.0) d)) (option_to_list (option_map (λ (e : E). expr_outs e.0) d))
  left_out None = none
  left_out (Some e) = just e

  abbrev gen_children : List E → Option E → Option E → Type 0
  gen_children es d t = AllSame (map expr_names (exprs es) ++ option_to_list (option_map (λ (e : E). expr_names e.0) d) ++ option_to_list (option_map (λ (e : E). expr_names e.0) t))
      (map expr_outs (exprs es) ++ option_to_list (option_map (λ (e : E). expr_outs e.0) d) ++ option_to_list (option_map (λ (e : E). expr_outs e.0) t))

  generated : (es : List E) (d t : Option E) → gen_children es d t
  generated es d t = joined (map expr_names (exprs es) ++ option_to_list (option_map (λ (e : E). expr_names e.0) d)) _ (map expr_outs (exprs es) ++ option_to_list (option_map (λ (e : E). expr_outs e.0) d)) _
      (joined (map expr_names (exprs es)) _ (map expr_outs (exprs es)) _ (these es) (left_out d)) (left_out t)

  grouped : (es : List E) (d : Option E) → AllSame (map expr_names (exprs es) ++ option_to_list (option_map (λ (e : E). expr_names e.0) d)) (map expr_outs (exprs es) ++ option_to_list (option_map (λ (e : E). expr_outs e.0) d))
  grouped es d = joined (map expr_names (exprs es)) _ (map expr_outs (exprs es)) _ (these es) (left_out d)

  stmt_level : (y : Stmt-F E S T) → StmtLevel (stmt_tree y)
  stmt_level (Stmt-F.Assign i e) there = just e (and_from _ _ (and_parts _ _ there).1 refl)
  stmt_level (Stmt-F.Drop e) there = just e there
  stmt_level (Stmt-F.If e es gs) there =
      let parts = and_parts _ _ there in
      let branches = both_pass (λ (test : Test). test scope) (map stmt_names (stmts es)) (map stmt_names (stmts gs)) parts.1 in
      ap₂ (λ (a b : ℕ). a + b) (e.1 parts.0) (ap₂ (λ (a b : ℕ). max a b) (those es branches.0) (those gs branches.1))
  stmt_level (Stmt-F.Gen event es None None b) there = ap (λ (k : ℕ). k + 1) (generated es None None (and_parts _ _ there).1)
  stmt_level (Stmt-F.Gen event es None (Some t) b) there = ap (λ (k : ℕ). k + 1) (generated es None (Some t) (and_parts _ _ there).1)
  stmt_level (Stmt-F.Gen event es (Some d) None b) there = ap (λ (k : ℕ). k + 1) (generated es (Some d) None (and_parts _ _ there).1)
  stmt_level (Stmt-F.Gen event es (Some d) (Some t) b) there = ap (λ (k : ℕ). k + 1) (generated es (Some d) (Some t) (and_parts _ _ there).1)
  stmt_level (Stmt-F.Multi event es None members) there = ap (λ (k : ℕ). k + length members) (grouped es None (and_parts _ _ there).1)
  stmt_level (Stmt-F.Multi event es (Some d) members) there = ap (λ (k : ℕ). k + length members) (grouped es (Some d) (and_parts _ _ there).1)
  stmt_level (Stmt-F.Say form es) there = ap (λ (k : ℕ). k + 1) (these es (and_parts _ _ there).1)
  stmt_level (Stmt-F.Return None) there = refl
  stmt_level (Stmt-F.Return (Some e)) there = just e there

  -- Where the folds are opened at a node.
  opened : {t u : Test} {c d : Count} → t ≡ u → c ≡ d → Same u d → Same t c
  opened {t} {u} {c} {d} e h is = subst (λ (x : Test). Same x c) (sym e) (subst (λ (x : Count). Same u x) (sym h) is)

  of_expr : (y : Expr-F E S T) → Same (expr_names (roll-Expr (expr_tree y))) (expr_outs (roll-Expr (expr_tree y)))
  of_expr y = opened (fold-roll-Expr Test Test Test n.expr_step n.stmt_step n.touch_step (expr_tree y)) (fold-roll-Expr Count Count Count o.expr_step o.stmt_step o.touch_step (expr_tree y)) (expr_level y)

  of_stmt : (y : Stmt-F E S T) → Same (stmt_names (roll-Stmt (stmt_tree y))) (stmt_outs (roll-Stmt (stmt_tree y)))
  of_stmt y = opened (fold-roll-Stmt Test Test Test n.expr_step n.stmt_step n.touch_step (stmt_tree y)) (fold-roll-Stmt Count Count Count o.expr_step o.stmt_step o.touch_step (stmt_tree y)) (stmt_level y)

  of_touch : (y : Touch-F E S T) → Same (touch_names (roll-Touch (touch_tree y))) (touch_outs (roll-Touch (touch_tree y)))
  of_touch y = opened (fold-roll-Touch Test Test Test n.expr_step n.stmt_step n.touch_step (touch_tree y)) (fold-roll-Touch Count Count Count o.expr_step o.stmt_step o.touch_step (touch_tree y)) (touch_level y)

  stmt_same : (e : Stmt) → Same (stmt_names e) (stmt_outs e)
  stmt_same = ind-Stmt (λ e. Same (expr_names e) (expr_outs e)) (λ e. Same (stmt_names e) (stmt_outs e)) (λ e. Same (touch_names e) (touch_outs e))
      (λ e y is. subst (λ z. Same (expr_names (roll-Expr z)) (expr_outs (roll-Expr z))) is (of_expr y))
      (λ e y is. subst (λ z. Same (stmt_names (roll-Stmt z)) (stmt_outs (roll-Stmt z))) is (of_stmt y))
      (λ e y is. subst (λ z. Same (touch_names (roll-Touch z)) (touch_outs (roll-Touch z))) is (of_touch y))

  pub body_same : (ss : List Stmt) → each (map stmt_names ss) scope ≡ true → body_outs ss (counts ++ more) ≡ body_outs ss counts
  body_same [] there = refl
  body_same (e ∷ es) there = let parts = and_parts _ _ there in ap₂ (λ (a b : ℕ). a + b) (stmt_same e parts.0) (body_same es parts.1)

-- Handlers that send few out still do.
pub handlers_stay : (m : CoreParts) (counts more : List ℕ) → length m.funs ≡ length counts → (hs : List HandlerDef) →
    list_all (λ (h : HandlerDef). each (map stmt_names h.body) (handler_scope m h)) hs ≡ true →
    list_all (λ (h : HandlerDef). nat_le (body_outs h.body counts) 8) hs ≡ true → list_all (λ (h : HandlerDef). nat_le (body_outs h.body (counts ++ more)) 8) hs ≡ true
handlers_stay m counts more long [] there few = refl
handlers_stay m counts more long (h ∷ hs) there few =
    let scopes = and_parts _ _ there in
    let fews = and_parts _ _ few in
    and_from _ _ (ap (λ (k : ℕ). nat_le k 8) (body_same (handler_scope m h) counts more long h.body scopes.0) ∙ fews.0) (handlers_stay m counts more long hs scopes.1 fews.1)
