-- A body gives as many outs as its flat form.
use Rattle.std.proofs.Common.{◌≡◌, ℕ, zero, suc, ◌+◌, max, List, [], ◌∷◌, ◌++◌, Bool, true, false, Option, None, Some, length, map, refl, sym, ap, ap₂, subst, ◌∙◌, arith, slice_get, slice_index, option_map, option_to_list}
use Rattle.std.specs.List.{enumerate_from}
use Rattle.std.proofs.lemmas.List.{map-append}
use Rattle.lucid_core.specs.declared.body.Expr.{Expr}
use Rattle.lucid_core.specs.declared.body.Stmt.{Stmt}
use Rattle.lucid_core.specs.declared.body.Touch.{Touch}
use Rattle.lucid_core.specs.declared.body.Expr.TheOpen.{Expr-F, Stmt-F, Touch-F}
use Rattle.lucid_core.specs.declared.body.Expr.TheViews.{roll-Expr, roll-Stmt, roll-Touch}
use Rattle.lucid_core.specs.declared.body.Expr.TheFolds.{fold-roll-Expr, fold-roll-Stmt, fold-roll-Touch, map-Expr, map-Stmt, map-Touch}
use Rattle.lucid_core.specs.declared.defs.FunDef.{FunDef}
use Rattle.lucid_core.specs.Computations.{array_of}
use Rattle.lucid_core.specs.OutCount as o
use Rattle.lucid_core.specs.OutCount.{Count, total, expr_outs, stmt_outs, touch_outs, body_outs, funs_outs}
use Rattle.lucid_base.specs.Bits.{bits_of}
use Rattle.std.proofs.lemmas.Bool.{and_parts}
use Rattle.lucid_core.proofs.Fine.{both_pass}
use Rattle.lucid_inline_spec.proofs.Fit as r
use Rattle.lucid_inline_spec.proofs.Fit.{Fit, expr_fit, stmt_fit, touch_fit}
use Rattle.lucid_inline_spec.proofs.Runs.{funs_fit, puts_from, rooms_from}
use Rattle.lucid_core.specs.declared.defs.HandlerDef.{HandlerDef}
use Rattle.lucid_inline_spec.specs.Flat as f
use Rattle.lucid_inline_spec.specs.Flat.{Flatten, Flattened, Site, PutIn, flat_expr, flat_stmt, flat_touch, locals_from, to_member}
use Rattle.lucid_core.specs.ExamplePrograms.{local}
use Rattle.lucid_core.proofs.Induction.{Cases, body_by, opened3}

pub total-append : (xs ys : List Count) (fs : List ℕ) → total (xs ++ ys) fs ≡ total xs fs + total ys fs
total-append [] ys fs = let z : 0 + total ys fs ≡ total ys fs = omega arith in sym z
total-append (x ∷ xs) ys fs = let e = total-append xs ys fs in omega arith

-- The outs of each function's body.
abbrev pub AllCount : List ℕ → List PutIn → Type 0
AllCount [] [] = Unit {0}
AllCount (c ∷ cs) (put ∷ puts) = ((arrays ws : List ℕ) → body_outs (put arrays ws).value [] ≡ c) × AllCount cs puts
AllCount _ _ = ⊥

expr_at : (y : Expr-F Expr Stmt Touch) → expr_outs (roll-Expr y) ≡ o.expr_step (map-Expr Expr Stmt Touch Count Count Count expr_outs stmt_outs touch_outs y)
expr_at y = fold-roll-Expr Count Count Count o.expr_step o.stmt_step o.touch_step y

stmt_at : (y : Stmt-F Expr Stmt Touch) → stmt_outs (roll-Stmt y) ≡ o.stmt_step (map-Stmt Expr Stmt Touch Count Count Count expr_outs stmt_outs touch_outs y)
stmt_at y = fold-roll-Stmt Count Count Count o.expr_step o.stmt_step o.touch_step y

touch_at : (y : Touch-F Expr Stmt Touch) → touch_outs (roll-Touch y) ≡ o.touch_step (map-Touch Expr Stmt Touch Count Count Count expr_outs stmt_outs touch_outs y)
touch_at y = fold-roll-Touch Count Count Count o.expr_step o.stmt_step o.touch_step y

stmts_at : (ys : List (Stmt-F Expr Stmt Touch)) → map stmt_outs (map roll-Stmt ys) ≡ map (λ y. o.stmt_step (map-Stmt Expr Stmt Touch Count Count Count expr_outs stmt_outs touch_outs y)) ys
stmts_at [] = refl
stmts_at (y ∷ ys) = ap₂ (λ (c : Count) (cs : List Count). c ∷ cs) (stmt_at y) (stmts_at ys)

-- The arguments of an `Inlined`.
args_alone : (b : ℕ) (xs : List Expr) → map (λ (g : ℕ × Count). g.1) (map (λ (g : ℕ × Expr). (g.0, expr_outs g.1)) (enumerate_from b xs)) ≡ map expr_outs xs
args_alone b [] = refl
args_alone b (x ∷ xs) = ap (λ (cs : List Count). expr_outs x ∷ cs) (args_alone (b + 1) xs)

module _ (p : Site) (counts : List ℕ) (all : AllCount counts p.funs) (n : ℕ) (rooms : List ℕ) where
  abbrev E : Type 0
  E = (e : Expr) × (expr_fit e n rooms ≡ true → (ws : List ℕ) → expr_outs (flat_expr e p ws).value [] ≡ expr_outs e counts)

  abbrev S : Type 0
  S = (e : Stmt) × (stmt_fit e n rooms ≡ true → (ws : List ℕ) → body_outs (flat_stmt e p ws).value [] ≡ stmt_outs e counts)

  abbrev T : Type 0
  T = (e : Touch) × (touch_fit e n rooms ≡ true → (ws : List ℕ) → touch_outs (flat_touch e p ws).value [] ≡ touch_outs e counts)

  abbrev exprs : List E → List Expr
  exprs es = map (λ (e : E). e.0) es

  abbrev stmts : List S → List Stmt
  stmts es = map (λ (e : S). e.0) es

  these : (es : List E) → r.each (map expr_fit (exprs es)) n rooms ≡ true → (ws : List ℕ) → total (map expr_outs (f.each (map flat_expr (exprs es)) p ws).value) [] ≡ total (map expr_outs (exprs es)) counts
  these [] fit ws = refl
  these (e ∷ es) fit ws = let fits = and_parts _ _ fit in ap₂ (λ (a b : ℕ). a + b) (e.1 fits.0 ws) (these es fits.1 (flat_expr e.0 p ws).locals)

  those : (es : List S) → r.each (map stmt_fit (stmts es)) n rooms ≡ true → (ws : List ℕ) → body_outs (f.block (map flat_stmt (stmts es)) p ws).value [] ≡ total (map stmt_outs (stmts es)) counts
  those [] fit ws = refl
  those (e ∷ es) fit ws =
      let fits = and_parts _ _ fit in
      let first = flat_stmt e.0 p ws in
      let second = f.block (map flat_stmt (stmts es)) p first.locals in
      ap (λ (cs : List Count). total cs []) (map-append stmt_outs first.value second.value) ∙ total-append (map stmt_outs first.value) (map stmt_outs second.value) []
      ∙ ap₂ (λ (a b : ℕ). a + b) (e.1 fits.0 ws) (those es fits.1 first.locals)

  optional : (d : Option E) → r.each (option_to_list (option_map (λ (e : E). expr_fit e.0) d)) n rooms ≡ true → (ws : List ℕ) →
      total (option_to_list (option_map expr_outs (f.optional (option_map (λ (e : E). flat_expr e.0) d) p ws).value)) [] ≡ total (option_to_list (option_map (λ (e : E). expr_outs e.0) d)) counts
  optional None fit ws = refl
  optional (Some e) fit ws = ap (λ (m : ℕ). m + 0) (e.1 (and_parts _ _ fit).0 ws)

  put_counts : (cs : List ℕ) (ps : List PutIn) → AllCount cs ps → (k : ℕ) (arrays : List ℕ) (args : List Expr) (ws : List ℕ) →
      o.expr_step (map-Expr Expr Stmt Touch Count Count Count expr_outs stmt_outs touch_outs (f.put_in (slice_get ps k) arrays args ws).value) [] ≡ total (map expr_outs args) [] + slice_index cs k
  put_counts [] [] a k arrays args ws =
      ap (λ (q : List Count). total (q ++ []) []) (args_alone (length ws) args) ∙ total-append (map expr_outs args) [] []
  put_counts (c ∷ cs) (put ∷ ps) a zero arrays args ws =
      let body = put arrays ws in
      ap (λ (q : List Count). total (q ++ map stmt_outs body.value) []) (args_alone (length ws) args) ∙ total-append (map expr_outs args) (map stmt_outs body.value) []
      ∙ ap (λ (n : ℕ). total (map expr_outs args) [] + n) (a.0 arrays ws)
  put_counts (c ∷ cs) (put ∷ ps) a (suc k) arrays args ws = put_counts cs ps a.1 k arrays args ws
  put_counts [] (put ∷ ps) a k arrays args ws = absurd a
  put_counts (c ∷ cs) [] a k arrays args ws = absurd a

  abbrev expr_tree : Expr-F E S T → Expr-F Expr Stmt Touch
  expr_tree = map-Expr E S T Expr Stmt Touch (λ e. e.0) (λ e. e.0) (λ e. e.0)

  abbrev touch_tree : Touch-F E S T → Touch-F Expr Stmt Touch
  touch_tree = map-Touch E S T Expr Stmt Touch (λ e. e.0) (λ e. e.0) (λ e. e.0)

  abbrev stmt_tree : Stmt-F E S T → Stmt-F Expr Stmt Touch
  stmt_tree = map-Stmt E S T Expr Stmt Touch (λ e. e.0) (λ e. e.0) (λ e. e.0)

  abbrev expr_count : Expr-F Expr Stmt Touch → Count
  expr_count y = o.expr_step (map-Expr Expr Stmt Touch Count Count Count expr_outs stmt_outs touch_outs y)

  abbrev stmt_count : Stmt-F Expr Stmt Touch → Count
  stmt_count y = o.stmt_step (map-Stmt Expr Stmt Touch Count Count Count expr_outs stmt_outs touch_outs y)

  abbrev touch_count : Touch-F Expr Stmt Touch → Count
  touch_count y = o.touch_step (map-Touch Expr Stmt Touch Count Count Count expr_outs stmt_outs touch_outs y)

  abbrev node_e : Expr-F Expr Stmt Touch → List ℕ → Expr-F Expr Stmt Touch
  node_e y ws = (f.expr_node (map-Expr Expr Stmt Touch (Flatten Expr) (Flatten (List Stmt)) (Flatten Touch) flat_expr flat_stmt flat_touch y) p ws).value

  abbrev node_s : Stmt-F Expr Stmt Touch → List ℕ → List (Stmt-F Expr Stmt Touch)
  node_s y ws = (f.stmt_node (map-Stmt Expr Stmt Touch (Flatten Expr) (Flatten (List Stmt)) (Flatten Touch) flat_expr flat_stmt flat_touch y) p ws).value

  abbrev node_t : Touch-F Expr Stmt Touch → List ℕ → Touch-F Expr Stmt Touch
  node_t y ws = (f.touch_node (map-Touch Expr Stmt Touch (Flatten Expr) (Flatten (List Stmt)) (Flatten Touch) flat_expr flat_stmt flat_touch y) p ws).value

  abbrev fit_e : Expr-F E S T → Bool
  fit_e y = r.expr_step (map-Expr Expr Stmt Touch Fit Fit Fit expr_fit stmt_fit touch_fit (expr_tree y)) n rooms

  expr_level : (y : Expr-F E S T) → fit_e y ≡ true → (ws : List ℕ) → expr_count (node_e (expr_tree y) ws) [] ≡ expr_count (expr_tree y) counts
  expr_level (Expr-F.Fixed b) fit ws = refl
  expr_level (Expr-F.Local i) fit ws = refl
  expr_level Expr-F.Now fit ws = refl
  expr_level Expr-F.Me fit ws = refl
  expr_level (Expr-F.Un op e) fit ws = ap (λ (m : ℕ). m + 0) (e.1 (and_parts _ _ fit).0 ws)
  expr_level (Expr-F.Bin op e g) fit ws = let x = and_parts _ _ fit in ap₂ (λ (a b : ℕ). a + (b + 0)) (e.1 x.0 ws) (g.1 (and_parts _ _ x.1).0 (flat_expr e.0 p ws).locals)
  expr_level (Expr-F.Cmp op e g) fit ws = let x = and_parts _ _ fit in ap₂ (λ (a b : ℕ). a + (b + 0)) (e.1 x.0 ws) (g.1 (and_parts _ _ x.1).0 (flat_expr e.0 p ws).locals)
  expr_level (Expr-F.Cast w e) fit ws = ap (λ (m : ℕ). m + 0) (e.1 (and_parts _ _ fit).0 ws)
  expr_level (Expr-F.Hash w es) fit ws = these es fit ws
  expr_level (Expr-F.Array e) fit ws = ap (λ (m : ℕ). m + 0) (e.1 (and_parts _ _ fit).0 ws)
  expr_level (Expr-F.Fun k names es) fit ws =
      let first = f.each (map flat_expr (exprs es)) p ws in
      put_counts counts p.funs all k (map (array_of p.arrays) names) first.value first.locals ∙ ap (λ (m : ℕ). m + slice_index counts k) (these es (and_parts _ _ fit).1 ws)
  expr_level (Expr-F.Inlined given es) fit ws = absurd (cc)

  touch_level : (y : Touch-F E S T) → r.touch_step (map-Touch Expr Stmt Touch Fit Fit Fit expr_fit stmt_fit touch_fit (touch_tree y)) n rooms ≡ true → (ws : List ℕ) → touch_count (node_t (touch_tree y) ws) [] ≡ touch_count (touch_tree y) counts
  touch_level y fit ws =
      let fit1 = and_parts _ _ fit in
      let fit2 = and_parts _ _ fit1.1 in
      let first = (flat_expr y.index.0 p ws).locals in
      let second = (flat_expr y.get_arg.0 p first).locals in
      ap₂ (λ (a b : ℕ). a + b) (y.index.1 fit1.0 ws) (ap₂ (λ (a b : ℕ). a + (b + 0)) (y.get_arg.1 fit2.0 first) (y.set_arg.1 (and_parts _ _ fit2.1).0 second))

  -- A node of its own.
  alone : (n m : ℕ) → n ≡ m → n + 0 ≡ m
  alone n m e = omega arith

  -- Events to each member of a group.
  local_none : (b n : ℕ) → total (map expr_outs (locals_from b n)) [] ≡ 0
  local_none b zero = refl
  local_none b (suc n) = let e = ap (λ (c : Count). c []) (expr_at (Expr-F.Local b)) in let rest = local_none (b + 1) n in omega arith

  member_count : (event b n : ℕ) (delayed : Bool) (m : ℕ) → stmt_count (to_member event b n delayed m) [] ≡ 1
  member_count event b n true m =
      let e1 = local_none b n in
      let e2 = ap (λ (c : Count). c []) (expr_at (Expr-F.Local (b + n))) in
      let e3 = ap (λ (c : Count). c []) (expr_at (Expr-F.Fixed (bits_of 32 m))) in
      let e4 = total-append (map expr_outs (locals_from b n) ++ expr_outs (local (b + n)) ∷ []) (expr_outs (roll-Expr (Expr-F.Fixed (bits_of 32 m))) ∷ []) [] in
      let e5 = total-append (map expr_outs (locals_from b n)) (expr_outs (local (b + n)) ∷ []) [] in
      omega arith
  member_count event b n false m =
      let e1 = local_none b n in
      let e3 = ap (λ (c : Count). c []) (expr_at (Expr-F.Fixed (bits_of 32 m))) in
      let e4 = total-append (map expr_outs (locals_from b n) ++ []) (expr_outs (roll-Expr (Expr-F.Fixed (bits_of 32 m))) ∷ []) [] in
      let e5 = total-append (map expr_outs (locals_from b n)) [] [] in
      omega arith

  members_count : (event b n : ℕ) (delayed : Bool) (ms : List ℕ) → total (map stmt_count (map (to_member event b n delayed) ms)) [] ≡ length ms
  members_count event b n delayed [] = refl
  members_count event b n delayed (m ∷ ms) = let e = member_count event b n delayed m in let rest = members_count event b n delayed ms in omega arith

  assigns_count : (b : ℕ) (xs : List Expr) → total (map stmt_count (map (λ (g : ℕ × Expr). Stmt-F.Assign g.0 g.1) (enumerate_from b xs))) [] ≡ total (map expr_outs xs) []
  assigns_count b [] = refl
  assigns_count b (x ∷ xs) = let rest = assigns_count (b + 1) xs in omega arith

  parts : (xs ys zs : List Count) → total (xs ++ ys ++ zs) [] + 1 + 0 ≡ total xs [] + total ys [] + total zs [] + 1
  parts xs ys zs = let e1 = total-append (xs ++ ys) zs [] in let e2 = total-append xs ys [] in omega arith

  gen_count : (event : ℕ) (args : List Expr) (d t : Option Expr) (b : Bool) →
      total (map stmt_count (Stmt-F.Gen event args d t b ∷ [])) [] ≡ total (map expr_outs args) [] + total (option_to_list (option_map expr_outs d)) [] + total (option_to_list (option_map expr_outs t)) [] + 1
  gen_count event args None None b = parts (map expr_outs args) [] []
  gen_count event args None (Some t) b = parts (map expr_outs args) [] (expr_outs t ∷ [])
  gen_count event args (Some d) None b = parts (map expr_outs args) (expr_outs d ∷ []) []
  gen_count event args (Some d) (Some t) b = parts (map expr_outs args) (expr_outs d ∷ []) (expr_outs t ∷ [])

  gen_level : (event : ℕ) (es : List E) (d t : Option E) (b : Bool) →
      r.stmt_step (Stmt-F.Gen event (map expr_fit (exprs es)) (option_map (λ (e : E). expr_fit e.0) d) (option_map (λ (e : E). expr_fit e.0) t) b) n rooms ≡ true → (ws : List ℕ) →
      total (map stmt_count (f.stmt_node (Stmt-F.Gen event (map flat_expr (exprs es)) (option_map (λ (e : E). flat_expr e.0) d) (option_map (λ (e : E). flat_expr e.0) t) b) p ws).value) [] ≡
      o.stmt_step (Stmt-F.Gen event (map expr_outs (exprs es)) (option_map (λ (e : E). expr_outs e.0) d) (option_map (λ (e : E). expr_outs e.0) t) b) counts
  gen_level event es d t b fit ws =
      let fit1 = both_pass (λ (test : Fit). test n rooms) (map expr_fit (exprs es) ++ option_to_list (option_map (λ (e : E). expr_fit e.0) d)) (option_to_list (option_map (λ (e : E). expr_fit e.0) t)) fit in
      let fit2 = both_pass (λ (test : Fit). test n rooms) (map expr_fit (exprs es)) (option_to_list (option_map (λ (e : E). expr_fit e.0) d)) fit1.0 in
      let first = f.each (map flat_expr (exprs es)) p ws in
      let made = f.both b (f.optional (option_map (λ (e : E). flat_expr e.0) d)) (f.optional (option_map (λ (e : E). flat_expr e.0) t)) p first.locals in
      let e1 = gen_count event first.value made.value.0 made.value.1 b in
      let e2 = these es fit2.0 ws in
      let e3 = both_counts b d t fit2.1 fit1.1 first.locals in
      let e4 = e3.0 in
      let e5 = e3.1 in
      let e6 = total-append (map expr_outs (exprs es) ++ option_to_list (option_map (λ (e : E). expr_outs e.0) d)) (option_to_list (option_map (λ (e : E). expr_outs e.0) t)) counts in
      let e7 = total-append (map expr_outs (exprs es)) (option_to_list (option_map (λ (e : E). expr_outs e.0) d)) counts in
      omega arith
    where
      both_counts : (b2 : Bool) (x y : Option E) → r.each (option_to_list (option_map (λ (e : E). expr_fit e.0) x)) n rooms ≡ true → r.each (option_to_list (option_map (λ (e : E). expr_fit e.0) y)) n rooms ≡ true → (us : List ℕ) →
          (let made = f.both b2 (f.optional (option_map (λ (e : E). flat_expr e.0) x)) (f.optional (option_map (λ (e : E). flat_expr e.0) y)) p us in
          (total (option_to_list (option_map expr_outs made.value.0)) [] ≡ total (option_to_list (option_map (λ (e : E). expr_outs e.0) x)) counts)
          × (total (option_to_list (option_map expr_outs made.value.1)) [] ≡ total (option_to_list (option_map (λ (e : E). expr_outs e.0) y)) counts))
      both_counts true x y f1 f2 us = (optional x f1 us, optional y f2 (f.optional (option_map (λ (e : E). flat_expr e.0) x) p us).locals)
      both_counts false x y f1 f2 us = (optional x f1 (f.optional (option_map (λ (e : E). flat_expr e.0) y) p us).locals, optional y f2 us)

  -- A group: as many outs as members.
  group_count : (event : ℕ) (held : List (Flatten Expr)) (k : ℕ) (delayed : Bool) (members : List ℕ) (ws : List ℕ) →
      (let first = f.each held p ws in total (map stmt_count (map (λ (g : ℕ × Expr). Stmt-F.Assign g.0 g.1) (enumerate_from (length first.locals) first.value) ++ map (to_member event (length first.locals) k delayed) members)) [] ≡
      total (map expr_outs first.value) [] + length members)
  group_count event held k delayed members ws =
      let first = f.each held p ws in
      let assigns = map (λ (g : ℕ × Expr). Stmt-F.Assign g.0 g.1) (enumerate_from (length first.locals) first.value) in
      let gens = map (to_member event (length first.locals) k delayed) members in
      let e1 = ap (λ (cs : List Count). total cs []) (map-append stmt_count assigns gens) in
      let e2 = total-append (map stmt_count assigns) (map stmt_count gens) [] in
      let e3 = assigns_count (length first.locals) first.value in
      let e4 = members_count event (length first.locals) k delayed members in
      omega arith

  joined : {A : Type 0} (g : Expr → A) (es ds : List E) → map g (exprs (es ++ ds)) ≡ map g (exprs es) ++ map g (exprs ds)
  joined g es ds = ap (map g) (map-append (λ (e : E). e.0) es ds) ∙ map-append g (exprs es) (exprs ds)

  group_level : (event k : ℕ) (delayed : Bool) (members : List ℕ) (es ds : List E) (held : List (Flatten Expr)) → map flat_expr (exprs (es ++ ds)) ≡ held →
      r.each (map expr_fit (exprs es) ++ map expr_fit (exprs ds)) n rooms ≡ true → (ws : List ℕ) →
      (let first = f.each held p ws in total (map stmt_count (map (λ (g : ℕ × Expr). Stmt-F.Assign g.0 g.1) (enumerate_from (length first.locals) first.value) ++ map (to_member event (length first.locals) k delayed) members)) [] ≡
      total (map expr_outs (exprs es) ++ map expr_outs (exprs ds)) counts + length members)
  group_level event k delayed members es ds held is fit ws =
      group_count event held k delayed members ws
      ∙ ap (λ (m : ℕ). m + length members)
      (subst (λ (ts : List (Flatten Expr)). total (map expr_outs (f.each ts p ws).value) [] ≡ total (map expr_outs (exprs (es ++ ds))) counts) is
      (these (es ++ ds) (subst (λ (ts : List Fit). r.each ts n rooms ≡ true) (sym (joined expr_fit es ds)) fit) ws)
      ∙ ap (λ (cs : List Count). total cs counts) (joined expr_outs es ds))

  stmt_level : (y : Stmt-F E S T) → r.stmt_step (map-Stmt Expr Stmt Touch Fit Fit Fit expr_fit stmt_fit touch_fit (stmt_tree y)) n rooms ≡ true → (ws : List ℕ) →
      total (map stmt_count (node_s (stmt_tree y) ws)) [] ≡ stmt_count (stmt_tree y) counts
  stmt_level (Stmt-F.Assign i e) fit ws = alone _ _ (ap (λ (m : ℕ). m + 0) (e.1 (and_parts _ _ fit).1 ws))
  stmt_level (Stmt-F.Drop e) fit ws = alone _ _ (ap (λ (m : ℕ). m + 0) (e.1 (and_parts _ _ fit).0 ws))
  stmt_level (Stmt-F.If e es gs) fit ws =
      let fit1 = and_parts _ _ fit in
      let fit2 = both_pass (λ (test : Fit). test n rooms) (map stmt_fit (stmts es)) (map stmt_fit (stmts gs)) fit1.1 in
      let first = (flat_expr e.0 p ws).locals in
      alone _ _ (ap₂ (λ (a b : ℕ). a + b) (e.1 fit1.0 ws) (ap₂ (λ (a b : ℕ). max a b) (those es fit2.0 first) (those gs fit2.1 (f.block (map flat_stmt (stmts es)) p first).locals)))
  stmt_level (Stmt-F.Gen event es None None b) fit ws = gen_level event es None None b fit ws
  stmt_level (Stmt-F.Gen event es None (Some t) b) fit ws = gen_level event es None (Some t) b fit ws
  stmt_level (Stmt-F.Gen event es (Some d) None b) fit ws = gen_level event es (Some d) None b fit ws
  stmt_level (Stmt-F.Gen event es (Some d) (Some t) b) fit ws = gen_level event es (Some d) (Some t) b fit ws
  stmt_level (Stmt-F.Multi event es None members) fit ws = group_level event (length (map flat_expr (exprs es))) false members es [] (map flat_expr (exprs es) ++ []) (joined flat_expr es []) (and_parts _ _ fit).1 ws
  stmt_level (Stmt-F.Multi event es (Some d) members) fit ws =
      group_level event (length (map flat_expr (exprs es))) true members es (d ∷ []) (map flat_expr (exprs es) ++ flat_expr d.0 ∷ []) (joined flat_expr es (d ∷ [])) (and_parts _ _ fit).1 ws
  stmt_level (Stmt-F.Say form es) fit ws = alone _ _ (ap (λ (m : ℕ). m + 1) (these es fit ws))
  stmt_level (Stmt-F.Return None) fit ws = refl
  stmt_level (Stmt-F.Return (Some e)) fit ws = alone _ _ (ap (λ (m : ℕ). m + 0) (e.1 (and_parts _ _ fit).0 ws))

  -- Where three folds are opened3 at a node.
  abbrev ExprSame : Flatten Expr → Count → Fit → Type 0
  ExprSame t c fit = fit n rooms ≡ true → (ws : List ℕ) → expr_outs (t p ws).value [] ≡ c counts

  abbrev StmtSame : Flatten (List Stmt) → Count → Fit → Type 0
  StmtSame t c fit = fit n rooms ≡ true → (ws : List ℕ) → body_outs (t p ws).value [] ≡ c counts

  abbrev TouchSame : Flatten Touch → Count → Fit → Type 0
  TouchSame t c fit = fit n rooms ≡ true → (ws : List ℕ) → touch_outs (t p ws).value [] ≡ c counts

  of_expr : (y : Expr-F E S T) → ExprSame (flat_expr (roll-Expr (expr_tree y))) (expr_outs (roll-Expr (expr_tree y))) (expr_fit (roll-Expr (expr_tree y)))
  of_expr y = let tree = expr_tree y in opened3 ExprSame
      (fold-roll-Expr (Flatten Expr) (Flatten (List Stmt)) (Flatten Touch) f.expr_step f.stmt_step f.touch_step tree) (expr_at tree) (fold-roll-Expr Fit Fit Fit r.expr_step r.stmt_step r.touch_step tree)
      (λ fit ws. ap (λ (c : Count). c []) (expr_at (node_e tree ws)) ∙ expr_level y fit ws)

  of_stmt : (y : Stmt-F E S T) → StmtSame (flat_stmt (roll-Stmt (stmt_tree y))) (stmt_outs (roll-Stmt (stmt_tree y))) (stmt_fit (roll-Stmt (stmt_tree y)))
  of_stmt y = let tree = stmt_tree y in opened3 StmtSame
      (fold-roll-Stmt (Flatten Expr) (Flatten (List Stmt)) (Flatten Touch) f.expr_step f.stmt_step f.touch_step tree) (stmt_at tree) (fold-roll-Stmt Fit Fit Fit r.expr_step r.stmt_step r.touch_step tree)
      (λ fit ws. ap (λ (cs : List Count). total cs []) (stmts_at (node_s tree ws)) ∙ stmt_level y fit ws)

  of_touch : (y : Touch-F E S T) → TouchSame (flat_touch (roll-Touch (touch_tree y))) (touch_outs (roll-Touch (touch_tree y))) (touch_fit (roll-Touch (touch_tree y)))
  of_touch y = let tree = touch_tree y in opened3 TouchSame
      (fold-roll-Touch (Flatten Expr) (Flatten (List Stmt)) (Flatten Touch) f.expr_step f.stmt_step f.touch_step tree) (touch_at tree) (fold-roll-Touch Fit Fit Fit r.expr_step r.stmt_step r.touch_step tree)
      (λ fit ws. ap (λ (c : Count). c []) (touch_at (node_t tree ws)) ∙ touch_level y fit ws)

  by_nodes : Cases (λ e. ExprSame (flat_expr e) (expr_outs e) (expr_fit e)) (λ e. StmtSame (flat_stmt e) (stmt_outs e) (stmt_fit e)) (λ e. TouchSame (flat_touch e) (touch_outs e) (touch_fit e))
  by_nodes = record { expr = of_expr; stmt = of_stmt; touch = of_touch }

  abbrev BodySame : List Stmt → Type 0
  BodySame ss = r.each (map stmt_fit ss) n rooms ≡ true → (ws : List ℕ) → body_outs (f.block (map flat_stmt ss) p ws).value [] ≡ body_outs ss counts

  pub body_same : (ss : List Stmt) → BodySame ss
  body_same = body_by BodySame by_nodes those

one_more : (cs : List ℕ) (ps : List PutIn) (c : ℕ) (put : PutIn) → AllCount cs ps → ((arrays ws : List ℕ) → body_outs (put arrays ws).value [] ≡ c) → AllCount (cs ++ c ∷ []) (ps ++ put ∷ [])
one_more [] [] c put all one = (one, tt)
one_more (d ∷ cs) (p ∷ ps) c put all one = (all.0, one_more cs ps c put all.1 one)
one_more [] (p ∷ ps) c put all one = absurd all
one_more (d ∷ cs) [] c put all one = absurd all

funs_same : (cs rooms : List ℕ) (puts : List PutIn) (ds : List FunDef) → AllCount cs puts → funs_fit rooms ds ≡ true → AllCount (funs_outs cs ds) (puts_from puts ds)
funs_same cs rooms puts [] all fit = all
funs_same cs rooms puts (d ∷ ds) all fit =
    let fits = and_parts _ _ fit in
    funs_same (cs ++ body_outs d.body cs ∷ []) (rooms ++ d.params ∷ []) (puts ++ f.put_of puts d ∷ []) ds
    (one_more cs puts (body_outs d.body cs) (f.put_of puts d) all
    (λ arrays ws. body_same (record { arrays = arrays; first = length ws; funs = puts }) cs all (length d.locals) rooms d.body (and_parts _ _ fits.0).1 (ws ++ d.locals))) fits.1

-- A handler's outs are those of its flat form.
pub handler_outs : (funs : List FunDef) → funs_fit [] funs ≡ true → (h : HandlerDef) → r.each (map stmt_fit h.body) (length h.locals) (rooms_from [] funs) ≡ true →
    body_outs (f.flat_handler funs h).body [] ≡ body_outs h.body (funs_outs [] funs)
handler_outs funs fits h fit =
    body_same (record { arrays = []; first = 0; funs = f.puts_of funs }) (funs_outs [] funs) (funs_same [] [] [] funs tt fits) (length h.locals) (rooms_from [] funs) h.body fit h.locals
