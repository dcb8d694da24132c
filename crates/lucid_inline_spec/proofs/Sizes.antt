-- The size that is counted over a body is that of its flat form.
use Rattle.std.proofs.Common.{◌≡◌, ℕ, zero, suc, ◌+◌, List, [], ◌∷◌, ◌++◌, Bool, true, false, Option, None, Some, length, map, refl, sym, ap, ap₂, subst, ◌∙◌, arith, slice_get, slice_index, option_map, option_to_list}
use Rattle.std.specs.List.{enumerate_from}
use Rattle.std.proofs.lemmas.Bool.{and_parts}
use Rattle.std.proofs.lemmas.List.{length-map, map-append}
use Rattle.lucid_base.specs.Bits.{bits_of}
use Rattle.lucid_core.specs.declared.body.Expr.{Expr}
use Rattle.lucid_core.specs.declared.body.Stmt.{Stmt}
use Rattle.lucid_core.specs.declared.body.Touch.{Touch}
use Rattle.lucid_core.specs.declared.body.Expr.TheOpen.{Expr-F, Stmt-F, Touch-F}
use Rattle.lucid_core.specs.declared.body.Expr.TheViews.{roll-Expr, roll-Stmt, roll-Touch}
use Rattle.lucid_core.specs.declared.body.Expr.TheFolds.{fold-Expr, fold-Touch, fold-roll-Expr, fold-roll-Stmt, fold-roll-Touch, map-Expr, map-Stmt, map-Touch}
use Rattle.lucid_core.specs.declared.defs.FunDef.{FunDef}
use Rattle.lucid_core.specs.declared.defs.HandlerDef.{HandlerDef}
use Rattle.lucid_core.specs.Computations.{array_of}
use Rattle.lucid_core.specs.ExamplePrograms.{local}
use Rattle.lucid_core.specs.OutCount.{Count, total}
use Rattle.lucid_core.proofs.Fine.{both_pass}
use Rattle.lucid_core.proofs.Induction.{Cases, body_by, opened3}
use Rattle.lucid_effects_spec.specs.Size as z
use Rattle.lucid_effects_spec.specs.Size.{flat_stmt_size}
use Rattle.lucid_inline_spec.specs.Counts as o
use Rattle.lucid_inline_spec.specs.Counts.{body_size, expr_size, fun_sizes, stmt_size, touch_size}
use Rattle.lucid_inline_spec.specs.Flat as f
use Rattle.lucid_inline_spec.specs.Flat.{Flatten, Flattened, PutIn, Site, flat_expr, flat_stmt, flat_touch, locals_from, to_member}
use Rattle.lucid_inline_spec.proofs.Fit as r
use Rattle.lucid_inline_spec.proofs.Fit.{Fit, expr_fit, stmt_fit, touch_fit}
use Rattle.lucid_inline_spec.proofs.Outs.{total-append}
use Rattle.lucid_inline_spec.proofs.Runs.{funs_fit, puts_from, rooms_from}

abbrev flat_expr_size : Expr → ℕ
flat_expr_size = fold-Expr ℕ ℕ ℕ z.flat_expr z.stmt_step z.flat_touch

abbrev flat_touch_size : Touch → ℕ
flat_touch_size = fold-Touch ℕ ℕ ℕ z.flat_expr z.stmt_step z.flat_touch

sizes-append : (xs ys : List ℕ) → z.total (xs ++ ys) ≡ z.total xs + z.total ys
sizes-append [] ys = let e : 0 + z.total ys ≡ z.total ys = omega arith in sym e
sizes-append (x ∷ xs) ys = let e = sizes-append xs ys in omega arith

abbrev sizes_of : List Stmt → ℕ
sizes_of ss = z.total (map flat_stmt_size ss)

-- The size of each function's body.
abbrev pub AllSize : List ℕ → List PutIn → Type 0
AllSize [] [] = Unit {0}
AllSize (c ∷ cs) (put ∷ puts) = ((arrays ws : List ℕ) → sizes_of (put arrays ws).value ≡ c) × AllSize cs puts
AllSize _ _ = ⊥

abbrev node_expr : Expr-F Expr Stmt Touch → ℕ
node_expr y = z.flat_expr (map-Expr Expr Stmt Touch ℕ ℕ ℕ flat_expr_size flat_stmt_size flat_touch_size y)

abbrev node_stmt : Stmt-F Expr Stmt Touch → ℕ
node_stmt y = z.stmt_step (map-Stmt Expr Stmt Touch ℕ ℕ ℕ flat_expr_size flat_stmt_size flat_touch_size y)

abbrev node_touch : Touch-F Expr Stmt Touch → ℕ
node_touch y = z.flat_touch (map-Touch Expr Stmt Touch ℕ ℕ ℕ flat_expr_size flat_stmt_size flat_touch_size y)

expr_at : (y : Expr-F Expr Stmt Touch) → flat_expr_size (roll-Expr y) ≡ node_expr y
expr_at y = fold-roll-Expr ℕ ℕ ℕ z.flat_expr z.stmt_step z.flat_touch y

stmts_at : (ys : List (Stmt-F Expr Stmt Touch)) → map flat_stmt_size (map roll-Stmt ys) ≡ map node_stmt ys
stmts_at [] = refl
stmts_at (y ∷ ys) = ap₂ (λ (c : ℕ) (cs : List ℕ). c ∷ cs) (fold-roll-Stmt ℕ ℕ ℕ z.flat_expr z.stmt_step z.flat_touch y) (stmts_at ys)

-- The arguments of an `Inlined`.
args_alone : (b : ℕ) (xs : List Expr) → map (λ (g : ℕ × ℕ). g.1) (map (λ (g : ℕ × Expr). (g.0, flat_expr_size g.1)) (enumerate_from b xs)) ≡ map flat_expr_size xs
args_alone b [] = refl
args_alone b (x ∷ xs) = ap (λ (cs : List ℕ). flat_expr_size x ∷ cs) (args_alone (b + 1) xs)

module _ (p : Site) (counts : List ℕ) (all : AllSize counts p.funs) (n : ℕ) (rooms : List ℕ) where
  -- Where three folds are opened3 at a node.
  abbrev ExprSame : Flatten Expr → Count → Fit → Type 0
  ExprSame t c fit = fit n rooms ≡ true → (ws : List ℕ) → flat_expr_size (t p ws).value ≡ c counts

  abbrev StmtSame : Flatten (List Stmt) → Count → Fit → Type 0
  StmtSame t c fit = fit n rooms ≡ true → (ws : List ℕ) → sizes_of (t p ws).value ≡ c counts

  abbrev TouchSame : Flatten Touch → Count → Fit → Type 0
  TouchSame t c fit = fit n rooms ≡ true → (ws : List ℕ) → flat_touch_size (t p ws).value ≡ c counts

  abbrev E : Type 0
  E = (e : Expr) × ExprSame (flat_expr e) (expr_size e) (expr_fit e)

  abbrev S : Type 0
  S = (e : Stmt) × StmtSame (flat_stmt e) (stmt_size e) (stmt_fit e)

  abbrev T : Type 0
  T = (e : Touch) × TouchSame (flat_touch e) (touch_size e) (touch_fit e)

  abbrev exprs : List E → List Expr
  exprs es = map (λ (e : E). e.0) es

  abbrev stmts : List S → List Stmt
  stmts es = map (λ (e : S). e.0) es

  these : (es : List E) → r.each (map expr_fit (exprs es)) n rooms ≡ true → (ws : List ℕ) → z.total (map flat_expr_size (f.each (map flat_expr (exprs es)) p ws).value) ≡ total (map expr_size (exprs es)) counts
  these [] fit ws = refl
  these (e ∷ es) fit ws = let fits = and_parts _ _ fit in ap₂ (λ (a b : ℕ). a + b) (e.1 fits.0 ws) (these es fits.1 (flat_expr e.0 p ws).locals)

  those : (es : List S) → r.each (map stmt_fit (stmts es)) n rooms ≡ true → (ws : List ℕ) → sizes_of (f.block (map flat_stmt (stmts es)) p ws).value ≡ body_size (stmts es) counts
  those [] fit ws = refl
  those (e ∷ es) fit ws =
      let fits = and_parts _ _ fit in
      let first = flat_stmt e.0 p ws in
      let second = f.block (map flat_stmt (stmts es)) p first.locals in
      ap z.total (map-append flat_stmt_size first.value second.value) ∙ sizes-append (map flat_stmt_size first.value) (map flat_stmt_size second.value)
      ∙ ap₂ (λ (a b : ℕ). a + b) (e.1 fits.0 ws) (those es fits.1 first.locals)

  optional : (d : Option E) → r.each (option_to_list (option_map (λ (e : E). expr_fit e.0) d)) n rooms ≡ true → (ws : List ℕ) →
      z.total (option_to_list (option_map flat_expr_size (f.optional (option_map (λ (e : E). flat_expr e.0) d) p ws).value)) ≡ total (option_to_list (option_map (λ (e : E). expr_size e.0) d)) counts
  optional None fit ws = refl
  optional (Some e) fit ws = ap (λ (m : ℕ). m + 0) (e.1 (and_parts _ _ fit).0 ws)

  put_size : (cs : List ℕ) (ps : List PutIn) → AllSize cs ps → (k : ℕ) (arrays : List ℕ) (args : List Expr) (ws : List ℕ) →
      node_expr (f.put_in (slice_get ps k) arrays args ws).value ≡ 1 + z.total (map flat_expr_size args) + slice_index cs k
  put_size [] [] a k arrays args ws =
      let e1 = ap (λ (q : List ℕ). z.total (q ++ [])) (args_alone (length ws) args) in let e2 = sizes-append (map flat_expr_size args) [] in omega arith
  put_size (c ∷ cs) (put ∷ ps) a zero arrays args ws =
      let body = put arrays ws in
      let e1 = ap (λ (q : List ℕ). z.total (q ++ map flat_stmt_size body.value)) (args_alone (length ws) args) in
      let e2 = sizes-append (map flat_expr_size args) (map flat_stmt_size body.value) in
      let e3 = a.0 arrays ws in
      omega arith
  put_size (c ∷ cs) (put ∷ ps) a (suc k) arrays args ws = put_size cs ps a.1 k arrays args ws
  put_size [] (put ∷ ps) a k arrays args ws = absurd a
  put_size (c ∷ cs) [] a k arrays args ws = absurd a

  abbrev expr_tree : Expr-F E S T → Expr-F Expr Stmt Touch
  expr_tree = map-Expr E S T Expr Stmt Touch (λ e. e.0) (λ e. e.0) (λ e. e.0)

  abbrev touch_tree : Touch-F E S T → Touch-F Expr Stmt Touch
  touch_tree = map-Touch E S T Expr Stmt Touch (λ e. e.0) (λ e. e.0) (λ e. e.0)

  abbrev stmt_tree : Stmt-F E S T → Stmt-F Expr Stmt Touch
  stmt_tree = map-Stmt E S T Expr Stmt Touch (λ e. e.0) (λ e. e.0) (λ e. e.0)

  abbrev node_e : Expr-F Expr Stmt Touch → List ℕ → Expr-F Expr Stmt Touch
  node_e y ws = (f.expr_node (map-Expr Expr Stmt Touch (Flatten Expr) (Flatten (List Stmt)) (Flatten Touch) flat_expr flat_stmt flat_touch y) p ws).value

  abbrev node_s : Stmt-F Expr Stmt Touch → List ℕ → List (Stmt-F Expr Stmt Touch)
  node_s y ws = (f.stmt_node (map-Stmt Expr Stmt Touch (Flatten Expr) (Flatten (List Stmt)) (Flatten Touch) flat_expr flat_stmt flat_touch y) p ws).value

  abbrev node_t : Touch-F Expr Stmt Touch → List ℕ → Touch-F Expr Stmt Touch
  node_t y ws = (f.touch_node (map-Touch Expr Stmt Touch (Flatten Expr) (Flatten (List Stmt)) (Flatten Touch) flat_expr flat_stmt flat_touch y) p ws).value

  expr_level : (y : Expr-F E S T) → r.expr_step (map-Expr Expr Stmt Touch Fit Fit Fit expr_fit stmt_fit touch_fit (expr_tree y)) n rooms ≡ true → (ws : List ℕ) →
      node_expr (node_e (expr_tree y) ws) ≡ o.expr_step (map-Expr Expr Stmt Touch Count Count Count expr_size stmt_size touch_size (expr_tree y)) counts
  expr_level (Expr-F.Fixed b) fit ws = refl
  expr_level (Expr-F.Local i) fit ws = refl
  expr_level Expr-F.Now fit ws = refl
  expr_level Expr-F.Me fit ws = refl
  expr_level (Expr-F.Un op e) fit ws = ap (λ (m : ℕ). m + 0) (e.1 (and_parts _ _ fit).0 ws)
  expr_level (Expr-F.Bin op e g) fit ws = let x = and_parts _ _ fit in ap₂ (λ (a b : ℕ). a + (b + 0)) (e.1 x.0 ws) (g.1 (and_parts _ _ x.1).0 (flat_expr e.0 p ws).locals)
  expr_level (Expr-F.Cmp op e g) fit ws = let x = and_parts _ _ fit in ap₂ (λ (a b : ℕ). a + (b + 0)) (e.1 x.0 ws) (g.1 (and_parts _ _ x.1).0 (flat_expr e.0 p ws).locals)
  expr_level (Expr-F.Cast w e) fit ws = ap (λ (m : ℕ). m + 0) (e.1 (and_parts _ _ fit).0 ws)
  expr_level (Expr-F.Hash w es) fit ws = these es fit ws
  expr_level (Expr-F.Array e) fit ws = ap (λ (m : ℕ). m + 0) (e.1 (and_parts _ _ fit).0 ws)
  expr_level (Expr-F.Fun k names es) fit ws =
      let first = f.each (map flat_expr (exprs es)) p ws in
      put_size counts p.funs all k (map (array_of p.arrays) names) first.value first.locals ∙ ap (λ (m : ℕ). 1 + m + slice_index counts k) (these es (and_parts _ _ fit).1 ws)
  expr_level (Expr-F.Inlined given es) fit ws = absurd (cc)

  touch_level : (y : Touch-F E S T) → r.touch_step (map-Touch Expr Stmt Touch Fit Fit Fit expr_fit stmt_fit touch_fit (touch_tree y)) n rooms ≡ true → (ws : List ℕ) →
      node_touch (node_t (touch_tree y) ws) ≡ o.touch_step (map-Touch Expr Stmt Touch Count Count Count expr_size stmt_size touch_size (touch_tree y)) counts
  touch_level y fit ws =
      let fit1 = and_parts _ _ fit in
      let fit2 = and_parts _ _ fit1.1 in
      let first = (flat_expr y.index.0 p ws).locals in
      let second = (flat_expr y.get_arg.0 p first).locals in
      ap₂ (λ (a b : ℕ). a + b) (y.index.1 fit1.0 ws) (ap₂ (λ (a b : ℕ). a + (b + 0)) (y.get_arg.1 fit2.0 first) (y.set_arg.1 (and_parts _ _ fit2.1).0 second))

  -- Locals and numbers are nothing, so each member is one.
  locals_size : (b m : ℕ) → z.total (map flat_expr_size (locals_from b m)) ≡ 0
  locals_size b zero = refl
  locals_size b (suc m) = let e = expr_at (Expr-F.Local b) in let rest = locals_size (b + 1) m in omega arith

  member_size : (event b m : ℕ) (delayed : Bool) (i : ℕ) → node_stmt (to_member event b m delayed i) ≡ 1
  member_size event b m true i =
      let e1 = locals_size b m in
      let e2 = expr_at (Expr-F.Local (b + m)) in
      let e3 = expr_at (Expr-F.Fixed (bits_of 32 i)) in
      let e4 = sizes-append (map flat_expr_size (locals_from b m) ++ flat_expr_size (local (b + m)) ∷ []) (flat_expr_size (roll-Expr (Expr-F.Fixed (bits_of 32 i))) ∷ []) in
      let e5 = sizes-append (map flat_expr_size (locals_from b m)) (flat_expr_size (local (b + m)) ∷ []) in
      omega arith
  member_size event b m false i =
      let e1 = locals_size b m in
      let e3 = expr_at (Expr-F.Fixed (bits_of 32 i)) in
      let e4 = sizes-append (map flat_expr_size (locals_from b m) ++ []) (flat_expr_size (roll-Expr (Expr-F.Fixed (bits_of 32 i))) ∷ []) in
      let e5 = sizes-append (map flat_expr_size (locals_from b m)) [] in
      omega arith

  members_size : (event b m : ℕ) (delayed : Bool) (is : List ℕ) → z.total (map node_stmt (map (to_member event b m delayed) is)) ≡ length is
  members_size event b m delayed [] = refl
  members_size event b m delayed (i ∷ is) = let e = member_size event b m delayed i in let rest = members_size event b m delayed is in omega arith

  assigns_size : (b : ℕ) (xs : List Expr) → z.total (map node_stmt (map (λ (g : ℕ × Expr). Stmt-F.Assign g.0 g.1) (enumerate_from b xs))) ≡ z.total (map flat_expr_size xs) + length xs
  assigns_size b [] = refl
  assigns_size b (x ∷ xs) = let rest = assigns_size (b + 1) xs in omega arith

  parts : (xs ys zs : List ℕ) → 1 + z.total (xs ++ ys ++ zs) + 0 ≡ 1 + z.total xs + z.total ys + z.total zs
  parts xs ys zs = let e1 = sizes-append (xs ++ ys) zs in let e2 = sizes-append xs ys in omega arith

  gen_size : (event : ℕ) (args : List Expr) (d t : Option Expr) (b : Bool) →
      z.total (map node_stmt (Stmt-F.Gen event args d t b ∷ [])) ≡ 1 + z.total (map flat_expr_size args) + z.total (option_to_list (option_map flat_expr_size d)) + z.total (option_to_list (option_map flat_expr_size t))
  gen_size event args None None b = parts (map flat_expr_size args) [] []
  gen_size event args None (Some t) b = parts (map flat_expr_size args) [] (flat_expr_size t ∷ [])
  gen_size event args (Some d) None b = parts (map flat_expr_size args) (flat_expr_size d ∷ []) []
  gen_size event args (Some d) (Some t) b = parts (map flat_expr_size args) (flat_expr_size d ∷ []) (flat_expr_size t ∷ [])

  both_size : (b : Bool) (x y : Option E) → r.each (option_to_list (option_map (λ (e : E). expr_fit e.0) x)) n rooms ≡ true → r.each (option_to_list (option_map (λ (e : E). expr_fit e.0) y)) n rooms ≡ true → (us : List ℕ) →
      (let made = f.both b (f.optional (option_map (λ (e : E). flat_expr e.0) x)) (f.optional (option_map (λ (e : E). flat_expr e.0) y)) p us in
      (z.total (option_to_list (option_map flat_expr_size made.value.0)) ≡ total (option_to_list (option_map (λ (e : E). expr_size e.0) x)) counts)
      × (z.total (option_to_list (option_map flat_expr_size made.value.1)) ≡ total (option_to_list (option_map (λ (e : E). expr_size e.0) y)) counts))
  both_size true x y f1 f2 us = (optional x f1 us, optional y f2 (f.optional (option_map (λ (e : E). flat_expr e.0) x) p us).locals)
  both_size false x y f1 f2 us = (optional x f1 (f.optional (option_map (λ (e : E). flat_expr e.0) y) p us).locals, optional y f2 us)

  gen_level : (event : ℕ) (es : List E) (d t : Option E) (b : Bool) →
      r.stmt_step (Stmt-F.Gen event (map expr_fit (exprs es)) (option_map (λ (e : E). expr_fit e.0) d) (option_map (λ (e : E). expr_fit e.0) t) b) n rooms ≡ true → (ws : List ℕ) →
      z.total (map node_stmt (f.stmt_node (Stmt-F.Gen event (map flat_expr (exprs es)) (option_map (λ (e : E). flat_expr e.0) d) (option_map (λ (e : E). flat_expr e.0) t) b) p ws).value) ≡
      o.stmt_step (Stmt-F.Gen event (map expr_size (exprs es)) (option_map (λ (e : E). expr_size e.0) d) (option_map (λ (e : E). expr_size e.0) t) b) counts
  gen_level event es d t b fit ws =
      let fit1 = both_pass (λ (test : Fit). test n rooms) (map expr_fit (exprs es) ++ option_to_list (option_map (λ (e : E). expr_fit e.0) d)) (option_to_list (option_map (λ (e : E). expr_fit e.0) t)) fit in
      let fit2 = both_pass (λ (test : Fit). test n rooms) (map expr_fit (exprs es)) (option_to_list (option_map (λ (e : E). expr_fit e.0) d)) fit1.0 in
      let first = f.each (map flat_expr (exprs es)) p ws in
      let made = f.both b (f.optional (option_map (λ (e : E). flat_expr e.0) d)) (f.optional (option_map (λ (e : E). flat_expr e.0) t)) p first.locals in
      let e1 = gen_size event first.value made.value.0 made.value.1 b in
      let e2 = these es fit2.0 ws in
      let e3 = both_size b d t fit2.1 fit1.1 first.locals in
      let e4 = e3.0 in
      let e5 = e3.1 in
      let e6 = total-append (map expr_size (exprs es) ++ option_to_list (option_map (λ (e : E). expr_size e.0) d)) (option_to_list (option_map (λ (e : E). expr_size e.0) t)) counts in
      let e7 = total-append (map expr_size (exprs es)) (option_to_list (option_map (λ (e : E). expr_size e.0) d)) counts in
      omega arith

  joined : {A : Type 0} (g : Expr → A) (es ds : List E) → map g (exprs (es ++ ds)) ≡ map g (exprs es) ++ map g (exprs ds)
  joined g es ds = ap (map g) (map-append (λ (e : E). e.0) es ds) ∙ map-append g (exprs es) (exprs ds)

  each-length : (hs : List E) (ws : List ℕ) → length (f.each (map flat_expr (exprs hs)) p ws).value ≡ length hs
  each-length [] ws = refl
  each-length (h ∷ hs) ws = ap suc (each-length hs (flat_expr h.0 p ws).locals)

  -- A group: its values, and a statement for each argument and each member.
  group_level : (event k : ℕ) (delayed : Bool) (members : List ℕ) (es ds : List E) (held : List (Flatten Expr)) → map flat_expr (exprs (es ++ ds)) ≡ held → (cs : List Count) → map expr_size (exprs (es ++ ds)) ≡ cs →
      r.each (map expr_fit (exprs es) ++ map expr_fit (exprs ds)) n rooms ≡ true → (ws : List ℕ) →
      (let first = f.each held p ws in z.total (map node_stmt (map (λ (g : ℕ × Expr). Stmt-F.Assign g.0 g.1) (enumerate_from (length first.locals) first.value) ++ map (to_member event (length first.locals) k delayed) members)) ≡
      total cs counts + length cs + length members)
  group_level event k delayed members es ds held is cs are fit ws =
      let first = f.each held p ws in
      let assigns = map (λ (g : ℕ × Expr). Stmt-F.Assign g.0 g.1) (enumerate_from (length first.locals) first.value) in
      let gens = map (to_member event (length first.locals) k delayed) members in
      let e1 = ap z.total (map-append node_stmt assigns gens) in
      let e2 = sizes-append (map node_stmt assigns) (map node_stmt gens) in
      let e3 = assigns_size (length first.locals) first.value in
      let e4 = members_size event (length first.locals) k delayed members in
      let e5 : z.total (map flat_expr_size first.value) ≡ total cs counts = subst (λ (ts : List (Flatten Expr)). z.total (map flat_expr_size (f.each ts p ws).value) ≡ total cs counts) is
      (these (es ++ ds) (subst (λ (ts : List Fit). r.each ts n rooms ≡ true) (sym (joined expr_fit es ds)) fit) ws ∙ ap (λ (q : List Count). total q counts) are) in
      let e6 : length first.value ≡ length (es ++ ds) = subst (λ (ts : List (Flatten Expr)). length (f.each ts p ws).value ≡ length (es ++ ds)) is (each-length (es ++ ds) ws) in
      let e7 : length cs ≡ length (es ++ ds) = ap length (sym are) ∙ length-map (exprs (es ++ ds)) expr_size ∙ length-map (es ++ ds) (λ (e : E). e.0) in
      omega arith

  -- A node of its own.
  alone : (a m : ℕ) → a ≡ m → 1 + a + 0 ≡ 1 + m
  alone a m e = omega arith

  stmt_level : (y : Stmt-F E S T) → r.stmt_step (map-Stmt Expr Stmt Touch Fit Fit Fit expr_fit stmt_fit touch_fit (stmt_tree y)) n rooms ≡ true → (ws : List ℕ) →
      z.total (map node_stmt (node_s (stmt_tree y) ws)) ≡ o.stmt_step (map-Stmt Expr Stmt Touch Count Count Count expr_size stmt_size touch_size (stmt_tree y)) counts
  stmt_level (Stmt-F.Assign i e) fit ws = alone _ _ (ap (λ (m : ℕ). m + 0) (e.1 (and_parts _ _ fit).1 ws))
  stmt_level (Stmt-F.Drop e) fit ws = alone _ _ (ap (λ (m : ℕ). m + 0) (e.1 (and_parts _ _ fit).0 ws))
  stmt_level (Stmt-F.If e es gs) fit ws =
      let fit1 = and_parts _ _ fit in
      let fit2 = both_pass (λ (test : Fit). test n rooms) (map stmt_fit (stmts es)) (map stmt_fit (stmts gs)) fit1.1 in
      let test = flat_expr e.0 p ws in
      let left = f.block (map flat_stmt (stmts es)) p test.locals in
      let right = f.block (map flat_stmt (stmts gs)) p left.locals in
      let e1 = e.1 fit1.0 ws in
      let e2 = those es fit2.0 test.locals in
      let e3 = those gs fit2.1 left.locals in
      let e4 = sizes-append (map flat_stmt_size left.value) (map flat_stmt_size right.value) in
      let e5 = total-append (map stmt_size (stmts es)) (map stmt_size (stmts gs)) counts in
      omega arith
  stmt_level (Stmt-F.Gen event es None None b) fit ws = gen_level event es None None b fit ws
  stmt_level (Stmt-F.Gen event es None (Some t) b) fit ws = gen_level event es None (Some t) b fit ws
  stmt_level (Stmt-F.Gen event es (Some d) None b) fit ws = gen_level event es (Some d) None b fit ws
  stmt_level (Stmt-F.Gen event es (Some d) (Some t) b) fit ws = gen_level event es (Some d) (Some t) b fit ws
  stmt_level (Stmt-F.Multi event es None members) fit ws =
      group_level event (length (map flat_expr (exprs es))) false members es [] (map flat_expr (exprs es) ++ []) (joined flat_expr es []) (map expr_size (exprs es) ++ []) (joined expr_size es []) (and_parts _ _ fit).1 ws
  stmt_level (Stmt-F.Multi event es (Some d) members) fit ws =
      group_level event (length (map flat_expr (exprs es))) true members es (d ∷ []) (map flat_expr (exprs es) ++ flat_expr d.0 ∷ []) (joined flat_expr es (d ∷ [])) (map expr_size (exprs es) ++ expr_size d.0 ∷ []) (joined expr_size es (d ∷ [])) (and_parts _ _ fit).1 ws
  stmt_level (Stmt-F.Say form es) fit ws = alone _ _ (these es fit ws)
  stmt_level (Stmt-F.Return None) fit ws = refl
  stmt_level (Stmt-F.Return (Some e)) fit ws = alone _ _ (ap (λ (m : ℕ). m + 0) (e.1 (and_parts _ _ fit).0 ws))

  of_expr : (y : Expr-F E S T) → ExprSame (flat_expr (roll-Expr (expr_tree y))) (expr_size (roll-Expr (expr_tree y))) (expr_fit (roll-Expr (expr_tree y)))
  of_expr y = let tree = expr_tree y in opened3 ExprSame
      (fold-roll-Expr (Flatten Expr) (Flatten (List Stmt)) (Flatten Touch) f.expr_step f.stmt_step f.touch_step tree) (fold-roll-Expr Count Count Count o.expr_step o.stmt_step o.touch_step tree)
      (fold-roll-Expr Fit Fit Fit r.expr_step r.stmt_step r.touch_step tree) (λ fit ws. expr_at (node_e tree ws) ∙ expr_level y fit ws)

  of_stmt : (y : Stmt-F E S T) → StmtSame (flat_stmt (roll-Stmt (stmt_tree y))) (stmt_size (roll-Stmt (stmt_tree y))) (stmt_fit (roll-Stmt (stmt_tree y)))
  of_stmt y = let tree = stmt_tree y in opened3 StmtSame
      (fold-roll-Stmt (Flatten Expr) (Flatten (List Stmt)) (Flatten Touch) f.expr_step f.stmt_step f.touch_step tree) (fold-roll-Stmt Count Count Count o.expr_step o.stmt_step o.touch_step tree)
      (fold-roll-Stmt Fit Fit Fit r.expr_step r.stmt_step r.touch_step tree) (λ fit ws. ap z.total (stmts_at (node_s tree ws)) ∙ stmt_level y fit ws)

  of_touch : (y : Touch-F E S T) → TouchSame (flat_touch (roll-Touch (touch_tree y))) (touch_size (roll-Touch (touch_tree y))) (touch_fit (roll-Touch (touch_tree y)))
  of_touch y = let tree = touch_tree y in opened3 TouchSame
      (fold-roll-Touch (Flatten Expr) (Flatten (List Stmt)) (Flatten Touch) f.expr_step f.stmt_step f.touch_step tree) (fold-roll-Touch Count Count Count o.expr_step o.stmt_step o.touch_step tree)
      (fold-roll-Touch Fit Fit Fit r.expr_step r.stmt_step r.touch_step tree)
      (λ fit ws. fold-roll-Touch ℕ ℕ ℕ z.flat_expr z.stmt_step z.flat_touch (node_t tree ws) ∙ touch_level y fit ws)

  by_nodes : Cases (λ e. ExprSame (flat_expr e) (expr_size e) (expr_fit e)) (λ e. StmtSame (flat_stmt e) (stmt_size e) (stmt_fit e)) (λ e. TouchSame (flat_touch e) (touch_size e) (touch_fit e))
  by_nodes = record { expr = of_expr; stmt = of_stmt; touch = of_touch }

  abbrev BodySame : List Stmt → Type 0
  BodySame ss = r.each (map stmt_fit ss) n rooms ≡ true → (ws : List ℕ) → sizes_of (f.block (map flat_stmt ss) p ws).value ≡ body_size ss counts

  pub body_same : (ss : List Stmt) → BodySame ss
  body_same = body_by BodySame by_nodes those

one_more : (cs : List ℕ) (ps : List PutIn) (c : ℕ) (put : PutIn) → AllSize cs ps → ((arrays ws : List ℕ) → sizes_of (put arrays ws).value ≡ c) → AllSize (cs ++ c ∷ []) (ps ++ put ∷ [])
one_more [] [] c put all one = (one, tt)
one_more (d ∷ cs) (p ∷ ps) c put all one = (all.0, one_more cs ps c put all.1 one)
one_more [] (p ∷ ps) c put all one = absurd all
one_more (d ∷ cs) [] c put all one = absurd all

funs_same : (cs rooms : List ℕ) (puts : List PutIn) (ds : List FunDef) → AllSize cs puts → funs_fit rooms ds ≡ true → AllSize (fun_sizes cs ds) (puts_from puts ds)
funs_same cs rooms puts [] all fit = all
funs_same cs rooms puts (d ∷ ds) all fit =
    let fits = and_parts _ _ fit in
    funs_same (cs ++ body_size d.body cs ∷ []) (rooms ++ d.params ∷ []) (puts ++ f.put_of puts d ∷ []) ds
    (one_more cs puts (body_size d.body cs) (f.put_of puts d) all
    (λ arrays ws. body_same (record { arrays = arrays; first = length ws; funs = puts }) cs all (length d.locals) rooms d.body (and_parts _ _ fits.0).1 (ws ++ d.locals))) fits.1

-- The size of a handler's flat form is that counted over it.
pub handler_size : (funs : List FunDef) → funs_fit [] funs ≡ true → (h : HandlerDef) → r.each (map stmt_fit h.body) (length h.locals) (rooms_from [] funs) ≡ true →
    z.total (map flat_stmt_size (f.flat_handler funs h).body) ≡ body_size h.body (fun_sizes [] funs)
handler_size funs fits h fit =
    body_same (record { arrays = []; first = 0; funs = f.puts_of funs }) (fun_sizes [] funs) (funs_same [] [] [] funs tt fits) (length h.locals) (rooms_from [] funs) h.body fit h.locals
