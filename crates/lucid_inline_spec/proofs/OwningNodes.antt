-- Each node of a body names only its own locals and those that it adds, if its parts do.
use Rattle.std.proofs.Common.{◌≡◌, ◌⊎◌, inl, inr, ℕ, zero, suc, ◌+◌, ◌<◌, ◌≤◌, List, [], ◌∷◌, ◌++◌, Bool, true, false, Option, None, Some, length, map, refl, sym, ap, ap₂, subst, ◌∙◌, arith, length-append, nat_eq, slice_get, option_map, option_to_list}
use Rattle.std.specs.List.{enumerate_from}
use Rattle.std.specs.Option.{option_map_or}
use Rattle.std.proofs.lemmas.Bool.{and_parts, cases_eq, cases_lt, eqb-true, ltb-true}
use Rattle.std.proofs.lemmas.List.{length-map, map-append}
use Rattle.lucid_core.specs.declared.body.Expr.{Expr}
use Rattle.lucid_core.specs.declared.body.Stmt.{Stmt}
use Rattle.lucid_core.specs.declared.body.Touch.{Touch}
use Rattle.lucid_core.specs.declared.body.Expr.TheOpen.{Expr-F, Stmt-F, Touch-F}
use Rattle.lucid_core.specs.declared.body.Expr.TheViews.{roll-Expr, roll-Stmt, roll-Touch}
use Rattle.lucid_core.specs.declared.body.Expr.TheFolds.{fold-roll-Expr, fold-roll-Stmt, fold-roll-Touch, map-Expr, map-Stmt, map-Touch}
use Rattle.lucid_core.specs.Computations.{array_of}
use Rattle.lucid_core.specs.Uses as u
use Rattle.lucid_core.specs.Uses.{Uses, all_uses, assigning, body_uses, expr_uses, inlining, stmt_uses, times_in, touch_uses}
use Rattle.lucid_core.proofs.Fine.{both_pass}
use Rattle.lucid_core.proofs.Induction.{Cases, body_by, opened3}
use Rattle.lucid_core_laws.specs.InlinedNodes.{Owns, joined, nothing_named}
use Rattle.lucid_core_laws.proofs.Owning.{inlined_nodes}
use Rattle.lucid_inline_spec.specs.Flat as f
use Rattle.lucid_inline_spec.specs.Flat.{Flatten, Flattened, PutIn, Site, flat_expr, flat_stmt, flat_touch, to_member}
use Rattle.lucid_inline_spec.proofs.Fit as r
use Rattle.lucid_inline_spec.proofs.Fit.{Fit, expr_fit, stmt_fit, touch_fit}
use Rattle.lucid_inline_spec.proofs.Grows.{AllGrow, expr_grows, exprs_grow, stmt_grows, stmts_grow}
use Rattle.lucid_inline_spec.proofs.Locals.{begins_length}
use Rattle.lucid_inline_spec.proofs.Numbered.{numbers_of}
use Rattle.lucid_inline_spec.proofs.Owning.{assigns, exprs_uses, expr_at, group_owns, held_assigns, joined-assoc, members_read, node_uses, owns_turned, stmts_at, uses_append, uses_of_nodes, uses_one}
use Rattle.lucid_core_laws.proofs.Times.{times-append, times-cons, times-none, times-one}
use Rattle.lucid_inline_spec.proofs.Times.{numbers_above, numbers_below, numbers_there}

-- A function's inlined body names and assigns its own locals and those after them; its parameters are assigned by the call.
pub record PutOwns (arity : ℕ) (put : PutIn) : Type 0 where
  pub own : ℕ
  pub room : arity ≤ own
  pub owns : (arrays ws : List ℕ) → Owns (length ws) own (length ws + own) (length (put arrays ws).locals) (body_uses (put arrays ws).value)
  pub covers : (arrays ws : List ℕ) (x : ℕ) → length ws + arity ≤ x → x < length ws + own → 0 < times_in (body_uses (put arrays ws).value).assigns x

abbrev pub AllOwn : List ℕ → List PutIn → Type 0
AllOwn [] [] = Unit {0}
AllOwn (k ∷ ks) (put ∷ puts) = PutOwns k put × AllOwn ks puts
AllOwn _ _ = ⊥

-- The arguments of an `Inlined`.
args_alone : (b : ℕ) (xs : List Expr) → map (λ (g : ℕ × Uses). g.1) (map (λ (g : ℕ × Expr). (g.0, expr_uses g.1)) (enumerate_from b xs)) ≡ map expr_uses xs
args_alone b [] = refl
args_alone b (x ∷ xs) = ap (λ (q : List Uses). expr_uses x ∷ q) (args_alone (b + 1) xs)

params_alone : (b : ℕ) (xs : List Expr) → map (λ (g : ℕ × Uses). g.0) (map (λ (g : ℕ × Expr). (g.0, expr_uses g.1)) (enumerate_from b xs)) ≡ numbers_of b xs
params_alone b [] = refl
params_alone b (x ∷ xs) = ap (λ (q : List ℕ). b ∷ q) (params_alone (b + 1) xs)

module _ (p : Site) (rooms : List ℕ) (all : AllOwn rooms p.funs) (grow : AllGrow p.funs) (n : ℕ) where
  -- The flat form of a part, inlined at the locals from lo to hi; and it assigns the locals that the part assigns.
  pub record Owned (core flat : Uses) (lo hi : ℕ) : Type 0 where
    pub owns : Owns p.first n lo hi flat
    pub carries : (c : ℕ) → 0 < times_in core.assigns c → 0 < times_in flat.assigns (p.first + c)

  owned_none : (lo : ℕ) → Owned nothing_named nothing_named lo lo
  owned_none lo = record { owns = inlined_nodes.nothing p.first n lo; carries = λ c h. absurd (omega arith) }

  either_times : (x y : ℕ) → 0 < x + y → (0 < x) ⊎ (0 < y)
  either_times zero y h = inr (omega arith)
  either_times (suc x) y h = inl (omega arith)

  owned_both : (x y v w : Uses) (lo mid hi : ℕ) → p.first + n ≤ lo → Owned x v lo mid → Owned y w mid hi → Owned (joined x y) (joined v w) lo hi
  owned_both x y v w lo mid hi bound h k = record {
    owns = inlined_nodes.both p.first n lo mid hi v w bound h.owns k.owns;
    carries = λ c l. let e = times-append x.assigns y.assigns c in let e2 = times-append v.assigns w.assigns (p.first + c) in of c e2 (either_times _ _ (omega (arith, e, l)));
  }
    where
      of : (c : ℕ) → times_in (v.assigns ++ w.assigns) (p.first + c) ≡ times_in v.assigns (p.first + c) + times_in w.assigns (p.first + c) → (0 < times_in x.assigns c) ⊎ (0 < times_in y.assigns c) → 0 < times_in (v.assigns ++ w.assigns) (p.first + c)
      of c e (inl q) = let z = h.carries c q in omega arith
      of c e (inr q) = let z = k.carries c q in omega arith

  -- A part with nothing behind it.
  owned_one : (x v : Uses) (lo hi : ℕ) → p.first + n ≤ lo → Owned x v lo hi → Owned (all_uses (x ∷ [])) (all_uses (v ∷ [])) lo hi
  owned_one x v lo hi bound h = owned_both x nothing_named v nothing_named lo hi hi bound h (owned_none hi)

  -- A statement that becomes one.
  becomes_one : (x v : Uses) (lo hi : ℕ) → Owned x v lo hi → Owned x (all_uses (v ∷ [])) lo hi
  becomes_one x v lo hi h = subst (λ (w : Uses). Owned x w lo hi) (sym (uses_one v)) h

  owned_turned : (x y v w : Uses) (lo hi : ℕ) → Owned (joined x y) (joined v w) lo hi → Owned (joined y x) (joined w v) lo hi
  owned_turned x y v w lo hi h = record {
    owns = owns_turned p.first n lo hi v w h.owns;
    carries = λ c l.
        let e1 = times-append x.assigns y.assigns c in let e2 = times-append y.assigns x.assigns c in
        let e3 = times-append v.assigns w.assigns (p.first + c) in let e4 = times-append w.assigns v.assigns (p.first + c) in
        let z = h.carries c (omega arith) in omega arith;
  }

  -- Where three folds are opened3 at a node.
  abbrev ExprOwned : Flatten Expr → Uses → Fit → Type 0
  ExprOwned t core fit = fit n rooms ≡ true → (ws : List ℕ) → p.first + n ≤ length ws → Owned core (expr_uses (t p ws).value) (length ws) (length (t p ws).locals)

  abbrev StmtOwned : Flatten (List Stmt) → Uses → Fit → Type 0
  StmtOwned t core fit = fit n rooms ≡ true → (ws : List ℕ) → p.first + n ≤ length ws → Owned core (body_uses (t p ws).value) (length ws) (length (t p ws).locals)

  abbrev TouchOwned : Flatten Touch → Uses → Fit → Type 0
  TouchOwned t core fit = fit n rooms ≡ true → (ws : List ℕ) → p.first + n ≤ length ws → Owned core (touch_uses (t p ws).value) (length ws) (length (t p ws).locals)

  abbrev E : Type 0
  E = (e : Expr) × ExprOwned (flat_expr e) (expr_uses e) (expr_fit e)

  abbrev S : Type 0
  S = (e : Stmt) × StmtOwned (flat_stmt e) (stmt_uses e) (stmt_fit e)

  abbrev T : Type 0
  T = (e : Touch) × TouchOwned (flat_touch e) (touch_uses e) (touch_fit e)

  abbrev exprs : List E → List Expr
  exprs es = map (λ (e : E). e.0) es

  abbrev stmts : List S → List Stmt
  stmts es = map (λ (e : S). e.0) es

  these : (es : List E) → r.each (map expr_fit (exprs es)) n rooms ≡ true → (ws : List ℕ) → p.first + n ≤ length ws →
      Owned (exprs_uses (exprs es)) (exprs_uses (f.each (map flat_expr (exprs es)) p ws).value) (length ws) (length (f.each (map flat_expr (exprs es)) p ws).locals)
  these [] fit ws bound = owned_none (length ws)
  these (e ∷ es) fit ws bound =
      let fits = and_parts _ _ fit in
      let first = flat_expr e.0 p ws in
      let second = f.each (map flat_expr (exprs es)) p first.locals in
      let l = begins_length ws first.locals (expr_grows e.0 p grow ws) in
      owned_both (expr_uses e.0) (exprs_uses (exprs es)) (expr_uses first.value) (exprs_uses second.value) (length ws) (length first.locals) (length second.locals) bound (e.1 fits.0 ws bound) (these es fits.1 first.locals (omega arith))

  those : (es : List S) → r.each (map stmt_fit (stmts es)) n rooms ≡ true → (ws : List ℕ) → p.first + n ≤ length ws →
      Owned (body_uses (stmts es)) (body_uses (f.block (map flat_stmt (stmts es)) p ws).value) (length ws) (length (f.block (map flat_stmt (stmts es)) p ws).locals)
  those [] fit ws bound = owned_none (length ws)
  those (e ∷ es) fit ws bound =
      let fits = and_parts _ _ fit in
      let first = flat_stmt e.0 p ws in
      let second = f.block (map flat_stmt (stmts es)) p first.locals in
      let l = begins_length ws first.locals (stmt_grows e.0 p grow ws) in
      subst (λ (v : Uses). Owned (body_uses (stmts (e ∷ es))) v (length ws) (length second.locals)) (sym (ap all_uses (map-append stmt_uses first.value second.value) ∙ uses_append (map stmt_uses first.value) (map stmt_uses second.value)))
      (owned_both (stmt_uses e.0) (body_uses (stmts es)) (body_uses first.value) (body_uses second.value) (length ws) (length first.locals) (length second.locals) bound (e.1 fits.0 ws bound) (those es fits.1 first.locals (omega arith)))

  -- A call.
  put_owned : (rs : List ℕ) (ps : List PutIn) → AllOwn rs ps → (k : ℕ) (arrays : List ℕ) (args : List Expr) (ws : List ℕ) → option_map_or (nat_eq (length args)) (slice_get rs k) false ≡ true → (core : Uses) (lo : ℕ) → p.first + n ≤ lo →
      Owned core (exprs_uses args) lo (length ws) → Owned core (u.expr_step (map-Expr Expr Stmt Touch Uses Uses Uses expr_uses stmt_uses touch_uses (f.put_in (slice_get ps k) arrays args ws).value)) lo (length (f.put_in (slice_get ps k) arrays args ws).locals)
  put_owned [] [] h k arrays args ws fit core lo bound given = absurd (cc)
  put_owned (q ∷ rs) (put ∷ ps) h zero arrays args ws fit core lo bound given =
      let body = put arrays ws in
      let e = eqb-true (length args) q fit in
      let room = h.0.room in
      subst (λ (v : Uses). Owned core v lo (length body.locals))
      (sym (ap₂ (λ (xs : List Uses) (ns : List ℕ). inlining (all_uses xs) (assigning ns (body_uses body.value))) (args_alone (length ws) args) (params_alone (length ws) args)))
      (record {
        owns = inlined_nodes.inlined p.first n lo (length ws) h.0.own (length body.locals) (exprs_uses args) (body_uses body.value) (numbers_of (length ws) args) bound given.owns (h.0.owns arrays ws)
            (λ x o. apart x (omega arith) o) (λ x l m. cover x (omega arith) l m (cases_lt x (length ws + length args)) (h.0.covers arrays ws x));
        carries = λ c l. let z = given.carries c l in let e2 = times-append (exprs_uses args).assigns (numbers_of (length ws) args ++ (body_uses body.value).assigns) (p.first + c) in omega arith;
      })
    where
      apart : (x : ℕ) → length args ≤ h.0.own → (x < length ws) ⊎ (length ws + h.0.own ≤ x) → times_in (numbers_of (length ws) args) x ≡ 0
      apart x l (inl q) = numbers_below args (length ws) x q
      apart x l (inr q) = numbers_above args (length ws) x (omega arith)

      cover : (x : ℕ) → length args ≡ q → length ws ≤ x → x < length ws + h.0.own → (x < length ws + length args) ⊎ (length ws + length args ≤ x) →
          (length ws + q ≤ x → x < length ws + h.0.own → 0 < times_in (body_uses (put arrays ws).value).assigns x) → 0 < times_in (numbers_of (length ws) args) x + times_in (body_uses (put arrays ws).value).assigns x
      cover x e l m (inl t) rest = let z = numbers_there args (length ws) x l t in omega arith
      cover x e l m (inr t) rest = let z = rest (omega arith) m in omega arith
  put_owned (q ∷ rs) (put ∷ ps) h (suc k) arrays args ws fit core lo bound given = put_owned rs ps h.1 k arrays args ws fit core lo bound given
  put_owned [] (put ∷ ps) h k arrays args ws fit core lo bound given = absurd h
  put_owned (q ∷ rs) [] h k arrays args ws fit core lo bound given = absurd h

  abbrev expr_tree : Expr-F E S T → Expr-F Expr Stmt Touch
  expr_tree = map-Expr E S T Expr Stmt Touch (λ e. e.0) (λ e. e.0) (λ e. e.0)

  abbrev touch_tree : Touch-F E S T → Touch-F Expr Stmt Touch
  touch_tree = map-Touch E S T Expr Stmt Touch (λ e. e.0) (λ e. e.0) (λ e. e.0)

  abbrev stmt_tree : Stmt-F E S T → Stmt-F Expr Stmt Touch
  stmt_tree = map-Stmt E S T Expr Stmt Touch (λ e. e.0) (λ e. e.0) (λ e. e.0)

  abbrev uses_e : Expr-F Expr Stmt Touch → Uses
  uses_e y = u.expr_step (map-Expr Expr Stmt Touch Uses Uses Uses expr_uses stmt_uses touch_uses y)

  abbrev uses_t : Touch-F Expr Stmt Touch → Uses
  uses_t y = u.touch_step (map-Touch Expr Stmt Touch Uses Uses Uses expr_uses stmt_uses touch_uses y)

  abbrev node_e : Expr-F Expr Stmt Touch → List ℕ → Flattened (Expr-F Expr Stmt Touch)
  node_e y ws = f.expr_node (map-Expr Expr Stmt Touch (Flatten Expr) (Flatten (List Stmt)) (Flatten Touch) flat_expr flat_stmt flat_touch y) p ws

  abbrev node_s : Stmt-F Expr Stmt Touch → List ℕ → Flattened (List (Stmt-F Expr Stmt Touch))
  node_s y ws = f.stmt_node (map-Stmt Expr Stmt Touch (Flatten Expr) (Flatten (List Stmt)) (Flatten Touch) flat_expr flat_stmt flat_touch y) p ws

  abbrev node_t : Touch-F Expr Stmt Touch → List ℕ → Flattened (Touch-F Expr Stmt Touch)
  node_t y ws = f.touch_node (map-Touch Expr Stmt Touch (Flatten Expr) (Flatten (List Stmt)) (Flatten Touch) flat_expr flat_stmt flat_touch y) p ws

  each-length : (hs : List E) (ws : List ℕ) → length (f.each (map flat_expr (exprs hs)) p ws).value ≡ length hs
  each-length [] ws = refl
  each-length (h ∷ hs) ws = ap suc (each-length hs (flat_expr h.0 p ws).locals)

  two : (e g : E) → expr_fit e.0 n rooms ≡ true → expr_fit g.0 n rooms ≡ true → (ws : List ℕ) → p.first + n ≤ length ws →
      Owned (all_uses (expr_uses e.0 ∷ expr_uses g.0 ∷ [])) (all_uses (expr_uses (flat_expr e.0 p ws).value ∷ expr_uses (flat_expr g.0 p (flat_expr e.0 p ws).locals).value ∷ [])) (length ws) (length (flat_expr g.0 p (flat_expr e.0 p ws).locals).locals)
  two e g fit fit2 ws bound =
      let first = flat_expr e.0 p ws in
      let second = flat_expr g.0 p first.locals in
      let l = begins_length ws first.locals (expr_grows e.0 p grow ws) in
      owned_both _ _ _ _ (length ws) (length first.locals) (length second.locals) bound (e.1 fit ws bound) (owned_one _ _ (length first.locals) (length second.locals) (omega arith) (g.1 fit2 first.locals (omega arith)))

  expr_level : (y : Expr-F E S T) → r.expr_step (map-Expr Expr Stmt Touch Fit Fit Fit expr_fit stmt_fit touch_fit (expr_tree y)) n rooms ≡ true → (ws : List ℕ) → p.first + n ≤ length ws →
      Owned (uses_e (expr_tree y)) (uses_e (node_e (expr_tree y) ws).value) (length ws) (length (node_e (expr_tree y) ws).locals)
  expr_level (Expr-F.Fixed b) fit ws bound = owned_none (length ws)
  expr_level (Expr-F.Local i) fit ws bound = record { owns = inlined_nodes.read p.first n (length ws) i (ltb-true i n fit); carries = λ c h. absurd (omega arith) }
  expr_level Expr-F.Now fit ws bound = owned_none (length ws)
  expr_level Expr-F.Me fit ws bound = owned_none (length ws)
  expr_level (Expr-F.Un op e) fit ws bound = owned_one _ _ _ _ bound (e.1 (and_parts _ _ fit).0 ws bound)
  expr_level (Expr-F.Bin op e g) fit ws bound = let x = and_parts _ _ fit in two e g x.0 (and_parts _ _ x.1).0 ws bound
  expr_level (Expr-F.Cmp op e g) fit ws bound = let x = and_parts _ _ fit in two e g x.0 (and_parts _ _ x.1).0 ws bound
  expr_level (Expr-F.Cast w e) fit ws bound = owned_one _ _ _ _ bound (e.1 (and_parts _ _ fit).0 ws bound)
  expr_level (Expr-F.Hash w es) fit ws bound = these es fit ws bound
  expr_level (Expr-F.Array e) fit ws bound = owned_one _ _ _ _ bound (e.1 (and_parts _ _ fit).0 ws bound)
  expr_level (Expr-F.Fun k names es) fit ws bound =
      let fits = and_parts _ _ fit in
      let first = f.each (map flat_expr (exprs es)) p ws in
      let as_many = subst (λ (m : ℕ). option_map_or (nat_eq m) (slice_get rooms k) false ≡ true) (length-map (exprs es) expr_fit ∙ length-map es (λ (e : E). e.0) ∙ sym (each-length es ws)) fits.0 in
      put_owned rooms p.funs all k (map (array_of p.arrays) names) first.value first.locals as_many (exprs_uses (exprs es)) (length ws) bound (these es fits.1 ws bound)
  expr_level (Expr-F.Inlined given es) fit ws bound = absurd (cc)

  touch_level : (y : Touch-F E S T) → r.touch_step (map-Touch Expr Stmt Touch Fit Fit Fit expr_fit stmt_fit touch_fit (touch_tree y)) n rooms ≡ true → (ws : List ℕ) → p.first + n ≤ length ws →
      Owned (uses_t (touch_tree y)) (uses_t (node_t (touch_tree y) ws).value) (length ws) (length (node_t (touch_tree y) ws).locals)
  touch_level y fit ws bound =
      let fit1 = and_parts _ _ fit in
      let fit2 = and_parts _ _ fit1.1 in
      let first = flat_expr y.index.0 p ws in
      let second = flat_expr y.get_arg.0 p first.locals in
      let third = flat_expr y.set_arg.0 p second.locals in
      let l1 = begins_length ws first.locals (expr_grows y.index.0 p grow ws) in
      owned_both _ _ _ _ (length ws) (length first.locals) (length third.locals) bound (y.index.1 fit1.0 ws bound) (two y.get_arg y.set_arg fit2.0 (and_parts _ _ fit2.1).0 first.locals (omega arith))

  optional : (o : Option E) → r.each (option_to_list (option_map (λ (e : E). expr_fit e.0) o)) n rooms ≡ true → (ws : List ℕ) → p.first + n ≤ length ws →
      Owned (all_uses (option_to_list (option_map (λ (e : E). expr_uses e.0) o))) (all_uses (option_to_list (option_map expr_uses (f.optional (option_map (λ (e : E). flat_expr e.0) o) p ws).value))) (length ws)
      (length (f.optional (option_map (λ (e : E). flat_expr e.0) o) p ws).locals)
  optional None fit ws bound = owned_none (length ws)
  optional (Some e) fit ws bound = owned_one _ _ _ _ bound (e.1 (and_parts _ _ fit).0 ws bound)

  optional_grows : (o : Option E) (ws : List ℕ) → length ws ≤ length (f.optional (option_map (λ (e : E). flat_expr e.0) o) p ws).locals
  optional_grows None ws = omega arith
  optional_grows (Some e) ws = begins_length ws (flat_expr e.0 p ws).locals (expr_grows e.0 p grow ws)

  abbrev operand : Option E → Flatten (Option Expr)
  operand o = f.optional (option_map (λ (e : E). flat_expr e.0) o)

  abbrev operand_uses : Option E → Uses
  operand_uses o = all_uses (option_to_list (option_map (λ (e : E). expr_uses e.0) o))

  both_owned : (b : Bool) (d t : Option E) → r.each (option_to_list (option_map (λ (e : E). expr_fit e.0) d)) n rooms ≡ true → r.each (option_to_list (option_map (λ (e : E). expr_fit e.0) t)) n rooms ≡ true → (ws : List ℕ) → p.first + n ≤ length ws →
      (let made = f.both b (operand d) (operand t) p ws in
      Owned (joined (operand_uses d) (operand_uses t)) (joined (all_uses (option_to_list (option_map expr_uses made.value.0))) (all_uses (option_to_list (option_map expr_uses made.value.1)))) (length ws) (length made.locals))
  both_owned true d t fit fit2 ws bound =
      let first = operand d p ws in let second = operand t p first.locals in let l = optional_grows d ws in
      owned_both (operand_uses d) (operand_uses t) (all_uses (option_to_list (option_map expr_uses first.value))) (all_uses (option_to_list (option_map expr_uses second.value))) (length ws) (length first.locals) (length second.locals) bound
      (optional d fit ws bound) (optional t fit2 first.locals (omega arith))
  both_owned false d t fit fit2 ws bound =
      let first = operand t p ws in let second = operand d p first.locals in let l = optional_grows t ws in
      let x = all_uses (option_to_list (option_map expr_uses first.value)) in
      let y = all_uses (option_to_list (option_map expr_uses second.value)) in
      owned_turned (operand_uses t) (operand_uses d) x y (length ws) (length second.locals)
      (owned_both (operand_uses t) (operand_uses d) x y (length ws) (length first.locals) (length second.locals) bound (optional t fit2 ws bound) (optional d fit first.locals (omega arith)))

  three_uses : (xs ys zs : List Uses) → joined (all_uses xs) (joined (all_uses ys) (all_uses zs)) ≡ all_uses (xs ++ ys ++ zs)
  three_uses xs ys zs = sym (uses_append (xs ++ ys) zs ∙ ap (λ (v : Uses). joined v (all_uses zs)) (uses_append xs ys) ∙ joined-assoc (all_uses xs) (all_uses ys) (all_uses zs))

  gen_uses : (event : ℕ) (args : List Expr) (d t : Option Expr) (b : Bool) → joined (exprs_uses args) (joined (all_uses (option_to_list (option_map expr_uses d))) (all_uses (option_to_list (option_map expr_uses t)))) ≡ node_uses (Stmt-F.Gen event args d t b)
  gen_uses event args None None b = three_uses (map expr_uses args) [] []
  gen_uses event args None (Some t) b = three_uses (map expr_uses args) [] (expr_uses t ∷ [])
  gen_uses event args (Some d) None b = three_uses (map expr_uses args) (expr_uses d ∷ []) []
  gen_uses event args (Some d) (Some t) b = three_uses (map expr_uses args) (expr_uses d ∷ []) (expr_uses t ∷ [])

  gen_level : (event : ℕ) (es : List E) (d t : Option E) (b : Bool) →
      r.stmt_step (Stmt-F.Gen event (map expr_fit (exprs es)) (option_map (λ (e : E). expr_fit e.0) d) (option_map (λ (e : E). expr_fit e.0) t) b) n rooms ≡ true → (ws : List ℕ) → p.first + n ≤ length ws →
      (let made = f.stmt_node (Stmt-F.Gen event (map flat_expr (exprs es)) (option_map (λ (e : E). flat_expr e.0) d) (option_map (λ (e : E). flat_expr e.0) t) b) p ws in
      Owned (u.stmt_step (Stmt-F.Gen event (map expr_uses (exprs es)) (option_map (λ (e : E). expr_uses e.0) d) (option_map (λ (e : E). expr_uses e.0) t) b)) (uses_of_nodes made.value) (length ws) (length made.locals))
  gen_level event es d t b fit ws bound =
      let fit1 = both_pass (λ (test : Fit). test n rooms) (map expr_fit (exprs es) ++ option_to_list (option_map (λ (e : E). expr_fit e.0) d)) (option_to_list (option_map (λ (e : E). expr_fit e.0) t)) fit in
      let fit2 = both_pass (λ (test : Fit). test n rooms) (map expr_fit (exprs es)) (option_to_list (option_map (λ (e : E). expr_fit e.0) d)) fit1.0 in
      let first = f.each (map flat_expr (exprs es)) p ws in
      let made = f.both b (operand d) (operand t) p first.locals in
      let l = begins_length ws first.locals (exprs_grow (exprs es) p grow ws) in
      let whole = owned_both _ _ _ _ (length ws) (length first.locals) (length made.locals) bound (these es fit2.0 ws bound) (both_owned b d t fit2.1 fit1.1 first.locals (omega arith)) in
      let core = u.stmt_step (Stmt-F.Gen event (map expr_uses (exprs es)) (option_map (λ (e : E). expr_uses e.0) d) (option_map (λ (e : E). expr_uses e.0) t) b) in
      let flat = joined (exprs_uses first.value) (joined (all_uses (option_to_list (option_map expr_uses made.value.0))) (all_uses (option_to_list (option_map expr_uses made.value.1)))) in
      becomes_one core (node_uses (Stmt-F.Gen event first.value made.value.0 made.value.1 b)) (length ws) (length made.locals)
      (subst (λ (v : Uses). Owned core v (length ws) (length made.locals)) (gen_uses event first.value made.value.0 made.value.1 b)
      (subst (λ (v : Uses). Owned v flat (length ws) (length made.locals)) (three_uses (map expr_uses (exprs es)) (option_to_list (option_map (λ (e : E). expr_uses e.0) d)) (option_to_list (option_map (λ (e : E). expr_uses e.0) t))) whole))

  joined_lists : {A : Type 0} (g : Expr → A) (es ds : List E) → map g (exprs (es ++ ds)) ≡ map g (exprs es) ++ map g (exprs ds)
  joined_lists g es ds = ap (map g) (map-append (λ (e : E). e.0) es ds) ∙ map-append g (exprs es) (exprs ds)

  group_level : (event k : ℕ) (delayed : Bool) (members : List ℕ) (es ds : List E) (held : List (Flatten Expr)) → map flat_expr (exprs (es ++ ds)) ≡ held → (core : Uses) → all_uses (map expr_uses (exprs (es ++ ds))) ≡ core →
      r.each (map expr_fit (exprs es) ++ map expr_fit (exprs ds)) n rooms ≡ true → k ≤ length (es ++ ds) → (delayed ≡ true → k < length (es ++ ds)) → (ws : List ℕ) → p.first + n ≤ length ws →
      (let first = f.each held p ws in Owned core (uses_of_nodes (assigns (length first.locals) first.value ++ map (to_member event (length first.locals) k delayed) members)) (length ws) (length (first.locals ++ map (f.width_in first.locals) first.value)))
  group_level event k delayed members es ds held is core core_is fit few late ws bound =
      subst (λ (ts : List (Flatten Expr)). let first = f.each ts p ws in Owned core (uses_of_nodes (assigns (length first.locals) first.value ++ map (to_member event (length first.locals) k delayed) members)) (length ws) (length (first.locals ++ map (f.width_in first.locals) first.value))) is
      (let first = f.each (map flat_expr (exprs (es ++ ds))) p ws in
      let mid = length first.locals in
      let own = these (es ++ ds) (subst (λ (ts : List Fit). r.each ts n rooms ≡ true) (sym (joined_lists expr_fit es ds)) fit) ws bound in
      let many = each-length (es ++ ds) ws in
      let sent = uses_of_nodes (map (to_member event mid k delayed) members) in
      let held_uses = uses_of_nodes (assigns mid first.value) in
      let reads = members_read event mid k (mid + length first.value) delayed members (omega arith) (λ e. let z = late e in omega arith) in
      let split : uses_of_nodes (assigns mid first.value ++ map (to_member event mid k delayed) members) ≡ joined held_uses sent =
      ap all_uses (map-append node_uses (assigns mid first.value) (map (to_member event mid k delayed) members)) ∙ uses_append (map node_uses (assigns mid first.value)) (map node_uses (map (to_member event mid k delayed) members)) in
      let end : mid + length first.value ≡ length (first.locals ++ map (f.width_in first.locals) first.value) = sym (length-append first.locals (map (f.width_in first.locals) first.value) ∙ ap (λ (m : ℕ). mid + m) (length-map first.value (f.width_in first.locals))) in
      subst (λ (hi : ℕ). Owned core (uses_of_nodes (assigns mid first.value ++ map (to_member event mid k delayed) members)) (length ws) hi) end (subst (λ (v : Uses). Owned core v (length ws) (mid + length first.value)) (sym split) (record {
        owns = group_owns p.first n (length ws) mid first.value sent bound own.owns reads;
        carries = λ c h.
            let z = own.carries c (subst (λ (v : Uses). 0 < times_in v.assigns c) (sym core_is) h) in
            let e1 = times-append held_uses.assigns sent.assigns (p.first + c) in
            let e2 = held_assigns mid first.value (p.first + c) in
            omega arith;
      })))

  stmt_level : (y : Stmt-F E S T) → r.stmt_step (map-Stmt Expr Stmt Touch Fit Fit Fit expr_fit stmt_fit touch_fit (stmt_tree y)) n rooms ≡ true → (ws : List ℕ) → p.first + n ≤ length ws →
      Owned (node_uses (stmt_tree y)) (uses_of_nodes (node_s (stmt_tree y) ws).value) (length ws) (length (node_s (stmt_tree y) ws).locals)
  stmt_level (Stmt-F.Assign i e) fit ws bound =
      let fits = and_parts _ _ fit in
      let one = e.1 fits.1 ws bound in
      let first = flat_expr e.0 p ws in
      let small = ltb-true i n fits.0 in
      becomes_one _ _ _ _ (record {
        owns = inlined_nodes.assign p.first n (length ws) (length first.locals) i (expr_uses first.value) small bound one.owns;
        carries = λ c h. of c (cases_eq c i) one.carries h;
      })
    where
      of : (c : ℕ) → (c ≡ i) ⊎ (c ≡ i → ⊥) → ((d : ℕ) → 0 < times_in (expr_uses e.0).assigns d → 0 < times_in (expr_uses (flat_expr e.0 p ws).value).assigns (p.first + d)) →
          0 < times_in (i ∷ (expr_uses e.0).assigns) c → 0 < times_in ((p.first + i) ∷ (expr_uses (flat_expr e.0 p ws).value).assigns) (p.first + c)
      of c (inl q) rest h = let z = times-one (p.first + i) (expr_uses (flat_expr e.0 p ws).value).assigns (p.first + c) (omega arith) in omega arith
      of c (inr q) rest h = let e1 = times-none i (expr_uses e.0).assigns c q in let z = rest c (omega arith) in let e2 = times-cons (p.first + i) (expr_uses (flat_expr e.0 p ws).value).assigns (p.first + c) in omega arith
  stmt_level (Stmt-F.Drop e) fit ws bound = becomes_one _ _ _ _ (owned_one _ _ _ _ bound (e.1 (and_parts _ _ fit).0 ws bound))
  stmt_level (Stmt-F.If e es gs) fit ws bound =
      let fit1 = and_parts _ _ fit in
      let fit2 = both_pass (λ (test : Fit). test n rooms) (map stmt_fit (stmts es)) (map stmt_fit (stmts gs)) fit1.1 in
      let first = flat_expr e.0 p ws in
      let left = f.block (map flat_stmt (stmts es)) p first.locals in
      let right = f.block (map flat_stmt (stmts gs)) p left.locals in
      let l1 = begins_length ws first.locals (expr_grows e.0 p grow ws) in
      let l2 = begins_length first.locals left.locals (stmts_grow (stmts es) p grow first.locals) in
      let branches = owned_both _ _ _ _ (length first.locals) (length left.locals) (length right.locals) (omega arith) (those es fit2.0 first.locals (omega arith)) (those gs fit2.1 left.locals (omega arith)) in
      let both = subst (λ (v : Uses). Owned v (all_uses (map stmt_uses left.value ++ map stmt_uses right.value)) (length first.locals) (length right.locals)) (sym (uses_append (map stmt_uses (stmts es)) (map stmt_uses (stmts gs))))
      (subst (λ (v : Uses). Owned (joined (body_uses (stmts es)) (body_uses (stmts gs))) v (length first.locals) (length right.locals)) (sym (uses_append (map stmt_uses left.value) (map stmt_uses right.value))) branches) in
      becomes_one _ _ _ _ (owned_both _ _ _ _ (length ws) (length first.locals) (length right.locals) bound (e.1 fit1.0 ws bound) both)
  stmt_level (Stmt-F.Gen event es None None b) fit ws bound = gen_level event es None None b fit ws bound
  stmt_level (Stmt-F.Gen event es None (Some t) b) fit ws bound = gen_level event es None (Some t) b fit ws bound
  stmt_level (Stmt-F.Gen event es (Some d) None b) fit ws bound = gen_level event es (Some d) None b fit ws bound
  stmt_level (Stmt-F.Gen event es (Some d) (Some t) b) fit ws bound = gen_level event es (Some d) (Some t) b fit ws bound
  stmt_level (Stmt-F.Multi event es None members) fit ws bound =
      let m1 = length-map es (λ (e : E). e.0) in let m2 = length-map (exprs es) flat_expr in let m3 = length-append es [] in
      group_level event (length (map flat_expr (exprs es))) false members es [] (map flat_expr (exprs es) ++ []) (joined_lists flat_expr es []) _ (ap all_uses (joined_lists expr_uses es [])) (and_parts _ _ fit).1 (omega arith) (λ e. absurd (cc)) ws bound
  stmt_level (Stmt-F.Multi event es (Some d) members) fit ws bound =
      let m1 = length-map es (λ (e : E). e.0) in let m2 = length-map (exprs es) flat_expr in let m3 = length-append es (d ∷ []) in
      group_level event (length (map flat_expr (exprs es))) true members es (d ∷ []) (map flat_expr (exprs es) ++ flat_expr d.0 ∷ []) (joined_lists flat_expr es (d ∷ [])) _ (ap all_uses (joined_lists expr_uses es (d ∷ []))) (and_parts _ _ fit).1 (omega arith) (λ e. omega arith) ws bound
  stmt_level (Stmt-F.Say form es) fit ws bound = becomes_one _ _ _ _ (these es fit ws bound)
  stmt_level (Stmt-F.Return None) fit ws bound = becomes_one _ _ _ _ (owned_none (length ws))
  stmt_level (Stmt-F.Return (Some e)) fit ws bound = becomes_one _ _ _ _ (owned_one _ _ _ _ bound (e.1 (and_parts _ _ fit).0 ws bound))

  of_expr : (y : Expr-F E S T) → ExprOwned (flat_expr (roll-Expr (expr_tree y))) (expr_uses (roll-Expr (expr_tree y))) (expr_fit (roll-Expr (expr_tree y)))
  of_expr y = let tree = expr_tree y in opened3 ExprOwned
      (fold-roll-Expr (Flatten Expr) (Flatten (List Stmt)) (Flatten Touch) f.expr_step f.stmt_step f.touch_step tree) (expr_at tree) (fold-roll-Expr Fit Fit Fit r.expr_step r.stmt_step r.touch_step tree)
      (λ fit ws bound. subst (λ (v : Uses). Owned (uses_e tree) v (length ws) (length (node_e tree ws).locals)) (sym (expr_at (node_e tree ws).value)) (expr_level y fit ws bound))

  of_stmt : (y : Stmt-F E S T) → StmtOwned (flat_stmt (roll-Stmt (stmt_tree y))) (stmt_uses (roll-Stmt (stmt_tree y))) (stmt_fit (roll-Stmt (stmt_tree y)))
  of_stmt y = let tree = stmt_tree y in opened3 StmtOwned
      (fold-roll-Stmt (Flatten Expr) (Flatten (List Stmt)) (Flatten Touch) f.expr_step f.stmt_step f.touch_step tree) (fold-roll-Stmt Uses Uses Uses u.expr_step u.stmt_step u.touch_step tree) (fold-roll-Stmt Fit Fit Fit r.expr_step r.stmt_step r.touch_step tree)
      (λ fit ws bound. subst (λ (vs : List Uses). Owned (node_uses tree) (all_uses vs) (length ws) (length (node_s tree ws).locals)) (sym (stmts_at (node_s tree ws).value)) (stmt_level y fit ws bound))

  of_touch : (y : Touch-F E S T) → TouchOwned (flat_touch (roll-Touch (touch_tree y))) (touch_uses (roll-Touch (touch_tree y))) (touch_fit (roll-Touch (touch_tree y)))
  of_touch y = let tree = touch_tree y in opened3 TouchOwned
      (fold-roll-Touch (Flatten Expr) (Flatten (List Stmt)) (Flatten Touch) f.expr_step f.stmt_step f.touch_step tree) (fold-roll-Touch Uses Uses Uses u.expr_step u.stmt_step u.touch_step tree) (fold-roll-Touch Fit Fit Fit r.expr_step r.stmt_step r.touch_step tree)
      (λ fit ws bound. subst (λ (v : Uses). Owned (uses_t tree) v (length ws) (length (node_t tree ws).locals)) (sym (fold-roll-Touch Uses Uses Uses u.expr_step u.stmt_step u.touch_step (node_t tree ws).value)) (touch_level y fit ws bound))

  by_nodes : Cases (λ e. ExprOwned (flat_expr e) (expr_uses e) (expr_fit e)) (λ e. StmtOwned (flat_stmt e) (stmt_uses e) (stmt_fit e)) (λ e. TouchOwned (flat_touch e) (touch_uses e) (touch_fit e))
  by_nodes = record { expr = of_expr; stmt = of_stmt; touch = of_touch }

  abbrev BodyOwned : List Stmt → Type 0
  BodyOwned ss = r.each (map stmt_fit ss) n rooms ≡ true → (ws : List ℕ) → p.first + n ≤ length ws → Owned (body_uses ss) (body_uses (f.block (map flat_stmt ss) p ws).value) (length ws) (length (f.block (map flat_stmt ss) p ws).locals)

  pub body_owned : (ss : List Stmt) → BodyOwned ss
  body_owned = body_by BodyOwned by_nodes those
