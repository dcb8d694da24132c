-- The flat form has few locals: a handler's are at most 8, and 8 for each statement and call that its size counts.
use Rattle.std.proofs.Common.{◌≡◌, ◌⊎◌, inl, inr, ℕ, zero, suc, ◌+◌, ◌-◌, ◌*◌, ◌<◌, ◌≤◌, List, [], ◌∷◌, ◌++◌, Bool, true, false, ◌&&◌, cond, drop, Option, None, Some, length, map, refl, sym, ap, subst, ◌∙◌, arith, length-append, nat_eq, nat_le, slice_get, slice_index, option_map, option_to_list}
use Rattle.std.specs.List.{list_all}
use Rattle.std.specs.Option.{option_map_or}
use Rattle.std.proofs.lemmas.Bool.{and_parts, cases_Bool, cases_lt, eqb-true, leb-true}
use Rattle.std.proofs.lemmas.List.{length-map, map-append}
use Rattle.lucid_core.specs.declared.body.Expr.{Expr}
use Rattle.lucid_core.specs.declared.body.Stmt.{Stmt}
use Rattle.lucid_core.specs.declared.body.Touch.{Touch}
use Rattle.lucid_core.specs.declared.body.Expr.TheOpen.{Expr-F, Stmt-F, Touch-F}
use Rattle.lucid_core.specs.declared.body.Expr.TheViews.{roll-Expr, roll-Stmt, roll-Touch}
use Rattle.lucid_core.specs.declared.body.Expr.TheFolds.{fold-roll-Expr, fold-roll-Stmt, fold-roll-Touch, map-Expr, map-Stmt, map-Touch}
use Rattle.lucid_core.specs.declared.defs.EventDef.{EventDef}
use Rattle.lucid_core.specs.declared.defs.FunDef.{FunDef}
use Rattle.lucid_core.specs.declared.defs.HandlerDef.{HandlerDef}
use Rattle.lucid_core.specs.Computations.{array_of}
use Rattle.lucid_core.specs.Events.{event_params, events_and_handlers_agree}
use Rattle.lucid_base.specs.Numbers.{is_in}
use Rattle.lucid_core.specs.Numbers.{are_in, places}
use Rattle.lucid_core.specs.OutCount.{Count, total}
use Rattle.lucid_core.specs.Parts.{CoreParts}
use Rattle.lucid_core.specs.Uses as u
use Rattle.lucid_core.specs.Uses.{Uses, all_uses, assigns_its_locals, body_uses, expr_uses, stmt_uses, times_in, touch_uses}
use Rattle.lucid_core.specs.Valid.{IsValid}
use Rattle.lucid_core.proofs.Fine.{both_pass}
use Rattle.lucid_core.proofs.Handlers.{declared}
use Rattle.lucid_core.proofs.WidthLists.{passes_at}
use Rattle.lucid_core.proofs.Induction.{Cases, body_by, opened4}
use Rattle.lucid_inline_spec.specs.Counts as o
use Rattle.lucid_inline_spec.specs.Counts.{body_size, expr_size, fun_sizes, stmt_size, touch_size}
use Rattle.lucid_inline_spec.specs.Flat as f
use Rattle.lucid_inline_spec.specs.Flat.{Flatten, PutIn, Site, flat_expr, flat_stmt, flat_touch, width_in}
use Rattle.lucid_inline_spec.specs.Laws.{HasFewLocals}
use Rattle.lucid_inline_spec.proofs.Fit as r
use Rattle.lucid_inline_spec.proofs.Fit.{Fit, expr_fit, stmt_fit, touch_fit}
use Rattle.lucid_inline_spec.proofs.Outs.{total-append}
use Rattle.lucid_inline_spec.proofs.Owning.{uses_append}
use Rattle.lucid_inline_spec.proofs.Runs.{funs_fit, puts_from, rooms_from}
use Rattle.lucid_inline_spec.proofs.Steps.{valid_fits}
use Rattle.lucid_core_laws.proofs.Times.{in-times, times-cons}
use Rattle.lucid_inline_spec.proofs.Times.{dropped_there}

-- ---- numbers that are all in a list are no more than it has

-- How often the m numbers from b on occur there, and whether x is one of them.
abbrev tally : ℕ → ℕ → List ℕ → ℕ
tally zero b xs = 0
tally (suc m) b xs = times_in xs b + tally m (b + 1) xs

abbrev hits : ℕ → ℕ → ℕ → ℕ
hits zero b x = 0
hits (suc m) b x = cond (nat_eq b x) 1 0 + hits m (b + 1) x

hits_above : (m b x : ℕ) → x < b → hits m b x ≡ 0
hits_above zero b x h = refl
hits_above (suc m) b x h = which (cases_Bool (nat_eq b x)) (hits_above m (b + 1) x (omega arith))
  where
    which : (nat_eq b x ≡ true) ⊎ (nat_eq b x ≡ false) → hits m (b + 1) x ≡ 0 → hits (suc m) b x ≡ 0
    which (inl e) rest = let is = eqb-true b x e in absurd (omega arith)
    which (inr e) rest = let own = ap (λ (t : Bool). cond t 1 0 + hits m (b + 1) x) e in omega arith

hits_once : (m b x : ℕ) → hits m b x ≤ 1
hits_once zero b x = omega arith
hits_once (suc m) b x = which (cases_Bool (nat_eq b x)) (hits_once m (b + 1) x)
  where
    which : (nat_eq b x ≡ true) ⊎ (nat_eq b x ≡ false) → hits m (b + 1) x ≤ 1 → hits (suc m) b x ≤ 1
    which (inl e) more =
        let is = eqb-true b x e in
        let rest = hits_above m (b + 1) x (omega arith) in
        let own = ap (λ (t : Bool). cond t 1 0 + hits m (b + 1) x) e in
        omega arith
    which (inr e) more = let own = ap (λ (t : Bool). cond t 1 0 + hits m (b + 1) x) e in omega arith

tally-cons : (m b x : ℕ) (xs : List ℕ) → tally m b (x ∷ xs) ≡ hits m b x + tally m b xs
tally-cons zero b x xs = refl
tally-cons (suc m) b x xs = let one = times-cons x xs b in let rest = tally-cons m (b + 1) x xs in omega arith

tally-nil : (m b : ℕ) → tally m b [] ≡ 0
tally-nil zero b = refl
tally-nil (suc m) b = let rest = tally-nil m (b + 1) in omega arith

tally_most : (m b : ℕ) (xs : List ℕ) → tally m b xs ≤ length xs
tally_most m b [] = let e = tally-nil m b in omega arith
tally_most m b (x ∷ xs) = let e = tally-cons m b x xs in let one = hits_once m b x in let rest = tally_most m b xs in omega arith

tally_least : (m b : ℕ) (xs : List ℕ) → ((i : ℕ) → i < m → 0 < times_in xs (b + i)) → m ≤ tally m b xs
tally_least zero b xs h = omega arith
tally_least (suc m) b xs h =
    let z : b + 0 ≡ b = omega arith in
    let first = subst (λ (i : ℕ). 0 < times_in xs i) z (h 0 (omega arith)) in
    let rest = tally_least m (b + 1) xs (λ i l. let e : b + suc i ≡ b + 1 + i = omega arith in subst (λ (j : ℕ). 0 < times_in xs j) e (h (suc i) (omega arith))) in
    omega arith

-- A body's locals are its parameters, and others that it assigns.
few_own : (params : ℕ) (locals : List ℕ) (known : List ℕ) → are_in known (drop params (places locals)) ≡ true → length locals ≤ params + length known
few_own params locals known h = which (cases_lt (length locals) params)
  where
    which : (length locals < params) ⊎ (params ≤ length locals) → length locals ≤ params + length known
    which (inr l) =
        let m = length locals - params in
        let least = tally_least m params known (λ i k. let z : 0 + (params + i) ≡ params + i = omega arith in
        in-times known (params + i) (subst (λ (j : ℕ). is_in j known ≡ true) z (dropped_there params locals 0 known h (params + i) (omega arith) (omega arith)))) in
        let most = tally_most m params known in
        omega arith
    which (inl l) = omega arith

-- ---- assigned locals of bodies, and the added locals

abbrev all_assigned : List Uses → ℕ
all_assigned us = length (all_uses us).assigns

assigned-cons : (x : Uses) (us : List Uses) → all_assigned (x ∷ us) ≡ length x.assigns + all_assigned us
assigned-cons x us = length-append x.assigns (all_uses us).assigns

assigned-append : (us vs : List Uses) → all_assigned (us ++ vs) ≡ all_assigned us + all_assigned vs
assigned-append us vs = ap (λ (x : Uses). length x.assigns) (uses_append us vs) ∙ length-append (all_uses us).assigns (all_uses vs).assigns

assigned-one : (x : Uses) → all_assigned (x ∷ []) ≡ length x.assigns
assigned-one x = let e = assigned-cons x [] in omega arith

assigned-two : (x y : Uses) → all_assigned (x ∷ y ∷ []) ≡ length x.assigns + length y.assigns
assigned-two x y = let e1 = assigned-cons x (y ∷ []) in let e2 = assigned-one y in omega arith

-- The locals that each function's body adds, with its own.
abbrev AllFew : List ℕ → List PutIn → Type 0
AllFew [] [] = Unit {0}
AllFew (c ∷ cs) (put ∷ puts) = ((arrays ws : List ℕ) → length (put arrays ws).locals ≤ length ws + 8 + 8 * c) × AllFew cs puts
AllFew _ _ = ⊥

module _ (p : Site) (counts : List ℕ) (all : AllFew counts p.funs) (n : ℕ) (rooms : List ℕ) where
  -- Where four folds are opened4 at a node: each statement assigns one local at most, and each call adds at most 8 that its body doesn't assign.
  abbrev Few : {A : Type 0} → Flatten A → Count → Uses → Fit → Type 0
  Few t c uses fit = fit n rooms ≡ true → (ws : List ℕ) → length uses.assigns + length (t p ws).locals ≤ length ws + 8 * c counts

  abbrev E : Type 0
  E = (e : Expr) × Few (flat_expr e) (expr_size e) (expr_uses e) (expr_fit e)

  abbrev S : Type 0
  S = (e : Stmt) × Few (flat_stmt e) (stmt_size e) (stmt_uses e) (stmt_fit e)

  abbrev T : Type 0
  T = (e : Touch) × Few (flat_touch e) (touch_size e) (touch_uses e) (touch_fit e)

  abbrev exprs : List E → List Expr
  exprs es = map (λ (e : E). e.0) es

  abbrev stmts : List S → List Stmt
  stmts es = map (λ (e : S). e.0) es

  these : (es : List E) → r.each (map expr_fit (exprs es)) n rooms ≡ true → (ws : List ℕ) →
      all_assigned (map expr_uses (exprs es)) + length (f.each (map flat_expr (exprs es)) p ws).locals ≤ length ws + 8 * total (map expr_size (exprs es)) counts
  these [] fit ws = omega arith
  these (e ∷ es) fit ws =
      let fits = and_parts _ _ fit in
      let first = (flat_expr e.0 p ws).locals in
      let e1 = e.1 fits.0 ws in
      let e2 = these es fits.1 first in
      let e3 = assigned-cons (expr_uses e.0) (map expr_uses (exprs es)) in
      omega arith

  those : (es : List S) → r.each (map stmt_fit (stmts es)) n rooms ≡ true → (ws : List ℕ) →
      all_assigned (map stmt_uses (stmts es)) + length (f.block (map flat_stmt (stmts es)) p ws).locals ≤ length ws + 8 * total (map stmt_size (stmts es)) counts
  those [] fit ws = omega arith
  those (e ∷ es) fit ws =
      let fits = and_parts _ _ fit in
      let first = (flat_stmt e.0 p ws).locals in
      let e1 = e.1 fits.0 ws in
      let e2 = those es fits.1 first in
      let e3 = assigned-cons (stmt_uses e.0) (map stmt_uses (stmts es)) in
      omega arith

  abbrev uses_in : Option E → List Uses
  uses_in d = option_to_list (option_map (λ (e : E). expr_uses e.0) d)

  abbrev sizes_in : Option E → List Count
  sizes_in d = option_to_list (option_map (λ (e : E). expr_size e.0) d)

  abbrev fits_in : Option E → List Fit
  fits_in d = option_to_list (option_map (λ (e : E). expr_fit e.0) d)

  abbrev made_of : Option E → Flatten (Option Expr)
  made_of d = f.optional (option_map (λ (e : E). flat_expr e.0) d)

  optional : (d : Option E) → r.each (fits_in d) n rooms ≡ true → (ws : List ℕ) → all_assigned (uses_in d) + length (made_of d p ws).locals ≤ length ws + 8 * total (sizes_in d) counts
  optional None fit ws = omega arith
  optional (Some e) fit ws = let e1 = e.1 (and_parts _ _ fit).0 ws in let e2 = assigned-one (expr_uses e.0) in omega arith

  put_few : (cs : List ℕ) (ps : List PutIn) → AllFew cs ps → (k : ℕ) (arrays : List ℕ) (args : List Expr) (ws : List ℕ) → length (f.put_in (slice_get ps k) arrays args ws).locals ≤ length ws + 8 + 8 * slice_index cs k
  put_few [] [] a k arrays args ws = omega arith
  put_few (c ∷ cs) (put ∷ ps) a zero arrays args ws = a.0 arrays ws
  put_few (c ∷ cs) (put ∷ ps) a (suc k) arrays args ws = put_few cs ps a.1 k arrays args ws
  put_few [] (put ∷ ps) a k arrays args ws = absurd a
  put_few (c ∷ cs) [] a k arrays args ws = absurd a

  abbrev expr_tree : Expr-F E S T → Expr-F Expr Stmt Touch
  expr_tree = map-Expr E S T Expr Stmt Touch (λ e. e.0) (λ e. e.0) (λ e. e.0)

  abbrev touch_tree : Touch-F E S T → Touch-F Expr Stmt Touch
  touch_tree = map-Touch E S T Expr Stmt Touch (λ e. e.0) (λ e. e.0) (λ e. e.0)

  abbrev stmt_tree : Stmt-F E S T → Stmt-F Expr Stmt Touch
  stmt_tree = map-Stmt E S T Expr Stmt Touch (λ e. e.0) (λ e. e.0) (λ e. e.0)

  expr_level : (y : Expr-F E S T) → r.expr_step (map-Expr Expr Stmt Touch Fit Fit Fit expr_fit stmt_fit touch_fit (expr_tree y)) n rooms ≡ true → (ws : List ℕ) →
      length (u.expr_step (map-Expr Expr Stmt Touch Uses Uses Uses expr_uses stmt_uses touch_uses (expr_tree y))).assigns
      + length (f.expr_node (map-Expr Expr Stmt Touch (Flatten Expr) (Flatten (List Stmt)) (Flatten Touch) flat_expr flat_stmt flat_touch (expr_tree y)) p ws).locals
      ≤ length ws + 8 * o.expr_step (map-Expr Expr Stmt Touch Count Count Count expr_size stmt_size touch_size (expr_tree y)) counts
  expr_level (Expr-F.Fixed b) fit ws = omega arith
  expr_level (Expr-F.Local i) fit ws = omega arith
  expr_level Expr-F.Now fit ws = omega arith
  expr_level Expr-F.Me fit ws = omega arith
  expr_level (Expr-F.Un op e) fit ws = let e1 = e.1 (and_parts _ _ fit).0 ws in let e2 = assigned-one (expr_uses e.0) in omega arith
  expr_level (Expr-F.Bin op e g) fit ws =
      let x = and_parts _ _ fit in
      let e1 = e.1 x.0 ws in
      let e2 = g.1 (and_parts _ _ x.1).0 (flat_expr e.0 p ws).locals in
      let e3 = assigned-two (expr_uses e.0) (expr_uses g.0) in
      omega arith
  expr_level (Expr-F.Cmp op e g) fit ws =
      let x = and_parts _ _ fit in
      let e1 = e.1 x.0 ws in
      let e2 = g.1 (and_parts _ _ x.1).0 (flat_expr e.0 p ws).locals in
      let e3 = assigned-two (expr_uses e.0) (expr_uses g.0) in
      omega arith
  expr_level (Expr-F.Cast w e) fit ws = let e1 = e.1 (and_parts _ _ fit).0 ws in let e2 = assigned-one (expr_uses e.0) in omega arith
  expr_level (Expr-F.Hash w es) fit ws = these es fit ws
  expr_level (Expr-F.Array e) fit ws = let e1 = e.1 (and_parts _ _ fit).0 ws in let e2 = assigned-one (touch_uses e.0) in omega arith
  expr_level (Expr-F.Fun k names es) fit ws =
      let first = f.each (map flat_expr (exprs es)) p ws in
      let e1 = these es (and_parts _ _ fit).1 ws in
      let e2 = put_few counts p.funs all k (map (array_of p.arrays) names) first.value first.locals in
      omega arith
  expr_level (Expr-F.Inlined given es) fit ws = absurd (cc)

  touch_level : (y : Touch-F E S T) → r.touch_step (map-Touch Expr Stmt Touch Fit Fit Fit expr_fit stmt_fit touch_fit (touch_tree y)) n rooms ≡ true → (ws : List ℕ) →
      length (u.touch_step (map-Touch Expr Stmt Touch Uses Uses Uses expr_uses stmt_uses touch_uses (touch_tree y))).assigns
      + length (f.touch_node (map-Touch Expr Stmt Touch (Flatten Expr) (Flatten (List Stmt)) (Flatten Touch) flat_expr flat_stmt flat_touch (touch_tree y)) p ws).locals
      ≤ length ws + 8 * o.touch_step (map-Touch Expr Stmt Touch Count Count Count expr_size stmt_size touch_size (touch_tree y)) counts
  touch_level y fit ws =
      let fit1 = and_parts _ _ fit in
      let fit2 = and_parts _ _ fit1.1 in
      let first = (flat_expr y.index.0 p ws).locals in
      let second = (flat_expr y.get_arg.0 p first).locals in
      let e1 = y.index.1 fit1.0 ws in
      let e2 = y.get_arg.1 fit2.0 first in
      let e3 = y.set_arg.1 (and_parts _ _ fit2.1).0 second in
      let e4 = assigned-cons (expr_uses y.index.0) (expr_uses y.get_arg.0 ∷ expr_uses y.set_arg.0 ∷ []) in
      let e5 = assigned-two (expr_uses y.get_arg.0) (expr_uses y.set_arg.0) in
      omega arith

  both_few : (b : Bool) (x y : Option E) → r.each (fits_in x) n rooms ≡ true → r.each (fits_in y) n rooms ≡ true → (ws : List ℕ) →
      all_assigned (uses_in x) + all_assigned (uses_in y) + length (f.both b (made_of x) (made_of y) p ws).locals ≤ length ws + 8 * total (sizes_in x) counts + 8 * total (sizes_in y) counts
  both_few true x y f1 f2 ws = let e1 = optional x f1 ws in let e2 = optional y f2 (made_of x p ws).locals in omega arith
  both_few false x y f1 f2 ws = let e1 = optional y f2 ws in let e2 = optional x f1 (made_of y p ws).locals in omega arith

  gen_level : (event : ℕ) (es : List E) (d t : Option E) (b : Bool) →
      r.stmt_step (Stmt-F.Gen event (map expr_fit (exprs es)) (option_map (λ (e : E). expr_fit e.0) d) (option_map (λ (e : E). expr_fit e.0) t) b) n rooms ≡ true → (ws : List ℕ) →
      length (u.stmt_step (Stmt-F.Gen event (map expr_uses (exprs es)) (option_map (λ (e : E). expr_uses e.0) d) (option_map (λ (e : E). expr_uses e.0) t) b)).assigns
      + length (f.stmt_node (Stmt-F.Gen event (map flat_expr (exprs es)) (option_map (λ (e : E). flat_expr e.0) d) (option_map (λ (e : E). flat_expr e.0) t) b) p ws).locals
      ≤ length ws + 8 * o.stmt_step (Stmt-F.Gen event (map expr_size (exprs es)) (option_map (λ (e : E). expr_size e.0) d) (option_map (λ (e : E). expr_size e.0) t) b) counts
  gen_level event es d t b fit ws =
      let fit1 = both_pass (λ (test : Fit). test n rooms) (map expr_fit (exprs es) ++ fits_in d) (fits_in t) fit in
      let fit2 = both_pass (λ (test : Fit). test n rooms) (map expr_fit (exprs es)) (fits_in d) fit1.0 in
      let first = (f.each (map flat_expr (exprs es)) p ws).locals in
      let e1 = these es fit2.0 ws in
      let e2 = both_few b d t fit2.1 fit1.1 first in
      let e3 = assigned-append (map expr_uses (exprs es) ++ uses_in d) (uses_in t) in
      let e4 = assigned-append (map expr_uses (exprs es)) (uses_in d) in
      let e5 = total-append (map expr_size (exprs es) ++ sizes_in d) (sizes_in t) counts in
      let e6 = total-append (map expr_size (exprs es)) (sizes_in d) counts in
      omega arith

  joined : {A : Type 0} (g : Expr → A) (es ds : List E) → map g (exprs (es ++ ds)) ≡ map g (exprs es) ++ map g (exprs ds)
  joined g es ds = ap (map g) (map-append (λ (e : E). e.0) es ds) ∙ map-append g (exprs es) (exprs ds)

  each-length : (hs : List E) (ws : List ℕ) → length (f.each (map flat_expr (exprs hs)) p ws).value ≡ length hs
  each-length [] ws = refl
  each-length (h ∷ hs) ws = ap suc (each-length hs (flat_expr h.0 p ws).locals)

  -- A group adds a local for each argument and for its delay.
  group_level : (members : List ℕ) (es ds : List E) (held : List (Flatten Expr)) → map flat_expr (exprs (es ++ ds)) ≡ held → (cs : List Count) → map expr_size (exprs (es ++ ds)) ≡ cs → (us : List Uses) → map expr_uses (exprs (es ++ ds)) ≡ us →
      r.each (map expr_fit (exprs es) ++ map expr_fit (exprs ds)) n rooms ≡ true → (ws : List ℕ) →
      (let first = f.each held p ws in all_assigned us + length (first.locals ++ map (width_in first.locals) first.value) ≤ length ws + 8 * (total cs counts + length cs + length members))
  group_level members es ds held is cs are us ours fit ws =
      let first = f.each held p ws in
      let args = these (es ++ ds) (subst (λ (ts : List Fit). r.each ts n rooms ≡ true) (sym (joined expr_fit es ds)) fit) ws in
      let e1 : all_assigned us + length first.locals ≤ length ws + 8 * total cs counts =
      subst (λ (ts : List (Flatten Expr)). all_assigned us + length (f.each ts p ws).locals ≤ length ws + 8 * total cs counts) is
      (subst (λ (q : List Count). all_assigned us + length (f.each (map flat_expr (exprs (es ++ ds))) p ws).locals ≤ length ws + 8 * total q counts) are
      (subst (λ (q : List Uses). all_assigned q + length (f.each (map flat_expr (exprs (es ++ ds))) p ws).locals ≤ length ws + 8 * total (map expr_size (exprs (es ++ ds))) counts) ours args)) in
      let e2 : length first.value ≡ length (es ++ ds) = subst (λ (ts : List (Flatten Expr)). length (f.each ts p ws).value ≡ length (es ++ ds)) is (each-length (es ++ ds) ws) in
      let e3 : length cs ≡ length (es ++ ds) = ap length (sym are) ∙ length-map (exprs (es ++ ds)) expr_size ∙ length-map (es ++ ds) (λ (e : E). e.0) in
      let e4 = length-append first.locals (map (width_in first.locals) first.value) in
      let e5 = length-map first.value (width_in first.locals) in
      omega arith

  -- A statement of its own.
  alone : (a m k l : ℕ) → a + m ≤ k + 8 * l → a + m ≤ k + 8 * (1 + l)
  alone a m k l h = omega arith

  stmt_level : (y : Stmt-F E S T) → r.stmt_step (map-Stmt Expr Stmt Touch Fit Fit Fit expr_fit stmt_fit touch_fit (stmt_tree y)) n rooms ≡ true → (ws : List ℕ) →
      length (u.stmt_step (map-Stmt Expr Stmt Touch Uses Uses Uses expr_uses stmt_uses touch_uses (stmt_tree y))).assigns
      + length (f.stmt_node (map-Stmt Expr Stmt Touch (Flatten Expr) (Flatten (List Stmt)) (Flatten Touch) flat_expr flat_stmt flat_touch (stmt_tree y)) p ws).locals
      ≤ length ws + 8 * o.stmt_step (map-Stmt Expr Stmt Touch Count Count Count expr_size stmt_size touch_size (stmt_tree y)) counts
  stmt_level (Stmt-F.Assign i e) fit ws = let e1 = e.1 (and_parts _ _ fit).1 ws in omega arith
  stmt_level (Stmt-F.Drop e) fit ws = let e1 = e.1 (and_parts _ _ fit).0 ws in let e2 = assigned-one (expr_uses e.0) in omega arith
  stmt_level (Stmt-F.If e es gs) fit ws =
      let fit1 = and_parts _ _ fit in
      let fit2 = both_pass (λ (test : Fit). test n rooms) (map stmt_fit (stmts es)) (map stmt_fit (stmts gs)) fit1.1 in
      let test = (flat_expr e.0 p ws).locals in
      let left = (f.block (map flat_stmt (stmts es)) p test).locals in
      let e1 = e.1 fit1.0 ws in
      let e2 = those es fit2.0 test in
      let e3 = those gs fit2.1 left in
      let e4 = assigned-cons (expr_uses e.0) (map stmt_uses (stmts es) ++ map stmt_uses (stmts gs)) in
      let e5 = assigned-append (map stmt_uses (stmts es)) (map stmt_uses (stmts gs)) in
      let e6 = total-append (map stmt_size (stmts es)) (map stmt_size (stmts gs)) counts in
      omega arith
  stmt_level (Stmt-F.Gen event es None None b) fit ws = gen_level event es None None b fit ws
  stmt_level (Stmt-F.Gen event es None (Some t) b) fit ws = gen_level event es None (Some t) b fit ws
  stmt_level (Stmt-F.Gen event es (Some d) None b) fit ws = gen_level event es (Some d) None b fit ws
  stmt_level (Stmt-F.Gen event es (Some d) (Some t) b) fit ws = gen_level event es (Some d) (Some t) b fit ws
  stmt_level (Stmt-F.Multi event es None members) fit ws =
      group_level members es [] (map flat_expr (exprs es) ++ []) (joined flat_expr es []) (map expr_size (exprs es) ++ []) (joined expr_size es []) (map expr_uses (exprs es) ++ []) (joined expr_uses es []) (and_parts _ _ fit).1 ws
  stmt_level (Stmt-F.Multi event es (Some d) members) fit ws =
      group_level members es (d ∷ []) (map flat_expr (exprs es) ++ flat_expr d.0 ∷ []) (joined flat_expr es (d ∷ [])) (map expr_size (exprs es) ++ expr_size d.0 ∷ []) (joined expr_size es (d ∷ []))
      (map expr_uses (exprs es) ++ expr_uses d.0 ∷ []) (joined expr_uses es (d ∷ [])) (and_parts _ _ fit).1 ws
  stmt_level (Stmt-F.Say form es) fit ws = alone _ _ _ _ (these es fit ws)
  stmt_level (Stmt-F.Return None) fit ws = omega arith
  stmt_level (Stmt-F.Return (Some e)) fit ws = let e1 = e.1 (and_parts _ _ fit).0 ws in let e2 = assigned-one (expr_uses e.0) in omega arith

  of_expr : (y : Expr-F E S T) → Few (flat_expr (roll-Expr (expr_tree y))) (expr_size (roll-Expr (expr_tree y))) (expr_uses (roll-Expr (expr_tree y))) (expr_fit (roll-Expr (expr_tree y)))
  of_expr y = let tree = expr_tree y in opened4 (Few {A = Expr})
      (fold-roll-Expr (Flatten Expr) (Flatten (List Stmt)) (Flatten Touch) f.expr_step f.stmt_step f.touch_step tree) (fold-roll-Expr Count Count Count o.expr_step o.stmt_step o.touch_step tree)
      (fold-roll-Expr Uses Uses Uses u.expr_step u.stmt_step u.touch_step tree) (fold-roll-Expr Fit Fit Fit r.expr_step r.stmt_step r.touch_step tree) (expr_level y)

  of_stmt : (y : Stmt-F E S T) → Few (flat_stmt (roll-Stmt (stmt_tree y))) (stmt_size (roll-Stmt (stmt_tree y))) (stmt_uses (roll-Stmt (stmt_tree y))) (stmt_fit (roll-Stmt (stmt_tree y)))
  of_stmt y = let tree = stmt_tree y in opened4 (Few {A = List Stmt})
      (fold-roll-Stmt (Flatten Expr) (Flatten (List Stmt)) (Flatten Touch) f.expr_step f.stmt_step f.touch_step tree) (fold-roll-Stmt Count Count Count o.expr_step o.stmt_step o.touch_step tree)
      (fold-roll-Stmt Uses Uses Uses u.expr_step u.stmt_step u.touch_step tree) (fold-roll-Stmt Fit Fit Fit r.expr_step r.stmt_step r.touch_step tree) (stmt_level y)

  of_touch : (y : Touch-F E S T) → Few (flat_touch (roll-Touch (touch_tree y))) (touch_size (roll-Touch (touch_tree y))) (touch_uses (roll-Touch (touch_tree y))) (touch_fit (roll-Touch (touch_tree y)))
  of_touch y = let tree = touch_tree y in opened4 (Few {A = Touch})
      (fold-roll-Touch (Flatten Expr) (Flatten (List Stmt)) (Flatten Touch) f.expr_step f.stmt_step f.touch_step tree) (fold-roll-Touch Count Count Count o.expr_step o.stmt_step o.touch_step tree)
      (fold-roll-Touch Uses Uses Uses u.expr_step u.stmt_step u.touch_step tree) (fold-roll-Touch Fit Fit Fit r.expr_step r.stmt_step r.touch_step tree) (touch_level y)

  by_nodes : Cases (λ e. Few (flat_expr e) (expr_size e) (expr_uses e) (expr_fit e)) (λ e. Few (flat_stmt e) (stmt_size e) (stmt_uses e) (stmt_fit e)) (λ e. Few (flat_touch e) (touch_size e) (touch_uses e) (touch_fit e))
  by_nodes = record { expr = of_expr; stmt = of_stmt; touch = of_touch }

  abbrev BodyFew : List Stmt → Type 0
  BodyFew ss = r.each (map stmt_fit ss) n rooms ≡ true → (ws : List ℕ) → all_assigned (map stmt_uses ss) + length (f.block (map flat_stmt ss) p ws).locals ≤ length ws + 8 * body_size ss counts

  body_few : (ss : List Stmt) → BodyFew ss
  body_few = body_by BodyFew by_nodes those

one_more : (cs : List ℕ) (ps : List PutIn) (c : ℕ) (put : PutIn) → AllFew cs ps → ((arrays ws : List ℕ) → length (put arrays ws).locals ≤ length ws + 8 + 8 * c) → AllFew (cs ++ c ∷ []) (ps ++ put ∷ [])
one_more [] [] c put all one = (one, tt)
one_more (d ∷ cs) (p ∷ ps) c put all one = (all.0, one_more cs ps c put all.1 one)
one_more [] (p ∷ ps) c put all one = absurd all
one_more (d ∷ cs) [] c put all one = absurd all

fun_few : (cs rooms : List ℕ) (puts : List PutIn) (d : FunDef) → AllFew cs puts → r.each (map stmt_fit d.body) (length d.locals) rooms ≡ true → d.params ≤ 8 → assigns_its_locals d.params d.locals d.body ≡ true →
    (arrays ws : List ℕ) → length (f.put_of puts d arrays ws).locals ≤ length ws + 8 + 8 * body_size d.body cs
fun_few cs rooms puts d all fit small assigned arrays ws =
    let own = few_own d.params d.locals (body_uses d.body).assigns assigned in
    let body = body_few (record { arrays = arrays; first = length ws; funs = puts }) cs all (length d.locals) rooms d.body fit (ws ++ d.locals) in
    let e = length-append ws d.locals in
    omega arith

funs_few : (cs rooms : List ℕ) (puts : List PutIn) (ds : List FunDef) → AllFew cs puts → funs_fit rooms ds ≡ true → list_all (λ d. assigns_its_locals d.params d.locals d.body) ds ≡ true →
    list_all (λ d. nat_le (length d.arrays) 8 && nat_le d.params 8) ds ≡ true → AllFew (fun_sizes cs ds) (puts_from puts ds)
funs_few cs rooms puts [] all fit assigned small = all
funs_few cs rooms puts (d ∷ ds) all fit assigned small =
    let fits = and_parts _ _ fit in
    let own = and_parts _ _ assigned in
    let few = and_parts _ _ small in
    funs_few (cs ++ body_size d.body cs ∷ []) (rooms ++ d.params ∷ []) (puts ++ f.put_of puts d ∷ []) ds
    (one_more cs puts (body_size d.body cs) (f.put_of puts d) all (fun_few cs rooms puts d all (and_parts _ _ fits.0).1 (leb-true _ _ (and_parts _ _ few.0).1) own.0)) fits.1 own.1 few.1

module _ (core : CoreParts) (valid : IsValid core) where
  limits : (list_all (λ (e : EventDef). nat_le (length e.params) 8) core.events ≡ true) × (list_all (λ (d : FunDef). nat_le (length d.arrays) 8 && nat_le d.params 8) core.funs ≡ true)
  limits =
      let first = and_parts _ _ valid.sound.declarations in
      let second = and_parts _ _ first.0 in
      (second.1, first.1)

  few_params : (k : ℕ) (h : HandlerDef) → slice_get core.handlers k ≡ Some h → length (event_params core.events h.event) ≤ 8
  few_params k h is =
      let agree : events_and_handlers_agree core ≡ true = valid.sound.events in
      let d = declared core agree k h is in
      let e : event_params core.events h.event ≡ d.event.params = ap (λ (o : Option EventDef). option_map_or (λ e. e.params) o []) d.there in
      subst (λ (ws : List ℕ). length ws ≤ 8) (sym e) (leb-true _ _ (passes_at (λ (g : EventDef). nat_le (length g.params) 8) core.events h.event d.event limits.0 d.there))

  pub few_locals : HasFewLocals core
  few_locals k h is =
      let fits = and_parts _ _ (valid_fits core valid) in
      let assigned = and_parts _ _ valid.sound.assigned in
      let all = funs_few [] [] [] core.funs tt fits.0 assigned.0 limits.1 in
      let fit = passes_at (λ (g : HandlerDef). r.each (map stmt_fit g.body) (length g.locals) (rooms_from [] core.funs)) core.handlers k h fits.1 is in
      let rule = passes_at (λ (g : HandlerDef). assigns_its_locals (length (event_params core.events g.event)) g.locals g.body) core.handlers k h assigned.1 is in
      let own = few_own (length (event_params core.events h.event)) h.locals (body_uses h.body).assigns rule in
      let params = few_params k h is in
      let body = body_few (record { arrays = []; first = 0; funs = f.puts_of core.funs }) (fun_sizes [] core.funs) all (length h.locals) (rooms_from [] core.funs) h.body fit h.locals in
      omega arith
