-- A body and its flat form run alike; so do functions and handlers.
use Rattle.std.proofs.Common.{◌≡◌, ℕ, suc, ◌+◌, ◌<◌, ◌≤◌, List, [], ◌∷◌, ◌++◌, Bool, true, ◌&&◌, Option, None, Some, length, map, fold, refl, sym, ap, ap₂, subst, ◌∙◌, arith, length-append, slice_get, nat_le, ◌⊎◌, inl, inr}
use Rattle.std.specs.List.{list_all, enumerate_from}
use Rattle.std.proofs.lemmas.Bool.{and_parts, cases_lt, leb-true}
use Rattle.lucid_base.specs.Bits.{bits_of}
use Rattle.lucid_base.specs.declared.bits.Bits.{Bits}
use Rattle.lucid_core.specs.declared.body.Expr.{Expr}
use Rattle.lucid_core.specs.declared.body.Stmt.{Stmt}
use Rattle.lucid_core.specs.declared.body.Touch.{Touch}
use Rattle.lucid_core.specs.declared.body.Expr.TheOpen.{Expr-F, Stmt-F, Touch-F}
use Rattle.lucid_core.specs.declared.body.Expr.TheViews.{roll-Expr, roll-Stmt, roll-Touch}
use Rattle.lucid_core.specs.declared.body.Expr.TheFolds.{fold-roll-Expr, fold-roll-Stmt, fold-roll-Touch}
use Rattle.lucid_core.specs.declared.defs.FunDef.{FunDef}
use Rattle.lucid_core.specs.declared.defs.HandlerDef.{HandlerDef}
use Rattle.lucid_core.specs.Computations.{Computation, Effect, Fun, State, Ran, block, begun_with}
use Rattle.lucid_core.specs.Meaning as m
use Rattle.lucid_core.specs.Meaning.{effect_of, fun_of, holding, touch_of, value_of}
use Rattle.lucid_core.specs.Meaning.{funs_of}
use Rattle.lucid_core.specs.Parts.{CoreParts}
use Rattle.lucid_core.specs.Step.{handled, handler_of, ran, started, taken_at}
use Rattle.lucid_core.specs.Values.{nothing}
use Rattle.lucid_core.proofs.Funs.{funs_from}
use Rattle.lucid_core.proofs.WidthLists.{passes_at}
use Rattle.lucid_core.specs.declared.defs.EventDef.{EventDef}
use Rattle.lucid_core.proofs.Induction.{Cases, body_by, opened3}
use Rattle.lucid_base.specs.declared.event.Event.{Event}
use Rattle.std.proofs.lemmas.Option.{slice_get-map}
use Rattle.std.proofs.Common.{option_map, option_and_then}
use Rattle.lucid_inline_spec.specs.Flat as f
use Rattle.lucid_inline_spec.specs.Flat.{Flatten, Flattened, Site, PutIn, flat_expr, flat_stmt, flat_touch}
use Rattle.lucid_inline_spec.proofs.Fit as r
use Rattle.lucid_inline_spec.proofs.Fit.{Fit, expr_fit, stmt_fit, touch_fit}
use Rattle.lucid_inline_spec.proofs.Locals.{Begins, begins_self, begins_then, begins_append, begins_length, begun-length, begun_first, begun_past, zeros_part, held-length, held_there, held_above, local_at, zeros}
use Rattle.lucid_inline_spec.proofs.Sim.{flat_frame, Same, Alike, Good, AllGood, good_more, Sim, core_frame}
use Rattle.lucid_inline_spec.proofs.Levels.{E, S, T, block_of, expr_meaning, stmt_meaning, touch_meaning, expr_tree, stmt_tree, touch_tree, expr_level, stmt_level, touch_level, block_grows, block_acts}

rolled-all : (ys : List (Stmt-F Expr Stmt Touch)) → map effect_of (map roll-Stmt ys) ≡ map stmt_meaning ys
rolled-all [] = refl
rolled-all (y ∷ ys) = ap₂ (λ (x : Effect) (xs : List Effect). x ∷ xs) (fold-roll-Stmt (Computation Bits) Effect (Computation Bits) m.expr_step m.stmt_step m.touch_step y) (rolled-all ys)

module _ (W : List ℕ) (now me : ℕ) (p : Site) (rooms : List ℕ) (fs : List Fun) (good : AllGood W now me rooms p.funs fs) (n : ℕ) where
  abbrev Here : {A B : Type 0} → (A → Computation B) → Flatten A → Computation B → Fit → Type 0
  Here flat t c fit = Sim W now me p rooms fs good n flat t c fit

  abbrev ExprHolds : Expr → Type 0
  ExprHolds e = Here value_of (flat_expr e) (value_of e) (expr_fit e)

  abbrev StmtHolds : Stmt → Type 0
  StmtHolds e = Here block_of (flat_stmt e) (effect_of e) (stmt_fit e)

  abbrev TouchHolds : Touch → Type 0
  TouchHolds e = Here touch_of (flat_touch e) (touch_of e) (touch_fit e)

  -- The flat form of a node is rolled up.
  rolled : {A B C : Type 0} (flat : A → Computation C) (whole : B → Computation C) (roll : A → B) (t : Flatten A) (c : Computation C) (fit : Fit) → ((x : A) → whole (roll x) ≡ flat x) → Here flat t c fit →
      Here whole (λ q ws. record { value = roll (t q ws).value; locals = (t q ws).locals }) c fit
  rolled {C = C} flat whole roll t c fit is one = record {
    grows = one.grows;
    acts = λ fits ws bound begins top under s q same.
        subst (λ (a : Computation C). Alike W now me p.first n (length (t p ws).locals) top q (c (core_frame W now me p rooms fs good n) s) (a (flat_frame W now me) q)) (sym (is (t p ws).value))
        (one.acts fits ws bound begins top under s q same);
  }

  of_expr : (y : Expr-F (E W now me p rooms fs good n) (S W now me p rooms fs good n) (T W now me p rooms fs good n)) → ExprHolds (roll-Expr (expr_tree W now me p rooms fs good n y))
  of_expr y = let tree = expr_tree W now me p rooms fs good n y in opened3 (Here value_of)
      (fold-roll-Expr (Flatten Expr) (Flatten (List Stmt)) (Flatten Touch) f.expr_step f.stmt_step f.touch_step tree)
      (fold-roll-Expr (Computation Bits) Effect (Computation Bits) m.expr_step m.stmt_step m.touch_step tree)
      (fold-roll-Expr Fit Fit Fit r.expr_step r.stmt_step r.touch_step tree)
      (rolled expr_meaning value_of roll-Expr _ _ _ (λ x. fold-roll-Expr (Computation Bits) Effect (Computation Bits) m.expr_step m.stmt_step m.touch_step x) (expr_level W now me p rooms fs good n y))

  of_touch : (y : Touch-F (E W now me p rooms fs good n) (S W now me p rooms fs good n) (T W now me p rooms fs good n)) → TouchHolds (roll-Touch (touch_tree W now me p rooms fs good n y))
  of_touch y = let tree = touch_tree W now me p rooms fs good n y in opened3 (Here touch_of)
      (fold-roll-Touch (Flatten Expr) (Flatten (List Stmt)) (Flatten Touch) f.expr_step f.stmt_step f.touch_step tree)
      (fold-roll-Touch (Computation Bits) Effect (Computation Bits) m.expr_step m.stmt_step m.touch_step tree)
      (fold-roll-Touch Fit Fit Fit r.expr_step r.stmt_step r.touch_step tree)
      (rolled touch_meaning touch_of roll-Touch _ _ _ (λ x. fold-roll-Touch (Computation Bits) Effect (Computation Bits) m.expr_step m.stmt_step m.touch_step x) (touch_level W now me p rooms fs good n y))

  of_stmt : (y : Stmt-F (E W now me p rooms fs good n) (S W now me p rooms fs good n) (T W now me p rooms fs good n)) → StmtHolds (roll-Stmt (stmt_tree W now me p rooms fs good n y))
  of_stmt y = let tree = stmt_tree W now me p rooms fs good n y in opened3 (Here block_of)
      (fold-roll-Stmt (Flatten Expr) (Flatten (List Stmt)) (Flatten Touch) f.expr_step f.stmt_step f.touch_step tree)
      (fold-roll-Stmt (Computation Bits) Effect (Computation Bits) m.expr_step m.stmt_step m.touch_step tree)
      (fold-roll-Stmt Fit Fit Fit r.expr_step r.stmt_step r.touch_step tree)
      (rolled (λ ys. block (map stmt_meaning ys)) block_of (map roll-Stmt) _ _ _ (λ ys. ap block (rolled-all ys)) (stmt_level W now me p rooms fs good n y))

  -- By induction on all three.
  by_nodes : Cases ExprHolds StmtHolds TouchHolds
  by_nodes = record { expr = of_expr; stmt = of_stmt; touch = of_touch }

  pub record BodyHolds (ss : List Stmt) : Type 0 where
    pub grows : (ws : List ℕ) → Begins ws (f.block (map flat_stmt ss) p ws).locals
    pub acts : r.each (map stmt_fit ss) n rooms ≡ true → (ws : List ℕ) → p.first + n ≤ length ws → Begins (f.block (map flat_stmt ss) p ws).locals W →
        (top : ℕ) → length (f.block (map flat_stmt ss) p ws).locals ≤ top → (s q : State) → Same W now me p.first n (length ws) top s q →
        Alike W now me p.first n (length (f.block (map flat_stmt ss) p ws).locals) top q (block_of ss (core_frame W now me p rooms fs good n) s) (block_of (f.block (map flat_stmt ss) p ws).value (flat_frame W now me) q)

  pub body_holds : (ss : List Stmt) → BodyHolds ss
  body_holds = body_by BodyHolds by_nodes (λ es. record { grows = block_grows W now me p rooms fs good n es; acts = block_acts W now me p rooms fs good n es })

-- Functions, handlers and programs whose bodies fit.
abbrev pub rooms_from : List ℕ → List FunDef → List ℕ
rooms_from rooms ds = fold (λ rs d. rs ++ d.params ∷ []) rooms ds

abbrev pub funs_fit : List ℕ → List FunDef → Bool
funs_fit rooms [] = true
funs_fit rooms (d ∷ ds) = (nat_le d.params (length d.locals) && r.each (map stmt_fit d.body) (length d.locals) rooms) && funs_fit (rooms ++ d.params ∷ []) ds

abbrev pub program_fits : CoreParts → Bool
program_fits core = funs_fit [] core.funs && list_all (λ h. r.each (map stmt_fit h.body) (length h.locals) (rooms_from [] core.funs)) core.handlers

abbrev pub puts_from : List PutIn → List FunDef → List PutIn
puts_from puts ds = fold (λ before d. before ++ f.put_of before d ∷ []) puts ds

module _ (W : List ℕ) (now me : ℕ) where
  -- A call's arguments are held by the locals that are next.
  entered : (ws own : List ℕ) (vs : List Bits) (first n top : ℕ) (s q : State) → length vs ≤ length own → Begins (ws ++ own) W → length (ws ++ own) ≤ top → Same W now me first n (length ws) top s q →
      Same W now me (length ws) (length own) (length (ws ++ own)) top (record s { locals = begun_with vs own; answer = nothing }) (record q { locals = holding q.locals (enumerate_from (length ws) vs); answer = nothing })
  entered ws own vs first n top s q few begins under same = record {
    cells = same.cells;
    outs = same.outs;
    answer = refl;
    count = begun-length vs own few;
    long = held-length vs (length ws) q.locals ∙ same.long;
    own = λ i h. either i h (cases_lt i (length vs));
    rest = λ k h c. let l = length-append ws own in held_above vs (length ws) q.locals k (omega arith) ∙ same.rest k (omega arith) c;
  }
    where
      either : (i : ℕ) → i < length own → (i < length vs) ⊎ (length vs ≤ i) → local_at (holding q.locals (enumerate_from (length ws) vs)) (length ws + i) ≡ local_at (begun_with vs own) i
      either i h (inl k) =
          let l = length-append ws own in
          let b = begins_length (ws ++ own) W begins in
          let e = same.long in
          held_there vs (length ws) q.locals i k (omega arith) ∙ sym (begun_first vs own i k)
      either i h (inr k) =
          let l = length-append ws own in
          held_above vs (length ws) q.locals (length ws + i) (omega arith) ∙ same.rest (length ws + i) (omega arith) (omega arith)
          ∙ ap (λ (x : List ℕ). local_at (zeros x) (length ws + i)) begins.1 ∙ zeros_part ws own begins.0 i h ∙ sym (begun_past vs own i few k)

  good_fun : (rooms : List ℕ) (puts : List PutIn) (known : List Fun) (d : FunDef) → AllGood W now me rooms puts known → d.params ≤ length d.locals → r.each (map stmt_fit d.body) (length d.locals) rooms ≡ true →
      Good W now me d.params (f.put_of puts d) (fun_of now me known d)
  good_fun rooms puts known d all small fit = record {
    grows = λ arrays ws.
        let body = body_holds W now me (place arrays ws) rooms known all (length d.locals) d.body in
        begins_then ws (ws ++ d.locals) _ (begins_append ws d.locals) (body.grows (ws ++ d.locals));
    runs = λ arrays ws vs few begins first n top s q bound under same.
        let body = body_holds W now me (place arrays ws) rooms known all (length d.locals) d.body in
        let made = f.block (map flat_stmt d.body) (place arrays ws) (ws ++ d.locals) in
        let begins2 = begins_then (ws ++ d.locals) made.locals W (body.grows (ws ++ d.locals)) begins in
        let l = length-append ws d.locals in
        let l2 = begins_length (ws ++ d.locals) made.locals (body.grows (ws ++ d.locals)) in
        let did = body.acts fit (ws ++ d.locals) (omega arith) begins top under _ _ (entered ws d.locals vs first n top s q (omega arith) begins2 (omega arith) same) in
        record {
          gives = did.after.answer;
          calls = did.calls;
          after = record {
            cells = did.after.cells;
            outs = did.after.outs;
            answer = same.answer;
            count = same.count;
            long = same.long;
            own = same.own;
            rest = λ k h c. same.rest k (omega arith) c;
          };
          beyond = λ k h. refl;
        };
  }
    where
      place : List ℕ → List ℕ → Site
      place arrays ws = record { arrays = arrays; first = length ws; funs = puts }

  good_funs : (rooms : List ℕ) (puts : List PutIn) (known : List Fun) (ds : List FunDef) → AllGood W now me rooms puts known → funs_fit rooms ds ≡ true →
      AllGood W now me (rooms_from rooms ds) (puts_from puts ds) (funs_from now me known ds)
  good_funs rooms puts known [] all fit = all
  good_funs rooms puts known (d ∷ ds) all fit =
      let fits = and_parts _ _ fit in
      let own = and_parts _ _ fits.0 in
      let one = good_fun rooms puts known d all (leb-true _ _ own.0) own.1 in
      good_funs (rooms ++ d.params ∷ []) (puts ++ f.put_of puts d ∷ []) (known ++ fun_of now me known d ∷ []) ds
      (good_more W now me rooms puts known d.params (f.put_of puts d) (fun_of now me known d) all one) fits.1

-- The handler's arguments are taken at the same widths.
taken_more : (ws more args : List ℕ) → length args ≤ length ws → taken_at (ws ++ more) args ≡ taken_at ws args
taken_more [] more [] h = none more
  where
    none : (xs : List ℕ) → taken_at xs [] ≡ []
    none [] = refl
    none (x ∷ xs) = refl
taken_more [] more (a ∷ args) h = absurd (omega arith)
taken_more (w ∷ ws) more [] h = refl
taken_more (w ∷ ws) more (a ∷ args) h = ap (λ (vs : List Bits). bits_of w a ∷ vs) (taken_more ws more args (omega arith))

taken-length : (ws args : List ℕ) → length args ≤ length ws → length (taken_at ws args) ≡ length args
taken-length [] [] h = refl
taken-length [] (a ∷ args) h = absurd (omega arith)
taken-length (w ∷ ws) [] h = refl
taken-length (w ∷ ws) (a ∷ args) h = ap suc (taken-length ws args (omega arith))

-- The parts of a step.
pub record RunsAlike (r q : Ran (Unit {0})) : Type 0 where
  pub cells : q.after.cells ≡ r.after.cells
  pub outs : q.after.outs ≡ r.after.outs
  pub calls : q.calls ≡ r.calls

module _ (core : CoreParts) (cells : List (List ℕ)) (now me : ℕ) (args : List ℕ) where
  begun : (own more : List ℕ) → length args ≤ length own →
      Same (own ++ more) now me 0 (length own) (length own) (length (own ++ more)) (started cells (begun_with (taken_at own args) own)) (started cells (begun_with (taken_at (own ++ more) args) (own ++ more)))
  begun own more few =
      let vs = taken_at own args in
      let e : taken_at (own ++ more) args ≡ vs = taken_more own more args few in
      subst (λ (us : List Bits). Same (own ++ more) now me 0 (length own) (length own) (length (own ++ more)) (started cells (begun_with vs own)) (started cells (begun_with us (own ++ more)))) (sym e)
      (let l = taken-length own args few in let l2 = length-append own more in record {
        cells = refl;
        outs = refl;
        answer = refl;
        count = begun-length vs own (omega arith);
        long = begun-length vs (own ++ more) (omega arith);
        own = λ i h. either i h (cases_lt i (length vs));
        rest = λ k h c. begun_past vs (own ++ more) k (omega arith) (omega arith);
      })
    where
      either : (i : ℕ) → i < length own → (i < length (taken_at own args)) ⊎ (length (taken_at own args) ≤ i) →
          local_at (begun_with (taken_at own args) (own ++ more)) (0 + i) ≡ local_at (begun_with (taken_at own args) own) i
      either i h (inl k) =
          let z : 0 + i ≡ i = omega arith in
          ap (local_at (begun_with (taken_at own args) (own ++ more))) z ∙ begun_first (taken_at own args) (own ++ more) i k ∙ sym (begun_first (taken_at own args) own i k)
      either i h (inr k) =
          let l = taken-length own args few in
          let l2 = length-append own more in
          begun_past (taken_at own args) (own ++ more) (0 + i) (omega arith) (omega arith) ∙ zeros_part [] own more i h ∙ sym (begun_past (taken_at own args) own i (omega arith) k)

  handler_alike : program_fits core ≡ true → (h : HandlerDef) → r.each (map stmt_fit h.body) (length h.locals) (rooms_from [] core.funs) ≡ true → length args ≤ length h.locals →
      RunsAlike (handled (Some h) core cells now me args) (handled (Some (f.flat_handler core.funs h)) (f.flat_of core) cells now me args)
  handler_alike fit h fits few =
      let made = f.flat_body core.funs h in
      let W = made.locals in
      let all = good_funs W now me [] [] [] core.funs tt (and_parts _ _ fit).0 in
      let body = body_holds W now me (record { arrays = []; first = 0; funs = f.puts_of core.funs }) (rooms_from [] core.funs) (funs_of now me core.funs) all (length h.locals) h.body in
      let grown = body.grows h.locals in
      let begins : Same W now me 0 (length h.locals) (length h.locals) (length W) (started cells (begun_with (taken_at h.locals args) h.locals)) (started cells (begun_with (taken_at W args) W)) =
      subst (λ (ws : List ℕ). Same ws now me 0 (length h.locals) (length h.locals) (length ws) (started cells (begun_with (taken_at h.locals args) h.locals)) (started cells (begun_with (taken_at ws args) ws))) (sym grown.1)
      (begun h.locals grown.0 few) in
      let did = body.acts fits h.locals (omega arith) (begins_self W) (length W) (omega arith) _ _ begins in
      record { cells = did.after.cells; outs = did.after.outs; calls = did.calls }

-- The flat form has the effect of the core, at each event with no more arguments than its handler has locals.
pub flat_runs : (core : CoreParts) → program_fits core ≡ true → (cells : List (List ℕ)) (now me : ℕ) (event : Event) → ((h : HandlerDef) → handler_of core event.id ≡ Some h → length event.args ≤ length h.locals) →
    RunsAlike (ran core cells now me event) (ran (f.flat_of core) cells now me event)
flat_runs core fit cells now me event few = at (option_and_then (λ (e : EventDef). e.handler) (slice_get core.events event.id)) few
  where
    found_at : (k : ℕ) (o : Option HandlerDef) → slice_get core.handlers k ≡ o → ((h : HandlerDef) → o ≡ Some h → length event.args ≤ length h.locals) →
        RunsAlike (handled o core cells now me event.args) (handled (option_map (f.flat_handler core.funs) o) (f.flat_of core) cells now me event.args)
    found_at k None is few2 = record { cells = refl; outs = refl; calls = refl }
    found_at k (Some h) is few2 =
        let here = passes_at (λ (g : HandlerDef). r.each (map stmt_fit g.body) (length g.locals) (rooms_from [] core.funs)) core.handlers k h (and_parts _ _ fit).1 is in
        handler_alike core cells now me event.args fit h here (few2 h refl)

    at : (o : Option ℕ) → ((h : HandlerDef) → option_and_then (slice_get core.handlers) o ≡ Some h → length event.args ≤ length h.locals) →
        RunsAlike (handled (option_and_then (slice_get core.handlers) o) core cells now me event.args)
        (handled (option_and_then (slice_get (map (f.flat_handler core.funs) core.handlers)) o) (f.flat_of core) cells now me event.args)
    at None few2 = record { cells = refl; outs = refl; calls = refl }
    at (Some k) few2 =
        subst (λ (o : Option HandlerDef). RunsAlike (handled (slice_get core.handlers k) core cells now me event.args) (handled o (f.flat_of core) cells now me event.args))
        (sym (slice_get-map (f.flat_handler core.funs) core.handlers k)) (found_at k (slice_get core.handlers k) refl few2)
