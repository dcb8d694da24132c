-- Each node of a body runs as its flat form, if its parts do.
use Rattle.std.proofs.Common.{◌≡◌, ◌⊎◌, inl, inr, ℕ, zero, suc, ◌+◌, ◌<◌, ◌≤◌, nat_lt, length-append, List, [], ◌∷◌, ◌++◌, Bool, true, false, ◌&&◌, if◌then◌else◌, Option, None, Some, length, map, refl, sym, ap, ap₂, subst, ◌∙◌, arith, append-nil, nat_eq, slice_get, slice_set, option_map, option_to_list}
use Rattle.std.specs.List.{list_all, enumerate_from}
use Rattle.std.specs.Option.{option_map_or}
use Rattle.std.proofs.lemmas.Bool.{and_from, and_parts, ltb-true, eqb-true}
use Rattle.std.proofs.lemmas.List.{length-map, length-set, map-append, get_or-set_other, get_or_append_left, get_or_at}
use Rattle.std.proofs.lemmas.Grind.{get_or-set_at}
use Rattle.std.proofs.lemmas.Bool.{cases_eq}
use Rattle.lucid_base.specs.Bits.{bits_of}
use Rattle.lucid_base.specs.declared.bits.Bits.{Bits}
use Rattle.lucid_base.specs.declared.event.Out.{Out}
use Rattle.lucid_base.specs.declared.event.Out.TheVariants as out
use Rattle.lucid_base.specs.declared.event.Target.TheVariants.{At, Here}
use Rattle.lucid_core.specs.declared.body.Expr.{Expr}
use Rattle.lucid_core.specs.declared.body.Stmt.{Stmt}
use Rattle.lucid_core.specs.declared.body.Touch.{Touch}
use Rattle.lucid_core.specs.declared.body.Expr.TheOpen.{Expr-F, Stmt-F, Touch-F}
use Rattle.lucid_core.specs.declared.body.Expr.TheFolds.{map-Expr, map-Stmt, map-Touch}
use Rattle.lucid_core.specs.Computations.{Computation, Effect, Frame, Fun, State, Ran, all, array_of, block, both, called}
use Rattle.lucid_core.specs.Meaning as m
use Rattle.lucid_core.specs.Meaning.{all_given, call, delay_of, effect_of, generated, holding, target_of, touch_of, value_of}
use Rattle.lucid_base.specs.declared.event.Target.{Target}
use Rattle.lucid_base.specs.Cells.{cell_at, with_cell}
use Rattle.lucid_core.specs.Values.{nothing, numbers, unary, binary, comparison, hashed, memop}
use Rattle.lucid_core.proofs.Fine.{both_pass}
use Rattle.lucid_inline_spec.specs.Flat as f
use Rattle.lucid_inline_spec.specs.Flat.{Flatten, Flattened, Site, PutIn, flat_expr, flat_stmt, flat_touch}
use Rattle.lucid_inline_spec.proofs.Fit as r
use Rattle.lucid_inline_spec.proofs.Fit.{Fit, expr_fit, stmt_fit, touch_fit}
use Rattle.lucid_inline_spec.proofs.Locals.{Begins, begins_self, begins_append, begins_then, begins_length, local_at}
use Rattle.lucid_inline_spec.proofs.Group.{members_send}
use Rattle.lucid_inline_spec.proofs.Sim.{all-append, block-append, all_given-numbered, all-length, flat_frame, Same, Alike, later, Good, AllGood, found, put_grows, Sim, core_frame}

abbrev pub block_of : List Stmt → Effect
block_of ss = block (map effect_of ss)

abbrev pub values_of : List Expr → Computation (List Bits)
values_of es = all (map value_of es)

abbrev pub expr_meaning : Expr-F Expr Stmt Touch → Computation Bits
expr_meaning y = m.expr_step (map-Expr Expr Stmt Touch (Computation Bits) Effect (Computation Bits) value_of effect_of touch_of y)

abbrev pub stmt_meaning : Stmt-F Expr Stmt Touch → Effect
stmt_meaning y = m.stmt_step (map-Stmt Expr Stmt Touch (Computation Bits) Effect (Computation Bits) value_of effect_of touch_of y)

abbrev pub touch_meaning : Touch-F Expr Stmt Touch → Computation Bits
touch_meaning y = m.touch_step (map-Touch Expr Stmt Touch (Computation Bits) Effect (Computation Bits) value_of effect_of touch_of y)

-- There is a room for the arguments.
room_of : (o : Option ℕ) (k : ℕ) → option_map_or (nat_eq k) o false ≡ true → (room : ℕ) × (o ≡ Some room) × (k ≤ room)
room_of None k h = absurd (cc)
room_of (Some room) k h = (room, refl, let e = eqb-true k room h in omega arith)

module _ (W : List ℕ) (now me : ℕ) (p : Site) (rooms : List ℕ) (fs : List Fun) (good : AllGood W now me rooms p.funs fs) (n : ℕ) where
  abbrev pub SimHere : {A B : Type 0} → (A → Computation B) → Flatten A → Computation B → Fit → Type 0
  SimHere flat t c fit = Sim W now me p rooms fs good n flat t c fit

  abbrev Frames : {A B : Type 0} → ℕ → ℕ → (A → Computation B) → A → Computation B → State → State → Type 0
  Frames next top flat x c s q = Alike W now me p.first n next top q (c (core_frame W now me p rooms fs good n) s) (flat x (flat_frame W now me) q)

  abbrev SameHere : ℕ → ℕ → State → State → Type 0
  SameHere next top s q = Same W now me p.first n next top s q

  -- A part of which it holds.
  abbrev pub E : Type 0
  E = (e : Expr) × SimHere value_of (flat_expr e) (value_of e) (expr_fit e)

  abbrev pub S : Type 0
  S = (e : Stmt) × SimHere block_of (flat_stmt e) (effect_of e) (stmt_fit e)

  abbrev pub T : Type 0
  T = (e : Touch) × SimHere touch_of (flat_touch e) (touch_of e) (touch_fit e)

  abbrev pub exprs : List E → List Expr
  exprs es = map (λ (e : E). e.0) es

  abbrev pub stmts : List S → List Stmt
  stmts es = map (λ (e : S). e.0) es

  -- Expressions from left to right.
  each_grows : (es : List E) (ws : List ℕ) → Begins ws (f.each (map flat_expr (exprs es)) p ws).locals
  each_grows [] ws = begins_self ws
  each_grows (e ∷ es) ws =
      let one = (flat_expr e.0 p ws).locals in
      begins_then ws one (f.each (map flat_expr (exprs es)) p one).locals (e.1.grows ws) (each_grows es one)

  each_acts : (es : List E) → r.each (map expr_fit (exprs es)) n rooms ≡ true → (ws : List ℕ) → p.first + n ≤ length ws → Begins (f.each (map flat_expr (exprs es)) p ws).locals W →
      (top : ℕ) → length (f.each (map flat_expr (exprs es)) p ws).locals ≤ top → (s q : State) → SameHere (length ws) top s q →
      Frames (length (f.each (map flat_expr (exprs es)) p ws).locals) top values_of (f.each (map flat_expr (exprs es)) p ws).value (values_of (exprs es)) s q
  each_acts [] fit ws bound begins top under s q same = record { gives = refl; calls = refl; after = same; beyond = λ k h. refl }
  each_acts (e ∷ es) fit ws bound begins top under s q same =
      let fits = and_parts _ _ fit in
      let first = flat_expr e.0 p ws in
      let second = f.each (map flat_expr (exprs es)) p first.locals in
      let l = begins_length ws first.locals (e.1.grows ws) in
      let l2 = begins_length first.locals second.locals (each_grows es first.locals) in
      let one = e.1.acts fits.0 ws bound (begins_then first.locals second.locals W (each_grows es first.locals) begins) top (omega arith) s q same in
      let two = each_acts es fits.1 first.locals (omega arith) begins top under _ _ one.after in
      record { gives = ap₂ (λ (v : Bits) (vs : List Bits). v ∷ vs) one.gives two.gives; calls = ap₂ (λ (c d : List ℕ). c ++ (d ++ [])) one.calls two.calls; after = two.after; beyond = λ k h. two.beyond k h ∙ one.beyond k (omega arith) }

  pub block_grows : (es : List S) (ws : List ℕ) → Begins ws (f.block (map flat_stmt (stmts es)) p ws).locals
  block_grows [] ws = begins_self ws
  block_grows (e ∷ es) ws =
      let one = (flat_stmt e.0 p ws).locals in
      begins_then ws one (f.block (map flat_stmt (stmts es)) p one).locals (e.1.grows ws) (block_grows es one)

  pub block_acts : (es : List S) → r.each (map stmt_fit (stmts es)) n rooms ≡ true → (ws : List ℕ) → p.first + n ≤ length ws → Begins (f.block (map flat_stmt (stmts es)) p ws).locals W →
      (top : ℕ) → length (f.block (map flat_stmt (stmts es)) p ws).locals ≤ top → (s q : State) → SameHere (length ws) top s q →
      Frames (length (f.block (map flat_stmt (stmts es)) p ws).locals) top block_of (f.block (map flat_stmt (stmts es)) p ws).value (block_of (stmts es)) s q
  block_acts [] fit ws bound begins top under s q same = record { gives = refl; calls = refl; after = same; beyond = λ k h. refl }
  block_acts (e ∷ es) fit ws bound begins top under s q same =
      let fits = and_parts _ _ fit in
      let first = flat_stmt e.0 p ws in
      let second = f.block (map flat_stmt (stmts es)) p first.locals in
      let l = begins_length ws first.locals (e.1.grows ws) in
      let l2 = begins_length first.locals second.locals (block_grows es first.locals) in
      let one = e.1.acts fits.0 ws bound (begins_then first.locals second.locals W (block_grows es first.locals) begins) top (omega arith) s q same in
      let two = block_acts es fits.1 first.locals (omega arith) begins top under _ _ one.after in
      let g = flat_frame W now me in
      let split : block_of (first.value ++ second.value) g q ≡ (record { gives = tt; after = (block_of second.value g (block_of first.value g q).after).after; calls = (block_of first.value g q).calls ++ (block_of second.value g (block_of first.value g q).after).calls }) =
      ap (λ (x : List Effect). block x g q) (map-append effect_of first.value second.value) ∙ block-append (map effect_of first.value) (map effect_of second.value) g q in
      subst (λ (x : Ran (Unit {0})). Alike W now me p.first n (length second.locals) top q (block_of (e.0 ∷ stmts es) (core_frame W now me p rooms fs good n) s) x) (sym split)
      (record { gives = refl; calls = ap₂ (λ (c d : List ℕ). c ++ d) one.calls two.calls; after = two.after; beyond = λ k h. two.beyond k h ∙ one.beyond k (omega arith) })

  -- The trees of a node.
  abbrev pub expr_tree : Expr-F E S T → Expr-F Expr Stmt Touch
  expr_tree = map-Expr E S T Expr Stmt Touch (λ e. e.0) (λ e. e.0) (λ e. e.0)

  abbrev pub touch_tree : Touch-F E S T → Touch-F Expr Stmt Touch
  touch_tree = map-Touch E S T Expr Stmt Touch (λ e. e.0) (λ e. e.0) (λ e. e.0)

  abbrev pub stmt_tree : Stmt-F E S T → Stmt-F Expr Stmt Touch
  stmt_tree = map-Stmt E S T Expr Stmt Touch (λ e. e.0) (λ e. e.0) (λ e. e.0)

  abbrev pub flat_of_expr : Expr-F Expr Stmt Touch → Flatten (Expr-F Expr Stmt Touch)
  flat_of_expr y = f.expr_node (map-Expr Expr Stmt Touch (Flatten Expr) (Flatten (List Stmt)) (Flatten Touch) flat_expr flat_stmt flat_touch y)

  abbrev pub flat_of_stmt : Stmt-F Expr Stmt Touch → Flatten (List (Stmt-F Expr Stmt Touch))
  flat_of_stmt y = f.stmt_node (map-Stmt Expr Stmt Touch (Flatten Expr) (Flatten (List Stmt)) (Flatten Touch) flat_expr flat_stmt flat_touch y)

  abbrev pub flat_of_touch : Touch-F Expr Stmt Touch → Flatten (Touch-F Expr Stmt Touch)
  flat_of_touch y = f.touch_node (map-Touch Expr Stmt Touch (Flatten Expr) (Flatten (List Stmt)) (Flatten Touch) flat_expr flat_stmt flat_touch y)

  abbrev pub ExprNode : Expr-F Expr Stmt Touch → Type 0
  ExprNode y = SimHere expr_meaning (flat_of_expr y) (expr_meaning y) (r.expr_step (map-Expr Expr Stmt Touch Fit Fit Fit expr_fit stmt_fit touch_fit y))

  abbrev pub StmtNode : Stmt-F Expr Stmt Touch → Type 0
  StmtNode y = SimHere (λ ys. block (map stmt_meaning ys)) (flat_of_stmt y) (stmt_meaning y) (r.stmt_step (map-Stmt Expr Stmt Touch Fit Fit Fit expr_fit stmt_fit touch_fit y))

  abbrev pub TouchNode : Touch-F Expr Stmt Touch → Type 0
  TouchNode y = SimHere touch_meaning (flat_of_touch y) (touch_meaning y) (r.touch_step (map-Touch Expr Stmt Touch Fit Fit Fit expr_fit stmt_fit touch_fit y))

  -- Two operands.
  two_level : (e g : E) (h : Bits → Bits → Bits) (node : Expr → Expr → Expr-F Expr Stmt Touch) (c : Computation Bits) (fit : Fit) →
      ((x y : Expr) (w : Frame) (s : State) → expr_meaning (node x y) w s ≡ (let one = value_of x w s in let two = value_of y w one.after in record { gives = h one.gives two.gives; after = two.after; calls = one.calls ++ (two.calls ++ []) })) →
      ((w : Frame) (s : State) → c w s ≡ (let one = value_of e.0 w s in let two = value_of g.0 w one.after in record { gives = h one.gives two.gives; after = two.after; calls = one.calls ++ (two.calls ++ []) })) →
      (fit n rooms ≡ true → (expr_fit e.0 n rooms ≡ true) × (expr_fit g.0 n rooms ≡ true)) →
      SimHere expr_meaning (λ p0 ws. let a = flat_expr e.0 p0 ws in let b = flat_expr g.0 p0 a.locals in record { value = node a.value b.value; locals = b.locals }) c fit
  two_level e g h node c fit is core_is parts = record {
    grows = λ ws. let first = (flat_expr e.0 p ws).locals in begins_then ws first (flat_expr g.0 p first).locals (e.1.grows ws) (g.1.grows first);
    acts = λ fits ws bound begins top under s q same.
        let part = parts fits in
        let first = flat_expr e.0 p ws in
        let second = flat_expr g.0 p first.locals in
        let l = begins_length ws first.locals (e.1.grows ws) in
        let l2 = begins_length first.locals second.locals (g.1.grows first.locals) in
        let one = e.1.acts part.0 ws bound (begins_then first.locals second.locals W (g.1.grows first.locals) begins) top (omega arith) s q same in
        let two = g.1.acts part.1 first.locals (omega arith) begins top under _ _ one.after in
        let w = core_frame W now me p rooms fs good n in
        let v = flat_frame W now me in
        subst (λ (x : Ran Bits). Alike W now me p.first n (length second.locals) top q x (expr_meaning (node first.value second.value) v q)) (sym (core_is w s))
        (subst (λ (x : Ran Bits). Alike W now me p.first n (length second.locals) top q
        (let a = value_of e.0 w s in let b = value_of g.0 w a.after in record { gives = h a.gives b.gives; after = b.after; calls = a.calls ++ (b.calls ++ []) }) x) (sym (is first.value second.value v q))
        (record { gives = ap₂ h one.gives two.gives; calls = ap₂ (λ (c1 d : List ℕ). c1 ++ (d ++ [])) one.calls two.calls; after = two.after; beyond = λ k j. two.beyond k j ∙ one.beyond k (omega arith) }));
  }

  call_acts : (k : ℕ) (arrays : List ℕ) (args : List Expr) (ws : List ℕ) (w : Frame) (c : Ran (List Bits)) (q : State) →
      w.funs ≡ fs → option_map_or (nat_eq (length c.gives)) (slice_get rooms k) false ≡ true →
      p.first + n ≤ length ws → length ws ≤ length (f.put_in (slice_get p.funs k) arrays args ws).locals → Begins (f.put_in (slice_get p.funs k) arrays args ws).locals W →
      (top : ℕ) → length (f.put_in (slice_get p.funs k) arrays args ws).locals ≤ top → Alike W now me p.first n (length ws) top q c (values_of args (flat_frame W now me) q) →
      Alike W now me p.first n (length (f.put_in (slice_get p.funs k) arrays args ws).locals) top q
      (let next = call k arrays c.gives w c.after in record { gives = next.gives; after = next.after; calls = c.calls ++ next.calls })
      (expr_meaning (f.put_in (slice_get p.funs k) arrays args ws).value (flat_frame W now me) q)
  call_acts k arrays args ws w c q is fit bound grown begins top under args_alike =
      let room = room_of (slice_get rooms k) (length c.gives) fit in
      let here = found W now me rooms p.funs fs good k room.0 room.1 in
      at here.a_put here.a_fun (slice_get p.funs k) (slice_get w.funs k) here.put_is (ap (λ (x : List Fun). slice_get x k) is ∙ here.fun_is) room.0 room.2 here.good grown begins under
    where
      at : (put : PutIn) (g : Fun) (o : Option PutIn) (o2 : Option Fun) → o ≡ Some put → o2 ≡ Some g → (room : ℕ) → length c.gives ≤ room → Good W now me room put g →
          length ws ≤ length (f.put_in o arrays args ws).locals → Begins (f.put_in o arrays args ws).locals W → length (f.put_in o arrays args ws).locals ≤ top →
          Alike W now me p.first n (length (f.put_in o arrays args ws).locals) top q
          (let next = option_map_or (λ (h : Fun). h arrays c.gives) o2 (λ s. record { gives = nothing; after = s; calls = [] }) c.after in record { gives = next.gives; after = next.after; calls = c.calls ++ next.calls })
          (expr_meaning (f.put_in o arrays args ws).value (flat_frame W now me) q)
      at put g None o2 e e2 room fits one l b u = absurd (cc)
      at put g (Some h) None e e2 room fits one l b u = absurd (cc)
      at put g (Some h) (Some h2) e e2 room fits one l b u =
          let e3 : put ≡ h = cc in
          let e4 : g ≡ h2 = cc in
          let one2 : Good W now me room h h2 = subst (λ (x : PutIn). Good W now me room x h2) e3 (subst (λ (x : Fun). Good W now me room put x) e4 one) in
          let v = flat_frame W now me in
          let ran = values_of args v q in
          let long : length ran.gives ≤ room = let l = ap length args_alike.gives in omega arith in
          let body = h arrays ws in
          let own = called (holding ran.after.locals (enumerate_from (length ws) ran.gives)) (block_of body.value) v ran.after in
          let did = one2.runs arrays ws ran.gives long b p.first n top c.after ran.after bound u args_alike.after in
          let did2 : Alike W now me p.first n (length body.locals) top ran.after (h2 arrays c.gives c.after) own = subst (λ (vs : List Bits). Alike W now me p.first n (length body.locals) top ran.after (h2 arrays vs c.after) own) args_alike.gives did in
          subst (λ (x : Ran (List (ℕ × Bits))). Alike W now me p.first n (length body.locals) top q
          (let next = h2 arrays c.gives c.after in record { gives = next.gives; after = next.after; calls = c.calls ++ next.calls })
          (let next = called (holding x.after.locals x.gives) (block_of body.value) v x.after in record { gives = next.gives; after = next.after; calls = x.calls ++ next.calls }))
          (sym (all_given-numbered args (length ws) v q))
          (record { gives = did2.gives; calls = ap₂ (λ (x y : List ℕ). x ++ y) args_alike.calls did2.calls; after = did2.after; beyond = λ j k2. did2.beyond j k2 ∙ args_alike.beyond j (omega arith) })

  -- As many tests as values.
  as_many : (es : List E) (w : Frame) (s : State) → length (map expr_fit (exprs es)) ≡ length (values_of (exprs es) w s).gives
  as_many es w s = length-map (exprs es) expr_fit ∙ sym (length-map (exprs es) value_of) ∙ sym (all-length (map value_of (exprs es)) w s)

  pub expr_level : (y : Expr-F E S T) → ExprNode (expr_tree y)
  expr_level (Expr-F.Fixed b) = record { grows = λ ws. begins_self ws; acts = λ fit ws bound begins top under s q same. record { gives = refl; calls = refl; after = same; beyond = λ k h. refl } }
  expr_level (Expr-F.Local i) = record { grows = λ ws. begins_self ws; acts = λ fit ws bound begins top under s q same. record { gives = same.own i (ltb-true i n fit); calls = refl; after = same; beyond = λ k h. refl } }
  expr_level Expr-F.Now = record { grows = λ ws. begins_self ws; acts = λ fit ws bound begins top under s q same. record { gives = refl; calls = refl; after = same; beyond = λ k h. refl } }
  expr_level Expr-F.Me = record { grows = λ ws. begins_self ws; acts = λ fit ws bound begins top under s q same. record { gives = refl; calls = refl; after = same; beyond = λ k h. refl } }
  expr_level (Expr-F.Un op e) = record {
    grows = λ ws. e.1.grows ws;
    acts = λ fit ws bound begins top under s q same. let one = e.1.acts (and_parts _ _ fit).0 ws bound begins top under s q same in
        record { gives = ap (unary op) one.gives; calls = ap (λ (c : List ℕ). c ++ []) one.calls; after = one.after; beyond = one.beyond };
  }
  expr_level (Expr-F.Bin op e g) = two_level e g (binary op) (λ x y. Expr-F.Bin op x y) _ _ (λ x y w s. refl) (λ w s. refl) (λ fit. let a = and_parts _ _ fit in (a.0, (and_parts _ _ a.1).0))
  expr_level (Expr-F.Cmp op e g) = two_level e g (comparison op) (λ x y. Expr-F.Cmp op x y) _ _ (λ x y w s. refl) (λ w s. refl) (λ fit. let a = and_parts _ _ fit in (a.0, (and_parts _ _ a.1).0))
  expr_level (Expr-F.Cast w e) = record {
    grows = λ ws. e.1.grows ws;
    acts = λ fit ws bound begins top under s q same. let one = e.1.acts (and_parts _ _ fit).0 ws bound begins top under s q same in
        record { gives = ap (λ (v : Bits). bits_of w v.value) one.gives; calls = ap (λ (c : List ℕ). c ++ []) one.calls; after = one.after; beyond = one.beyond };
  }
  expr_level (Expr-F.Hash w es) = record {
    grows = λ ws. each_grows es ws;
    acts = λ fit ws bound begins top under s q same. let one = each_acts es fit ws bound begins top under s q same in
        record { gives = ap (hashed w) one.gives; calls = ap (λ (c : List ℕ). c ++ []) one.calls; after = one.after; beyond = one.beyond };
  }
  expr_level (Expr-F.Array e) = record {
    grows = λ ws. e.1.grows ws;
    acts = λ fit ws bound begins top under s q same. e.1.acts (and_parts _ _ fit).0 ws bound begins top under s q same;
  }
  expr_level (Expr-F.Fun k names es) = record {
    grows = λ ws. let first = f.each (map flat_expr (exprs es)) p ws in
        begins_then ws first.locals _ (each_grows es ws) (put_grows W now me rooms p.funs fs good k (map (array_of p.arrays) names) first.value first.locals);
    acts = λ fit ws bound begins top under s q same.
        let first = f.each (map flat_expr (exprs es)) p ws in
        let fits = and_parts _ _ fit in
        let arrays = map (array_of p.arrays) names in
        let grown = put_grows W now me rooms p.funs fs good k arrays first.value first.locals in
        let w = core_frame W now me p rooms fs good n in
        let l = begins_length ws first.locals (each_grows es ws) in
        let l2 = begins_length first.locals (f.put_in (slice_get p.funs k) arrays first.value first.locals).locals grown in
        let one = each_acts es fits.1 ws bound (begins_then first.locals (f.put_in (slice_get p.funs k) arrays first.value first.locals).locals W grown begins) top (omega arith) s q same in
        let enough = subst (λ (x : ℕ). option_map_or (nat_eq x) (slice_get rooms k) false ≡ true) (as_many es w s) fits.0 in
        call_acts k arrays first.value first.locals w (values_of (exprs es) w s) q refl enough (omega arith) l2 begins top under one;
  }
  expr_level (Expr-F.Inlined given es) = record { grows = λ ws. begins_self ws; acts = λ fit ws bound begins top under s q same. absurd (cc) }

  pub touch_level : (y : Touch-F E S T) → TouchNode (touch_tree y)
  touch_level y = record {
    grows = λ ws.
        let first = (flat_expr y.index.0 p ws).locals in
        let second = (flat_expr y.get_arg.0 p first).locals in
        let third = (flat_expr y.set_arg.0 p second).locals in
        begins_then ws first third (y.index.1.grows ws) (begins_then first second third (y.get_arg.1.grows first) (y.set_arg.1.grows second));
    acts = λ fit ws bound begins top under s q same.
        let fit1 = and_parts _ _ fit in
        let fit2 = and_parts _ _ fit1.1 in
        let first = flat_expr y.index.0 p ws in
        let second = flat_expr y.get_arg.0 p first.locals in
        let third = flat_expr y.set_arg.0 p second.locals in
        let begins2 = begins_then second.locals third.locals W (y.set_arg.1.grows second.locals) begins in
        let begins1 = begins_then first.locals second.locals W (y.get_arg.1.grows first.locals) begins2 in
        let l1 = begins_length ws first.locals (y.index.1.grows ws) in
        let l2 = begins_length first.locals second.locals (y.get_arg.1.grows first.locals) in
        let l3 = begins_length second.locals third.locals (y.set_arg.1.grows second.locals) in
        let one = y.index.1.acts fit1.0 ws bound begins1 top (omega arith) s q same in
        let two = y.get_arg.1.acts fit2.0 first.locals (omega arith) begins2 top (omega arith) _ _ one.after in
        let three = y.set_arg.1.acts (and_parts _ _ fit2.1).0 second.locals (omega arith) begins top under _ _ two.after in
        let a = array_of p.arrays y.array in
        let v = flat_frame W now me in
        let i' = value_of first.value v q in
        let g' = value_of second.value v i'.after in
        let v' = value_of third.value v g'.after in
        let w = core_frame W now me p rooms fs good n in
        let i = value_of y.index.0 w s in
        let g = value_of y.get_arg.0 w i.after in
        let x = value_of y.set_arg.0 w g.after in
        record {
          gives = ap (λ (c : List (List ℕ)). memop y.get (cell_at c a i'.gives.value) g'.gives) three.after.cells
              ∙ ap₂ (λ (j h : Bits). memop y.get (cell_at x.after.cells a j.value) h) one.gives two.gives;
          calls = ap₂ (λ (c d : List ℕ). c ++ d) one.calls (ap₂ (λ (c d : List ℕ). c ++ (d ++ a ∷ [])) two.calls three.calls);
          after = record {
            cells = ap (λ (c : List (List ℕ)). with_cell c a i'.gives.value (memop y.set (cell_at c a i'.gives.value) v'.gives).value) three.after.cells
                ∙ ap₂ (λ (j h : Bits). with_cell x.after.cells a j.value (memop y.set (cell_at x.after.cells a j.value) h).value) one.gives three.gives;
            outs = three.after.outs;
            answer = three.after.answer;
            count = three.after.count;
            long = three.after.long;
            own = three.after.own;
            rest = three.after.rest;
          };
          beyond = λ k h. three.beyond k h ∙ two.beyond k (omega arith) ∙ one.beyond k (omega arith);
        };
  }

  -- A local is assigned.
  assigned : (next top : ℕ) (s q : State) (i : ℕ) (x y : Bits) → i < n → y ≡ x → p.first + n ≤ next → next ≤ length W → SameHere next top s q →
      SameHere next top (record s { locals = slice_set s.locals i x }) (record q { locals = slice_set q.locals (p.first + i) y })
  assigned next top s q i x y h e bound l same = record {
    cells = same.cells;
    outs = same.outs;
    answer = same.answer;
    count = length-set s.locals i x ∙ same.count;
    long = length-set q.locals (p.first + i) y ∙ same.long;
    own = λ j k. either j k (cases_eq j i);
    rest = λ k b c. get_or-set_other q.locals (p.first + i) k y nothing (omega arith) ∙ same.rest k b c;
  }
    where
      either : (j : ℕ) → j < n → (j ≡ i) ⊎ (j ≡ i → ⊥) → local_at (slice_set q.locals (p.first + i) y) (p.first + j) ≡ local_at (slice_set s.locals i x) j
      either j k (inl this) =
          let c = same.count in
          let d = same.long in
          get_or-set_at q.locals (p.first + i) (p.first + j) y nothing (omega arith) (omega arith) ∙ e ∙ sym (get_or-set_at s.locals i j x nothing this (omega arith))
      either j k (inr other) =
          get_or-set_other q.locals (p.first + i) (p.first + j) y nothing (λ k. other (omega arith)) ∙ same.own j k ∙ sym (get_or-set_other s.locals i j x nothing other)

  -- A block of one.
  single : (next top : ℕ) (old : State) (r x : Ran (Unit {0})) → Alike W now me p.first n next top old r x → Alike W now me p.first n next top old r (record { gives = tt; after = x.after; calls = x.calls ++ [] })
  single next top old r x a = record { gives = refl; calls = append-nil x.calls ∙ a.calls; after = a.after; beyond = a.beyond }

  -- Of a condition with two blocks.
  either_block : (b : Bool) (es gs : List S) (us vs : List Stmt) (next top : ℕ) (s q : State) →
      Frames next top block_of us (block_of (stmts es)) s q → Frames next top block_of vs (block_of (stmts gs)) s q →
      Alike W now me p.first n next top q (block (if b then map effect_of (stmts gs) else map effect_of (stmts es)) (core_frame W now me p rooms fs good n) s)
      (block (if b then map effect_of vs else map effect_of us) (flat_frame W now me) q)
  either_block true es gs us vs next top s q one two = two
  either_block false es gs us vs next top s q one two = one

  if_level : (e : E) (es gs : List S) → StmtNode (Stmt-F.If e.0 (stmts es) (stmts gs))
  if_level e es gs = record {
    grows = λ ws.
        let first = (flat_expr e.0 p ws).locals in
        let second = (f.block (map flat_stmt (stmts es)) p first).locals in
        let third = (f.block (map flat_stmt (stmts gs)) p second).locals in
        begins_then ws first third (e.1.grows ws) (begins_then first second third (block_grows es first) (block_grows gs second));
    acts = λ fit ws bound begins top under s q same.
        let fit1 = and_parts _ _ fit in
        let fit2 = both_pass (λ (test : Fit). test n rooms) (map stmt_fit (stmts es)) (map stmt_fit (stmts gs)) fit1.1 in
        let first = flat_expr e.0 p ws in
        let second = f.block (map flat_stmt (stmts es)) p first.locals in
        let third = f.block (map flat_stmt (stmts gs)) p second.locals in
        let begins2 = begins_then second.locals third.locals W (block_grows gs second.locals) begins in
        let begins1 = begins_then first.locals second.locals W (block_grows es first.locals) begins2 in
        let l1 = begins_length ws first.locals (e.1.grows ws) in
        let l2 = begins_length first.locals second.locals (block_grows es first.locals) in
        let l3 = begins_length second.locals third.locals (block_grows gs second.locals) in
        let one = e.1.acts fit1.0 ws bound begins1 top (omega arith) s q same in
        let v = flat_frame W now me in
        let w = core_frame W now me p rooms fs good n in
        let s2 = (value_of e.0 w s).after in
        let q2 = (value_of first.value v q).after in
        let yes1 = block_acts es fit2.0 first.locals (omega arith) begins2 top (omega arith) s2 q2 one.after in
        let yes2 : Frames (length third.locals) top block_of second.value (block_of (stmts es)) s2 q2 =
        record { gives = yes1.gives; calls = yes1.calls; after = later W now me p.first n (length second.locals) (length third.locals) top _ _ l3 yes1.after; beyond = λ k h. yes1.beyond k (omega arith) } in
        let no = block_acts gs fit2.1 second.locals (omega arith) begins top under s2 q2 (later W now me p.first n (length first.locals) (length second.locals) top s2 q2 l2 one.after) in
        let c = (value_of e.0 w s).gives in
        let both = either_block (nat_eq c.value 0) es gs second.value third.value (length third.locals) top s2 q2 yes2 no in
        let there = block (if nat_eq c.value 0 then map effect_of (stmts gs) else map effect_of (stmts es)) w s2 in
        let moved = subst (λ (d : Bits). Alike W now me p.first n (length third.locals) top q2 there (block (if nat_eq d.value 0 then map effect_of third.value else map effect_of second.value) v q2)) (sym one.gives) both in
        single (length third.locals) top q _ _ (record { gives = refl; calls = ap₂ (λ (x y : List ℕ). x ++ y) one.calls moved.calls; after = moved.after; beyond = λ k h. moved.beyond k h ∙ one.beyond k (omega arith) });
  }

  -- An optional operand.
  optional_sim : {B : Type 0} (absent : B) (given : ℕ → B) (o : Option E) → SimHere (λ (d : Option Expr). m.optional absent given (option_map value_of d)) (f.optional (option_map (λ (e : E). flat_expr e.0) o))
      (m.optional absent given (option_map (λ (e : E). value_of e.0) o)) (r.each (option_to_list (option_map (λ (e : E). expr_fit e.0) o)))
  optional_sim absent given None = record { grows = λ ws. begins_self ws; acts = λ fit ws bound begins top under s q same. record { gives = refl; calls = refl; after = same; beyond = λ k h. refl } }
  optional_sim absent given (Some e) = record {
    grows = λ ws. e.1.grows ws;
    acts = λ fit ws bound begins top under s q same. let one = e.1.acts (and_parts _ _ fit).0 ws bound begins top under s q same in
        record { gives = ap (λ (v : Bits). given v.value) one.gives; calls = ap (λ (c : List ℕ). c ++ []) one.calls; after = one.after; beyond = one.beyond };
  }

  -- Two in either order.
  both_sim : {A B C D : Type 0} (b : Bool) (flat1 : A → Computation B) (t : Flatten A) (c : Computation B) (fit1 : Fit) (flat2 : C → Computation D) (u : Flatten C) (d : Computation D) (fit2 : Fit) → SimHere flat1 t c fit1 → SimHere flat2 u d fit2 →
      SimHere (λ (x : A × C). both b (flat1 x.0) (flat2 x.1)) (f.both b t u) (both b c d) (λ k rs. fit1 k rs && fit2 k rs)
  both_sim {B = B} {D = D} true flat1 t c fit1 flat2 u d fit2 one two = record {
    grows = λ ws. let first = (t p ws).locals in begins_then ws first (u p first).locals (one.grows ws) (two.grows first);
    acts = λ fit ws bound begins top under s q same.
        let part = and_parts _ _ fit in
        let first = t p ws in
        let l = begins_length ws first.locals (one.grows ws) in
        let l2 = begins_length first.locals (u p first.locals).locals (two.grows first.locals) in
        let x = one.acts part.0 ws bound (begins_then first.locals (u p first.locals).locals W (two.grows first.locals) begins) top (omega arith) s q same in
        let y = two.acts part.1 first.locals (omega arith) begins top under _ _ x.after in
        record { gives = ap₂ (λ (i : B) (j : D). (i, j)) x.gives y.gives; calls = ap₂ (λ (i j : List ℕ). i ++ (j ++ [])) x.calls y.calls; after = y.after; beyond = λ k h. y.beyond k h ∙ x.beyond k (omega arith) };
  }
  both_sim {B = B} {D = D} false flat1 t c fit1 flat2 u d fit2 one two = record {
    grows = λ ws. let first = (u p ws).locals in begins_then ws first (t p first).locals (two.grows ws) (one.grows first);
    acts = λ fit ws bound begins top under s q same.
        let part = and_parts _ _ fit in
        let first = u p ws in
        let l = begins_length ws first.locals (two.grows ws) in
        let l2 = begins_length first.locals (t p first.locals).locals (one.grows first.locals) in
        let x = two.acts part.1 ws bound (begins_then first.locals (t p first.locals).locals W (one.grows first.locals) begins) top (omega arith) s q same in
        let y = one.acts part.0 first.locals (omega arith) begins top under _ _ x.after in
        record { gives = ap₂ (λ (i : B) (j : D). (i, j)) y.gives x.gives; calls = ap₂ (λ (i j : List ℕ). i ++ (j ++ [])) x.calls y.calls; after = y.after; beyond = λ k h. y.beyond k h ∙ x.beyond k (omega arith) };
  }

  -- Both send the same.
  sent : (next top : ℕ) (s q : State) (x y : List Out) → y ≡ x → SameHere next top s q → SameHere next top (record s { outs = s.outs ++ x }) (record q { outs = q.outs ++ y })
  sent next top s q x y e same = record {
    cells = same.cells;
    outs = ap₂ (λ (a b : List Out). a ++ b) same.outs e;
    answer = same.answer;
    count = same.count;
    long = same.long;
    own = same.own;
    rest = same.rest;
  }

  gen_meaning : (event : ℕ) (args : List Expr) (delay to : Option Expr) (delay_first : Bool) →
      stmt_meaning (Stmt-F.Gen event args delay to delay_first) ≡ m.stmt_step (Stmt-F.Gen event (map value_of args) (option_map value_of delay) (option_map value_of to) delay_first)
  gen_meaning event args None None delay_first = refl
  gen_meaning event args None (Some t) delay_first = refl
  gen_meaning event args (Some d) None delay_first = refl
  gen_meaning event args (Some d) (Some t) delay_first = refl

  gen_level : (event : ℕ) (es : List E) (delay to : Option E) (delay_first : Bool) → SimHere (λ ys. block (map stmt_meaning ys))
      (f.stmt_node (Stmt-F.Gen event (map flat_expr (exprs es)) (option_map (λ (e : E). flat_expr e.0) delay) (option_map (λ (e : E). flat_expr e.0) to) delay_first))
      (m.stmt_step (Stmt-F.Gen event (map value_of (exprs es)) (option_map (λ (e : E). value_of e.0) delay) (option_map (λ (e : E). value_of e.0) to) delay_first))
      (r.stmt_step (Stmt-F.Gen event (map expr_fit (exprs es)) (option_map (λ (e : E). expr_fit e.0) delay) (option_map (λ (e : E). expr_fit e.0) to) delay_first))
  gen_level event es delay to delay_first =
      let others = both_sim delay_first _ _ _ _ _ _ _ _ (optional_sim 0 (λ n. n) delay) (optional_sim Here At to) in record {
        grows = λ ws. let first = (f.each (map flat_expr (exprs es)) p ws).locals in begins_then ws first _ (each_grows es ws) (others.grows first);
        acts = λ fit ws bound begins top under s q same.
            let fit1 = both_pass (λ (test : Fit). test n rooms) (map expr_fit (exprs es) ++ option_to_list (option_map (λ (e : E). expr_fit e.0) delay)) (option_to_list (option_map (λ (e : E). expr_fit e.0) to)) fit in
            let fit2 = both_pass (λ (test : Fit). test n rooms) (map expr_fit (exprs es)) (option_to_list (option_map (λ (e : E). expr_fit e.0) delay)) fit1.0 in
            let first = f.each (map flat_expr (exprs es)) p ws in
            let second = f.both delay_first (f.optional (option_map (λ (e : E). flat_expr e.0) delay)) (f.optional (option_map (λ (e : E). flat_expr e.0) to)) p first.locals in
            let l = begins_length ws first.locals (each_grows es ws) in
            let l2 = begins_length first.locals second.locals (others.grows first.locals) in
            let one = each_acts es fit2.0 ws bound (begins_then first.locals second.locals W (others.grows first.locals) begins) top (omega arith) s q same in
            let two = others.acts (and_from _ _ fit2.1 fit1.1) first.locals (omega arith) begins top under _ _ one.after in
            let v = flat_frame W now me in
            let core = m.stmt_step (Stmt-F.Gen event (map value_of (exprs es)) (option_map (λ (e : E). value_of e.0) delay) (option_map (λ (e : E). value_of e.0) to) delay_first) (core_frame W now me p rooms fs good n) s in
            subst (λ (x : Effect). Alike W now me p.first n (length second.locals) top q core (block (x ∷ []) v q)) (sym (gen_meaning event first.value second.value.0 second.value.1 delay_first))
            (single (length second.locals) top q core (m.stmt_step (Stmt-F.Gen event (map value_of first.value) (option_map value_of second.value.0) (option_map value_of second.value.1) delay_first) v q) (record {
              gives = refl;
              calls = ap₂ (λ (x y : List ℕ). x ++ (y ++ [])) one.calls two.calls;
              after = sent (length second.locals) top _ _ _ _ (ap₂ (λ (vs : List Bits) (g : ℕ × Target). generated event vs g.0 g.1 ∷ []) one.gives two.gives) two.after;
              beyond = λ k h. two.beyond k h ∙ one.beyond k (omega arith);
            }));
      }

  -- The arguments and the delay of a group.
  multi_grows : (event : ℕ) (es ds : List E) (delay : Option (Flatten Expr)) (members : List ℕ) → option_to_list delay ≡ map flat_expr (exprs ds) → (ws : List ℕ) →
      Begins ws (f.stmt_node (Stmt-F.Multi event (map flat_expr (exprs es)) delay members) p ws).locals
  multi_grows event es ds delay members is ws =
      let held = map flat_expr (exprs es) ++ option_to_list delay in
      let e : map flat_expr (exprs (es ++ ds)) ≡ held =
      ap (map flat_expr) (map-append (λ (e : E). e.0) es ds) ∙ map-append flat_expr (exprs es) (exprs ds) ∙ ap (λ (x : List (Flatten Expr)). map flat_expr (exprs es) ++ x) (sym is) in
      let first = (f.each held p ws).locals in
      begins_then ws first _ (subst (λ (x : List (Flatten Expr)). Begins ws (f.each x p ws).locals) e (each_grows (es ++ ds) ws)) (begins_append first _)

  -- An assignment beyond the relevant locals.
  outside : (next top b : ℕ) (s q : State) (v : Bits) → p.first + n ≤ next → next ≤ top → top ≤ b → SameHere next top s q → SameHere next top s (record q { locals = slice_set q.locals b v })
  outside next top b s q v bound l h same = record {
    cells = same.cells;
    outs = same.outs;
    answer = same.answer;
    count = same.count;
    long = length-set q.locals b v ∙ same.long;
    own = λ i k. get_or-set_other q.locals b (p.first + i) v nothing (omega arith) ∙ same.own i k;
    rest = λ k j c. get_or-set_other q.locals b k v nothing (omega arith) ∙ same.rest k j c;
  }

  -- Values assigned to the locals from b on.
  record HeldBy (b next top : ℕ) (old : State) (r : Ran (List Bits)) (x : Ran (Unit {0})) : Type 0 where
    calls : x.calls ≡ r.calls
    after : SameHere next top r.after x.after
    there : (i : ℕ) → i < length r.gives → local_at x.after.locals (b + i) ≡ local_at r.gives i
    past : (k : ℕ) → b + length r.gives ≤ k → local_at x.after.locals k ≡ local_at old.locals k
    below : (k : ℕ) → top ≤ k → k < b → local_at x.after.locals k ≡ local_at old.locals k

  abbrev assigns : ℕ → List Expr → List (Stmt-F Expr Stmt Touch)
  assigns b xs = map (λ (g : ℕ × Expr). Stmt-F.Assign g.0 g.1) (enumerate_from b xs)

  assigns_act : (hs : List E) → r.each (map expr_fit (exprs hs)) n rooms ≡ true → (ws : List ℕ) → p.first + n ≤ length ws → Begins (f.each (map flat_expr (exprs hs)) p ws).locals W →
      (b top : ℕ) → length (f.each (map flat_expr (exprs hs)) p ws).locals ≤ top → top ≤ b → b + length hs ≤ length W → (s q : State) → SameHere (length ws) top s q →
      HeldBy b (length (f.each (map flat_expr (exprs hs)) p ws).locals) top q (values_of (exprs hs) (core_frame W now me p rooms fs good n) s)
      (block (map stmt_meaning (assigns b (f.each (map flat_expr (exprs hs)) p ws).value)) (flat_frame W now me) q)
  assigns_act [] fit ws bound begins b top under above room s q same = record { calls = refl; after = same; there = λ i h. absurd (omega arith); past = λ k h. refl; below = λ k h j. refl }
  assigns_act (e ∷ hs) fit ws bound begins b top under above room s q same =
      let fits = and_parts _ _ fit in
      let first = flat_expr e.0 p ws in
      let second = f.each (map flat_expr (exprs hs)) p first.locals in
      let l = begins_length ws first.locals (e.1.grows ws) in
      let l2 = begins_length first.locals second.locals (each_grows hs first.locals) in
      let one = e.1.acts fits.0 ws bound (begins_then first.locals second.locals W (each_grows hs first.locals) begins) top (omega arith) s q same in
      let v = flat_frame W now me in
      let w = core_frame W now me p rooms fs good n in
      let core1 = value_of e.0 w s in
      let flat1 = value_of first.value v q in
      let q2 : State = record flat1.after { locals = slice_set flat1.after.locals b flat1.gives } in
      let same2 = outside (length first.locals) top b core1.after flat1.after flat1.gives (omega arith) (omega arith) above one.after in
      let two = assigns_act hs fits.1 first.locals (omega arith) begins (b + 1) top under (omega arith) (omega arith) core1.after q2 same2 in
      let rest = values_of (exprs hs) w core1.after in
      let x2 = block (map stmt_meaning (assigns (b + 1) second.value)) v q2 in
      let long = one.after.long in
      record {
        calls = ap₂ (λ (c d : List ℕ). c ++ d) (append-nil flat1.calls ∙ one.calls) (two.calls ∙ sym (append-nil rest.calls));
        after = two.after;
        there = λ i h. there core1.gives flat1.gives one.gives flat1.after.locals rest.gives x2.after.locals (omega arith) two.there two.below i h;
        past = λ k h. two.past k (omega arith) ∙ get_or-set_other flat1.after.locals b k flat1.gives nothing (omega arith) ∙ one.beyond k (omega arith);
        below = λ k h j. two.below k h (omega arith) ∙ get_or-set_other flat1.after.locals b k flat1.gives nothing (omega arith) ∙ one.beyond k (omega arith);
      }
    where
      there : (x y : Bits) → y ≡ x → (old : List Bits) (xs new : List Bits) → b < length old → ((i : ℕ) → i < length xs → local_at new (b + 1 + i) ≡ local_at xs i) →
          ((k : ℕ) → top ≤ k → k < b + 1 → local_at new k ≡ local_at (slice_set old b y) k) → (i : ℕ) → i < suc (length xs) → local_at new (b + i) ≡ local_at (x ∷ xs) i
      there x y same_value old xs new l others lower zero h =
          let z : b + 0 ≡ b = omega arith in
          ap (local_at new) z ∙ lower b above (omega arith) ∙ get_or-set_at old b b y nothing refl l ∙ same_value
      there x y same_value old xs new l others lower (suc i) h =
          let z : b + suc i ≡ b + 1 + i = omega arith in
          ap (local_at new) z ∙ others i (omega arith)

  each-length : (hs : List E) (ws : List ℕ) → length (f.each (map flat_expr (exprs hs)) p ws).value ≡ length hs
  each-length [] ws = refl
  each-length (e ∷ hs) ws = ap suc (each-length hs (flat_expr e.0 p ws).locals)

  multi_acts : (event : ℕ) (es ds : List E) (delayed : Bool) (members : List ℕ) (ticks : ℕ) (core : Ran (Unit {0})) (s : State) →
      (let w = core_frame W now me p rooms fs good n in let one = values_of (exprs es) w s in let two = values_of (exprs ds) w one.after in
      (core ≡ record { gives = tt; after = record two.after { outs = two.after.outs ++ map (generated event one.gives ticks) (map At members) }; calls = one.calls ++ two.calls })
      × ((b : ℕ) (xs : List Bits) → ((i : ℕ) → i < length (one.gives ++ two.gives) → local_at xs (b + i) ≡ local_at (one.gives ++ two.gives) i) →
      (if delayed then (local_at xs (b + length one.gives)).value else 0) ≡ ticks)) →
      list_all (λ m. nat_lt m 64) members ≡ true → r.each (map expr_fit (exprs (es ++ ds))) n rooms ≡ true → (ws : List ℕ) → p.first + n ≤ length ws → (top : ℕ) (q : State) → SameHere (length ws) top s q →
      (held : List (Flatten Expr)) → map flat_expr (exprs (es ++ ds)) ≡ held → (k : ℕ) → length es ≡ k → (widths : List Expr → List ℕ) → ((xs : List Expr) → length (widths xs) ≡ length xs) →
      (let first = f.each held p ws in Begins (first.locals ++ widths first.value) W → length (first.locals ++ widths first.value) ≤ top →
      Alike W now me p.first n (length (first.locals ++ widths first.value)) top q core
      (block (map stmt_meaning (assigns (length first.locals) first.value ++ map (f.to_member event (length first.locals) k delayed) members)) (flat_frame W now me) q))
  multi_acts event es ds delayed members ticks core s parts few fit ws bound top q same held held_is k k_is widths widths_long =
      subst (λ (ts : List (Flatten Expr)). Claim ts k) held_is (subst (λ (m : ℕ). Claim (map flat_expr (exprs (es ++ ds))) m) (sym many ∙ k_is) main)
    where
      Claim : List (Flatten Expr) → ℕ → Type 0
      Claim ts m = let first = f.each ts p ws in Begins (first.locals ++ widths first.value) W → length (first.locals ++ widths first.value) ≤ top →
          Alike W now me p.first n (length (first.locals ++ widths first.value)) top q core
          (block (map stmt_meaning (assigns (length first.locals) first.value ++ map (f.to_member event (length first.locals) m delayed) members)) (flat_frame W now me) q)

      many : length es ≡ length (values_of (exprs es) (core_frame W now me p rooms fs good n) s).gives
      many = sym (length-map es (λ (e : E). e.0)) ∙ sym (length-map (exprs es) value_of) ∙ sym (all-length (map value_of (exprs es)) (core_frame W now me p rooms fs good n) s)

      main : Claim (map flat_expr (exprs (es ++ ds))) (length (values_of (exprs es) (core_frame W now me p rooms fs good n) s).gives)
      main begins under =
          let hs = es ++ ds in
          let w = core_frame W now me p rooms fs good n in
          let v = flat_frame W now me in
          let first = f.each (map flat_expr (exprs hs)) p ws in
          let b = length first.locals in
          let one = values_of (exprs es) w s in
          let two = values_of (exprs ds) w one.after in
          let whole = values_of (exprs hs) w s in
          let split : whole ≡ record { gives = one.gives ++ two.gives; after = two.after; calls = one.calls ++ two.calls } =
          ap (λ (xs : List Expr). values_of xs w s) (map-append (λ (e : E). e.0) es ds) ∙ ap (λ (xs : List (Computation Bits)). all xs w s) (map-append value_of (exprs es) (exprs ds))
          ∙ all-append (map value_of (exprs es)) (map value_of (exprs ds)) w s in
          let grown = begins_append first.locals (widths first.value) in
          let n1 = length-append first.locals (widths first.value) in
          let n2 = widths_long first.value in
          let n3 = each-length hs ws in
          let l = begins_length ws first.locals (each_grows hs ws) in
          let l2 = begins_length (first.locals ++ widths first.value) W begins in
          let small : Same W now me p.first n (length ws) b s q = record {
            cells = same.cells;
            outs = same.outs;
            answer = same.answer;
            count = same.count;
            long = same.long;
            own = same.own;
            rest = λ j h c. same.rest j h (omega arith);
          } in
          let held_by = assigns_act hs fit ws bound (begins_then first.locals (first.locals ++ widths first.value) W grown begins) b b (omega arith) (omega arith) (omega arith) s q small in
          let x = block (map stmt_meaning (assigns b first.value)) v q in
          let moved = subst (λ (y : Ran (List Bits)). HeldBy b b b q y x) split held_by in
          let left : (i : ℕ) → i < length one.gives → local_at x.after.locals (b + i) ≡ local_at one.gives i = λ i h.
          let n4 = length-append one.gives two.gives in moved.there i (omega arith) ∙ get_or_append_left one.gives two.gives nothing i h in
          let ticks_are = parts.1 b x.after.locals moved.there in
          let sent_all : block (map stmt_meaning (map (f.to_member event b (length one.gives) delayed) members)) v x.after ≡
          record { gives = tt; after = record x.after { outs = x.after.outs ++ map (generated event one.gives ticks) (map At members) }; calls = [] } =
          members_send event b one.gives delayed members v x.after few left
          ∙ ap (λ (t : ℕ). record { gives = tt; after = record x.after { outs = x.after.outs ++ map (generated event one.gives t) (map At members) }; calls = [] }) ticks_are in
          let gens = map (f.to_member event b (length one.gives) delayed) members in
          let flat_is : block (map stmt_meaning (assigns b first.value ++ gens)) v q ≡
          record { gives = tt; after = record x.after { outs = x.after.outs ++ map (generated event one.gives ticks) (map At members) }; calls = x.calls ++ [] } =
          ap (λ (ys : List Effect). block ys v q) (map-append stmt_meaning (assigns b first.value) gens) ∙ block-append (map stmt_meaning (assigns b first.value)) (map stmt_meaning gens) v q
          ∙ ap (λ (y : Ran (Unit {0})). record { gives = tt; after = y.after; calls = x.calls ++ y.calls }) sent_all in
          let n5 : length (one.gives ++ two.gives) ≡ length first.value =
          sym (ap (λ (y : Ran (List Bits)). length y.gives) split) ∙ all-length (map value_of (exprs hs)) w s ∙ length-map (exprs hs) value_of ∙ length-map hs (λ (e : E). e.0) ∙ sym n3 in
          subst (λ (y : Ran (Unit {0})). Alike W now me p.first n (length (first.locals ++ widths first.value)) top q y (block (map stmt_meaning (assigns b first.value ++ gens)) v q)) (sym parts.0)
          (subst (λ (y : Ran (Unit {0})). Alike W now me p.first n (length (first.locals ++ widths first.value)) top q
          (record { gives = tt; after = record two.after { outs = two.after.outs ++ map (generated event one.gives ticks) (map At members) }; calls = one.calls ++ two.calls }) y) (sym flat_is)
          (record {
            gives = refl;
            calls = append-nil x.calls ∙ moved.calls;
            after = record {
              cells = moved.after.cells;
              outs = ap (λ (o : List Out). o ++ map (generated event one.gives ticks) (map At members)) moved.after.outs;
              answer = moved.after.answer;
              count = moved.after.count;
              long = moved.after.long;
              own = moved.after.own;
              rest = λ j h c. moved.past j (omega arith) ∙ same.rest j (omega arith) c;
            };
            beyond = λ j h. moved.past j (omega arith);
          }))

  multi_none : (event : ℕ) (es : List E) (members : List ℕ) → StmtNode (Stmt-F.Multi event (exprs es) None members)
  multi_none event es members = record {
    grows = λ ws. multi_grows event es [] None members refl ws;
    acts = λ fit ws bound begins top under s q same.
        let fits = and_parts _ _ fit in
        let w = core_frame W now me p rooms fs good n in
        let one = values_of (exprs es) w s in
        let nil : es ++ [] ≡ es = append-nil es in
        let nil2 : map expr_fit (exprs es) ++ [] ≡ map expr_fit (exprs (es ++ [])) = append-nil (map expr_fit (exprs es)) ∙ ap (λ (x : List E). map expr_fit (exprs x)) (sym nil) in
        let nil3 : map flat_expr (exprs (es ++ [])) ≡ map flat_expr (exprs es) ++ [] = ap (λ (x : List E). map flat_expr (exprs x)) nil ∙ sym (append-nil (map flat_expr (exprs es))) in
        multi_acts event es [] false members 0 (stmt_meaning (Stmt-F.Multi event (exprs es) None members) w s) s
        (refl, λ b xs h. refl) fits.0
        (subst (λ (x : List Fit). r.each x n rooms ≡ true) nil2 fits.1) ws bound top q same (map flat_expr (exprs es) ++ []) nil3 (length (map flat_expr (exprs es)))
        (sym (length-map es (λ (e : E). e.0)) ∙ sym (length-map (exprs es) flat_expr)) (λ held. map (f.width_in (f.each (map flat_expr (exprs es) ++ []) p ws).locals) held) (λ xs. length-map xs _) begins under;
  }

  multi_some : (event : ℕ) (es : List E) (d : E) (members : List ℕ) → StmtNode (Stmt-F.Multi event (exprs es) (Some d.0) members)
  multi_some event es d members = record {
    grows = λ ws. multi_grows event es (d ∷ []) (Some (flat_expr d.0)) members refl ws;
    acts = λ fit ws bound begins top under s q same.
        let fits = and_parts _ _ fit in
        let w = core_frame W now me p rooms fs good n in
        let one = values_of (exprs es) w s in
        let ran = value_of d.0 w one.after in
        let e : map expr_fit (exprs es) ++ expr_fit d.0 ∷ [] ≡ map expr_fit (exprs (es ++ d ∷ [])) =
        sym (ap (map expr_fit) (map-append (λ (x : E). x.0) es (d ∷ [])) ∙ map-append expr_fit (exprs es) (d.0 ∷ [])) in
        let e2 : map flat_expr (exprs (es ++ d ∷ [])) ≡ map flat_expr (exprs es) ++ flat_expr d.0 ∷ [] = ap (map flat_expr) (map-append (λ (x : E). x.0) es (d ∷ [])) ∙ map-append flat_expr (exprs es) (d.0 ∷ []) in
        multi_acts event es (d ∷ []) true members ran.gives.value (stmt_meaning (Stmt-F.Multi event (exprs es) (Some d.0) members) w s) s (
          ap (λ (c : List ℕ). record { gives = tt; after = record ran.after { outs = ran.after.outs ++ map (generated event one.gives ran.gives.value) (map At members) }; calls = one.calls ++ c }) (append-nil (ran.calls ++ [])),
          λ b xs h. let n4 = length-append one.gives (ran.gives ∷ []) in
              ap (λ (x : Bits). x.value) (h (length one.gives) (omega arith) ∙ get_or_at one.gives ran.gives [] nothing (length one.gives) refl),
        ) fits.0
        (subst (λ (x : List Fit). r.each x n rooms ≡ true) e fits.1) ws bound top q same (map flat_expr (exprs es) ++ flat_expr d.0 ∷ []) e2 (length (map flat_expr (exprs es)))
        (sym (length-map es (λ (x : E). x.0)) ∙ sym (length-map (exprs es) flat_expr)) (λ held. map (f.width_in (f.each (map flat_expr (exprs es) ++ flat_expr d.0 ∷ []) p ws).locals) held) (λ xs. length-map xs _) begins under;
  }

  pub stmt_level : (y : Stmt-F E S T) → StmtNode (stmt_tree y)
  stmt_level (Stmt-F.Assign i e) = record {
    grows = λ ws. e.1.grows ws;
    acts = λ fit ws bound begins top under s q same.
        let fits = and_parts _ _ fit in
        let one = e.1.acts fits.1 ws bound begins top under s q same in
        let first = flat_expr e.0 p ws in
        let l = begins_length ws first.locals (e.1.grows ws) in
        let l2 = begins_length first.locals W begins in
        let small = ltb-true i n fits.0 in
        single (length first.locals) top q _ _ (record {
          gives = refl;
          calls = ap (λ (c : List ℕ). c ++ []) one.calls;
          after = assigned (length first.locals) top _ _ i _ _ small one.gives (omega arith) l2 one.after;
          beyond = λ k h. get_or-set_other _ (p.first + i) k _ nothing (omega arith) ∙ one.beyond k h;
        });
  }
  stmt_level (Stmt-F.Drop e) = record {
    grows = λ ws. e.1.grows ws;
    acts = λ fit ws bound begins top under s q same. let one = e.1.acts (and_parts _ _ fit).0 ws bound begins top under s q same in
        single (length (flat_expr e.0 p ws).locals) top q _ _ (record { gives = refl; calls = ap (λ (c : List ℕ). c ++ []) one.calls; after = one.after; beyond = one.beyond });
  }
  stmt_level (Stmt-F.If e es gs) = if_level e es gs
  stmt_level (Stmt-F.Gen event es None None delay_first) = gen_level event es None None delay_first
  stmt_level (Stmt-F.Gen event es None (Some t) delay_first) = gen_level event es None (Some t) delay_first
  stmt_level (Stmt-F.Gen event es (Some d) None delay_first) = gen_level event es (Some d) None delay_first
  stmt_level (Stmt-F.Gen event es (Some d) (Some t) delay_first) = gen_level event es (Some d) (Some t) delay_first
  stmt_level (Stmt-F.Multi event es None members) = multi_none event es members
  stmt_level (Stmt-F.Multi event es (Some d) members) = multi_some event es d members
  stmt_level (Stmt-F.Say form es) = record {
    grows = λ ws. each_grows es ws;
    acts = λ fit ws bound begins top under s q same. let one = each_acts es fit ws bound begins top under s q same in
        let next = length (f.each (map flat_expr (exprs es)) p ws).locals in
        single next top q _ _ (record {
          gives = refl;
          calls = ap (λ (c : List ℕ). c ++ []) one.calls;
          after = sent next top _ _ _ _ (ap (λ (vs : List Bits). out.Say form (numbers vs) ∷ []) one.gives) one.after;
          beyond = one.beyond;
        });
  }
  stmt_level (Stmt-F.Return None) = record { grows = λ ws. begins_self ws; acts = λ fit ws bound begins top under s q same. record { gives = refl; calls = refl; after = same; beyond = λ k h. refl } }
  stmt_level (Stmt-F.Return (Some e)) = record {
    grows = λ ws. e.1.grows ws;
    acts = λ fit ws bound begins top under s q same. let one = e.1.acts (and_parts _ _ fit).0 ws bound begins top under s q same in
        single (length (flat_expr e.0 p ws).locals) top q _ _ (record {
          gives = refl;
          calls = ap (λ (c : List ℕ). c ++ []) one.calls;
          after = record { cells = one.after.cells; outs = one.after.outs; answer = one.gives; count = one.after.count; long = one.after.long; own = one.after.own; rest = one.after.rest };
          beyond = one.beyond;
        });
  }
