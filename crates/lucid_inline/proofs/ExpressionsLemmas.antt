-- The flat form of each expression, made of those of its operands.
use Rattle.std.proofs.Common.{◌≡◌, ℕ, suc, ◌+◌, List, [], ◌∷◌, ◌++◌, length, map, drop, reverse, refl, sym, ap, ap₂, ◌∙◌, append_assoc}
use Rattle.std.specs.Prelude.{slice_get}
use Rattle.std.proofs.lemmas.List.{length-map, reverse-append}
use Rattle.lucid_base.specs.declared.array.ArrayName.{ArrayName}
use Rattle.lucid_core.specs.declared.body.Expr.{Expr}
use Rattle.lucid_core.specs.declared.body.Stmt.{Stmt}
use Rattle.lucid_core.specs.declared.body.Touch.{Touch, out-Touch, roll-out-Touch}
use Rattle.lucid_core.specs.declared.body.Expr.TheOpen.{Expr-F}
use Rattle.lucid_core.specs.declared.body.Expr.TheViews.{roll-Expr}
use Rattle.lucid_core.specs.declared.body.Expr.TheVariants as e
use Rattle.lucid_core.specs.declared.body.Expr.TheFolds.{fold-roll-Expr, fold-roll-Touch, map-Expr}
use Rattle.lucid_core.specs.Computations.{array_of}
use Rattle.lucid_inline_spec.specs.Flat.{Flatten, Flattened, Site, each, expr_node, expr_step, flat_expr, flat_stmt, flat_touch, puts_of, stmt_step, touch_step}
use Rattle.lucid_inline.specs.Bodies.{all_valued, built, last, place, touched, valued, with_call, with_touch}
use Rattle.lucid_inline.specs.Sites.{called, flattened}
use Rattle.lucid_inline.specs.declared.machine.Machine.{Machine}
use Rattle.lucid_inline.specs.declared.task.Node.TheVariants.{Un, Bin, Cmp, Cast, Hash}
use Rattle.lucid_inline.proofs.StackLemmas.{drop_reverse, take_reverse}

abbrev Part : Type 0
Part = Expr-F Expr Stmt Touch

abbrev parts_of : Part → Expr-F (Flatten Expr) (Flatten (List Stmt)) (Flatten Touch)
parts_of y = map-Expr Expr Stmt Touch (Flatten Expr) (Flatten (List Stmt)) (Flatten Touch) flat_expr flat_stmt flat_touch y

-- A list has as many flat forms.
length-each : (ts : List (Flatten Expr)) (p : Site) (ws : List ℕ) → length (each ts p ws).value ≡ length ts
length-each [] p ws = refl
length-each (t ∷ ts) p ws = ap suc (length-each ts p (t p ws).locals)

-- An expression that is made of these parts.
expr_is : (p : Site) (ws us : List ℕ) (y given : Part) (x made : Expr) → roll-Expr y ≡ x → roll-Expr given ≡ made → flattened given us ≡ expr_node (parts_of y) p ws → flattened made us ≡ flat_expr x p ws
expr_is p ws us y given x made is rolls h =
    ap (λ (q : Expr). flattened q us) (sym rolls)
    ∙ ap (λ (m : Flattened Part). flattened (roll-Expr m.value) m.locals) h
    ∙ sym (ap (λ (t : Flatten Expr). t p ws) (ap flat_expr (sym is) ∙ fold-roll-Expr (Flatten Expr) (Flatten (List Stmt)) (Flatten Touch) expr_step stmt_step touch_step y))

-- The machine with this expression as the last operand, and these locals.
abbrev with_operand : Machine → List Expr → Flattened Expr → Machine
with_operand m made r = record m { locals = r.locals; operands = r.value ∷ made }

module _ (m : Machine) where
  operand_is : (x made : Expr) (us : List ℕ) → flattened made us ≡ flat_expr x (place m) m.locals → with_operand m m.operands (flattened made us) ≡ valued x m
  operand_is x made us h = ap (with_operand m m.operands) h

  pub fixed_valued : (n : _) → record m { operands = e.Fixed n ∷ m.operands } ≡ valued (e.Fixed n) m
  fixed_valued n = operand_is (e.Fixed n) (e.Fixed n) m.locals (expr_is (place m) m.locals m.locals (Expr-F.Fixed n) (Expr-F.Fixed n) (e.Fixed n) (e.Fixed n) (e.rolls-Fixed n) (e.rolls-Fixed n) refl)

  pub local_valued : (i : ℕ) → record m { operands = e.Local (m.first + i) ∷ m.operands } ≡ valued (e.Local i) m
  local_valued i = operand_is (e.Local i) (e.Local (m.first + i)) m.locals (expr_is (place m) m.locals m.locals (Expr-F.Local i) (Expr-F.Local (m.first + i)) (e.Local i) (e.Local (m.first + i)) (e.rolls-Local i) (e.rolls-Local (m.first + i)) refl)

  pub now_valued : record m { operands = e.Now ∷ m.operands } ≡ valued e.Now m
  now_valued = operand_is e.Now e.Now m.locals (expr_is (place m) m.locals m.locals Expr-F.Now Expr-F.Now e.Now e.Now e.rolls-Now e.rolls-Now refl)

  pub me_valued : record m { operands = e.Me ∷ m.operands } ≡ valued e.Me m
  me_valued = operand_is e.Me e.Me m.locals (expr_is (place m) m.locals m.locals Expr-F.Me Expr-F.Me e.Me e.Me e.rolls-Me e.rolls-Me refl)

  pub inlined_valued : (given : _) (ss : List Stmt) → record m { operands = e.Inlined [] [] ∷ m.operands } ≡ valued (e.Inlined given ss) m
  inlined_valued given ss = operand_is (e.Inlined given ss) (e.Inlined [] []) m.locals (expr_is (place m) m.locals m.locals (Expr-F.Inlined given ss) (Expr-F.Inlined [] []) (e.Inlined given ss) (e.Inlined [] []) (e.rolls-Inlined given ss) (e.rolls-Inlined [] []) refl)

  pub un_valued : (op : _) (x : Expr) → (let after = valued x m in record after { operands = built after.arrays (Un op) after.operands }) ≡ valued (e.Un op x) m
  un_valued op x =
      let r = flat_expr x (place m) m.locals in
      operand_is (e.Un op x) (e.Un op r.value) r.locals (expr_is (place m) m.locals r.locals (Expr-F.Un op x) (Expr-F.Un op r.value) (e.Un op x) (e.Un op r.value) (e.rolls-Un op x) (e.rolls-Un op r.value) refl)

  pub cast_valued : (w : _) (x : Expr) → (let after = valued x m in record after { operands = built after.arrays (Cast w) after.operands }) ≡ valued (e.Cast w x) m
  cast_valued w x =
      let r = flat_expr x (place m) m.locals in
      operand_is (e.Cast w x) (e.Cast w r.value) r.locals (expr_is (place m) m.locals r.locals (Expr-F.Cast w x) (Expr-F.Cast w r.value) (e.Cast w x) (e.Cast w r.value) (e.rolls-Cast w x) (e.rolls-Cast w r.value) refl)

  pub bin_valued : (op : _) (x y : Expr) → (let after = valued y (valued x m) in record after { operands = built after.arrays (Bin op) after.operands }) ≡ valued (e.Bin op x y) m
  bin_valued op x y =
      let r = flat_expr x (place m) m.locals in
      let q = flat_expr y (place m) r.locals in
      operand_is (e.Bin op x y) (e.Bin op r.value q.value) q.locals (expr_is (place m) m.locals q.locals (Expr-F.Bin op x y) (Expr-F.Bin op r.value q.value) (e.Bin op x y) (e.Bin op r.value q.value) (e.rolls-Bin op x y) (e.rolls-Bin op r.value q.value) refl)

  pub cmp_valued : (op : _) (x y : Expr) → (let after = valued y (valued x m) in record after { operands = built after.arrays (Cmp op) after.operands }) ≡ valued (e.Cmp op x y) m
  cmp_valued op x y =
      let r = flat_expr x (place m) m.locals in
      let q = flat_expr y (place m) r.locals in
      operand_is (e.Cmp op x y) (e.Cmp op r.value q.value) q.locals (expr_is (place m) m.locals q.locals (Expr-F.Cmp op x y) (Expr-F.Cmp op r.value q.value) (e.Cmp op x y) (e.Cmp op r.value q.value) (e.rolls-Cmp op x y) (e.rolls-Cmp op r.value q.value) refl)

  -- ---- lists

  pub values_next : (x : Expr) (rest : List Expr) → all_valued rest (valued x m) ≡ all_valued (x ∷ rest) m
  values_next x rest =
      let r = flat_expr x (place m) m.locals in
      let q = each (map flat_expr rest) (place m) r.locals in
      ap (λ (made : List Expr). record m { locals = q.locals; operands = made }) (sym (append_assoc (reverse q.value) (r.value ∷ []) m.operands) ∙ ap (λ (ys : List Expr). ys ++ m.operands) (sym (reverse-append (r.value ∷ []) q.value)))

  -- The last operands are those that were made of a list.
  pub last_is : (xs : List Expr) (n : ℕ) → n ≡ length xs → last n (all_valued xs m).operands ≡ (each (map flat_expr xs) (place m) m.locals).value
  last_is xs n is = take_reverse (each (map flat_expr xs) (place m) m.locals).value m.operands n (length-each (map flat_expr xs) (place m) m.locals ∙ length-map xs flat_expr ∙ sym is)

  pub rest_is : (xs : List Expr) (n : ℕ) → n ≡ length xs → drop n (all_valued xs m).operands ≡ m.operands
  rest_is xs n is = drop_reverse (each (map flat_expr xs) (place m) m.locals).value m.operands n (length-each (map flat_expr xs) (place m) m.locals ∙ length-map xs flat_expr ∙ sym is)

  pub hash_valued : (w : _) (n : ℕ) (xs : List Expr) → n ≡ length xs → (let after = all_valued xs m in record after { operands = built after.arrays (Hash w n) after.operands }) ≡ valued (e.Hash w xs) m
  hash_valued w n xs is =
      let r = each (map flat_expr xs) (place m) m.locals in
      ap₂ (λ (args made : List Expr). record m { locals = r.locals; operands = e.Hash w args ∷ made }) (last_is xs n is) (rest_is xs n is)
      ∙ operand_is (e.Hash w xs) (e.Hash w r.value) r.locals (expr_is (place m) m.locals r.locals (Expr-F.Hash w xs) (Expr-F.Hash w r.value) (e.Hash w xs) (e.Hash w r.value) (e.rolls-Hash w xs) (e.rolls-Hash w r.value) refl)

  -- ---- calls

  pub array_valued : (t : Touch) → (let after = valued (out-Touch t).set_arg (valued (out-Touch t).get_arg (valued (out-Touch t).index m)) in record after { operands = with_touch after.arrays t after.operands }) ≡ valued (e.Array t) m
  array_valued t =
      let i = flat_expr (out-Touch t).index (place m) m.locals in
      let g = flat_expr (out-Touch t).get_arg (place m) i.locals in
      let v = flat_expr (out-Touch t).set_arg (place m) g.locals in
      let made = touched m.arrays t i.value g.value v.value in
      let folds : flattened made v.locals ≡ flat_touch t (place m) m.locals = sym (ap (λ (f : Flatten Touch). f (place m) m.locals) (ap flat_touch (sym (roll-out-Touch t)) ∙ fold-roll-Touch (Flatten Expr) (Flatten (List Stmt)) (Flatten Touch) expr_step stmt_step touch_step (out-Touch t))) in
      operand_is (e.Array t) (e.Array made) v.locals
      (expr_is (place m) m.locals v.locals (Expr-F.Array t) (Expr-F.Array made) (e.Array t) (e.Array made) (e.rolls-Array t) (e.rolls-Array made)
      (ap (λ (q : Flattened Touch). flattened (Expr-F.Array q.value) q.locals) folds))

  pub fun_valued : (k n : ℕ) (names : List ArrayName) (xs : List Expr) → n ≡ length xs → with_call k names n (all_valued xs m) ≡ valued (e.Fun k names xs) m
  fun_valued k n names xs is =
      let r = each (map flat_expr xs) (place m) m.locals in
      ap₂ (λ (args made : List Expr). with_operand m made (called (slice_get (puts_of m.funs.now) k) (map (array_of m.arrays) names) args r.locals)) (last_is xs n is) (rest_is xs n is)
      ∙ sym (ap (λ (t : Flatten Expr). with_operand m m.operands (t (place m) m.locals)) (ap flat_expr (sym (e.rolls-Fun k names xs)) ∙ fold-roll-Expr (Flatten Expr) (Flatten (List Stmt)) (Flatten Touch) expr_step stmt_step touch_step (Expr-F.Fun k names xs)))
