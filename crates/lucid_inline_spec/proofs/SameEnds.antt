-- A body ends where its flat form ends.
use Rattle.std.proofs.Common.{◌≡◌, ℕ, zero, suc, ◌+◌, max, Bool, true, false, ◌&&◌, List, [], ◌∷◌, ◌++◌, map, fold, length, slice_get, slice_index, slice_index_or, Option, None, Some, option_map, option_and_then, option_to_list, refl, sym, ◌∙◌, ap, ap₂, subst}
use Rattle.std.specs.List.{enumerate_from, list_all}
use Rattle.std.specs.Option.{option_map_or}
use Rattle.std.proofs.lemmas.Bool.{and_parts}
use Rattle.std.proofs.lemmas.List.{map-append}
use Rattle.lucid_base.specs.Arrays.{name_at}
use Rattle.lucid_base.specs.Bits.{bits_of}
use Rattle.lucid_base.specs.declared.array.ArrayName.{ArrayName}
use Rattle.lucid_base.specs.declared.array.ArrayName.TheVariants.{Global, Param}
use Rattle.lucid_core.specs.declared.body.Expr.{Expr}
use Rattle.lucid_core.specs.declared.body.Stmt.{Stmt}
use Rattle.lucid_core.specs.declared.body.Touch.{Touch}
use Rattle.lucid_core.specs.declared.body.Expr.TheOpen.{Expr-F, Stmt-F, Touch-F}
use Rattle.lucid_core.specs.declared.body.Expr.TheViews.{roll-Expr, roll-Stmt, roll-Touch}
use Rattle.lucid_core.specs.declared.body.Expr.TheFolds.{fold-roll-Expr, fold-roll-Stmt, fold-roll-Touch, map-Expr, map-Stmt, map-Touch}
use Rattle.lucid_core.specs.declared.defs.FunDef.{FunDef}
use Rattle.lucid_core.specs.declared.defs.HandlerDef.{HandlerDef}
use Rattle.lucid_core.specs.Computations.{array_of}
use Rattle.lucid_core.specs.ExamplePrograms.{local}
use Rattle.lucid_effects_spec.specs.Ends as o
use Rattle.lucid_effects_spec.specs.Ends.{FunEnd, Numbering, End, ◌⨾◌, larger, body_end, expr_end, stmt_end, touch_end}
use Rattle.lucid_effects_spec.specs.Evaluation as walk
use Rattle.lucid_core.proofs.Fine.{both_pass}
use Rattle.lucid_core.proofs.Induction.{Cases, body_by}
use Rattle.lucid_inline_spec.specs.Flat as f
use Rattle.lucid_inline_spec.specs.Flat.{Flatten, Flattened, Site, PutIn, flat_expr, flat_stmt, flat_touch}
use Rattle.lucid_inline_spec.proofs.Fit as r
use Rattle.lucid_inline_spec.proofs.Fit.{Fit, expr_fit, stmt_fit, touch_fit}
use Rattle.lucid_inline_spec.proofs.Runs.{funs_fit, rooms_from}

given_array : (arrays : List ℕ) (names : List ArrayName) (i : ℕ) → array_of arrays (slice_index_or names i (Global 0)) ≡ slice_index (map (array_of arrays) names) i
given_array arrays [] i = refl
given_array arrays (x ∷ xs) zero = refl
given_array arrays (x ∷ xs) (suc i) = given_array arrays xs i

ext : {A B : Type 0} {f g : A → B} → ((x : A) → f x ≡ g x) → f ≡ g
ext h = λ i x. h x i

abbrev pub expr_meaning : Expr-F Expr Stmt Touch → End
expr_meaning y = (walk.expr_step o.ends) (map-Expr Expr Stmt Touch End End End expr_end stmt_end touch_end y)

abbrev pub stmt_meaning : Stmt-F Expr Stmt Touch → End
stmt_meaning y = (walk.stmt_step o.ends) (map-Stmt Expr Stmt Touch End End End expr_end stmt_end touch_end y)

abbrev pub touch_meaning : Touch-F Expr Stmt Touch → End
touch_meaning y = (walk.touch_step o.ends) (map-Touch Expr Stmt Touch End End End expr_end stmt_end touch_end y)

abbrev pub ends_of_exprs : List Expr → End
ends_of_exprs es = walk.sequence o.ends (map expr_end es)

given_ends : (b : ℕ) (args : List Expr) → map (λ (g : ℕ × End). g.1) (map (λ (g : ℕ × Expr). (g.0, expr_end g.1)) (enumerate_from b args)) ≡ map expr_end args
given_ends b [] = refl
given_ends b (e ∷ es) = ap (λ (xs : List End). expr_end e ∷ xs) (given_ends (b + 1) es)

assign_ends : (b : ℕ) (args : List Expr) → map stmt_meaning (map (λ (g : ℕ × Expr). Stmt-F.Assign g.0 g.1) (enumerate_from b args)) ≡ map expr_end args
assign_ends b [] = refl
assign_ends b (e ∷ es) = ap (λ (xs : List End). expr_end e ∷ xs) (assign_ends (b + 1) es)

rolled_all : (ys : List (Stmt-F Expr Stmt Touch)) → map stmt_end (map roll-Stmt ys) ≡ map stmt_meaning ys
rolled_all [] = refl
rolled_all (y ∷ ys) = ap₂ (λ (x : End) (xs : List End). x ∷ xs) (fold-roll-Stmt End End End (walk.expr_step o.ends) (walk.stmt_step o.ends) (walk.touch_step o.ends) y) (rolled_all ys)

sequence_append : (fs : List FunEnd) (N : Numbering) (xs ys : List End) (c : ℕ) → walk.sequence o.ends (xs ++ ys) fs N c ≡ (walk.sequence o.ends xs ⨾ walk.sequence o.ends ys) fs N c
sequence_append fs N [] ys c = refl
sequence_append fs N (x ∷ xs) ys c = of (λ d. sequence_append fs N xs ys d) (x fs N c)
  where
    of : ((d : ℕ) → walk.sequence o.ends (xs ++ ys) fs N d ≡ (walk.sequence o.ends xs ⨾ walk.sequence o.ends ys) fs N d) → (z : Option ℕ) → option_and_then (walk.sequence o.ends (xs ++ ys) fs N) z ≡ option_and_then (walk.sequence o.ends ys fs N) (option_and_then (walk.sequence o.ends xs fs N) z)
    of more None = refl
    of more (Some d) = more d

alone : (z : Option ℕ) → option_and_then (λ c. Some c) z ≡ z
alone None = refl
alone (Some d) = refl

local_stays : (i : ℕ) → expr_end (local i) ≡ o.stay
local_stays i = fold-roll-Expr End End End (walk.expr_step o.ends) (walk.stmt_step o.ends) (walk.touch_step o.ends) (Expr-F.Local i)

locals_stay : (fs : List FunEnd) (N : Numbering) (b n c : ℕ) → ends_of_exprs (f.locals_from b n) fs N c ≡ Some c
locals_stay fs N b zero c = refl
locals_stay fs N b (suc n) c = ap (λ (x : End). option_and_then (ends_of_exprs (f.locals_from (b + 1) n) fs N) (x fs N c)) (local_stays b) ∙ locals_stay fs N (b + 1) n c

member_stays : (fs : List FunEnd) (N : Numbering) (event b n : ℕ) (delayed : Bool) (m c : ℕ) → stmt_meaning (f.to_member event b n delayed m) fs N c ≡ Some c
member_stays fs N event b n true m c =
    let fixed : expr_end (roll-Expr (Expr-F.Fixed (bits_of 32 m))) ≡ o.stay = fold-roll-Expr End End End (walk.expr_step o.ends) (walk.stmt_step o.ends) (walk.touch_step o.ends) (Expr-F.Fixed (bits_of 32 m)) in
    ap (option_and_then ((expr_end (roll-Expr (Expr-F.Fixed (bits_of 32 m))) ⨾ expr_end (local (b + n))) fs N)) (locals_stay fs N b n c)
    ∙ ap (λ (x : End). option_and_then (expr_end (local (b + n)) fs N) (x fs N c)) fixed ∙ ap (λ (x : End). x fs N c) (local_stays (b + n))
member_stays fs N event b n false m c =
    let fixed : expr_end (roll-Expr (Expr-F.Fixed (bits_of 32 m))) ≡ o.stay = fold-roll-Expr End End End (walk.expr_step o.ends) (walk.stmt_step o.ends) (walk.touch_step o.ends) (Expr-F.Fixed (bits_of 32 m)) in
    ap (option_and_then ((expr_end (roll-Expr (Expr-F.Fixed (bits_of 32 m))) ⨾ o.stay) fs N)) (locals_stay fs N b n c)
    ∙ ap (λ (x : End). option_and_then (o.stay fs N) (x fs N c)) fixed

members_stay : (fs : List FunEnd) (N : Numbering) (event b n : ℕ) (delayed : Bool) (ms : List ℕ) (c : ℕ) → walk.sequence o.ends (map stmt_meaning (map (f.to_member event b n delayed) ms)) fs N c ≡ Some c
members_stay fs N event b n delayed [] c = refl
members_stay fs N event b n delayed (m ∷ ms) c = ap (option_and_then (walk.sequence o.ends (map stmt_meaning (map (f.to_member event b n delayed) ms)) fs N)) (member_stays fs N event b n delayed m c) ∙ members_stay fs N event b n delayed ms c

module _ (N : Numbering) where
  -- The numbering of a body's names from one of declared arrays, if its parameters denote these arrays.
  abbrev pub through : List ℕ → Numbering
  through arrays = λ y. N (Global (array_of arrays y))

  through_call : (arrays : List ℕ) (names : List ArrayName) → through (map (array_of arrays) names) ≡ (λ y. through arrays (name_at names y))
  through_call arrays names = ext at
    where
      at : (y : ArrayName) → through (map (array_of arrays) names) y ≡ through arrays (name_at names y)
      at (Global a) = refl
      at (Param i) = ap (λ a. N (Global a)) (sym (given_array arrays names i))

  -- Each function ends where its flat form ends.
  abbrev pub AllPut : List PutIn → List FunEnd → Type 0
  AllPut [] [] = Unit {0}
  AllPut [] (g ∷ gs) = ⊥
  AllPut (x ∷ xs) [] = ⊥
  AllPut (x ∷ xs) (g ∷ gs) = ((arrays ws : List ℕ) (c : ℕ) → body_end (x arrays ws).value [] N c ≡ g (through arrays) c) × AllPut xs gs

  put_more : (xs : List PutIn) (gs : List FunEnd) (x : PutIn) (g : FunEnd) → AllPut xs gs → ((arrays ws : List ℕ) (c : ℕ) → body_end (x arrays ws).value [] N c ≡ g (through arrays) c) → AllPut (xs ++ x ∷ []) (gs ++ g ∷ [])
  put_more [] [] x g h one = (one, tt)
  put_more [] (y ∷ gs) x g h one = absurd h
  put_more (y ∷ xs) [] x g h one = absurd h
  put_more (y ∷ xs) (z ∷ gs) x g h one = (h.0, put_more xs gs x g h.1 one)

  module _ (p : Site) (gs : List FunEnd) (ok : AllPut p.funs gs) (n : ℕ) (rooms : List ℕ) where
    abbrev pub Turns : {A : Type 0} → (A → End) → Flatten A → End → Fit → Type 0
    Turns flat t end fit = fit n rooms ≡ true → (ws : List ℕ) (c : ℕ) → flat (t p ws).value [] N c ≡ end gs (through p.arrays) c

    -- One after another.
    alike : (a b A B : End) → ((c : ℕ) → a [] N c ≡ A gs (through p.arrays) c) → ((c : ℕ) → b [] N c ≡ B gs (through p.arrays) c) → (c : ℕ) → (a ⨾ b) [] N c ≡ (A ⨾ B) gs (through p.arrays) c
    alike a b A B h k c = ap (option_and_then (b [] N)) (h c) ∙ of (A gs (through p.arrays) c)
      where
        of : (x : Option ℕ) → option_and_then (b [] N) x ≡ option_and_then (B gs (through p.arrays)) x
        of None = refl
        of (Some d) = k d

    larger_alike : (a b A B : End) → ((c : ℕ) → a [] N c ≡ A gs (through p.arrays) c) → ((c : ℕ) → b [] N c ≡ B gs (through p.arrays) c) → (c : ℕ) → larger a b [] N c ≡ larger A B gs (through p.arrays) c
    larger_alike a b A B h k c = ap₂ (λ (x y : Option ℕ). option_and_then (λ d. option_and_then (λ e. Some (max d e)) y) x) (h c) (k c)

    abbrev pub E : Type 0
    E = (e : Expr) × Turns expr_end (flat_expr e) (expr_end e) (expr_fit e)

    abbrev pub S : Type 0
    S = (e : Stmt) × Turns body_end (flat_stmt e) (stmt_end e) (stmt_fit e)

    abbrev pub T : Type 0
    T = (e : Touch) × Turns touch_end (flat_touch e) (touch_end e) (touch_fit e)

    abbrev exprs : List E → List Expr
    exprs es = map (λ (e : E). e.0) es

    abbrev stmts : List S → List Stmt
    stmts es = map (λ (e : S). e.0) es

    exprs_turn : (es : List E) → Turns {A = List Expr} ends_of_exprs (f.each (map flat_expr (exprs es))) (ends_of_exprs (exprs es)) (r.each (map expr_fit (exprs es)))
    exprs_turn [] h ws c = refl
    exprs_turn (e ∷ es) h ws c =
        let first = flat_expr e.0 p ws in
        let both = and_parts _ _ h in
        alike (expr_end first.value) (ends_of_exprs (f.each (map flat_expr (exprs es)) p first.locals).value) (expr_end e.0) (ends_of_exprs (exprs es)) (e.1 both.0 ws) (exprs_turn es both.1 first.locals) c

    stmts_turn : (es : List S) → Turns {A = List Stmt} body_end (f.block (map flat_stmt (stmts es))) (body_end (stmts es)) (r.each (map stmt_fit (stmts es)))
    stmts_turn [] h ws c = refl
    stmts_turn (e ∷ es) h ws c =
        let first = flat_stmt e.0 p ws in
        let rest = f.block (map flat_stmt (stmts es)) p first.locals in
        let both = and_parts _ _ h in
        ap (λ (xs : List End). walk.sequence o.ends xs [] N c) (map-append stmt_end first.value rest.value) ∙ sequence_append [] N (map stmt_end first.value) (map stmt_end rest.value) c
        ∙ alike (body_end first.value) (body_end rest.value) (stmt_end e.0) (body_end (stmts es)) (e.1 both.0 ws) (stmts_turn es both.1 first.locals) c

    -- A call.
    put_turns : (names : List ArrayName) (args : List Expr) (A : End) → ((c : ℕ) → ends_of_exprs args [] N c ≡ A gs (through p.arrays) c) → (xs : List PutIn) (ys : List FunEnd) → AllPut xs ys → (k : ℕ) (ws : List ℕ) (c : ℕ) →
        expr_meaning (f.put_in (slice_get xs k) (map (array_of p.arrays) names) args ws).value [] N c
        ≡ option_and_then (λ d. option_map_or (λ g. g (λ y. through p.arrays (name_at names y)) d) (slice_get ys k) (Some d)) (A gs (through p.arrays) c)
    put_turns names args A h [] [] all k ws c =
        ap (λ (xs : List End). (walk.sequence o.ends xs ⨾ o.stay) [] N c) (given_ends (length ws) args) ∙ ap (option_and_then (λ d. Some d)) (h c)
    put_turns names args A h [] (g ∷ ys) all k ws c = absurd all
    put_turns names args A h (x ∷ xs) [] all k ws c = absurd all
    put_turns names args A h (x ∷ xs) (g ∷ ys) all (suc k) ws c = put_turns names args A h xs ys all.1 k ws c
    put_turns names args A h (x ∷ xs) (g ∷ ys) all zero ws c =
        let arrays = map (array_of p.arrays) names in
        let body = (x arrays ws).value in
        ap (λ (zs : List End). (walk.sequence o.ends zs ⨾ body_end body) [] N c) (given_ends (length ws) args) ∙ ap (option_and_then (body_end body [] N)) (h c) ∙ of body (all.0 arrays ws) (A gs (through p.arrays) c)
      where
        of : (body : List Stmt) → ((d : ℕ) → body_end body [] N d ≡ g (through (map (array_of p.arrays) names)) d) → (z : Option ℕ) → option_and_then (body_end body [] N) z ≡ option_and_then (g (λ y. through p.arrays (name_at names y))) z
        of body same None = refl
        of body same (Some d) = same d ∙ ap (λ (M : Numbering). g M d) (through_call p.arrays names)

    abbrev pub expr_tree : Expr-F E S T → Expr-F Expr Stmt Touch
    expr_tree = map-Expr E S T Expr Stmt Touch (λ e. e.0) (λ e. e.0) (λ e. e.0)

    abbrev pub touch_tree : Touch-F E S T → Touch-F Expr Stmt Touch
    touch_tree = map-Touch E S T Expr Stmt Touch (λ e. e.0) (λ e. e.0) (λ e. e.0)

    abbrev pub stmt_tree : Stmt-F E S T → Stmt-F Expr Stmt Touch
    stmt_tree = map-Stmt E S T Expr Stmt Touch (λ e. e.0) (λ e. e.0) (λ e. e.0)

    abbrev ExprNode : Expr-F Expr Stmt Touch → Type 0
    ExprNode y = Turns expr_meaning (f.expr_node (map-Expr Expr Stmt Touch (Flatten Expr) (Flatten (List Stmt)) (Flatten Touch) flat_expr flat_stmt flat_touch y)) (expr_meaning y) (r.expr_step (map-Expr Expr Stmt Touch Fit Fit Fit expr_fit stmt_fit touch_fit y))

    abbrev StmtNode : Stmt-F Expr Stmt Touch → Type 0
    StmtNode y = Turns (λ ys. walk.sequence o.ends (map stmt_meaning ys)) (f.stmt_node (map-Stmt Expr Stmt Touch (Flatten Expr) (Flatten (List Stmt)) (Flatten Touch) flat_expr flat_stmt flat_touch y)) (stmt_meaning y) (r.stmt_step (map-Stmt Expr Stmt Touch Fit Fit Fit expr_fit stmt_fit touch_fit y))

    abbrev TouchNode : Touch-F Expr Stmt Touch → Type 0
    TouchNode y = Turns touch_meaning (f.touch_node (map-Touch Expr Stmt Touch (Flatten Expr) (Flatten (List Stmt)) (Flatten Touch) flat_expr flat_stmt flat_touch y)) (touch_meaning y) (r.touch_step (map-Touch Expr Stmt Touch Fit Fit Fit expr_fit stmt_fit touch_fit y))

    expr_level : (y : Expr-F E S T) → ExprNode (expr_tree y)
    expr_level (Expr-F.Fixed b) h ws c = refl
    expr_level (Expr-F.Local i) h ws c = refl
    expr_level Expr-F.Now h ws c = refl
    expr_level Expr-F.Me h ws c = refl
    expr_level (Expr-F.Un op e) h ws c = e.1 (and_parts _ _ h).0 ws c
    expr_level (Expr-F.Bin op e g) h ws c =
        let both = and_parts _ _ h in let first = flat_expr e.0 p ws in
        alike (expr_end first.value) (expr_end (flat_expr g.0 p first.locals).value) (expr_end e.0) (expr_end g.0) (e.1 both.0 ws) (g.1 (and_parts _ _ both.1).0 first.locals) c
    expr_level (Expr-F.Cmp op e g) h ws c =
        let both = and_parts _ _ h in let first = flat_expr e.0 p ws in
        alike (expr_end first.value) (expr_end (flat_expr g.0 p first.locals).value) (expr_end e.0) (expr_end g.0) (e.1 both.0 ws) (g.1 (and_parts _ _ both.1).0 first.locals) c
    expr_level (Expr-F.Cast w e) h ws c = e.1 (and_parts _ _ h).0 ws c
    expr_level (Expr-F.Hash w es) h ws c = exprs_turn es h ws c
    expr_level (Expr-F.Array e) h ws c = e.1 (and_parts _ _ h).0 ws c
    expr_level (Expr-F.Fun k names es) h ws c =
        let args = f.each (map flat_expr (exprs es)) p ws in
        put_turns names args.value (ends_of_exprs (exprs es)) (exprs_turn es (and_parts _ _ h).1 ws) p.funs gs ok k args.locals c
    expr_level (Expr-F.Inlined given es) h ws c = absurd (cc)

    touch_level : (y : Touch-F E S T) → TouchNode (touch_tree y)
    touch_level y h ws c =
        let i = flat_expr y.index.0 p ws in
        let g = flat_expr y.get_arg.0 p i.locals in
        let v = flat_expr y.set_arg.0 p g.locals in
        let one = and_parts _ _ h in
        let two = and_parts _ _ one.1 in
        let three = and_parts _ _ two.1 in
        let last = o.passes (Global (array_of p.arrays y.array)) in
        let end = o.passes y.array in
        alike (expr_end i.value) (expr_end g.value ⨾ expr_end v.value ⨾ last) (expr_end y.index.0) (expr_end y.get_arg.0 ⨾ expr_end y.set_arg.0 ⨾ end) (y.index.1 one.0 ws)
        (alike (expr_end g.value) (expr_end v.value ⨾ last) (expr_end y.get_arg.0) (expr_end y.set_arg.0 ⨾ end) (y.get_arg.1 two.0 i.locals)
        (alike (expr_end v.value) last (expr_end y.set_arg.0) end (y.set_arg.1 three.0 g.locals) (λ d. refl))) c

    optional_turns : (e : Option E) → Turns {A = Option Expr} (λ x. walk.optional o.ends (option_map expr_end x)) (f.optional (option_map (λ (x : E). flat_expr x.0) e)) (walk.optional o.ends (option_map (λ (x : E). expr_end x.0) e)) (r.each (option_to_list (option_map (λ (x : E). expr_fit x.0) e)))
    optional_turns None h ws c = refl
    optional_turns (Some e) h ws c = e.1 (and_parts _ _ h).0 ws c

    gen_meaning : (event : ℕ) (args : List Expr) (delay to : Option Expr) (first : Bool) →
        stmt_meaning (Stmt-F.Gen event args delay to first) ≡ (ends_of_exprs args ⨾ walk.both o.ends first (walk.optional o.ends (option_map expr_end delay)) (walk.optional o.ends (option_map expr_end to)))
    gen_meaning event args None None first = refl
    gen_meaning event args None (Some t) first = refl
    gen_meaning event args (Some d) None first = refl
    gen_meaning event args (Some d) (Some t) first = refl

    both_turn : (first : Bool) (delay to : Option E) → Turns {A = Option Expr × Option Expr} (λ x. walk.both o.ends first (walk.optional o.ends (option_map expr_end x.0)) (walk.optional o.ends (option_map expr_end x.1)))
        (f.both first (f.optional (option_map (λ (x : E). flat_expr x.0) delay)) (f.optional (option_map (λ (x : E). flat_expr x.0) to)))
        (walk.both o.ends first (walk.optional o.ends (option_map (λ (x : E). expr_end x.0) delay)) (walk.optional o.ends (option_map (λ (x : E). expr_end x.0) to)))
        (λ m q. r.each (option_to_list (option_map (λ (x : E). expr_fit x.0) delay)) m q && r.each (option_to_list (option_map (λ (x : E). expr_fit x.0) to)) m q)
    both_turn true delay to h ws c =
        let parts = and_parts _ _ h in
        let one = f.optional (option_map (λ (x : E). flat_expr x.0) delay) p ws in
        let two = f.optional (option_map (λ (x : E). flat_expr x.0) to) p one.locals in
        alike (walk.optional o.ends (option_map expr_end one.value)) (walk.optional o.ends (option_map expr_end two.value)) (walk.optional o.ends (option_map (λ (x : E). expr_end x.0) delay)) (walk.optional o.ends (option_map (λ (x : E). expr_end x.0) to))
        (optional_turns delay parts.0 ws) (optional_turns to parts.1 one.locals) c
    both_turn false delay to h ws c =
        let parts = and_parts _ _ h in
        let two = f.optional (option_map (λ (x : E). flat_expr x.0) to) p ws in
        let one = f.optional (option_map (λ (x : E). flat_expr x.0) delay) p two.locals in
        alike (walk.optional o.ends (option_map expr_end two.value)) (walk.optional o.ends (option_map expr_end one.value)) (walk.optional o.ends (option_map (λ (x : E). expr_end x.0) to)) (walk.optional o.ends (option_map (λ (x : E). expr_end x.0) delay))
        (optional_turns to parts.1 ws) (optional_turns delay parts.0 two.locals) c

    gen_turns : (event : ℕ) (es : List E) (delay to : Option E) (first : Bool) → Turns (λ ys. walk.sequence o.ends (map stmt_meaning ys))
        (f.stmt_node (Stmt-F.Gen event (map flat_expr (exprs es)) (option_map (λ (x : E). flat_expr x.0) delay) (option_map (λ (x : E). flat_expr x.0) to) first))
        ((walk.stmt_step o.ends) (Stmt-F.Gen event (map expr_end (exprs es)) (option_map (λ (x : E). expr_end x.0) delay) (option_map (λ (x : E). expr_end x.0) to) first))
        (r.stmt_step (Stmt-F.Gen event (map expr_fit (exprs es)) (option_map (λ (x : E). expr_fit x.0) delay) (option_map (λ (x : E). expr_fit x.0) to) first))
    gen_turns event es delay to first h ws c =
        let ds = option_to_list (option_map (λ (x : E). expr_fit x.0) delay) in
        let ts = option_to_list (option_map (λ (x : E). expr_fit x.0) to) in
        let parts = both_pass (λ (test : Fit). test n rooms) (map expr_fit (exprs es) ++ ds) ts h in
        let more = both_pass (λ (test : Fit). test n rooms) (map expr_fit (exprs es)) ds parts.0 in
        let args = f.each (map flat_expr (exprs es)) p ws in
        let given = f.both first (f.optional (option_map (λ (x : E). flat_expr x.0) delay)) (f.optional (option_map (λ (x : E). flat_expr x.0) to)) p args.locals in
        let end = walk.both o.ends first (walk.optional o.ends (option_map (λ (x : E). expr_end x.0) delay)) (walk.optional o.ends (option_map (λ (x : E). expr_end x.0) to)) in
        alone (stmt_meaning (Stmt-F.Gen event args.value given.value.0 given.value.1 first) [] N c)
        ∙ ap (λ (x : End). x [] N c) (gen_meaning event args.value given.value.0 given.value.1 first)
        ∙ alike (ends_of_exprs args.value) (walk.both o.ends first (walk.optional o.ends (option_map expr_end given.value.0)) (walk.optional o.ends (option_map expr_end given.value.1))) (ends_of_exprs (exprs es)) end
        (exprs_turn es more.0 ws) (both_turn first delay to (both_true more.1 parts.1) args.locals) c
      where
        both_true : {a b : Bool} → a ≡ true → b ≡ true → (a && b) ≡ true
        both_true {a} {b} x y = ap₂ (λ (s t : Bool). s && t) x y

    -- A group: its arguments are held, and its members call nothing.
    multi_turns : (event : ℕ) (es : List E) (end : End) (n_args : ℕ) (delayed : Bool) (members : List ℕ) (ws : List ℕ) (held : List Expr) → ((c : ℕ) → ends_of_exprs held [] N c ≡ end gs (through p.arrays) c) → (c : ℕ) →
        walk.sequence o.ends (map stmt_meaning (map (λ (g : ℕ × Expr). Stmt-F.Assign g.0 g.1) (enumerate_from (length ws) held) ++ map (f.to_member event (length ws) n_args delayed) members)) [] N c ≡ end gs (through p.arrays) c
    multi_turns event es end n_args delayed members ws held same c =
        let assigns = map (λ (g : ℕ × Expr). Stmt-F.Assign g.0 g.1) (enumerate_from (length ws) held) in
        let sends = map (f.to_member event (length ws) n_args delayed) members in
        ap (λ (xs : List End). walk.sequence o.ends xs [] N c) (map-append stmt_meaning assigns sends) ∙ sequence_append [] N (map stmt_meaning assigns) (map stmt_meaning sends) c
        ∙ ap (λ (xs : List End). option_and_then (walk.sequence o.ends (map stmt_meaning sends) [] N) (walk.sequence o.ends xs [] N c)) (assign_ends (length ws) held)
        ∙ quiet (ends_of_exprs held [] N c) ∙ same c
      where
        quiet : (z : Option ℕ) → option_and_then (walk.sequence o.ends (map stmt_meaning (map (f.to_member event (length ws) n_args delayed) members)) [] N) z ≡ z
        quiet None = refl
        quiet (Some d) = members_stay [] N event (length ws) n_args delayed members d

    joined_flat : (es ds : List E) → map flat_expr (exprs (es ++ ds)) ≡ map flat_expr (exprs es) ++ map flat_expr (exprs ds)
    joined_flat es ds = ap (map flat_expr) (map-append (λ (e : E). e.0) es ds) ∙ map-append flat_expr (exprs es) (exprs ds)

    joined_fit : (es ds : List E) → map expr_fit (exprs (es ++ ds)) ≡ map expr_fit (exprs es) ++ map expr_fit (exprs ds)
    joined_fit es ds = ap (map expr_fit) (map-append (λ (e : E). e.0) es ds) ∙ map-append expr_fit (exprs es) (exprs ds)

    joined_end : (es ds : List E) → map expr_end (exprs (es ++ ds)) ≡ map expr_end (exprs es) ++ map expr_end (exprs ds)
    joined_end es ds = ap (map expr_end) (map-append (λ (e : E). e.0) es ds) ∙ map-append expr_end (exprs es) (exprs ds)

    stmt_level : (y : Stmt-F E S T) → StmtNode (stmt_tree y)
    stmt_level (Stmt-F.Assign i e) h ws c = alone (expr_end (flat_expr e.0 p ws).value [] N c) ∙ e.1 (and_parts _ _ h).1 ws c
    stmt_level (Stmt-F.Drop e) h ws c = alone (expr_end (flat_expr e.0 p ws).value [] N c) ∙ e.1 (and_parts _ _ h).0 ws c
    stmt_level (Stmt-F.If e ss ts) h ws c =
        let both = and_parts _ _ h in
        let parts = both_pass (λ (test : Fit). test n rooms) (map stmt_fit (stmts ss)) (map stmt_fit (stmts ts)) both.1 in
        let test = flat_expr e.0 p ws in
        let left = f.block (map flat_stmt (stmts ss)) p test.locals in
        let right = f.block (map flat_stmt (stmts ts)) p left.locals in
        alone ((expr_end test.value ⨾ larger (body_end left.value) (body_end right.value)) [] N c)
        ∙ alike (expr_end test.value) (larger (body_end left.value) (body_end right.value)) (expr_end e.0) (larger (body_end (stmts ss)) (body_end (stmts ts))) (e.1 both.0 ws)
        (larger_alike (body_end left.value) (body_end right.value) (body_end (stmts ss)) (body_end (stmts ts)) (stmts_turn ss parts.0 test.locals) (stmts_turn ts parts.1 left.locals)) c
    stmt_level (Stmt-F.Gen event es None None first) h ws c = gen_turns event es None None first h ws c
    stmt_level (Stmt-F.Gen event es None (Some t) first) h ws c = gen_turns event es None (Some t) first h ws c
    stmt_level (Stmt-F.Gen event es (Some e) None first) h ws c = gen_turns event es (Some e) None first h ws c
    stmt_level (Stmt-F.Gen event es (Some e) (Some t) first) h ws c = gen_turns event es (Some e) (Some t) first h ws c
    stmt_level (Stmt-F.Multi event es None members) h ws c =
        let args : List E = es ++ [] in
        let parts = and_parts _ _ h in
        let flats : map flat_expr (exprs (es ++ [])) ≡ map flat_expr (exprs es) ++ [] = joined_flat es [] in
        let fits : map expr_fit (exprs (es ++ [])) ≡ map expr_fit (exprs es) ++ [] = joined_fit es [] in
        let turned = exprs_turn args (subst (λ (xs : List Fit). list_all (λ (test : Fit). test n rooms) xs ≡ true) (sym fits) parts.1) ws in
        multi_turns event es (ends_of_exprs (exprs es) ⨾ o.stay) (length (map flat_expr (exprs es))) false members (f.each (map flat_expr (exprs es) ++ []) p ws).locals (f.each (map flat_expr (exprs es) ++ []) p ws).value
        (λ d. subst (λ (xs : List (Flatten Expr)). ends_of_exprs (f.each xs p ws).value [] N d ≡ ends_of_exprs (exprs args) gs (through p.arrays) d) flats (turned d) ∙ ap (λ (xs : List End). walk.sequence o.ends xs gs (through p.arrays) d) (joined_end es []) ∙ sequence_append gs (through p.arrays) (map expr_end (exprs es)) [] d) c
    stmt_level (Stmt-F.Multi event es (Some e) members) h ws c =
        let args : List E = es ++ e ∷ [] in
        let parts = and_parts _ _ h in
        let flats : map flat_expr (exprs (es ++ e ∷ [])) ≡ map flat_expr (exprs es) ++ flat_expr e.0 ∷ [] = joined_flat es (e ∷ []) in
        let fits : map expr_fit (exprs (es ++ e ∷ [])) ≡ map expr_fit (exprs es) ++ expr_fit e.0 ∷ [] = joined_fit es (e ∷ []) in
        let turned = exprs_turn args (subst (λ (xs : List Fit). list_all (λ (test : Fit). test n rooms) xs ≡ true) (sym fits) parts.1) ws in
        multi_turns event es (ends_of_exprs (exprs es) ⨾ expr_end e.0) (length (map flat_expr (exprs es))) true members (f.each (map flat_expr (exprs es) ++ flat_expr e.0 ∷ []) p ws).locals (f.each (map flat_expr (exprs es) ++ flat_expr e.0 ∷ []) p ws).value
        (λ d. subst (λ (xs : List (Flatten Expr)). ends_of_exprs (f.each xs p ws).value [] N d ≡ ends_of_exprs (exprs args) gs (through p.arrays) d) flats (turned d) ∙ ap (λ (xs : List End). walk.sequence o.ends xs gs (through p.arrays) d) (joined_end es (e ∷ [])) ∙ sequence_append gs (through p.arrays) (map expr_end (exprs es)) (expr_end e.0 ∷ []) d
        ∙ last (ends_of_exprs (exprs es) gs (through p.arrays) d)) c
      where
        last : (z : Option ℕ) → option_and_then ((expr_end e.0 ⨾ o.stay) gs (through p.arrays)) z ≡ option_and_then (expr_end e.0 gs (through p.arrays)) z
        last None = refl
        last (Some d) = alone (expr_end e.0 gs (through p.arrays) d)
    stmt_level (Stmt-F.Say form es) h ws c = alone (ends_of_exprs (f.each (map flat_expr (exprs es)) p ws).value [] N c) ∙ exprs_turn es h ws c
    stmt_level (Stmt-F.Return None) h ws c = refl
    stmt_level (Stmt-F.Return (Some e)) h ws c = alone (expr_end (flat_expr e.0 p ws).value [] N c) ∙ e.1 (and_parts _ _ h).0 ws c

    -- The flat form of a node is rolled up.
    along : {A : Type 0} (flat : A → End) (t u : Flatten A) (e g : End) (q s : Fit) → t ≡ u → e ≡ g → q ≡ s → Turns flat u g s → Turns flat t e q
    along flat t u e g q s a b c h = subst (λ (x : Flatten _). Turns flat x e q) (sym a) (subst (λ (x : End). Turns flat u x q) (sym b) (subst (λ (x : Fit). Turns flat u g x) (sym c) h))

    of_expr : (y : Expr-F E S T) → Turns expr_end (flat_expr (roll-Expr (expr_tree y))) (expr_end (roll-Expr (expr_tree y))) (expr_fit (roll-Expr (expr_tree y)))
    of_expr y = let tree = expr_tree y in along expr_end _ _ _ _ _ _
        (fold-roll-Expr (Flatten Expr) (Flatten (List Stmt)) (Flatten Touch) f.expr_step f.stmt_step f.touch_step tree) (fold-roll-Expr End End End (walk.expr_step o.ends) (walk.stmt_step o.ends) (walk.touch_step o.ends) tree) (fold-roll-Expr Fit Fit Fit r.expr_step r.stmt_step r.touch_step tree)
        (λ h ws c. ap (λ (x : End). x [] N c) (fold-roll-Expr End End End (walk.expr_step o.ends) (walk.stmt_step o.ends) (walk.touch_step o.ends) (f.expr_node (map-Expr Expr Stmt Touch (Flatten Expr) (Flatten (List Stmt)) (Flatten Touch) flat_expr flat_stmt flat_touch tree) p ws).value) ∙ expr_level y h ws c)

    of_touch : (y : Touch-F E S T) → Turns touch_end (flat_touch (roll-Touch (touch_tree y))) (touch_end (roll-Touch (touch_tree y))) (touch_fit (roll-Touch (touch_tree y)))
    of_touch y = let tree = touch_tree y in along touch_end _ _ _ _ _ _
        (fold-roll-Touch (Flatten Expr) (Flatten (List Stmt)) (Flatten Touch) f.expr_step f.stmt_step f.touch_step tree) (fold-roll-Touch End End End (walk.expr_step o.ends) (walk.stmt_step o.ends) (walk.touch_step o.ends) tree) (fold-roll-Touch Fit Fit Fit r.expr_step r.stmt_step r.touch_step tree)
        (λ h ws c. ap (λ (x : End). x [] N c) (fold-roll-Touch End End End (walk.expr_step o.ends) (walk.stmt_step o.ends) (walk.touch_step o.ends) (f.touch_node (map-Touch Expr Stmt Touch (Flatten Expr) (Flatten (List Stmt)) (Flatten Touch) flat_expr flat_stmt flat_touch tree) p ws).value) ∙ touch_level y h ws c)

    of_stmt : (y : Stmt-F E S T) → Turns body_end (flat_stmt (roll-Stmt (stmt_tree y))) (stmt_end (roll-Stmt (stmt_tree y))) (stmt_fit (roll-Stmt (stmt_tree y)))
    of_stmt y = let tree = stmt_tree y in along body_end _ _ _ _ _ _
        (fold-roll-Stmt (Flatten Expr) (Flatten (List Stmt)) (Flatten Touch) f.expr_step f.stmt_step f.touch_step tree) (fold-roll-Stmt End End End (walk.expr_step o.ends) (walk.stmt_step o.ends) (walk.touch_step o.ends) tree) (fold-roll-Stmt Fit Fit Fit r.expr_step r.stmt_step r.touch_step tree)
        (λ h ws c. ap (λ (xs : List End). walk.sequence o.ends xs [] N c) (rolled_all (f.stmt_node (map-Stmt Expr Stmt Touch (Flatten Expr) (Flatten (List Stmt)) (Flatten Touch) flat_expr flat_stmt flat_touch tree) p ws).value) ∙ stmt_level y h ws c)

    by_nodes : Cases (λ e. Turns expr_end (flat_expr e) (expr_end e) (expr_fit e)) (λ e. Turns body_end (flat_stmt e) (stmt_end e) (stmt_fit e)) (λ e. Turns touch_end (flat_touch e) (touch_end e) (touch_fit e))
    by_nodes = record { expr = of_expr; stmt = of_stmt; touch = of_touch }

    pub body_turns : (ss : List Stmt) → Turns {A = List Stmt} body_end (f.block (map flat_stmt ss)) (body_end ss) (r.each (map stmt_fit ss))
    body_turns = body_by (λ (q : List Stmt). Turns {A = List Stmt} body_end (f.block (map flat_stmt q)) (body_end q) (r.each (map stmt_fit q))) by_nodes stmts_turn

  -- Functions, each behind those before it.
  funs_turn : (rooms : List ℕ) (puts : List PutIn) (gs : List FunEnd) (ds : List FunDef) → AllPut puts gs → funs_fit rooms ds ≡ true →
      AllPut (fold (λ before d. before ++ f.put_of before d ∷ []) puts ds) (fold (λ before d. before ++ body_end d.body before ∷ []) gs ds)
  funs_turn rooms puts gs [] all h = all
  funs_turn rooms puts gs (d ∷ ds) all h =
      let fits = and_parts _ _ h in
      let own = and_parts _ _ fits.0 in
      funs_turn (rooms ++ d.params ∷ []) (puts ++ f.put_of puts d ∷ []) (gs ++ body_end d.body gs ∷ []) ds
      (put_more puts gs (f.put_of puts d) (body_end d.body gs) all
      (λ arrays ws c. body_turns (record { arrays = arrays; first = length ws; funs = puts }) gs all (length d.locals) rooms d.body own.1 (ws ++ d.locals) c)) fits.1

  -- A handler's body ends where its flat form ends, under numbers of declared arrays.
  pub handler_turns : (funs : List FunDef) (h : HandlerDef) → funs_fit [] funs ≡ true → r.each (map stmt_fit h.body) (length h.locals) (rooms_from [] funs) ≡ true → (c : ℕ) →
      body_end (f.flat_handler funs h).body [] N c ≡ body_end h.body (o.ends_of funs) (through []) c
  handler_turns funs h fits fit c =
      body_turns (record { arrays = []; first = 0; funs = f.puts_of funs }) (o.ends_of funs) (funs_turn [] [] [] funs tt fits) (length h.locals) (rooms_from [] funs) h.body fit h.locals c
