-- The locals of a handler only grow at the end.
use Rattle.std.proofs.Common.{◌≡◌, ℕ, zero, suc, List, [], ◌∷◌, ◌++◌, Bool, true, false, Option, None, Some, map, sym, subst, slice_get, option_to_list}
use Rattle.lucid_core.specs.declared.body.Expr.{Expr}
use Rattle.lucid_core.specs.declared.body.Stmt.{Stmt}
use Rattle.lucid_core.specs.declared.body.Touch.{Touch}
use Rattle.lucid_core.specs.declared.body.Expr.TheOpen.{Expr-F, Stmt-F, Touch-F}
use Rattle.lucid_core.specs.declared.body.Expr.TheViews.{roll-Expr, roll-Stmt, roll-Touch}
use Rattle.lucid_core.specs.declared.body.Expr.TheFolds.{fold-roll-Expr, fold-roll-Stmt, fold-roll-Touch, map-Expr, map-Stmt, map-Touch}
use Rattle.lucid_core.specs.Computations.{array_of}
use Rattle.lucid_core.proofs.Induction.{Cases, expr_by, stmt_by}
use Rattle.lucid_inline_spec.specs.Flat as f
use Rattle.lucid_inline_spec.specs.Flat.{Flatten, Flattened, Site, PutIn, done, ◌>>=◌, flat_expr, flat_stmt, flat_touch}
use Rattle.lucid_inline_spec.proofs.Locals.{Begins, begins_self, begins_then, begins_append}

abbrev pub AllGrow : List PutIn → Type 0
AllGrow [] = Unit {0}
AllGrow (put ∷ puts) = ((arrays ws : List ℕ) → Begins ws (put arrays ws).locals) × AllGrow puts

abbrev pub Grows : {A : Type 0} → Flatten A → Type 0
Grows t = (p : Site) → AllGrow p.funs → (ws : List ℕ) → Begins ws (t p ws).locals

grows_then : {A B : Type 0} (t : Flatten A) (k : A → Flatten B) → Grows t → ((x : A) → Grows (k x)) → Grows (t >>= k)
grows_then t k one two p all ws = let first = t p ws in begins_then ws first.locals (k first.value p first.locals).locals (one p all ws) (two first.value p all first.locals)

abbrev pub EachGrows : {A : Type 0} → List (Flatten A) → Type 0
EachGrows [] = Unit {0}
EachGrows (t ∷ ts) = Grows t × EachGrows ts

pub each_grows : {A : Type 0} (ts : List (Flatten A)) → EachGrows ts → Grows (f.each ts)
each_grows [] all p q ws = begins_self ws
each_grows (t ∷ ts) all p q ws = let first = t p ws in begins_then ws first.locals (f.each ts p first.locals).locals (all.0 p q ws) (each_grows ts all.1 p q first.locals)

pub block_grows : (ts : List (Flatten (List Stmt))) → EachGrows ts → Grows (f.block ts)
block_grows [] all p q ws = begins_self ws
block_grows (t ∷ ts) all p q ws = let first = t p ws in begins_then ws first.locals (f.block ts p first.locals).locals (all.0 p q ws) (block_grows ts all.1 p q first.locals)

optional_grows : (o : Option (Flatten Expr)) → EachGrows (option_to_list o) → Grows (f.optional o)
optional_grows None all p q ws = begins_self ws
optional_grows (Some t) all p q ws = all.0 p q ws

both_grows : {A B : Type 0} (b : Bool) (t : Flatten A) (u : Flatten B) → Grows t → Grows u → Grows (f.both b t u)
both_grows true t u one two p all ws = let first = (t p ws).locals in begins_then ws first (u p first).locals (one p all ws) (two p all first)
both_grows false t u one two p all ws = let first = (u p ws).locals in begins_then ws first (t p first).locals (two p all ws) (one p all first)

both_each : {A : Type 0} (ts us : List (Flatten A)) → EachGrows ts → EachGrows us → EachGrows (ts ++ us)
both_each [] us one two = two
both_each (t ∷ ts) us one two = (one.0, both_each ts us one.1 two)

pub put_grows : (ps : List PutIn) → AllGrow ps → (k : ℕ) (arrays : List ℕ) (args : List Expr) (ws : List ℕ) → Begins ws (f.put_in (slice_get ps k) arrays args ws).locals
put_grows [] all k arrays args ws = begins_self ws
put_grows (p ∷ ps) all zero arrays args ws = all.0 arrays ws
put_grows (p ∷ ps) all (suc k) arrays args ws = put_grows ps all.1 k arrays args ws

abbrev E : Type 0
E = (e : Expr) × Grows (flat_expr e)

abbrev S : Type 0
S = (e : Stmt) × Grows (flat_stmt e)

abbrev T : Type 0
T = (e : Touch) × Grows (flat_touch e)

abbrev exprs : List E → List (Flatten Expr)
exprs es = map flat_expr (map (λ (e : E). e.0) es)

abbrev stmts : List S → List (Flatten (List Stmt))
stmts es = map flat_stmt (map (λ (e : S). e.0) es)

these : (es : List E) → EachGrows (exprs es)
these [] = tt
these (e ∷ es) = (e.1, these es)

those : (es : List S) → EachGrows (stmts es)
those [] = tt
those (e ∷ es) = (e.1, those es)

abbrev of_expr : Expr-F E S T → Flatten (Expr-F Expr Stmt Touch)
of_expr y = f.expr_node (map-Expr Expr Stmt Touch (Flatten Expr) (Flatten (List Stmt)) (Flatten Touch) flat_expr flat_stmt flat_touch (map-Expr E S T Expr Stmt Touch (λ e. e.0) (λ e. e.0) (λ e. e.0) y))

abbrev of_stmt : Stmt-F E S T → Flatten (List (Stmt-F Expr Stmt Touch))
of_stmt y = f.stmt_node (map-Stmt Expr Stmt Touch (Flatten Expr) (Flatten (List Stmt)) (Flatten Touch) flat_expr flat_stmt flat_touch (map-Stmt E S T Expr Stmt Touch (λ e. e.0) (λ e. e.0) (λ e. e.0) y))

abbrev of_touch : Touch-F E S T → Flatten (Touch-F Expr Stmt Touch)
of_touch y = f.touch_node (map-Touch Expr Stmt Touch (Flatten Expr) (Flatten (List Stmt)) (Flatten Touch) flat_expr flat_stmt flat_touch (map-Touch E S T Expr Stmt Touch (λ e. e.0) (λ e. e.0) (λ e. e.0) y))

expr_level : (y : Expr-F E S T) → Grows (of_expr y)
expr_level (Expr-F.Un op e) p all ws = e.1 p all ws
expr_level (Expr-F.Bin op e g) p all ws = let first = (flat_expr e.0 p ws).locals in begins_then ws first (flat_expr g.0 p first).locals (e.1 p all ws) (g.1 p all first)
expr_level (Expr-F.Cmp op e g) p all ws = let first = (flat_expr e.0 p ws).locals in begins_then ws first (flat_expr g.0 p first).locals (e.1 p all ws) (g.1 p all first)
expr_level (Expr-F.Cast w e) p all ws = e.1 p all ws
expr_level (Expr-F.Hash w es) p all ws = each_grows (exprs es) (these es) p all ws
expr_level (Expr-F.Array e) p all ws = e.1 p all ws
expr_level (Expr-F.Fun k names es) p all ws =
    let first = f.each (exprs es) p ws in
    begins_then ws first.locals _ (each_grows (exprs es) (these es) p all ws) (put_grows p.funs all k (map (array_of p.arrays) names) first.value first.locals)
expr_level (Expr-F.Fixed n) p all ws = begins_self ws
expr_level (Expr-F.Local i) p all ws = begins_self ws
expr_level Expr-F.Now p all ws = begins_self ws
expr_level Expr-F.Me p all ws = begins_self ws
expr_level (Expr-F.Inlined given ss) p all ws = begins_self ws

touch_level : (y : Touch-F E S T) → Grows (of_touch y)
touch_level y p all ws =
    let first = (flat_expr y.index.0 p ws).locals in
    let second = (flat_expr y.get_arg.0 p first).locals in
    begins_then ws first (flat_expr y.set_arg.0 p second).locals (y.index.1 p all ws) (begins_then first second (flat_expr y.set_arg.0 p second).locals (y.get_arg.1 p all first) (y.set_arg.1 p all second))

gen_level : (event : ℕ) (es : List E) (d t : Option (Flatten Expr)) (b : Bool) → EachGrows (option_to_list d) → EachGrows (option_to_list t) → Grows (f.stmt_node (Stmt-F.Gen event (exprs es) d t b))
gen_level event es d t b one two p all ws =
    let first = (f.each (exprs es) p ws).locals in
    begins_then ws first _ (each_grows (exprs es) (these es) p all ws) (both_grows b (f.optional d) (f.optional t) (optional_grows d one) (optional_grows t two) p all first)

multi_level : (event : ℕ) (es : List E) (d : Option (Flatten Expr)) (members : List ℕ) → EachGrows (option_to_list d) → Grows (f.stmt_node (Stmt-F.Multi event (exprs es) d members))
multi_level event es d members one p all ws =
    let first = (f.each (exprs es ++ option_to_list d) p ws).locals in
    begins_then ws first _ (each_grows (exprs es ++ option_to_list d) (both_each (exprs es) (option_to_list d) (these es) one) p all ws) (begins_append first _)

stmt_level : (y : Stmt-F E S T) → Grows (of_stmt y)
stmt_level (Stmt-F.Assign i e) p all ws = e.1 p all ws
stmt_level (Stmt-F.Drop e) p all ws = e.1 p all ws
stmt_level (Stmt-F.If e es gs) p all ws =
    let first = (flat_expr e.0 p ws).locals in
    let second = (f.block (stmts es) p first).locals in
    let third = (f.block (stmts gs) p second).locals in
    begins_then ws first third (e.1 p all ws) (begins_then first second third (block_grows (stmts es) (those es) p all first) (block_grows (stmts gs) (those gs) p all second))
stmt_level (Stmt-F.Gen event es None None b) p all ws = gen_level event es None None b tt tt p all ws
stmt_level (Stmt-F.Gen event es None (Some t) b) p all ws = gen_level event es None (Some (flat_expr t.0)) b tt (t.1, tt) p all ws
stmt_level (Stmt-F.Gen event es (Some d) None b) p all ws = gen_level event es (Some (flat_expr d.0)) None b (d.1, tt) tt p all ws
stmt_level (Stmt-F.Gen event es (Some d) (Some t) b) p all ws = gen_level event es (Some (flat_expr d.0)) (Some (flat_expr t.0)) b (d.1, tt) (t.1, tt) p all ws
stmt_level (Stmt-F.Multi event es None members) p all ws = multi_level event es None members tt p all ws
stmt_level (Stmt-F.Multi event es (Some d) members) p all ws = multi_level event es (Some (flat_expr d.0)) members (d.1, tt) p all ws
stmt_level (Stmt-F.Say form es) p all ws = each_grows (exprs es) (these es) p all ws
stmt_level (Stmt-F.Return None) p all ws = begins_self ws
stmt_level (Stmt-F.Return (Some e)) p all ws = e.1 p all ws

along : {A : Type 0} (t u : Flatten A) → t ≡ u → Grows u → Grows t
along {A = A} t u e is = subst (λ (x : Flatten A). Grows x) (sym e) is

abbrev tree_e : Expr-F E S T → Expr-F Expr Stmt Touch
tree_e = map-Expr E S T Expr Stmt Touch (λ e. e.0) (λ e. e.0) (λ e. e.0)

abbrev tree_s : Stmt-F E S T → Stmt-F Expr Stmt Touch
tree_s = map-Stmt E S T Expr Stmt Touch (λ e. e.0) (λ e. e.0) (λ e. e.0)

abbrev tree_t : Touch-F E S T → Touch-F Expr Stmt Touch
tree_t = map-Touch E S T Expr Stmt Touch (λ e. e.0) (λ e. e.0) (λ e. e.0)

rolled_e : (y : Expr-F E S T) → Grows (flat_expr (roll-Expr (tree_e y)))
rolled_e y = along _ _ (fold-roll-Expr (Flatten Expr) (Flatten (List Stmt)) (Flatten Touch) f.expr_step f.stmt_step f.touch_step (tree_e y)) (expr_level y)

rolled_s : (y : Stmt-F E S T) → Grows (flat_stmt (roll-Stmt (tree_s y)))
rolled_s y = along _ _ (fold-roll-Stmt (Flatten Expr) (Flatten (List Stmt)) (Flatten Touch) f.expr_step f.stmt_step f.touch_step (tree_s y)) (stmt_level y)

rolled_t : (y : Touch-F E S T) → Grows (flat_touch (roll-Touch (tree_t y)))
rolled_t y = along _ _ (fold-roll-Touch (Flatten Expr) (Flatten (List Stmt)) (Flatten Touch) f.expr_step f.stmt_step f.touch_step (tree_t y)) (touch_level y)

by_nodes : Cases (λ e. Grows (flat_expr e)) (λ e. Grows (flat_stmt e)) (λ e. Grows (flat_touch e))
by_nodes = record { expr = rolled_e; stmt = rolled_s; touch = rolled_t }

pub expr_grows : (e : Expr) → Grows (flat_expr e)
expr_grows = expr_by by_nodes

pub stmt_grows : (e : Stmt) → Grows (flat_stmt e)
stmt_grows = stmt_by by_nodes

pub exprs_grow : (es : List Expr) → Grows (f.each (map flat_expr es))
exprs_grow es = each_grows (map flat_expr es) (all es)
  where
    all : (xs : List Expr) → EachGrows (map flat_expr xs)
    all [] = tt
    all (x ∷ xs) = (expr_grows x, all xs)

pub stmts_grow : (ss : List Stmt) → Grows (f.block (map flat_stmt ss))
stmts_grow ss = block_grows (map flat_stmt ss) (all ss)
  where
    all : (xs : List Stmt) → EachGrows (map flat_stmt xs)
    all [] = tt
    all (x ∷ xs) = (stmt_grows x, all xs)
