-- A run sends no more outs than are counted for its body. This holds for all programs, also for invalid ones.
use Rattle.std.proofs.Common.{◌≡◌, ℕ, zero, suc, ◌+◌, ◌≤◌, List, [], ◌∷◌, ◌++◌, length, map, Option, None, Some, sym, subst, arith, length-append}
use Rattle.std.proofs.lemmas.List.{length-map}
use Rattle.std.specs.Prelude.{Bool, true, false, option_map, option_to_list, if◌then◌else◌, max, nat_eq, slice_index}
use Rattle.lucid_base.specs.declared.bits.Bits.{Bits}
use Rattle.lucid_base.specs.declared.event.Out.TheVariants as out
use Rattle.lucid_base.specs.declared.event.Target.TheVariants.{At, Here}
use Rattle.lucid_core.specs.declared.body.Expr.{Expr}
use Rattle.lucid_core.specs.declared.body.Stmt.{Stmt}
use Rattle.lucid_core.specs.declared.body.Touch.{Touch}
use Rattle.lucid_core.specs.declared.body.Expr.TheOpen.{Expr-F, Stmt-F, Touch-F}
use Rattle.lucid_core.specs.declared.body.Expr.TheViews.{roll-Expr, roll-Stmt, roll-Touch}
use Rattle.lucid_core.specs.declared.body.Expr.TheFolds.{fold-roll-Expr, fold-roll-Stmt, fold-roll-Touch, map-Expr, map-Stmt, map-Touch, ind-Stmt}
use Rattle.lucid_core.specs.declared.defs.FunDef.{FunDef}
use Rattle.lucid_core.specs.declared.defs.HandlerDef.{HandlerDef}
use Rattle.lucid_core.specs.Computations.{Computation, Effect, Frame, Fun, State, Ran, all, array_of, begun_with, block, both}
use Rattle.lucid_core.specs.Meaning as m
use Rattle.lucid_core.specs.Meaning.{all_given, call, delay_of, effect_of, fun_of, generated, holding, target_of, touch_of, value_of}
use Rattle.lucid_core.specs.OutCount as n
use Rattle.lucid_core.specs.OutCount.{Count, total, expr_outs, stmt_outs, touch_outs, body_outs, funs_outs}
use Rattle.lucid_core.specs.Parts.{CoreParts}
use Rattle.lucid_core.specs.Step.{handled, started, taken_at}
use Rattle.lucid_core.specs.Values.{nothing, numbers}
use Rattle.lucid_core.proofs.Funs.{funs_from}
use Rattle.lucid_core.proofs.Pairwise.{Pairwise, one_more}

-- Run so, any state sends out at most n more.
abbrev Sends : {A : Type 0} → ℕ → (State → Ran A) → Type 0
Sends n act = (s : State) → length (act s).after.outs ≤ length s.outs + n

abbrev FunSends : Fun → ℕ → Type 0
FunSends f n = (arrays : List ℕ) (vs : List Bits) → Sends n (f arrays vs)

-- Behind functions that keep to their counts, the act keeps to its own.
abbrev Keeps : {A : Type 0} → Computation A → Count → Type 0
Keeps act count = (p : Frame) (counts : List ℕ) → Pairwise FunSends p.funs counts → Sends (count counts) (act p)

-- A function that isn't there sends nothing.
call_keeps : (p : Frame) (funs : List Fun) (counts : List ℕ) → Pairwise FunSends funs counts → (k : ℕ) → FunSends (λ arrays vs. call k arrays vs (record p { funs = funs })) (slice_index counts k)
call_keeps p [] [] known k arrays vs s = omega arith
call_keeps p (f ∷ fs) (n ∷ ns) known zero arrays vs s = known.0 arrays vs s
call_keeps p (f ∷ fs) (n ∷ ns) known (suc k) arrays vs s = call_keeps p fs ns known.1 k arrays vs s
call_keeps p [] (n ∷ ns) known k arrays vs s = absurd known
call_keeps p (f ∷ fs) [] known k arrays vs s = absurd known

total-append : (cs ds : List Count) (counts : List ℕ) → total (cs ++ ds) counts ≡ total cs counts + total ds counts
total-append [] ds counts = omega arith
total-append (c ∷ cs) ds counts = let e = total-append cs ds counts in omega arith

module _ {X : Type 0} (count : X → Count) where
  module _ (act : X → Computation Bits) where
    all_keep : (ps : List ((x : X) × Keeps (act x) (count x))) → Keeps (all (map act (map (λ p. p.0) ps))) (total (map count (map (λ p. p.0) ps)))
    all_keep [] p counts known s = omega arith
    all_keep (e ∷ es) p counts known s =
        let first = e.1 p counts known s in
        let rest = all_keep es p counts known (act e.0 p s).after in
        omega arith

  module _ (act : X → Effect) where
    block_keeps : (ps : List ((x : X) × Keeps (act x) (count x))) → Keeps (block (map act (map (λ p. p.0) ps))) (total (map count (map (λ p. p.0) ps)))
    block_keeps [] p counts known s = omega arith
    block_keeps (e ∷ es) p counts known s =
        let first = e.1 p counts known s in
        let rest = block_keeps es p counts known (act e.0 p s).after in
        omega arith

-- A part that keeps to its count.
abbrev E : Type 0
E = (x : Expr) × Keeps (value_of x) (expr_outs x)

abbrev S : Type 0
S = (x : Stmt) × Keeps (effect_of x) (stmt_outs x)

abbrev T : Type 0
T = (x : Touch) × Keeps (touch_of x) (touch_outs x)

-- The trees of a list.
abbrev exprs : List E → List Expr
exprs es = map (λ (e : E). e.0) es

abbrev stmts : List S → List Stmt
stmts es = map (λ (e : S). e.0) es

abbrev given_trees : List (ℕ × E) → List (ℕ × Expr)
given_trees gs = map (λ (g : ℕ × E). (g.0, g.1.0)) gs

abbrev given_acts : List (ℕ × E) → List (ℕ × Computation Bits)
given_acts gs = map (λ (g : ℕ × Expr). (g.0, value_of g.1)) (given_trees gs)

abbrev given_counts : List (ℕ × E) → List Count
given_counts gs = map (λ (g : ℕ × Count). g.1) (map (λ (g : ℕ × Expr). (g.0, expr_outs g.1)) (given_trees gs))

given_keep : (gs : List (ℕ × E)) → Keeps (all_given (given_acts gs)) (total (given_counts gs))
given_keep [] p counts known s = omega arith
given_keep (g ∷ gs) p counts known s =
    let first = g.1.1 p counts known s in
    let rest = given_keep gs p counts known (value_of g.1.0 p s).after in
    omega arith

-- The trees of a node, its effect and its count.
abbrev expr_tree : Expr-F E S T → Expr-F Expr Stmt Touch
expr_tree = map-Expr E S T Expr Stmt Touch (λ p. p.0) (λ p. p.0) (λ p. p.0)

abbrev expr_act : Expr-F Expr Stmt Touch → Computation Bits
expr_act y = m.expr_step (map-Expr Expr Stmt Touch (Computation Bits) Effect (Computation Bits) value_of effect_of touch_of y)

abbrev expr_count : Expr-F Expr Stmt Touch → Count
expr_count y = n.expr_step (map-Expr Expr Stmt Touch Count Count Count expr_outs stmt_outs touch_outs y)

-- Each node keeps to its count, if its parts do.
expr_level : (y : Expr-F E S T) → Keeps (expr_act (expr_tree y)) (expr_count (expr_tree y))
expr_level (Expr-F.Fixed b) p counts known s = omega arith
expr_level (Expr-F.Local i) p counts known s = omega arith
expr_level Expr-F.Now p counts known s = omega arith
expr_level Expr-F.Me p counts known s = omega arith
expr_level (Expr-F.Un op x) p counts known s = let first = x.1 p counts known s in omega arith
expr_level (Expr-F.Bin op x y) p counts known s =
    let first = x.1 p counts known s in
    let next = y.1 p counts known (value_of x.0 p s).after in
    omega arith
expr_level (Expr-F.Cmp op x y) p counts known s =
    let first = x.1 p counts known s in
    let next = y.1 p counts known (value_of x.0 p s).after in
    omega arith
expr_level (Expr-F.Cast w x) p counts known s = let first = x.1 p counts known s in omega arith
expr_level (Expr-F.Hash w xs) p counts known s = all_keep expr_outs value_of xs p counts known s
expr_level (Expr-F.Array t) p counts known s = let first = t.1 p counts known s in omega arith
expr_level (Expr-F.Fun k names xs) p counts known s =
    let ran = all (map value_of (exprs xs)) p s in
    let first = all_keep expr_outs value_of xs p counts known s in
    let next = call_keeps p p.funs counts known k (map (array_of p.arrays) names) ran.gives ran.after in
    omega arith
expr_level (Expr-F.Inlined given ss) p counts known s =
    let ran = all_given (given_acts given) p s in
    let first = given_keep given p counts known s in
    let next = block_keeps stmt_outs effect_of ss p counts known (record ran.after { locals = holding ran.after.locals ran.gives; answer = nothing }) in
    let sum = total-append (given_counts given) (map stmt_outs (stmts ss)) counts in
    omega arith

abbrev touch_tree : Touch-F E S T → Touch-F Expr Stmt Touch
touch_tree = map-Touch E S T Expr Stmt Touch (λ p. p.0) (λ p. p.0) (λ p. p.0)

abbrev touch_act : Touch-F Expr Stmt Touch → Computation Bits
touch_act y = m.touch_step (map-Touch Expr Stmt Touch (Computation Bits) Effect (Computation Bits) value_of effect_of touch_of y)

abbrev touch_count : Touch-F Expr Stmt Touch → Count
touch_count y = n.touch_step (map-Touch Expr Stmt Touch Count Count Count expr_outs stmt_outs touch_outs y)

touch_level : (y : Touch-F E S T) → Keeps (touch_act (touch_tree y)) (touch_count (touch_tree y))
touch_level t p counts known s =
    let index = t.index.1 p counts known s in
    let s1 = (value_of t.index.0 p s).after in
    let get = t.get_arg.1 p counts known s1 in
    let s2 = (value_of t.get_arg.0 p s1).after in
    let set = t.set_arg.1 p counts known s2 in
    omega arith

abbrev stmt_tree : Stmt-F E S T → Stmt-F Expr Stmt Touch
stmt_tree = map-Stmt E S T Expr Stmt Touch (λ p. p.0) (λ p. p.0) (λ p. p.0)

abbrev stmt_act : Stmt-F Expr Stmt Touch → Effect
stmt_act y = m.stmt_step (map-Stmt Expr Stmt Touch (Computation Bits) Effect (Computation Bits) value_of effect_of touch_of y)

abbrev stmt_count : Stmt-F Expr Stmt Touch → Count
stmt_count y = n.stmt_step (map-Stmt Expr Stmt Touch Count Count Count expr_outs stmt_outs touch_outs y)

-- Of either branch.
either_keeps : (b : Bool) (ss ts : List S) →
    Keeps (block (if b then map effect_of (stmts ts) else map effect_of (stmts ss)))
    (λ counts. max (total (map stmt_outs (stmts ss)) counts) (total (map stmt_outs (stmts ts)) counts))
either_keeps true ss ts p counts known s = let ran = block_keeps stmt_outs effect_of ts p counts known s in omega arith
either_keeps false ss ts p counts known s = let ran = block_keeps stmt_outs effect_of ss p counts known s in omega arith

abbrev option_acts : Option E → Option (Computation Bits)
option_acts o = option_map (λ e. value_of e.0) o

abbrev option_counts : Option E → Option Count
option_counts o = option_map (λ e. expr_outs e.0) o

-- Of a delay or a target.
optional_keeps : {A : Type 0} (absent : A) (given : ℕ → A) (o : Option E) → Keeps (m.optional absent given (option_acts o)) (total (option_to_list (option_counts o)))
optional_keeps absent given None p counts known s = omega arith
optional_keeps absent given (Some x) p counts known s = let ran = x.1 p counts known s in omega arith

-- In either order.
both_keep : {A B : Type 0} (b : Bool) (f : Computation A) (g : Computation B) (c d : Count) → Keeps f c → Keeps g d → Keeps (both b f g) (λ counts. c counts + d counts)
both_keep true f g c d first second p counts known s =
    let one = first p counts known s in
    let two = second p counts known (f p s).after in
    omega arith
both_keep false f g c d first second p counts known s =
    let one = second p counts known s in
    let two = first p counts known (g p s).after in
    omega arith

gen_level : (event : ℕ) (xs : List E) (delay to : Option E) (delay_first : Bool) → Keeps
    (m.stmt_step (Stmt-F.Gen event (map value_of (exprs xs)) (option_acts delay) (option_acts to) delay_first))
    (n.stmt_step (Stmt-F.Gen event (map expr_outs (exprs xs)) (option_counts delay) (option_counts to) delay_first))
gen_level event xs delay to delay_first p counts known s =
    let first = delay_of (option_acts delay) in
    let second = target_of (option_acts to) in
    let cs = option_to_list (option_counts delay) in
    let ds = option_to_list (option_counts to) in
    let ran = all (map value_of (exprs xs)) p s in
    let args = all_keep expr_outs value_of xs p counts known s in
    let given = both delay_first first second p ran.after in
    let next = both_keep delay_first first second (total cs) (total ds) (optional_keeps 0 (λ n. n) delay) (optional_keeps Here At to) p counts known ran.after in
    let sum = total-append (map expr_outs (exprs xs) ++ cs) ds counts in
    let more = total-append (map expr_outs (exprs xs)) cs counts in
    let sent = length-append given.after.outs (generated event ran.gives given.gives.0 given.gives.1 ∷ []) in
    omega arith

multi_level : (event : ℕ) (xs : List E) (delay : Option E) (members : List ℕ) → Keeps
    (m.stmt_step (Stmt-F.Multi event (map value_of (exprs xs)) (option_acts delay) members))
    (n.stmt_step (Stmt-F.Multi event (map expr_outs (exprs xs)) (option_counts delay) members))
multi_level event xs delay members p counts known s =
    let cs = option_to_list (option_counts delay) in
    let ran = all (map value_of (exprs xs)) p s in
    let args = all_keep expr_outs value_of xs p counts known s in
    let given = delay_of (option_acts delay) p ran.after in
    let next = optional_keeps 0 (λ n. n) delay p counts known ran.after in
    let sum = total-append (map expr_outs (exprs xs)) cs counts in
    let sent = length-append given.after.outs (map (generated event ran.gives given.gives) (map At members)) in
    let each = length-map members At in
    let many = length-map (map At members) (generated event ran.gives given.gives) in
    omega arith

stmt_level : (y : Stmt-F E S T) → Keeps (stmt_act (stmt_tree y)) (stmt_count (stmt_tree y))
stmt_level (Stmt-F.Assign i x) p counts known s = let first = x.1 p counts known s in omega arith
stmt_level (Stmt-F.Drop x) p counts known s = let first = x.1 p counts known s in omega arith
stmt_level (Stmt-F.If x ss ts) p counts known s =
    let first = x.1 p counts known s in
    let ran = value_of x.0 p s in
    let next = either_keeps (nat_eq ran.gives.value 0) ss ts p counts known ran.after in
    omega arith
stmt_level (Stmt-F.Gen event xs None None delay_first) p counts known s = gen_level event xs None None delay_first p counts known s
stmt_level (Stmt-F.Gen event xs None (Some y) delay_first) p counts known s = gen_level event xs None (Some y) delay_first p counts known s
stmt_level (Stmt-F.Gen event xs (Some x) None delay_first) p counts known s = gen_level event xs (Some x) None delay_first p counts known s
stmt_level (Stmt-F.Gen event xs (Some x) (Some y) delay_first) p counts known s = gen_level event xs (Some x) (Some y) delay_first p counts known s
stmt_level (Stmt-F.Multi event xs None members) p counts known s = multi_level event xs None members p counts known s
stmt_level (Stmt-F.Multi event xs (Some x) members) p counts known s = multi_level event xs (Some x) members p counts known s
stmt_level (Stmt-F.Say form xs) p counts known s =
    let ran = all (map value_of (exprs xs)) p s in
    let first = all_keep expr_outs value_of xs p counts known s in
    let sent = length-append ran.after.outs (out.Say form (numbers ran.gives) ∷ []) in
    omega arith
stmt_level (Stmt-F.Return None) p counts known s = omega arith
stmt_level (Stmt-F.Return (Some x)) p counts known s = let first = x.1 p counts known s in omega arith

-- Where the folds are opened at a node.
opened : {A : Type 0} (act made : Computation A) (count reckoned : Count) → act ≡ made → count ≡ reckoned → Keeps made reckoned → Keeps act count
opened act made count reckoned e h = subst (λ (x : Computation _). Keeps x reckoned → Keeps act count) e (λ k. subst (λ (y : Count). Keeps act y) (sym h) k)

of_expr : (y : Expr-F E S T) → Keeps (value_of (roll-Expr (expr_tree y))) (expr_outs (roll-Expr (expr_tree y)))
of_expr y = opened _ _ _ _ (fold-roll-Expr (Computation Bits) Effect (Computation Bits) m.expr_step m.stmt_step m.touch_step (expr_tree y)) (fold-roll-Expr Count Count Count n.expr_step n.stmt_step n.touch_step (expr_tree y)) (expr_level y)

of_stmt : (y : Stmt-F E S T) → Keeps (effect_of (roll-Stmt (stmt_tree y))) (stmt_outs (roll-Stmt (stmt_tree y)))
of_stmt y = opened _ _ _ _ (fold-roll-Stmt (Computation Bits) Effect (Computation Bits) m.expr_step m.stmt_step m.touch_step (stmt_tree y)) (fold-roll-Stmt Count Count Count n.expr_step n.stmt_step n.touch_step (stmt_tree y)) (stmt_level y)

of_touch : (y : Touch-F E S T) → Keeps (touch_of (roll-Touch (touch_tree y))) (touch_outs (roll-Touch (touch_tree y)))
of_touch y = opened _ _ _ _ (fold-roll-Touch (Computation Bits) Effect (Computation Bits) m.expr_step m.stmt_step m.touch_step (touch_tree y)) (fold-roll-Touch Count Count Count n.expr_step n.stmt_step n.touch_step (touch_tree y)) (touch_level y)

stmt_keeps : (x : Stmt) → Keeps (effect_of x) (stmt_outs x)
stmt_keeps = ind-Stmt (λ x. Keeps (value_of x) (expr_outs x)) (λ x. Keeps (effect_of x) (stmt_outs x)) (λ x. Keeps (touch_of x) (touch_outs x))
    (λ x y is. subst (λ z. Keeps (value_of (roll-Expr z)) (expr_outs (roll-Expr z))) is (of_expr y))
    (λ x y is. subst (λ z. Keeps (effect_of (roll-Stmt z)) (stmt_outs (roll-Stmt z))) is (of_stmt y))
    (λ x y is. subst (λ z. Keeps (touch_of (roll-Touch z)) (touch_outs (roll-Touch z))) is (of_touch y))

body_keeps : (ss : List Stmt) → Keeps (block (map effect_of ss)) (body_outs ss)
body_keeps [] p counts known s = omega arith
body_keeps (x ∷ xs) p counts known s =
    let first = stmt_keeps x p counts known s in
    let rest = body_keeps xs p counts known (effect_of x p s).after in
    omega arith

-- Each function keeps to its count.
funs_keep : (now me : ℕ) (fs : List FunDef) (known : List Fun) (counted : List ℕ) → Pairwise FunSends known counted →
    Pairwise FunSends (funs_from now me known fs) (funs_outs counted fs)
funs_keep now me [] known counted keep = keep
funs_keep now me (f ∷ fs) known counted keep =
    funs_keep now me fs (known ++ fun_of now me known f ∷ []) (counted ++ body_outs f.body counted ∷ []) (one_more FunSends known counted _ _ keep
    (λ arrays vs s. body_keeps f.body (record { now = now; me = me; arrays = arrays; funs = known }) counted keep (record s { locals = begun_with vs f.locals; answer = nothing })))

-- A handler sends at most the outs that are counted for its body, after all functions.
pub handler_keeps : (h : HandlerDef) (parts : CoreParts) (cells : List (List ℕ)) (now me : ℕ) (args : List ℕ) →
    length (handled (Some h) parts cells now me args).after.outs ≤ body_outs h.body (funs_outs [] parts.funs)
handler_keeps h parts cells now me args =
    let known = funs_keep now me parts.funs [] [] tt in
    let sent = body_keeps h.body (record { now = now; me = me; arrays = []; funs = funs_from now me [] parts.funs }) (funs_outs [] parts.funs) known (started cells (begun_with (taken_at h.locals args) h.locals)) in
    omega arith
