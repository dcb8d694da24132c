-- The arrays that a run calls are those of one of the paths of its body.
use Rattle.std.proofs.Common.{◌≡◌, ℕ, zero, suc, List, [], ◌∷◌, ◌++◌, Bool, true, false, if◌then◌else◌, Option, None, Some, map, fold, refl, sym, ap, ap₂, subst, ◌∙◌, append-nil, option_map, nat_eq, slice_get, slice_index, slice_index_or, slice_set, inl}
use Rattle.std.specs.Option.{option_map_or}
use Rattle.std.proofs.lemmas.List.{map-append}
use Rattle.lucid_base.specs.Bits.{bits_of}
use Rattle.lucid_base.specs.Arrays.{name_at}
use Rattle.lucid_base.specs.declared.array.ArrayName.{ArrayName}
use Rattle.lucid_base.specs.declared.array.ArrayName.TheVariants.{Global, Param}
use Rattle.lucid_base.specs.declared.bits.Bits.{Bits}
use Rattle.lucid_base.specs.declared.event.Out.TheVariants as out
use Rattle.lucid_base.specs.declared.event.Target.TheVariants.{At, Here}
use Rattle.lucid_core.specs.declared.body.Expr.{Expr}
use Rattle.lucid_core.specs.declared.body.Stmt.{Stmt}
use Rattle.lucid_core.specs.declared.body.Touch.{Touch}
use Rattle.lucid_core.specs.declared.body.Expr.TheOpen.{Expr-F, Stmt-F, Touch-F}
use Rattle.lucid_core.specs.declared.body.Expr.TheViews.{roll-Expr, roll-Stmt, roll-Touch}
use Rattle.lucid_core.specs.declared.body.Expr.TheFolds.{fold-roll-Expr, fold-roll-Stmt, fold-roll-Touch, ind-Stmt, map-Expr, map-Stmt, map-Touch}
use Rattle.lucid_core.specs.declared.defs.FunDef.{FunDef}
use Rattle.lucid_core.specs.Computations.{Computation, Effect, Frame, Fun, State, all, array_of, block, both, called, change, give, send, touched, ◌>>=◌, begun_with}
use Rattle.lucid_core.specs.Meaning as m
use Rattle.lucid_core.specs.Meaning.{all_given, call, delay_of, effect_of, fun_of, generated, holding, target_of, touch_of, value_of}
use Rattle.lucid_effects_spec.specs.Evaluation as walk
use Rattle.lucid_effects_spec.specs.Paths as o
use Rattle.lucid_effects_spec.specs.Paths.{Path, Paths, body_paths, each_then, expr_paths, stmt_paths, touch_paths}
use Rattle.lucid_constraints.specs.Circle.{Member}
use Rattle.lucid_constraints.proofs.MemberLemmas.{member_left, member_right}
use Rattle.lucid_effects_spec.proofs.Members.{in_map, in_then, of_map}
use Rattle.lucid_core.proofs.Pairwise.{Pairwise, one_more}
use Rattle.lucid_core.specs.Values.{nothing, numbers, unary, binary, comparison, hashed, memop}

-- The paths as runs call them, given the arrays passed for the array parameters.
abbrev pub as_called : List ℕ → List Path → List (List ℕ)
as_called arrays ps = map (map (array_of arrays)) ps

abbrev FunFollows : Fun → List Path → Type 0
FunFollows f qs = (arrays : List ℕ) (vs : List Bits) (s : State) → Member (f arrays vs s).calls (as_called arrays qs)

-- The calls of an act are one of its part's paths.
abbrev Follows : {A : Type 0} → Computation A → Paths → Type 0
Follows act f = (p : Frame) (fs : List (List Path)) → Pairwise FunFollows p.funs fs → (s : State) → Member (act p s).calls (as_called p.arrays (f fs))

infixr 20 ◌⨾◌
abbrev ◌⨾◌ : Paths → Paths → Paths
f ⨾ g = o.all_paths.in_turn f g

abbrev larger : Paths → Paths → Paths
larger f g = o.all_paths.branches f g

-- ---- acts one after another

-- One path after another, as they are called.
one_then : (arrays : List ℕ) (xs ys : List ℕ) (ps qs : List Path) → Member xs (as_called arrays ps) → Member ys (as_called arrays qs) → Member (xs ++ ys) (as_called arrays (each_then ps qs))
one_then arrays xs ys ps qs h k =
    let p = of_map (map (array_of arrays)) xs ps h in
    let q = of_map (map (array_of arrays)) ys qs k in
    subst (λ (zs : List ℕ). Member zs (as_called arrays (each_then ps qs))) (map-append (array_of arrays) p.0 q.0 ∙ ap₂ (λ (x y : List ℕ). x ++ y) p.2 q.2)
    (in_map (map (array_of arrays)) (p.0 ++ q.0) (each_then ps qs) (in_then p.0 q.0 ps qs p.1 q.1))

then_both : {A B : Type 0} (a : Computation A) (k : A → Computation B) (f g : Paths) → Follows a f → ((x : A) → Follows (k x) g) → Follows (a >>= k) (f ⨾ g)
then_both a k f g h i p fs ok s =
    let first = a p s in
    one_then p.arrays first.calls (k first.gives p first.after).calls (f fs) (g fs) (h p fs ok s) (i first.gives p fs ok first.after)

then_still : {A B : Type 0} (a : Computation A) (k : A → Computation B) (f : Paths) → Follows a f → ((x : A) (p : Frame) (s : State) → (k x p s).calls ≡ []) → Follows (a >>= k) f
then_still a k f h quiet p fs ok s =
    let first = a p s in
    subst (λ (ys : List ℕ). Member ys (as_called p.arrays (f fs))) (sym (append-nil first.calls) ∙ ap (λ (zs : List ℕ). first.calls ++ zs) (sym (quiet first.gives p first.after))) (h p fs ok s)

still : {A : Type 0} (a : Computation A) → ((p : Frame) (s : State) → (a p s).calls ≡ []) → Follows a o.all_paths.nothing
still a quiet p fs ok s = inl (sym (quiet p s))

called_follows : (locals : List Bits) (body : Effect) (f : Paths) → Follows body f → Follows (called locals body) f
called_follows locals body f h p fs ok s = h p fs ok (record s { locals = locals; answer = nothing })

either_follows : (b : Bool) (ss ts : List Effect) (f g : Paths) → Follows (block ss) f → Follows (block ts) g → Follows (block (if b then ts else ss)) (larger f g)
either_follows b ss ts f g h k p fs ok s = pick b
  where
    pick : (t : Bool) → Member (block (if t then ts else ss) p s).calls (as_called p.arrays (f fs ++ g fs))
    pick true = subst (λ (zs : List (List ℕ)). Member (block ts p s).calls zs) (sym (map-append (map (array_of p.arrays)) (f fs) (g fs))) (member_right (block ts p s).calls (as_called p.arrays (f fs)) (as_called p.arrays (g fs)) (k p fs ok s))
    pick false = subst (λ (zs : List (List ℕ)). Member (block ss p s).calls zs) (sym (map-append (map (array_of p.arrays)) (f fs) (g fs))) (member_left (block ss p s).calls (as_called p.arrays (f fs)) (as_called p.arrays (g fs)) (h p fs ok s))

-- ---- calls

given_array : (arrays : List ℕ) (names : List ArrayName) (i : ℕ) → array_of arrays (slice_index_or names i (Global 0)) ≡ slice_index (map (array_of arrays) names) i
given_array arrays [] i = refl
given_array arrays (x ∷ xs) zero = refl
given_array arrays (x ∷ xs) (suc i) = given_array arrays xs i

-- The callee's array parameters denote the arrays of its arguments.
named_there : (arrays : List ℕ) (names : List ArrayName) (y : ArrayName) → array_of arrays (name_at names y) ≡ array_of (map (array_of arrays) names) y
named_there arrays names (Global a) = refl
named_there arrays names (Param i) = given_array arrays names i

path_there : (arrays : List ℕ) (names : List ArrayName) (q : Path) → map (array_of arrays) (map (name_at names) q) ≡ map (array_of (map (array_of arrays) names)) q
path_there arrays names [] = refl
path_there arrays names (y ∷ q) = ap₂ (λ (a : ℕ) (as_ : List ℕ). a ∷ as_) (named_there arrays names y) (path_there arrays names q)

paths_there : (arrays : List ℕ) (names : List ArrayName) (qs : List Path) → as_called arrays (map (map (name_at names)) qs) ≡ as_called (map (array_of arrays) names) qs
paths_there arrays names [] = refl
paths_there arrays names (q ∷ qs) = ap₂ (λ (p : List ℕ) (ps : List (List ℕ)). p ∷ ps) (path_there arrays names q) (paths_there arrays names qs)

found_follows : (arrays : List ℕ) (vs : List Bits) (p : Frame) (fs : List Fun) (gs : List (List Path)) → Pairwise FunFollows fs gs → (k : ℕ) (s : State) →
    Member (option_map_or (λ f. f arrays vs) (slice_get fs k) (give nothing p) s).calls (as_called arrays (slice_index_or gs k ([] ∷ [])))
found_follows arrays vs p [] [] h k s = inl refl
found_follows arrays vs p [] (g ∷ gs) h k s = absurd h
found_follows arrays vs p (f ∷ fs) [] h k s = absurd h
found_follows arrays vs p (f ∷ fs) (g ∷ gs) h zero s = h.0 arrays vs s
found_follows arrays vs p (f ∷ fs) (g ∷ gs) h (suc k) s = found_follows arrays vs p fs gs h.1 k s

call_follows : (k : ℕ) (names : List ArrayName) (vs : List Bits) → Follows (λ p. call k (map (array_of p.arrays) names) vs p) (o.goes_through k names)
call_follows k names vs p fs ok s = subst (λ (zs : List (List ℕ)). Member (call k (map (array_of p.arrays) names) vs p s).calls zs) (sym (paths_there p.arrays names (slice_index_or fs k ([] ∷ []))))
    (found_follows (map (array_of p.arrays) names) vs p p.funs fs ok k s)

touched_follows : (a : ArrayName) (i : ℕ) (answer store : ℕ → Bits) → Follows (touched a i answer store) (o.all_paths.array a)
touched_follows a i answer store p fs ok s = inl refl

-- ---- the trees

abbrev pub E : Type 0
E = (e : Expr) × Follows (value_of e) (expr_paths e)

abbrev pub S : Type 0
S = (e : Stmt) × Follows (effect_of e) (stmt_paths e)

abbrev pub T : Type 0
T = (e : Touch) × Follows (touch_of e) (touch_paths e)

abbrev exprs : List E → List Expr
exprs es = map (λ (e : E). e.0) es

abbrev stmts : List S → List Stmt
stmts es = map (λ (e : S). e.0) es

abbrev given_trees : List (ℕ × E) → List (ℕ × Expr)
given_trees gs = map (λ (g : ℕ × E). (g.0, g.1.0)) gs

all_follow : (es : List E) → Follows (all (map value_of (exprs es))) (walk.sequence o.all_paths (map expr_paths (exprs es)))
all_follow [] = still {A = List Bits} (give []) (λ p s. refl)
all_follow (e ∷ es) = then_both (value_of e.0) (λ v. all (map value_of (exprs es)) >>= (λ vs. give (v ∷ vs))) (expr_paths e.0) (walk.sequence o.all_paths (map expr_paths (exprs es))) e.1
    (λ v. then_still (all (map value_of (exprs es))) (λ vs. give (v ∷ vs)) (walk.sequence o.all_paths (map expr_paths (exprs es))) (all_follow es) (λ vs p s. refl))

block_follow : (es : List S) → Follows (block (map effect_of (stmts es))) (walk.sequence o.all_paths (map stmt_paths (stmts es)))
block_follow [] = still {A = Unit {0}} (give (tt {0})) (λ p s. refl)
block_follow (e ∷ es) = then_both (effect_of e.0) (λ _. block (map effect_of (stmts es))) (stmt_paths e.0) (walk.sequence o.all_paths (map stmt_paths (stmts es))) e.1 (λ _. block_follow es)

given_follow : (gs : List (ℕ × E)) → Follows (all_given (map (λ (g : ℕ × Expr). (g.0, value_of g.1)) (given_trees gs)))
    (walk.sequence o.all_paths (map (λ (g : ℕ × Paths). g.1) (map (λ (g : ℕ × Expr). (g.0, expr_paths g.1)) (given_trees gs))))
given_follow [] = still {A = List (ℕ × Bits)} (give []) (λ p s. refl)
given_follow (g ∷ gs) =
    let acts = all_given (map (λ (g : ℕ × Expr). (g.0, value_of g.1)) (given_trees gs)) in
    let paths = walk.sequence o.all_paths (map (λ (g : ℕ × Paths). g.1) (map (λ (g : ℕ × Expr). (g.0, expr_paths g.1)) (given_trees gs))) in
    then_both {A = ℕ × Bits} (value_of g.1.0 >>= (λ v. give (g.0, v))) (λ v. acts >>= (λ vs. give (v ∷ vs))) (expr_paths g.1.0) paths
    (then_still {B = ℕ × Bits} (value_of g.1.0) (λ v. give (g.0, v)) (expr_paths g.1.0) g.1.1 (λ v p s. refl))
    (λ v. then_still acts (λ vs. give (v ∷ vs)) paths (given_follow gs) (λ vs p s. refl))

abbrev pub expr_tree : Expr-F E S T → Expr-F Expr Stmt Touch
expr_tree = map-Expr E S T Expr Stmt Touch (λ e. e.0) (λ e. e.0) (λ e. e.0)

abbrev pub touch_tree : Touch-F E S T → Touch-F Expr Stmt Touch
touch_tree = map-Touch E S T Expr Stmt Touch (λ e. e.0) (λ e. e.0) (λ e. e.0)

abbrev pub stmt_tree : Stmt-F E S T → Stmt-F Expr Stmt Touch
stmt_tree = map-Stmt E S T Expr Stmt Touch (λ e. e.0) (λ e. e.0) (λ e. e.0)

expr_level : (y : Expr-F E S T) → Follows (m.expr_step (map-Expr Expr Stmt Touch (Computation Bits) Effect (Computation Bits) value_of effect_of touch_of (expr_tree y)))
    (walk.expr_step o.all_paths (map-Expr Expr Stmt Touch Paths Paths Paths expr_paths stmt_paths touch_paths (expr_tree y)))
expr_level (Expr-F.Fixed b) = still (give b) (λ p s. refl)
expr_level (Expr-F.Local i) = still (λ p s. give (slice_index_or s.locals i nothing) p s) (λ p s. refl)
expr_level Expr-F.Now = still (λ p. give (bits_of 32 p.now) p) (λ p s. refl)
expr_level Expr-F.Me = still (λ p. give (bits_of 32 p.me) p) (λ p s. refl)
expr_level (Expr-F.Un op e) = then_still (value_of e.0) (λ a. give (unary op a)) (expr_paths e.0) e.1 (λ a p s. refl)
expr_level (Expr-F.Bin op e f) = then_both (value_of e.0) (λ a. value_of f.0 >>= (λ b. give (binary op a b))) (expr_paths e.0) (expr_paths f.0) e.1
    (λ a. then_still (value_of f.0) (λ b. give (binary op a b)) (expr_paths f.0) f.1 (λ b p s. refl))
expr_level (Expr-F.Cmp op e f) = then_both (value_of e.0) (λ a. value_of f.0 >>= (λ b. give (comparison op a b))) (expr_paths e.0) (expr_paths f.0) e.1
    (λ a. then_still (value_of f.0) (λ b. give (comparison op a b)) (expr_paths f.0) f.1 (λ b p s. refl))
expr_level (Expr-F.Cast w e) = then_still (value_of e.0) (λ a. give (bits_of w a.value)) (expr_paths e.0) e.1 (λ a p s. refl)
expr_level (Expr-F.Hash w es) = then_still (all (map value_of (exprs es))) (λ vs. give (hashed w vs)) (walk.sequence o.all_paths (map expr_paths (exprs es))) (all_follow es) (λ a p s. refl)
expr_level (Expr-F.Array e) = e.1
expr_level (Expr-F.Fun k names es) = then_both (all (map value_of (exprs es))) (λ vs. λ p. call k (map (array_of p.arrays) names) vs p) (walk.sequence o.all_paths (map expr_paths (exprs es))) (o.goes_through k names) (all_follow es) (λ vs. call_follows k names vs)
expr_level (Expr-F.Inlined given es) =
    let args = all_given (map (λ (g : ℕ × Expr). (g.0, value_of g.1)) (given_trees given)) in
    let body = block (map effect_of (stmts es)) in
    let paths = walk.sequence o.all_paths (map (λ (g : ℕ × Paths). g.1) (map (λ (g : ℕ × Expr). (g.0, expr_paths g.1)) (given_trees given))) in
    let end = walk.sequence o.all_paths (map stmt_paths (stmts es)) in
    then_both args (λ held. λ p s. called (holding s.locals held) body p s) paths end (given_follow given)
    (λ held p fs ok s. called_follows (holding s.locals held) body end (block_follow es) p fs ok s)

touch_level : (y : Touch-F E S T) → Follows (m.touch_step (map-Touch Expr Stmt Touch (Computation Bits) Effect (Computation Bits) value_of effect_of touch_of (touch_tree y)))
    (walk.touch_step o.all_paths (map-Touch Expr Stmt Touch Paths Paths Paths expr_paths stmt_paths touch_paths (touch_tree y)))
touch_level y =
    let act : Bits → Bits → Bits → Computation Bits = λ i g v. touched y.array i.value (λ old. memop y.get old g) (λ old. memop y.set old v) in
    let last = o.all_paths.array y.array in
    then_both (value_of y.index.0) (λ i. value_of y.get_arg.0 >>= (λ g. value_of y.set_arg.0 >>= (λ v. act i g v))) (expr_paths y.index.0) (expr_paths y.get_arg.0 ⨾ expr_paths y.set_arg.0 ⨾ last) y.index.1
    (λ i. then_both (value_of y.get_arg.0) (λ g. value_of y.set_arg.0 >>= (λ v. act i g v)) (expr_paths y.get_arg.0) (expr_paths y.set_arg.0 ⨾ last) y.get_arg.1
    (λ g. then_both (value_of y.set_arg.0) (λ v. act i g v) (expr_paths y.set_arg.0) last y.set_arg.1
    (λ v. touched_follows y.array i.value (λ old. memop y.get old g) (λ old. memop y.set old v))))

optional_follows : {A : Type 0} (absent : A) (given : ℕ → A) (e : Option E) → Follows (m.optional absent given (option_map (λ (x : E). value_of x.0) e)) (walk.optional o.all_paths (option_map (λ (x : E). expr_paths x.0) e))
optional_follows absent given None = still (give absent) (λ p s. refl)
optional_follows absent given (Some e) = then_still (value_of e.0) (λ v. give (given v.value)) (expr_paths e.0) e.1 (λ v p s. refl)

both_follow : {A B : Type 0} (first : Bool) (a : Computation A) (b : Computation B) (f g : Paths) → Follows a f → Follows b g → Follows (both first a b) (walk.both o.all_paths first f g)
both_follow {A} {B} true a b f g h k = then_both {B = A × B} a (λ x. b >>= (λ y. give (x, y))) f g h (λ x. then_still {B = A × B} b (λ y. give (x, y)) g k (λ y p s. refl))
both_follow {A} {B} false a b f g h k = then_both {B = A × B} b (λ y. a >>= (λ x. give (x, y))) g f k (λ y. then_still {B = A × B} a (λ x. give (x, y)) f h (λ x p s. refl))

gen_follows : (event : ℕ) (es : List E) (delay to : Option E) (first : Bool) →
    Follows (m.stmt_step (Stmt-F.Gen event (map value_of (exprs es)) (option_map (λ (x : E). value_of x.0) delay) (option_map (λ (x : E). value_of x.0) to) first))
    (walk.stmt_step o.all_paths (Stmt-F.Gen event (map expr_paths (exprs es)) (option_map (λ (x : E). expr_paths x.0) delay) (option_map (λ (x : E). expr_paths x.0) to) first))
gen_follows event es delay to first =
    let args = all (map value_of (exprs es)) in
    let d = delay_of (option_map (λ (x : E). value_of x.0) delay) in
    let t = target_of (option_map (λ (x : E). value_of x.0) to) in
    let de = walk.optional o.all_paths (option_map (λ (x : E). expr_paths x.0) delay) in
    let te = walk.optional o.all_paths (option_map (λ (x : E). expr_paths x.0) to) in
    then_both args (λ vs. both first d t >>= (λ given. send (generated event vs given.0 given.1 ∷ []))) (walk.sequence o.all_paths (map expr_paths (exprs es))) (walk.both o.all_paths first de te) (all_follow es)
    (λ vs. then_still (both first d t) (λ given. send (generated event vs given.0 given.1 ∷ [])) (walk.both o.all_paths first de te) (both_follow first d t de te (optional_follows 0 (λ ticks. ticks) delay) (optional_follows Here At to)) (λ given p s. refl))

multi_follows : (event : ℕ) (es : List E) (delay : Option E) (members : List ℕ) →
    Follows (m.stmt_step (Stmt-F.Multi event (map value_of (exprs es)) (option_map (λ (x : E). value_of x.0) delay) members))
    (walk.stmt_step o.all_paths (Stmt-F.Multi event (map expr_paths (exprs es)) (option_map (λ (x : E). expr_paths x.0) delay) members))
multi_follows event es delay members =
    let args = all (map value_of (exprs es)) in
    let d = delay_of (option_map (λ (x : E). value_of x.0) delay) in
    let de = walk.optional o.all_paths (option_map (λ (x : E). expr_paths x.0) delay) in
    then_both args (λ vs. d >>= (λ ticks. send (map (generated event vs ticks) (map At members)))) (walk.sequence o.all_paths (map expr_paths (exprs es))) de (all_follow es)
    (λ vs. then_still d (λ ticks. send (map (generated event vs ticks) (map At members))) de (optional_follows 0 (λ ticks. ticks) delay) (λ ticks p s. refl))

stmt_level : (y : Stmt-F E S T) → Follows (m.stmt_step (map-Stmt Expr Stmt Touch (Computation Bits) Effect (Computation Bits) value_of effect_of touch_of (stmt_tree y)))
    (walk.stmt_step o.all_paths (map-Stmt Expr Stmt Touch Paths Paths Paths expr_paths stmt_paths touch_paths (stmt_tree y)))
stmt_level (Stmt-F.Assign i e) = then_still (value_of e.0) (λ v. change (λ s. record s { locals = slice_set s.locals i v })) (expr_paths e.0) e.1 (λ v p s. refl)
stmt_level (Stmt-F.Drop e) = then_still (value_of e.0) (λ _. give (tt {0})) (expr_paths e.0) e.1 (λ v p s. refl)
stmt_level (Stmt-F.If e ss ts) = then_both (value_of e.0) (λ v. block (if nat_eq v.value 0 then map effect_of (stmts ts) else map effect_of (stmts ss))) (expr_paths e.0)
    (larger (walk.sequence o.all_paths (map stmt_paths (stmts ss))) (walk.sequence o.all_paths (map stmt_paths (stmts ts)))) e.1
    (λ v. either_follows (nat_eq v.value 0) (map effect_of (stmts ss)) (map effect_of (stmts ts)) (walk.sequence o.all_paths (map stmt_paths (stmts ss))) (walk.sequence o.all_paths (map stmt_paths (stmts ts))) (block_follow ss) (block_follow ts))
stmt_level (Stmt-F.Gen event es None None first) = gen_follows event es None None first
stmt_level (Stmt-F.Gen event es None (Some t) first) = gen_follows event es None (Some t) first
stmt_level (Stmt-F.Gen event es (Some e) None first) = gen_follows event es (Some e) None first
stmt_level (Stmt-F.Gen event es (Some e) (Some t) first) = gen_follows event es (Some e) (Some t) first
stmt_level (Stmt-F.Multi event es None members) = multi_follows event es None members
stmt_level (Stmt-F.Multi event es (Some e) members) = multi_follows event es (Some e) members
stmt_level (Stmt-F.Say form es) = then_still (all (map value_of (exprs es))) (λ vs. send (out.Say form (numbers vs) ∷ [])) (walk.sequence o.all_paths (map expr_paths (exprs es))) (all_follow es) (λ a p s. refl)
stmt_level (Stmt-F.Return None) = still {A = Unit {0}} (give (tt {0})) (λ p s. refl)
stmt_level (Stmt-F.Return (Some e)) = then_still (value_of e.0) (λ v. change (λ s. record s { answer = v })) (expr_paths e.0) e.1 (λ v p s. refl)

along : {A : Type 0} (a b : Computation A) (f g : Paths) → a ≡ b → f ≡ g → Follows b g → Follows a f
along {A} a b f g e h is = subst (λ (x : Computation A). Follows x f) (sym e) (subst (λ (y : Paths). Follows b y) (sym h) is)

of_expr : (y : Expr-F E S T) → Follows (value_of (roll-Expr (expr_tree y))) (expr_paths (roll-Expr (expr_tree y)))
of_expr y = along _ _ _ _ (fold-roll-Expr (Computation Bits) Effect (Computation Bits) m.expr_step m.stmt_step m.touch_step (expr_tree y)) (fold-roll-Expr Paths Paths Paths (walk.expr_step o.all_paths) (walk.stmt_step o.all_paths) (walk.touch_step o.all_paths) (expr_tree y)) (expr_level y)

of_stmt : (y : Stmt-F E S T) → Follows (effect_of (roll-Stmt (stmt_tree y))) (stmt_paths (roll-Stmt (stmt_tree y)))
of_stmt y = along _ _ _ _ (fold-roll-Stmt (Computation Bits) Effect (Computation Bits) m.expr_step m.stmt_step m.touch_step (stmt_tree y)) (fold-roll-Stmt Paths Paths Paths (walk.expr_step o.all_paths) (walk.stmt_step o.all_paths) (walk.touch_step o.all_paths) (stmt_tree y)) (stmt_level y)

of_touch : (y : Touch-F E S T) → Follows (touch_of (roll-Touch (touch_tree y))) (touch_paths (roll-Touch (touch_tree y)))
of_touch y = along _ _ _ _ (fold-roll-Touch (Computation Bits) Effect (Computation Bits) m.expr_step m.stmt_step m.touch_step (touch_tree y)) (fold-roll-Touch Paths Paths Paths (walk.expr_step o.all_paths) (walk.stmt_step o.all_paths) (walk.touch_step o.all_paths) (touch_tree y)) (touch_level y)

stmt_follows : (e : Stmt) → Follows (effect_of e) (stmt_paths e)
stmt_follows = ind-Stmt (λ e. Follows (value_of e) (expr_paths e)) (λ e. Follows (effect_of e) (stmt_paths e)) (λ e. Follows (touch_of e) (touch_paths e))
    (λ e y is. subst (λ z. Follows (value_of (roll-Expr z)) (expr_paths (roll-Expr z))) is (of_expr y))
    (λ e y is. subst (λ z. Follows (effect_of (roll-Stmt z)) (stmt_paths (roll-Stmt z))) is (of_stmt y))
    (λ e y is. subst (λ z. Follows (touch_of (roll-Touch z)) (touch_paths (roll-Touch z))) is (of_touch y))

body_follows : (ss : List Stmt) → Follows (block (map effect_of ss)) (body_paths ss)
body_follows [] = still {A = Unit {0}} (give (tt {0})) (λ p s. refl)
body_follows (e ∷ es) = then_both (effect_of e) (λ _. block (map effect_of es)) (stmt_paths e) (body_paths es) (stmt_follows e) (λ _. body_follows es)

-- Functions, each behind those before it.
module _ (now me : ℕ) where
  funs_follow : (known : List Fun) (paths : List (List Path)) (fs : List FunDef) → Pairwise FunFollows known paths →
      Pairwise FunFollows (fold (λ before f. before ++ fun_of now me before f ∷ []) known fs) (fold (λ before f. before ++ body_paths f.body before ∷ []) paths fs)
  funs_follow known paths [] h = h
  funs_follow known paths (f ∷ fs) h = funs_follow (known ++ fun_of now me known f ∷ []) (paths ++ body_paths f.body paths ∷ []) fs (one_more FunFollows known paths (fun_of now me known f) (body_paths f.body paths) h
      (λ arrays vs s. called_follows (begun_with vs f.locals) (block (map effect_of f.body)) (body_paths f.body) (body_follows f.body) (record { now = now; me = me; arrays = arrays; funs = known }) paths h s))

  -- A body behind these functions.
  pub runs_along : (arrays : List ℕ) (funs : List FunDef) (body : List Stmt) (s : State) →
      Member (block (map effect_of body) (record { now = now; me = me; arrays = arrays; funs = m.funs_of now me funs }) s).calls (as_called arrays (o.paths funs body))
  runs_along arrays funs body s = body_follows body (record { now = now; me = me; arrays = arrays; funs = m.funs_of now me funs }) (o.paths_of funs) (funs_follow [] [] funs tt) s
