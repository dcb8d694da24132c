-- The meaning of expressions and statements: each is an act, by recursion on the tree. A return sets the answer and does not jump: in a
-- valid program nothing of the body follows it.
use Rattle.std.specs.Prelude.{ℕ, List, [], ◌∷◌, ◌++◌, Option, None, Some, if◌then◌else◌}
use Rattle.std.specs.Prelude.{nat_eq, map, fold, slice_get, slice_index_or, slice_set}
use Rattle.std.specs.Option.{option_map_or}
use Rattle.lucid_base.specs.Bits.{bits_of}
use Rattle.lucid_base.specs.declared.bits.Bits.{Bits}
use Rattle.lucid_base.specs.declared.event.Out.{Out}
use Rattle.lucid_base.specs.declared.event.Out.TheVariants as out
use Rattle.lucid_base.specs.declared.event.Target.{Target}
use Rattle.lucid_base.specs.declared.event.Target.TheVariants.{Here, At}
use Rattle.lucid_core.specs.declared.body.Expr.{Expr}
use Rattle.lucid_core.specs.declared.body.Stmt.{Stmt}
use Rattle.lucid_core.specs.declared.body.Touch.{Touch}
use Rattle.lucid_core.specs.declared.body.Expr.TheOpen.{Expr-F, Stmt-F, Touch-F}
use Rattle.lucid_core.specs.declared.body.Expr.TheFolds.{fold-Expr, fold-Stmt, fold-Touch}
use Rattle.lucid_core.specs.declared.defs.FunDef.{FunDef}
use Rattle.lucid_core.specs.Computations.{Computation, Effect, Fun, give, ◌>>=◌, all, block, both, change, send, array_of, touched, called, begun_with}
use Rattle.lucid_core.specs.Values.{nothing, unary, binary, comparison, hashed, memop, numbers}

-- The values of arguments, from left to right, with the locals that are to hold them.
abbrev pub all_given : List (ℕ × Computation Bits) → Computation (List (ℕ × Bits))
all_given given = all (map (λ g. do v ← g.1; give (g.0, v)) given)

-- The locals once each of these holds its value.
abbrev pub holding : List Bits → List (ℕ × Bits) → List Bits
holding locals held = fold (λ vs h. slice_set vs h.0 h.1) locals held

-- The result of function k, and nothing if it does not exist.
abbrev pub call : ℕ → List ℕ → List Bits → Computation Bits
call k arrays vs = λ p. option_map_or (λ f. f arrays vs) (slice_get p.funs k) (give nothing p)

abbrev pub expr_step : Expr-F (Computation Bits) Effect (Computation Bits) → Computation Bits
expr_step (Expr-F.Fixed n) = give n
expr_step (Expr-F.Local i) = λ p s. give (slice_index_or s.locals i nothing) p s
expr_step Expr-F.Now = λ p. give (bits_of 32 p.now) p
expr_step Expr-F.Me = λ p. give (bits_of 32 p.me) p
expr_step (Expr-F.Un op x) = do a ← x; give (unary op a)
expr_step (Expr-F.Bin op x y) = do a ← x; b ← y; give (binary op a b)
expr_step (Expr-F.Cmp op x y) = do a ← x; b ← y; give (comparison op a b)
expr_step (Expr-F.Cast w x) = do a ← x; give (bits_of w a.value)
expr_step (Expr-F.Hash w xs) = do vs ← all xs; give (hashed w vs)
expr_step (Expr-F.Array t) = t
expr_step (Expr-F.Fun k names xs) = do vs ← all xs; λ p. call k (map (array_of p.arrays) names) vs p
expr_step (Expr-F.Inlined given ss) = do held ← all_given given; λ p s. called (holding s.locals held) (block ss) p s

-- Both memops see the old value of the cell.
abbrev pub touch_step : Touch-F (Computation Bits) Effect (Computation Bits) → Computation Bits
touch_step t = do i ← t.index; g ← t.get_arg; v ← t.set_arg; touched t.array i.value (λ old. memop t.get old g) (λ old. memop t.set old v)

-- The value of an operand that may be left out, and its default.
abbrev pub optional : {A : Type 0} → A → (ℕ → A) → Option (Computation Bits) → Computation A
optional absent given None = give absent
optional absent given (Some x) = do v ← x; give (given v.value)

abbrev pub delay_of : Option (Computation Bits) → Computation ℕ
delay_of = optional 0 (λ ticks. ticks)

abbrev pub target_of : Option (Computation Bits) → Computation Target
target_of = optional Here At

abbrev pub generated : ℕ → List Bits → ℕ → Target → Out
generated event vs delay to = out.Gen (record { id = event; args = numbers vs }) delay to

abbrev pub stmt_step : Stmt-F (Computation Bits) Effect (Computation Bits) → Effect
stmt_step (Stmt-F.Assign i x) = do v ← x; change (λ s. record s { locals = slice_set s.locals i v })
stmt_step (Stmt-F.Drop x) = do _ ← x; give tt
stmt_step (Stmt-F.If x ss ts) = do v ← x; block (if nat_eq v.value 0 then ts else ss)
stmt_step (Stmt-F.Gen event xs delay to delay_first) =
    do vs ← all xs; given ← both delay_first (delay_of delay) (target_of to); send (generated event vs given.0 given.1 ∷ [])
stmt_step (Stmt-F.Multi event xs delay members) =
    do vs ← all xs; ticks ← delay_of delay; send (map (generated event vs ticks) (map At members))
stmt_step (Stmt-F.Say form xs) = do vs ← all xs; send (out.Say form (numbers vs) ∷ [])
stmt_step (Stmt-F.Return None) = give tt
stmt_step (Stmt-F.Return (Some x)) = do v ← x; change (λ s. record s { answer = v })

abbrev pub value_of : Expr → Computation Bits
value_of = fold-Expr (Computation Bits) Effect (Computation Bits) expr_step stmt_step touch_step

abbrev pub effect_of : Stmt → Effect
effect_of = fold-Stmt (Computation Bits) Effect (Computation Bits) expr_step stmt_step touch_step

abbrev pub touch_of : Touch → Computation Bits
touch_of = fold-Touch (Computation Bits) Effect (Computation Bits) expr_step stmt_step touch_step

-- A function runs behind the functions before it.
abbrev pub fun_of : ℕ → ℕ → List Fun → FunDef → Fun
fun_of now me before f arrays vs =
    called (begun_with vs f.locals) (block (map effect_of f.body)) (record { now = now; me = me; arrays = arrays; funs = before })

-- The effects of functions, in the order of their declarations.
abbrev pub funs_of : ℕ → ℕ → List FunDef → List Fun
funs_of now me fs = fold (λ before f. before ++ fun_of now me before f ∷ []) [] fs
