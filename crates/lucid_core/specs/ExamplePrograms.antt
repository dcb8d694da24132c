-- Words for programs that are written by hand, and a small one that is a valid core.
use Rattle.std.specs.Prelude.{ℕ, List, [], ◌∷◌, ◌++◌, Option, None, Some, Bool, true, false}
use Rattle.lucid_base.specs.Bits.{bits_of}
use Rattle.lucid_base.specs.declared.array.ArrayDef.{ArrayDef}
use Rattle.lucid_base.specs.declared.array.ArrayName.{ArrayName}
use Rattle.lucid_base.specs.declared.array.ArrayName.TheVariants.{Global, Param}
use Rattle.lucid_base.specs.declared.memory_alu.MemAlu.{MemAlu}
use Rattle.lucid_base.specs.declared.memory_alu.MemArg.TheVariants.{Stored, Arg}
use Rattle.lucid_base.specs.declared.memory_alu.MemSide.TheVariants.{Two}
use Rattle.lucid_base.specs.declared.ops.BinOp.TheVariants.{Add}
use Rattle.lucid_base.specs.declared.ops.CmpOp.TheVariants.{Lt}
use Rattle.lucid_core.specs.declared.body.Expr.{Expr}
use Rattle.lucid_core.specs.declared.body.Stmt.{Stmt}
use Rattle.lucid_core.specs.declared.body.Expr.TheOpen.{Expr-F, Stmt-F}
use Rattle.lucid_core.specs.declared.body.Expr.TheViews.{roll-Expr, roll-Stmt, roll-Touch}
use Rattle.lucid_core.specs.declared.defs.FunDef.{FunDef}
use Rattle.lucid_core.specs.declared.defs.HandlerDef.{HandlerDef}
use Rattle.lucid_core.specs.declared.defs.EventDef.{EventDef}
use Rattle.lucid_core.specs.Parts.{CoreParts, made_of}

abbrev pub local : ℕ → Expr
local i = roll-Expr (Expr-F.Local i)

-- A number of 32 bits.
abbrev pub number : ℕ → Expr
number n = roll-Expr (Expr-F.Fixed (bits_of 32 n))

abbrev pub one : Expr
one = number 1

abbrev pub yes : Expr
yes = roll-Expr (Expr-F.Fixed (bits_of 1 1))

abbrev pub less : Expr → Expr → Expr
less x y = roll-Expr (Expr-F.Cmp Lt x y)

-- hash<<32>>(seed, x)
abbrev pub hash : ℕ → Expr → Expr
hash seed x = roll-Expr (Expr-F.Hash 32 (number seed ∷ x ∷ []))

abbrev pub call : ℕ → List ArrayName → List Expr → Expr
call k names xs = roll-Expr (Expr-F.Fun k names xs)

abbrev pub inlined : List (ℕ × Expr) → List Stmt → Expr
inlined given ss = roll-Expr (Expr-F.Inlined given ss)

abbrev pub assign : ℕ → Expr → Stmt
assign i x = roll-Stmt (Stmt-F.Assign i x)

abbrev pub drop_value : Expr → Stmt
drop_value x = roll-Stmt (Stmt-F.Drop x)

abbrev pub choose : Expr → List Stmt → List Stmt → Stmt
choose x ss ts = roll-Stmt (Stmt-F.If x ss ts)

-- An event after a delay and to a target, each where it is given.
abbrev pub generate_with : ℕ → List Expr → Option Expr → Option Expr → Bool → Stmt
generate_with event xs delay to delay_first = roll-Stmt (Stmt-F.Gen event xs delay to delay_first)

abbrev pub generate : ℕ → List Expr → Stmt
generate event xs = generate_with event xs None None false

abbrev pub to_each_after : ℕ → List Expr → Option Expr → List ℕ → Stmt
to_each_after event xs delay members = roll-Stmt (Stmt-F.Multi event xs delay members)

abbrev pub to_each : ℕ → List Expr → List ℕ → Stmt
to_each event xs members = to_each_after event xs None members

abbrev pub say : ℕ → List Expr → Stmt
say form xs = roll-Stmt (Stmt-F.Say form xs)

abbrev pub return : Option Expr → Stmt
return x = roll-Stmt (Stmt-F.Return x)

-- memop plus(int stored, int x) { return stored + x; }
abbrev pub plus : MemAlu
plus = record { width = 32; test = None; yes = Two Add Stored Arg; no = Two Add Stored Arg }

-- Array.update(a, i, m, x, m, y)
abbrev pub update_with : ArrayName → Expr → MemAlu → Expr → Expr → Expr
update_with a i m x y = roll-Expr (Expr-F.Array (roll-Touch (record { array = a; index = i; get = m; get_arg = x; set = m; set_arg = y; answers = true })))

-- Array.update(a, i, m, 1, m, 1)
abbrev pub update : ArrayName → Expr → MemAlu → Expr
update a i m = update_with a i m one one

-- global Array.t<<32>> a = Array.create(size);
abbrev pub array : ℕ → ArrayDef
array size = record { name = []; width = 32; size = size }

-- fun int bump(Array<<32>> a, int i) with this body and one local more.
abbrev pub bump : List Stmt → FunDef
bump body = record { name = []; arrays = 32 ∷ []; params = 1; locals = 32 ∷ 32 ∷ []; answer = Some 32; body = body; decl = 4; line = 4 }

-- event note(int i, int most);
abbrev pub note : EventDef
note = record { name = []; params = 32 ∷ 32 ∷ []; handler = Some 0 }

-- handle note(int i, int most) with this body and one local more.
abbrev pub handler : List Stmt → HandlerDef
handler body = record { event = 0; locals = 32 ∷ 32 ∷ 32 ∷ []; body = body; decl = 5; line = 5 }

-- Two arrays, a memop, an event with a handler, a function with an array parameter, and the text "n %d".
abbrev pub program : List Stmt → List Stmt → CoreParts
program bumps handles = made_of (array 4 ∷ array 8 ∷ []) (record { name = []; alu = plus } ∷ []) (note ∷ []) (bump bumps ∷ []) (handler handles ∷ []) ((110 ∷ 32 ∷ 37 ∷ 100 ∷ []) ∷ [])

-- { int n = Array.update(a, i, plus, 1, plus, 1); return n; }
abbrev pub bumps : List Stmt
bumps = assign 1 (update (Param 0) (local 0) plus) ∷ return (Some (local 1)) ∷ []

-- { int n = bump(first, i); if (n < most) { generate note(i, n); } else { printf("n %d", n); } }
abbrev pub handles : List Stmt
handles = assign 2 (call 0 (Global 0 ∷ []) (local 0 ∷ [])) ∷ choose (less (local 2) (local 1)) (generate 0 (local 0 ∷ local 2 ∷ []) ∷ []) (say 0 (local 2 ∷ []) ∷ []) ∷ []

abbrev pub small : CoreParts
small = program bumps handles

-- The same with another body of the function, or of the handler before these statements.
abbrev pub with_bump : List Stmt → CoreParts
with_bump ss = program ss handles

abbrev pub with_handler : List Stmt → CoreParts
with_handler ss = program bumps (ss ++ handles)

-- A flat program of this handler.
abbrev pub flat : List Stmt → CoreParts
flat ss = record small { funs = []; handlers = handler ss ∷ [] }

-- An inlined call: local 2 holds its parameter.
abbrev pub bump_put_in : Expr
bump_put_in = inlined ((2, local 0) ∷ []) (return (Some (update (Global 0) (local 2) plus)) ∷ [])
