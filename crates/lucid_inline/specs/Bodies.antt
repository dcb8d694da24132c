-- What remains to be inlined of a body: the effect of each task on the machine, and that of a list of tasks.
use Rattle.std.specs.Prelude.{◌≡◌, ℕ, ◌+◌, List, [], ◌∷◌, ◌++◌, Bool, true, false, Option, None, Some, Ok, Err, Result}
use Rattle.std.specs.Prelude.{drop, map, reverse, slice_get, take}
use denote.Bor.{Bor}
use Rattle.lucid_base.specs.declared.array.ArrayName.{ArrayName}
use Rattle.lucid_base.specs.declared.array.ArrayName.TheVariants.{Global}
use Rattle.lucid_base.specs.declared.memory.Memory.{Memory}
use Rattle.lucid_core.specs.declared.body.Expr.{Expr}
use Rattle.lucid_core.specs.declared.body.Expr.TheVariants as e
use Rattle.lucid_core.specs.declared.body.Expr.TheViews.{roll-Touch}
use Rattle.lucid_core.specs.declared.body.Stmt.{Stmt}
use Rattle.lucid_core.specs.declared.body.Stmt.TheVariants as s
use Rattle.lucid_core.specs.declared.body.Touch.{Touch, out-Touch}
use Rattle.lucid_core.specs.declared.defs.FunDef.{FunDef}
use Rattle.lucid_core.specs.Computations.{array_of}
use Rattle.lucid_inline_spec.specs.Flat.{Flattened, Site, block, each, flat_expr, flat_stmt, puts_of}
use Rattle.lucid_inline.specs.Sites.{called, sent_to_all}
use Rattle.lucid_inline.specs.declared.machine.Caller.{Caller}
use Rattle.lucid_inline.specs.declared.machine.Machine.{Machine}
use Rattle.lucid_inline.specs.declared.task.Ending.{Ending}
use Rattle.lucid_inline.specs.declared.task.Ending.TheVariants.{Assign, Drop, Branch, Gen, Multi, Say, Return}
use Rattle.lucid_inline.specs.declared.task.Node.{Node}
use Rattle.lucid_inline.specs.declared.task.Node.TheVariants.{Un, Bin, Cmp, Cast, Hash, Array}
use Rattle.lucid_inline.specs.declared.task.Task.{Task}
use Rattle.lucid_inline.specs.declared.task.Task.TheVariants.{Value, Values, Build, Call, Leave, Block, Open, End}

-- Where the body is, as the definition has it.
abbrev pub place : Machine → Site
place m = record { arrays = m.arrays; first = m.first; funs = puts_of m.funs.now }

-- The machine with the flat form of an expression as the last operand, and with those of expressions as the last ones.
abbrev pub valued : Expr → Machine → Machine
valued x m = let r = flat_expr x (place m) m.locals in record m { locals = r.locals; operands = r.value ∷ m.operands }

abbrev pub all_valued : List Expr → Machine → Machine
all_valued xs m = let r = each (map flat_expr xs) (place m) m.locals in record m { locals = r.locals; operands = reverse r.value ++ m.operands }

abbrev pub if_valued : Option Expr → Machine → Machine
if_valued None m = m
if_valued (Some x) m = valued x m

abbrev pub both_valued : Bool → Option Expr → Option Expr → Machine → Machine
both_valued true x y m = if_valued y (if_valued x m)
both_valued false x y m = if_valued x (if_valued y m)

-- The machine with the flat form of a statement at the end of the block, and with that of statements.
abbrev pub done : Stmt → Machine → Machine
done x m = let r = flat_stmt x (place m) m.locals in record m { locals = r.locals; block = m.block ++ r.value }

abbrev pub ran : List Stmt → Machine → Machine
ran xs m = let r = block (map flat_stmt xs) (place m) m.locals in record m { locals = r.locals; block = m.block ++ r.value }

-- The last n operands, in the order in which they were made.
abbrev pub last : ℕ → List Expr → List Expr
last n made = reverse (take n made)

-- A call of an array with these operands, where these arrays are passed.
abbrev pub touched : List ℕ → Touch → Expr → Expr → Expr → Touch
touched arrays t index get_arg set_arg =
    roll-Touch (record (out-Touch t) { array = Global (array_of arrays (out-Touch t).array); index = index; get_arg = get_arg; set_arg = set_arg })

-- The operands once the last ones are those of a call of an array.
abbrev pub with_touch : List ℕ → Touch → List Expr → List Expr
with_touch arrays t (c ∷ b ∷ a ∷ made) = e.Array (touched arrays t a b c) ∷ made
with_touch arrays t made = made

-- The operands once the last ones are those of this expression.
abbrev pub built : List ℕ → Node → List Expr → List Expr
built arrays (Un op) (a ∷ made) = e.Un op a ∷ made
built arrays (Bin op) (b ∷ a ∷ made) = e.Bin op a b ∷ made
built arrays (Cmp op) (b ∷ a ∷ made) = e.Cmp op a b ∷ made
built arrays (Cast w) (a ∷ made) = e.Cast w a ∷ made
built arrays (Hash w n) made = e.Hash w (last n made) ∷ drop n made
built arrays (Array t) made = with_touch arrays t.now made
built arrays node made = made

-- A call with the last n operands.
abbrev pub with_call : ℕ → List ArrayName → ℕ → Machine → Machine
with_call k names n m =
    let r = called (slice_get (puts_of m.funs.now) k) (map (array_of m.arrays) names) (last n m.operands) m.locals in
    record m { locals = r.locals; operands = r.value ∷ drop n m.operands }

-- The machine in the body of a function, behind the functions before it, in which the locals from `first` on hold these arguments.
abbrev pub entered : List ArrayName → List (ℕ × Expr) → ℕ → Bor (List FunDef) → FunDef → Machine → Machine
entered names given first before f m = record m {
  arrays = map (array_of m.arrays) names;
  first = first;
  funs = before;
  locals = m.locals ++ f.locals;
  block = [];
  callers = record { given = given; arrays = m.arrays; first = m.first; funs = m.funs; block = m.block } ∷ m.callers;
}

-- The end of a call: its body is the block, and the caller continues.
abbrev pub left : List Caller → Machine → Machine
left [] m = m
left (c ∷ callers) m = record m {
  arrays = c.arrays;
  first = c.first;
  funs = c.funs;
  operands = e.Inlined c.given m.block ∷ m.operands;
  block = c.block;
  callers = callers;
}

abbrev pub opened : Machine → Machine
opened m = record m { block = []; outer = m.block ∷ m.outer }

-- The machine with this statement at the end of the block, and these operands.
abbrev pub with_stmt : Stmt → List Expr → Machine → Machine
with_stmt x made m = record m { operands = made; block = m.block ++ x ∷ [] }

-- An if: its test is the last operand, its second branch is the block, and its first branch is the block round it.
abbrev pub branched : List Expr → List (List Stmt) → Machine → Machine
branched (x ∷ made) (first ∷ before ∷ outer) m = record m { operands = made; block = before ++ s.If x first m.block ∷ []; outer = outer }
branched made outer m = m

-- The last operand where the test holds, and the operands before it.
pub record Popped : Type 0 where
  pub value : Option Expr
  pub rest : List Expr

abbrev pub popped : Bool → List Expr → Popped
popped true (x ∷ made) = record { value = Some x; rest = made }
popped there made = record { value = None; rest = made }

-- An event to one switch: its delay and its target are the last operands, its arguments the n before them.
abbrev pub sent_to_one : ℕ → ℕ → Bool → Bool → Bool → Machine → Machine
sent_to_one event n delay to true m =
    let second = popped to m.operands in
    let first = popped delay second.rest in
    with_stmt (s.Gen event (last n first.rest) first.value second.value true) (drop n first.rest) m
sent_to_one event n delay to false m =
    let second = popped delay m.operands in
    let first = popped to second.rest in
    with_stmt (s.Gen event (last n first.rest) second.value first.value false) (drop n first.rest) m

-- An event to several switches: its delay is the last operand, its arguments are the n before it.
abbrev pub grouped : Flattened (List Stmt) → List Expr → Machine → Machine
grouped r made m = record m { locals = r.locals; operands = made; block = m.block ++ r.value }

abbrev pub sent_to_each : ℕ → ℕ → Bool → List ℕ → List Expr → Machine → Machine
sent_to_each event n false members made m = grouped (sent_to_all event n false members (last n made) m.locals) (drop n made) m
sent_to_each event n true members (d ∷ made) m = grouped (sent_to_all event n true members (last n made ++ d ∷ []) m.locals) (drop n made) m
sent_to_each event n true members [] m = m

abbrev pub ended : Ending → List Expr → Machine → Machine
ended (Assign i) (x ∷ made) m = with_stmt (s.Assign (m.first + i) x) made m
ended Drop (x ∷ made) m = with_stmt (s.Drop x) made m
ended Branch made m = branched made m.outer m
ended (Gen event n delay to delay_first) made m = sent_to_one event n delay to delay_first m
ended (Multi event n delay members) made m = sent_to_each event n delay members.now made m
ended (Say form n) made m = with_stmt (s.Say form (last n made)) (drop n made) m
ended Return (x ∷ made) m = with_stmt (s.Return (Some x)) made m
ended ending made m = m

abbrev pub after_task : Task → Machine → Machine
after_task (Value x) m = valued x.now m
after_task (Values xs) m = all_valued xs.now m
after_task (Build node) m = record m { operands = built m.arrays node m.operands }
after_task (Call k names n) m = with_call k names.now n m
after_task Leave m = left m.callers m
after_task (Block xs) m = ran xs.now m
after_task Open m = opened m
after_task (End ending) m = ended ending m.operands m

-- The machine after all tasks, the first one first.
abbrev pub after_all : List Task → Machine → Machine
after_all [] m = m
after_all (t ∷ ts) m = after_all ts (after_task t m)

-- The tasks lead to this machine, unless memory runs out.
abbrev pub Leads : Machine → List Task → Machine → Result (Unit {0}) Memory → Type 0
Leads to tasks m (Ok _) = after_all tasks m ≡ to
Leads to tasks m (Err _) = Unit
