-- A program of the forms of expressions and statements that the worked program of the step hasn't, over cells of 8 bits.
use Rattle.std.specs.Prelude.{ℕ, List, [], ◌∷◌, None, Some, Bool, true, false}
use Rattle.lucid_base.specs.Bits.{bits_of}
use Rattle.lucid_base.specs.declared.array.ArrayDef.{ArrayDef}
use Rattle.lucid_base.specs.declared.array.ArrayName.TheVariants.{Global}
use Rattle.lucid_base.specs.declared.memory_alu.MemAlu.{MemAlu}
use Rattle.lucid_base.specs.declared.memory_alu.MemArg.TheVariants.{Stored, Arg, Fixed}
use Rattle.lucid_base.specs.declared.memory_alu.MemSide.TheVariants.{One, Two}
use Rattle.lucid_base.specs.declared.ops.BinOp.TheVariants.{Add, Sub}
use Rattle.lucid_base.specs.declared.ops.CmpOp.TheVariants.{Lt, Ge}
use Rattle.lucid_base.specs.declared.ops.UnOp.TheVariants.{Neg}
use Rattle.lucid_core.specs.declared.body.Expr.{Expr}
use Rattle.lucid_core.specs.declared.body.Stmt.{Stmt}
use Rattle.lucid_core.specs.declared.body.Expr.TheOpen.{Expr-F}
use Rattle.lucid_core.specs.declared.body.Expr.TheViews.{roll-Expr, roll-Touch}
use Rattle.lucid_core.specs.declared.defs.EventDef.{EventDef}
use Rattle.lucid_core.specs.declared.defs.FunDef.{FunDef}
use Rattle.lucid_core.specs.declared.defs.HandlerDef.{HandlerDef}
use Rattle.lucid_core.specs.ExamplePrograms.{number, local, one, call, drop_value, generate_with, to_each, say, return}
use Rattle.lucid_core.specs.Parts.{CoreParts, made_of}
use Rattle.lucid_tests.specs.StepExamples.{declared, handling}

-- A number of 8 bits, and the low 8 bits of local 0.
abbrev pub byte : ℕ → Expr
byte n = roll-Expr (Expr-F.Fixed (bits_of 8 n))

abbrev pub low_byte : Expr
low_byte = roll-Expr (Expr-F.Cast 8 (local 0))

-- Memops over bytes: the stored number; the argument; and the stored number plus 1 while it is less than the argument, otherwise 0.
abbrev pub keep : MemAlu
keep = record { width = 8; test = None; yes = One Stored; no = One Stored }

abbrev pub put : MemAlu
put = record { width = 8; test = None; yes = One Arg; no = One Arg }

abbrev pub count_up : MemAlu
count_up = record { width = 8; test = Some (Lt, Stored, Arg); yes = Two Add Stored (Fixed 1); no = One (Fixed 0) }

-- A call of cell i of the array, where i is local 0.
abbrev pub at_cell : MemAlu → Expr → MemAlu → Expr → Bool → Expr
at_cell get x set y answers = roll-Expr (Expr-F.Array (roll-Touch (record { array = Global 0; index = local 0; get = get; get_arg = x; set = set; set_arg = y; answers = answers })))

-- Values that are printed.
unfoldable pub say_now : Stmt
say_now = say 0 (roll-Expr Expr-F.Now ∷ [])

unfoldable pub say_me : Stmt
say_me = say 0 (roll-Expr Expr-F.Me ∷ [])

-- printf("n %d", -i);
unfoldable pub say_negated : Stmt
say_negated = say 0 (roll-Expr (Expr-F.Un Neg (local 0)) ∷ [])

-- printf("n %d", i - 1);
unfoldable pub say_less_one : Stmt
say_less_one = say 0 (roll-Expr (Expr-F.Bin Sub (local 0) one) ∷ [])

-- printf("n %d", i >= 1);
unfoldable pub say_is_some : Stmt
say_is_some = say 0 (roll-Expr (Expr-F.Cmp Ge (local 0) one) ∷ [])

unfoldable pub say_low_byte : Stmt
say_low_byte = say 0 (low_byte ∷ [])

unfoldable pub values : List Stmt
values = say_now ∷ say_me ∷ say_negated ∷ say_less_one ∷ say_is_some ∷ say_low_byte ∷ drop_value (local 0) ∷ []

-- Array.set(bytes, i, (int<<8>>) i);
unfoldable pub set_cell : Stmt
set_cell = drop_value (at_cell keep (byte 0) put low_byte false)

-- printf("n %d", Array.get(bytes, i));
unfoldable pub say_cell : Stmt
say_cell = say 0 (at_cell keep (byte 0) keep (byte 0) true ∷ [])

-- printf("n %d", Array.getm(bytes, i, count_up, 9));
unfoldable pub say_counted : Stmt
say_counted = say 0 (at_cell count_up (byte 9) keep (byte 0) true ∷ [])

-- Array.setm(bytes, i, count_up, 9);
unfoldable pub count_cell : Stmt
count_cell = drop_value (at_cell keep (byte 0) count_up (byte 9) false)

unfoldable pub calls_of_array : List Stmt
calls_of_array = set_cell ∷ say_cell ∷ say_counted ∷ count_cell ∷ say_cell ∷ []

-- printf("n %d", twice_next(i));
unfoldable pub say_nested : Stmt
say_nested = say 0 (call 1 [] (local 0 ∷ []) ∷ [])

-- An event at once, after a tick, to a switch, and to two switches at once.
unfoldable pub sent_at_once : Stmt
sent_at_once = generate_with 0 (local 0 ∷ []) None None false

unfoldable pub sent_later : Stmt
sent_later = generate_with 0 (local 0 ∷ []) (Some one) None true

unfoldable pub sent_away : Stmt
sent_away = generate_with 0 (local 0 ∷ []) None (Some (number 2)) false

unfoldable pub sent_to_each : Stmt
sent_to_each = to_each 0 (local 0 ∷ []) (5 ∷ 7 ∷ [])

unfoldable pub sends : List Stmt
sends = sent_at_once ∷ sent_later ∷ sent_away ∷ sent_to_each ∷ []

-- fun int f(int i) { .. }, declaration `decl`.
abbrev pub function : ℕ → List Stmt → FunDef
function decl body = record { name = []; arrays = []; params = 1; locals = 32 ∷ []; answer = Some 32; body = body; decl = decl; line = decl }

-- fun int next(int i) { return i + 1; }
unfoldable pub next : FunDef
next = function 1 (return (Some (roll-Expr (Expr-F.Bin Add (local 0) one))) ∷ [])

-- fun int twice_next(int i) { return next(next(i)); }
unfoldable pub twice_next : FunDef
twice_next = function 2 (return (Some (call 0 [] (call 0 [] (local 0 ∷ []) ∷ []))) ∷ [])

abbrev pub bytes : ArrayDef
bytes = record { name = []; width = 8; size = 4 }

abbrev pub events : List EventDef
events = declared (Some 0) ∷ declared (Some 1) ∷ declared (Some 2) ∷ declared (Some 3) ∷ []

abbrev pub handlers : List HandlerDef
handlers = handling 0 values ∷ handling 1 calls_of_array ∷ handling 2 (say_nested ∷ []) ∷ handling 3 sends ∷ []

-- An array of 4 bytes, an event for each body, two functions, and the text "n %d".
abbrev pub formed : CoreParts
formed = made_of (bytes ∷ []) [] events (next ∷ twice_next ∷ []) handlers ((110 ∷ 32 ∷ 37 ∷ 100 ∷ []) ∷ [])
