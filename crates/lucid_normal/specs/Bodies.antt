-- What remains to be done of a walk over a body: the effect of each task on the walk, and that of a list of tasks.
use Rattle.std.specs.Prelude.{⊤, ℕ, List, [], ◌∷◌, ◌++◌, Bool, Option, None, Some, map, if◌then◌else◌}
use Rattle.std.specs.Option.{option_map}
use Rattle.lucid_base.specs.declared.ops.BinOp.{BinOp}
use Rattle.lucid_base.specs.declared.ops.CmpOp.{CmpOp}
use Rattle.lucid_code.specs.declared.op.Act.TheVariants as act
use Rattle.lucid_code.specs.declared.op.Literal.{Literal}
use Rattle.lucid_code.specs.declared.op.Op.{Op}
use Rattle.lucid_code.specs.declared.op.Operand.{Operand}
use Rattle.lucid_core.specs.declared.body.Expr.{Expr}
use Rattle.lucid_core.specs.declared.body.Stmt.{Stmt}
use Rattle.lucid_core.specs.declared.body.Touch.{Touch}
use Rattle.lucid_core.specs.Computations.{array_of}
use Rattle.lucid_normal_spec.specs.declared.env.Env.{Env}
use Rattle.lucid_normal_spec.specs.declared.env.Typed.{Typed}
use Rattle.lucid_normal_spec.specs.Translate.{◌>>=◌, Translation, assign, bit_field, body_code, both_made, branch, call_made, delay_made}
use Rattle.lucid_normal_spec.specs.Translate.{done, each_made, emit, expr_code, given_made, held_by, is, operands, ordered_made, out_made}
use Rattle.lucid_normal_spec.specs.Translate.{return_made, target_made, touch_made, valued}
use Rattle.lucid_normal_join.specs.Branches.{Ends, ends_at, ends_of, env_of, ops_of}
use Rattle.lucid_normal_join.specs.declared.branches.Begun.{Begun}
use Rattle.lucid_normal_steps.specs.Added.{added}
use Rattle.lucid_normal_steps.specs.Notes.{before}
use Rattle.lucid_normal_steps.specs.declared.calls.Caller.{Caller}
use Rattle.lucid_normal_steps.specs.declared.notes.Note.{Note}
use Rattle.lucid_normal.specs.Given.{given_codes}
use Rattle.lucid_normal.specs.declared.machine.Machine.{Machine}
use Rattle.lucid_normal.specs.declared.task.End.{End}
use Rattle.lucid_normal.specs.declared.task.Purpose.{Purpose}
use Rattle.lucid_normal.specs.declared.task.Task.{Task}
use Rattle.lucid_normal.specs.declared.task.End.TheVariants.{Un, BinRight, CmpRight, Cast, TouchSet, Leave, Assign, Drop, Answer}
use Rattle.lucid_normal.specs.declared.task.End.TheVariants.{SendTo, SendAfter, Join}
use Rattle.lucid_normal.specs.declared.task.Purpose.TheVariants.{Hash, Gen, Say}
use Rattle.lucid_normal.specs.declared.task.Task.TheVariants.{Value, BinLeft, CmpLeft, TouchIndex, TouchGet, Next, Given, Block, Choose}
use Rattle.lucid_normal.specs.declared.task.Task.TheVariants.{Turn, DelayThenTarget, TargetThenDelay, Last}

-- A walk between two tasks: the guard of the current branch, the operations so far, the environment, the locals before all notes, and the
-- value of the expression that ended last. There is none after a statement.
pub record Walk : Type 0 where
  pub guard : List Literal
  pub ops : List Op
  pub env : Env
  pub was : List (Option Typed)
  pub value : Option Typed

abbrev pub walk : Machine → Walk
walk m = record {
  guard = m.guard;
  ops = m.work.ops.items;
  env = m.env;
  was = before m.work.notes.items m.env.held;
  value = m.value;
}

-- The walk after a translation, of whose value this is the view.
unfoldable pub ended : {A : Type 0} → (A → Option Typed) → Translation A → Walk → Walk
ended view t s = let r = t s.env in record s { ops = added s.guard s.ops r.ops; env = r.env; value = view r.value }

abbrev pub expressed : Translation (Option Typed) → Walk → Walk
expressed t s = ended (λ v. v) t s

-- The walk after a translation that leaves no value.
abbrev pub finished : {A : Type 0} → Translation A → Walk → Walk
finished t s = ended (λ _. None) t s

-- The value, which must be there.
abbrev pub operand_of : Walk → Typed
operand_of s = held_by s.value

-- A binary operation and a comparison, with their operands.
abbrev pub binary : BinOp → Typed → Typed → Translation (Option Typed)
binary op x y = emit x.width (act.Bin op x.width x.operand y.operand)

abbrev pub comparison : CmpOp → Typed → Typed → Translation (Option Typed)
comparison op x y = emit 1 (act.Cmp op x.width x.operand y.operand)

-- The second operand, after the first.
unfoldable pub second_operand : (Typed → Typed → Translation (Option Typed)) → Expr → Walk → Walk
second_operand f y s = let x = operand_of s in expressed (do b ← valued (expr_code y).made; f x b) s

abbrev pub optional : Option Expr → Translation (Option Typed)
optional None = done None
optional (Some e) = (expr_code e).made

-- The call of an array, with its operands.
abbrev pub touched : Touch → Typed × (Typed × Typed) → Translation (Option Typed)
touched t p = touch_made (array_of [] t.array) t.get t.set t.answers p

-- A call of an array whose index is the value, and one whose first argument is.
unfoldable pub touch_at : Touch → Walk → Walk
touch_at t s =
    let index = operand_of s in
    expressed (do p ← both_made (valued (expr_code t.get_arg).made) (valued (expr_code t.set_arg).made); touched t (index, p)) s

unfoldable pub touch_with : Touch → Typed → Walk → Walk
touch_with t index s = let get_arg = operand_of s in expressed (do v ← valued (expr_code t.set_arg).made; touched t (index, (get_arg, v))) s

-- An event whose operands are known, and one whose delay and target remain.
abbrev pub sent : ℕ → List Operand → Operand → Option Operand → Translation ⊤
sent event args delay to = out_made (λ slot. act.Gen slot event args delay to)

abbrev pub sent_at : ℕ → List Operand → Option Expr → Option Expr → Bool → Translation ⊤
sent_at event args delay to delay_first =
    let given = ordered_made delay_first (delay_made (option_map expr_code delay)) (target_made (option_map expr_code to)) in
    do p ← given; sent event args p.0 p.1

-- The target of an event, from the value of its expression.
abbrev pub target_in : Bool → Option Typed → Option Operand
target_in targeted value = if targeted then Some (held_by value).operand else None

-- An event whose delay is the value and whose target remains, and the other way round.
unfoldable pub target_last : ℕ → List Operand → Option Expr → Walk → Walk
target_last event args to s =
    let delay = (operand_of s).operand in finished (do t ← target_made (option_map expr_code to); sent event args delay t) s

unfoldable pub delay_last : ℕ → List Operand → Bool → Option Expr → Walk → Walk
delay_last event args targeted delay s =
    let to = target_in targeted s.value in finished (do d ← delay_made (option_map expr_code delay); sent event args d to) s

-- The use of the operands of a list.
unfoldable pub used : Purpose → List Operand → Walk → Walk
used (Hash w) xs s = expressed (emit w (act.Hash xs)) s
used (Gen event delay to delay_first) xs s = finished (sent_at event xs delay.now to.now delay_first) s
used (Say form) xs s = finished (out_made (λ slot. act.Say slot form xs)) s

-- The rest of a list, after these operands.
unfoldable pub listed : List Operand → List Expr → Purpose → Walk → Walk
listed xs rest purpose s =
    let t = each_made (map expr_code rest) in used purpose (xs ++ operands (t s.env).value) (finished t s)

-- The rest of the arguments of an inlined call, after these, and its statements.
unfoldable pub inlined : List (ℕ × Typed) → List (ℕ × Expr) → List Stmt → Walk → Walk
inlined held rest ss s =
    let t = given_made (given_codes rest) in expressed (call_made (body_code ss) (held ++ (t s.env).value)) (finished t s)

-- The end of an inlined body: the caller's locals, notes and answer are as before, and the body's answer is the value.
unfoldable pub left : Caller → Walk → Walk
left caller s = record s {
  env = record s.env { held = s.was; answer = caller.answer };
  was = before caller.notes.items s.was;
  value = s.env.answer;
}

-- An `if` whose condition is the value.
unfoldable pub chosen : Bool → List Stmt → List Stmt → Walk → Walk
chosen needs_move ss ts s =
    let t = operand_of s in finished (do c ← bit_field needs_move t.operand t; branch (body_code ss) (body_code ts) c) s

-- The start of the second branch, at the end of the first.
abbrev pub turned_back : Begun → ℕ → List Literal → Walk → Walk
turned_back begun condition outer s = record s {
  guard = outer ++ is condition 0 ∷ [];
  env = record s.env { held = s.was; answer = begun.answer; slot = begun.slot; place = begun.place };
}

-- The end of an `if`, at the end of its second branch. Both branches began with the locals that were.
unfoldable pub joined : ℕ → List Literal → List Note → Ends → Walk → Walk
joined condition outer notes first s = record s {
  guard = outer;
  ops = added outer s.ops (ops_of condition s.was first s.env);
  env = env_of condition s.was first s.env;
  was = before notes s.was;
  value = None;
}

-- The second branch and the end of an `if`, after the first branch.
unfoldable pub turned : Begun → ℕ → List Literal → List Stmt → Walk → Walk
turned begun condition outer ts s =
    joined condition outer begun.notes.items (ends_of s.env) (finished (body_code ts) (turned_back begun condition outer s))

abbrev pub after_end : End → Walk → Walk
after_end (Un op) s = let x = operand_of s in expressed (emit x.width (act.Un op x.width x.operand)) s
after_end (BinRight op x) s = expressed (binary op x (operand_of s)) s
after_end (CmpRight op x) s = expressed (comparison op x (operand_of s)) s
after_end (Cast w) s = expressed (emit w (act.Cast (operand_of s).operand)) s
after_end (TouchSet t index get_arg) s = expressed (touched t.now (index, (get_arg, operand_of s))) s
after_end (Leave caller) s = left caller s
after_end (Assign i) s = finished (assign i (operand_of s)) s
after_end Drop s = record s { value = None }
after_end Answer s = finished (return_made (operand_of s)) s
after_end (SendTo event args delay targeted) s = finished (sent event args delay (target_in targeted s.value)) s
after_end (SendAfter event args to) s = finished (sent event args (operand_of s).operand to) s
after_end (Join turned condition outer) s = joined condition outer turned.notes.items (ends_at s.was turned.first) s

abbrev pub after_task : Task → Walk → Walk
after_task (Value e) s = expressed (expr_code e.now).made s
after_task (BinLeft op y) s = second_operand (binary op) y.now s
after_task (CmpLeft op y) s = second_operand (comparison op) y.now s
after_task (TouchIndex t) s = touch_at t.now s
after_task (TouchGet t index) s = touch_with t.now index s
after_task (Next xs rest purpose) s = listed (xs ++ (operand_of s).operand ∷ []) rest.now purpose s
after_task (Given held i rest ss) s = inlined (held ++ (i, operand_of s) ∷ []) rest.now ss.now s
after_task (Block ss) s = finished (body_code ss.now) s
after_task (Choose needs_move ss ts) s = chosen needs_move ss.now ts.now s
after_task (Turn begun condition outer ts) s = turned begun condition outer ts.now s
after_task (DelayThenTarget event args to) s = target_last event args to.now s
after_task (TargetThenDelay event args targeted delay) s = delay_last event args targeted delay.now s
after_task (Last end) s = after_end end s

-- The walk after all tasks, the first one first.
abbrev pub after_all : List Task → Walk → Walk
after_all [] s = s
after_all (t ∷ ts) s = after_all ts (after_task t s)
