-- What remains to be done of a run: the effect of each task on the machine, and that of a list of tasks.
use Rattle.std.specs.Prelude.{◌≡◌, ℕ, List, [], ◌∷◌, ◌++◌, Bool, Option, Ok, Err, Result, if◌then◌else◌}
use Rattle.std.specs.Prelude.{nat_eq, map, slice_set}
use Rattle.std.specs.Option.{option_map}
use Rattle.lucid_base.specs.Bits.{bits_of}
use Rattle.lucid_base.specs.declared.bits.Bits.{Bits}
use Rattle.lucid_base.specs.declared.event.Out.TheVariants as out
use Rattle.lucid_base.specs.declared.event.Target.{Target}
use Rattle.lucid_base.specs.declared.event.Target.TheVariants.{At}
use Rattle.lucid_base.specs.declared.memory.Memory.{Memory}
use Rattle.lucid_core.specs.declared.body.Expr.{Expr}
use Rattle.lucid_core.specs.declared.body.Stmt.{Stmt}
use Rattle.lucid_core.specs.declared.body.Touch.{Touch}
use Rattle.lucid_core.specs.Computations.{Computation, Effect, Frame, State, give, ◌>>=◌, all, block, both, called, change, send, array_of, touched}
use Rattle.lucid_core.specs.Meaning.{all_given, call, delay_of, effect_of, funs_of, generated, holding, target_of, value_of}
use Rattle.lucid_core.specs.Values.{binary, comparison, hashed, memop, nothing, numbers, unary}
use Rattle.lucid_core_run.specs.Running.{with_state}
use Rattle.lucid_core_run.specs.declared.machine.Machine.{Machine}
use Rattle.lucid_core_run.specs.declared.run.Caller.{Caller}
use Rattle.lucid_core_run.specs.declared.task.Act.{Act}
use Rattle.lucid_core_run.specs.declared.task.Task.{Task}
use Rattle.lucid_core_run.specs.declared.task.Purpose.{Purpose}
use Rattle.lucid_core_run.specs.declared.task.Act.TheVariants.{Un, BinRight, CmpRight, Cast, TouchSet, LeaveInlined, Leave, Assign, Drop, Answer}
use Rattle.lucid_core_run.specs.declared.task.Act.TheVariants.{SendTo, SendAfter, SendEach}
use Rattle.lucid_core_run.specs.declared.task.Task.TheVariants.{Value, BinLeft, CmpLeft, TouchIndex, TouchGet, Next, Given, Block, Choose}
use Rattle.lucid_core_run.specs.declared.task.Task.TheVariants.{DelayThenTarget, TargetThenDelay, Last}
use Rattle.lucid_core_run.specs.declared.task.Purpose.TheVariants.{Hash, Call, Gen, Multi, Say}

-- Where the body runs, as the definition has it.
abbrev pub frame : Machine → Frame
frame m = record { now = m.moment.now; me = m.moment.me; arrays = m.arrays; funs = funs_of m.moment.now m.moment.me m.funs.now }

abbrev pub in_state : Machine → State → Machine
in_state m s = record m { run = with_state m.run s }

abbrev pub with_value : Machine → Bits → Machine
with_value m v = record m { value = v }

-- The machine after a computation, with its result as the value.
abbrev pub valued : Computation Bits → Machine → Machine
valued f m = let r = f (frame m) m.run.state in with_value (in_state m r.after) r.gives

-- The machine after an effect, with no value.
abbrev pub done : Effect → Machine → Machine
done f m = with_value (in_state m (f (frame m) m.run.state).after) nothing

abbrev pub second_operand : (Bits → Bits → Bits) → Expr → Machine → Machine
second_operand f e m = valued (do v ← value_of e; give (f m.value v)) m

-- A call of an array whose index is the value, and one whose first argument is the value, and one whose second argument is.
abbrev pub touch_at : Touch → Machine → Machine
touch_at t m = valued (do g ← value_of t.get_arg; v ← value_of t.set_arg; touched t.array m.value.value (λ old. memop t.get old g) (λ old. memop t.set old v)) m

abbrev pub touch_with : Touch → ℕ → Machine → Machine
touch_with t i m = valued (do v ← value_of t.set_arg; touched t.array i (λ old. memop t.get old m.value) (λ old. memop t.set old v)) m

abbrev pub touch_now : Touch → ℕ → Bits → Machine → Machine
touch_now t i g m = valued (touched t.array i (λ old. memop t.get old g) (λ old. memop t.set old m.value)) m

abbrev pub sent : ℕ → List Bits → ℕ → Target → Machine → Machine
sent event vs delay to m = done (send (generated event vs delay to ∷ [])) m

abbrev pub sent_to_each : ℕ → List Bits → ℕ → List ℕ → Machine → Machine
sent_to_each event vs delay members m = done (send (map (generated event vs delay) (map At members))) m

-- An event whose delay and target remain.
abbrev pub generated_with : ℕ → List Bits → Option Expr → Option Expr → Bool → Machine → Machine
generated_with event vs delay to delay_first m =
    done (do given ← both delay_first (delay_of (option_map value_of delay)) (target_of (option_map value_of to)); send (generated event vs given.0 given.1 ∷ [])) m

abbrev pub sent_after : ℕ → List Bits → Option Expr → List ℕ → Machine → Machine
sent_after event vs delay members m = done (do ticks ← delay_of (option_map value_of delay); send (map (generated event vs ticks) (map At members))) m

-- An event whose delay is the value and whose target remains, and the other way round.
abbrev pub target_last : ℕ → List Bits → Expr → Machine → Machine
target_last event vs to m = done (do t ← value_of to; send (generated event vs m.value.value (At t.value) ∷ [])) m

abbrev pub delay_last : ℕ → List Bits → Expr → Machine → Machine
delay_last event vs delay m = done (do d ← value_of delay; send (generated event vs d.value (At m.value.value) ∷ [])) m

-- What the values of a list are for.
abbrev pub used : Purpose → List Bits → Machine → Machine
used (Hash w) vs m = with_value m (hashed w vs)
used (Call k names) vs m = valued (call k (map (array_of m.arrays) names.now) vs) m
used (Gen event delay to delay_first) vs m = generated_with event vs delay.now to.now delay_first m
used (Multi event delay members) vs m = sent_after event vs delay.now members.now m
used (Say form) vs m = done (send (out.Say form (numbers vs) ∷ [])) m

-- The rest of a list, after these values.
abbrev pub listed : List Bits → List Expr → Purpose → Machine → Machine
listed vs rest purpose m = let r = all (map value_of rest) (frame m) m.run.state in used purpose (vs ++ r.gives) (in_state m r.after)

-- The rest of the arguments of an inlined call, after these, and its statements.
abbrev pub inlined : List (ℕ × Bits) → List (ℕ × Expr) → List Stmt → Machine → Machine
inlined held rest ss m =
    let r = all_given (map (λ g. (g.0, value_of g.1)) rest) (frame m) m.run.state in
    valued (λ p s. called (holding s.locals (held ++ r.gives)) (block (map effect_of ss)) p s) (in_state m r.after)

abbrev pub left : Caller → Machine → Machine
left caller m = let s = m.run.state in with_value (in_state m (record s { locals = caller.locals; answer = caller.answer })) s.answer

abbrev pub ran : List Stmt → Machine → Machine
ran ss m = done (block (map effect_of ss)) m

abbrev pub after_act : Act → Machine → Machine
after_act (Un op) m = with_value m (unary op m.value)
after_act (BinRight op a) m = with_value m (binary op a m.value)
after_act (CmpRight op a) m = with_value m (comparison op a m.value)
after_act (Cast w) m = with_value m (bits_of w m.value.value)
after_act (TouchSet t i g) m = touch_now t.now i g m
after_act (LeaveInlined caller) m = left caller m
after_act (Leave caller arrays funs) m = record (left caller m) { arrays = arrays; funs = funs }
after_act (Assign i) m = done (change (λ s. record s { locals = slice_set s.locals i m.value })) m
after_act Drop m = with_value m nothing
after_act Answer m = done (change (λ s. record s { answer = m.value })) m
after_act (SendTo event vs delay) m = sent event vs delay (At m.value.value) m
after_act (SendAfter event vs to) m = sent event vs m.value.value to m
after_act (SendEach event vs members) m = sent_to_each event vs m.value.value members.now m

abbrev pub after_task : Task → Machine → Machine
after_task (Value e) m = valued (value_of e.now) m
after_task (BinLeft op b) m = second_operand (binary op) b.now m
after_task (CmpLeft op b) m = second_operand (comparison op) b.now m
after_task (TouchIndex t) m = touch_at t.now m
after_task (TouchGet t i) m = touch_with t.now i m
after_task (Next vs rest purpose) m = listed (vs ++ m.value ∷ []) rest.now purpose m
after_task (Given held i rest stmts) m = inlined (held ++ (i, m.value) ∷ []) rest.now stmts.now m
after_task (Block ss) m = ran ss.now m
after_task (Choose ss ts) m = ran (if nat_eq m.value.value 0 then ts.now else ss.now) m
after_task (DelayThenTarget event vs to) m = target_last event vs to.now m
after_task (TargetThenDelay event vs delay) m = delay_last event vs delay.now m
after_task (Last act) m = after_act act m

-- The machine after all tasks, the first one first.
abbrev pub after_all : List Task → Machine → Machine
after_all [] m = m
after_all (t ∷ ts) m = after_all ts (after_task t m)

-- The tasks lead to this machine, unless memory runs out; either way the run keeps the cells that it began with.
abbrev pub Leads : Machine → List (List ℕ) → List Task → Machine → Result (Unit {0}) Memory → Type 0
Leads to start tasks m (Ok _) = (after_all tasks m ≡ to) × (m.run.start ≡ start)
Leads to start tasks m (Err _) = m.run.start ≡ start
