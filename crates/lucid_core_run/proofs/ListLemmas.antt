-- Lists of expressions, calls of functions and events.
use Rattle.std.proofs.Common.{◌≡◌, ℕ, List, [], ◌∷◌, ◌++◌, Bool, None, Option, Some, false, true, take, refl, ap, sym}
use Rattle.std.proofs.lemmas.List.{append_assoc}
use Rattle.std.specs.Option.{option_map}
use Rattle.std.specs.Prelude.{slice_get}
use denote.Bor.{Bor}
use Rattle.lucid_base.specs.declared.bits.Bits.{Bits}
use Rattle.lucid_base.specs.declared.event.Target.{Target}
use Rattle.lucid_core.specs.declared.body.Expr.{Expr}
use Rattle.lucid_core.specs.declared.body.Stmt.{Stmt}
use Rattle.lucid_core.specs.declared.defs.FunDef.{FunDef}
use Rattle.lucid_core.specs.Computations.{Ran, begun_with}
use Rattle.lucid_core.specs.Meaning.{call, delay_of, target_of, value_of}
use Rattle.lucid_core.specs.Values.{nothing}
use Rattle.lucid_core.proofs.Funs.{call_none, call_some}
use Rattle.lucid_core_run.specs.declared.machine.Machine.{Machine}
use Rattle.lucid_core_run.specs.declared.task.Purpose.{Purpose}
use Rattle.lucid_core_run.specs.declared.task.Purpose.TheVariants.{Hash, Call, Gen, Multi, Say}
use Rattle.lucid_core_run.specs.Running.{with_state}
use Rattle.lucid_core_run.specs.Interpret.{frame, generated_with, in_state, inlined, left, listed, ran, sent, sent_after, sent_to_each, valued, with_value}

-- A call whose body runs on locals of its own, behind the functions before it.
pub called_some : (m : Machine) (before : Bor (List FunDef)) (k : ℕ) (arrays : List ℕ) (args locals : List Bits) (widths : List ℕ) (body : List Stmt) (f : FunDef) →
    Some f ≡ slice_get m.funs.now k → before.now ≡ take k m.funs.now → widths ≡ f.locals → body ≡ f.body → locals ≡ begun_with args widths →
    record (left (record { locals = m.run.state.locals; answer = m.run.state.answer })
    (ran body (record m { arrays = arrays; funs = before; run = with_state m.run (record m.run.state { locals = locals; answer = nothing }) }))) { arrays = m.arrays; funs = m.funs }
    ≡ valued (call k arrays args) m
called_some m before k arrays args locals widths body f is at ws ss begun =
    ap (λ (r : Ran Bits). with_value (in_state m r.after) r.gives) (sym (call_some (frame m) m.funs.now before.now k arrays args locals widths body f m.run.state refl is at ws ss begun))

-- A call of a function that is not there.
pub called_none : (m : Machine) (k : ℕ) (arrays : List ℕ) (args : List Bits) → None ≡ slice_get m.funs.now k → with_value m nothing ≡ valued (call k arrays args) m
called_none m k arrays args is =
    ap (λ (r : Ran Bits). with_value (in_state m r.after) r.gives) (sym (call_none (frame m) m.funs.now k arrays args m.run.state refl is))

-- The next value of a list, and of the arguments of an inlined call.
pub listed_next : (m : Machine) (vs : List Bits) (e : Expr) (rest : List Expr) (purpose : Purpose) →
    listed (vs ++ (valued (value_of e) m).value ∷ []) rest purpose (valued (value_of e) m) ≡ listed vs (e ∷ rest) purpose m
listed_next m vs e rest (Hash w) = rw (append_assoc vs ((valued (value_of e) m).value ∷ [])) refl
listed_next m vs e rest (Call k names) = rw (append_assoc vs ((valued (value_of e) m).value ∷ [])) refl
listed_next m vs e rest (Gen event delay to delay_first) = rw (append_assoc vs ((valued (value_of e) m).value ∷ [])) refl
listed_next m vs e rest (Multi event delay members) = rw (append_assoc vs ((valued (value_of e) m).value ∷ [])) refl
listed_next m vs e rest (Say form) = rw (append_assoc vs ((valued (value_of e) m).value ∷ [])) refl

pub inlined_next : (m : Machine) (held : List (ℕ × Bits)) (g : ℕ × Expr) (rest : List (ℕ × Expr)) (ss : List Stmt) →
    inlined (held ++ (g.0, (valued (value_of g.1) m).value) ∷ []) rest ss (valued (value_of g.1) m) ≡ inlined held (g ∷ rest) ss m
inlined_next m held g rest ss = rw (append_assoc held ((g.0, (valued (value_of g.1) m).value) ∷ [])) refl

-- An event whose delay is evaluated first, and one whose target is.
pub sent_delay_first : (m n o : Machine) (event : ℕ) (vs : List Bits) (delay to : Option Expr) (delay_first : Bool) (d : ℕ) (t : Target) →
    delay_first ≡ true →
    d ≡ (delay_of (option_map value_of delay) (frame m) m.run.state).gives →
    n ≡ with_value (in_state m (delay_of (option_map value_of delay) (frame m) m.run.state).after) nothing →
    t ≡ (target_of (option_map value_of to) (frame n) n.run.state).gives →
    o ≡ with_value (in_state n (target_of (option_map value_of to) (frame n) n.run.state).after) nothing →
    sent event vs d t o ≡ generated_with event vs delay to delay_first m
sent_delay_first m n o event vs delay to delay_first d t first delayed after_delay targeted after_target =
    rw (first, after_target, targeted, after_delay, delayed) refl

pub sent_target_first : (m n o : Machine) (event : ℕ) (vs : List Bits) (delay to : Option Expr) (delay_first : Bool) (d : ℕ) (t : Target) →
    delay_first ≡ false →
    t ≡ (target_of (option_map value_of to) (frame m) m.run.state).gives →
    n ≡ with_value (in_state m (target_of (option_map value_of to) (frame m) m.run.state).after) nothing →
    d ≡ (delay_of (option_map value_of delay) (frame n) n.run.state).gives →
    o ≡ with_value (in_state n (delay_of (option_map value_of delay) (frame n) n.run.state).after) nothing →
    sent event vs d t o ≡ generated_with event vs delay to delay_first m
sent_target_first m n o event vs delay to delay_first d t last targeted after_target delayed after_delay =
    rw (last, after_delay, delayed, after_target, targeted) refl

pub sent_to_all : (m n : Machine) (event : ℕ) (vs : List Bits) (delay : Option Expr) (members : List ℕ) (d : ℕ) →
    d ≡ (delay_of (option_map value_of delay) (frame m) m.run.state).gives →
    n ≡ with_value (in_state m (delay_of (option_map value_of delay) (frame m) m.run.state).after) nothing →
    sent_to_each event vs d members n ≡ sent_after event vs delay members m
sent_to_all m n event vs delay members d delayed after_delay = rw (after_delay, delayed) refl
