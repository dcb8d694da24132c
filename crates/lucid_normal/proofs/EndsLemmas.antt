-- The ends of tasks, from the clauses of the functions that do them.
use Rattle.std.proofs.Common.{◌≡◌, ◌∙◌, ℕ, List, [], Bool, true, false, Option, None, ap, ap₂, refl}
use Rattle.lucid_base.specs.declared.memory_alu.MemAlu.{MemAlu}
use Rattle.lucid_code.specs.declared.op.Literal.{Literal}
use Rattle.lucid_code.specs.declared.op.Op.{Op}
use Rattle.lucid_core.specs.Computations.{array_of}
use Rattle.lucid_core.specs.declared.body.Touch.{Touch}
use Rattle.lucid_normal.specs.Bodies.{Walk, ended, joined, left, touched}
use Rattle.lucid_normal_join.specs.Branches.{Ends, env_of, ops_of}
use Rattle.lucid_normal_steps.specs.Added.{added}
use Rattle.lucid_normal_steps.specs.Notes.{before}
use Rattle.lucid_normal_steps.specs.declared.calls.Caller.{Caller}
use Rattle.lucid_normal_steps.specs.declared.notes.Note.{Note}
use Rattle.lucid_normal_spec.specs.declared.env.Env.{Env}
use Rattle.lucid_normal_spec.specs.declared.env.Typed.{Typed}
use Rattle.lucid_normal_spec.specs.Translate.{Translation, touch_made}

pub stepped : {A : Type 0} (view : A → Option Typed) (t : Translation A) (s : Walk) (v : Option Typed) →
    v ≡ view (t s.env).value → (env : Env) → env ≡ (t s.env).env → (ops : List Op) →
    ops ≡ added s.guard s.ops (t s.env).ops → (was : List (Option Typed)) → was ≡ s.was →
    record s { ops = ops; env = env; was = was; value = v } ≡ ended view t s
unfolding ended
stepped view t s v v_is env env_is ops ops_is was was_is =
    let a = t s.env in
    ap₂ (λ (o : List Op) (e : Env). record s { ops = o; env = e; was = was; value = v }) ops_is env_is
    ∙ ap₂ (λ (w : List (Option Typed)) (x : Option Typed). record s { ops = added s.guard s.ops a.ops; env = a.env; was = w; value = x })
    was_is v_is

made_held : (array : ℕ) (get set : MemAlu) (answers : Bool) (p : Typed × (Typed × Typed)) (env : Env) →
    (touch_made array get set answers p env).env.held ≡ env.held
made_held array get set true p env = refl
made_held array get set false p env = refl

-- A call of an array keeps the locals.
pub touched_held : (t : Touch) (p : Typed × (Typed × Typed)) (env : Env) → (touched t p env).env.held ≡ env.held
touched_held t p env = made_held (array_of [] t.array) t.get t.set t.answers p env

pub leaves : (caller : Caller) (s : Walk) (v : Option Typed) → v ≡ s.env.answer →
    (env : Env) → env ≡ record s.env { held = s.was; answer = caller.answer } → (ops : List Op) → ops ≡ s.ops →
    (notes : List Note) → notes ≡ caller.notes.items →
    record s { ops = ops; env = env; was = before notes env.held; value = v } ≡ left caller s
unfolding left
leaves caller s v v_is env env_is ops ops_is notes notes_is =
    let after = record s.env { held = s.was; answer = caller.answer } in
    ap₂ (λ (o : List Op) (e : Env). record s { ops = o; env = e; was = before notes e.held; value = v }) ops_is env_is
    ∙ ap₂ (λ (ns : List Note) (x : Option Typed). record s { env = after; was = before ns s.was; value = x }) notes_is v_is

pub joins_at : (c : ℕ) (outer : List Literal) (notes : List Note) (first : Ends) (s : Walk) (env : Env) →
    env ≡ env_of c s.was first s.env → (ops : List Op) → ops ≡ added outer s.ops (ops_of c s.was first s.env) →
    (was : List (Option Typed)) → was ≡ before notes s.was →
    record s { guard = outer; ops = ops; env = env; was = was; value = None } ≡ joined c outer notes first s
unfolding joined
joins_at c outer notes first s env env_is ops ops_is was was_is =
    let more = ops_of c s.was first s.env in
    ap₂ (λ (o : List Op) (e : Env). record s { guard = outer; ops = o; env = e; was = was; value = None }) ops_is env_is
    ∙ ap (λ (w : List (Option Typed)). record s {
      guard = outer;
      ops = added outer s.ops more;
      env = env_of c s.was first s.env;
      was = w;
      value = None;
    }) was_is
