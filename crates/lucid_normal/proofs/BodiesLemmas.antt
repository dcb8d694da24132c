-- Translations one after another: the operations of each stand behind those of the ones before it.
use Rattle.std.proofs.Common.{◌≡◌, List, [], ◌++◌, Option, refl, ap, sym, ◌∙◌}
use Rattle.std.proofs.lemmas.List.{append-nil, append_assoc}
use Rattle.std.specs.Prelude.{⊤}
use Rattle.lucid_code.specs.declared.op.Op.{Op}
use Rattle.lucid_core.specs.declared.body.Expr.{Expr}
use Rattle.lucid_core.specs.declared.body.Stmt.{Stmt}
use Rattle.lucid_core.specs.declared.body.Touch.{Touch, out-Touch}
use Rattle.lucid_core.specs.declared.body.Expr.TheFolds.{fold-roll-Expr, fold-roll-Stmt, fold-roll-Touch, map-Expr, map-Stmt, map-Touch}
use Rattle.lucid_core.specs.declared.body.Expr.TheOpen.{Expr-F, Stmt-F}
use Rattle.lucid_core.specs.declared.body.Expr.TheViews.{roll-Expr, roll-Stmt, roll-out-Touch}
use Rattle.lucid_normal.specs.Bodies.{Walk, ended, expressed, finished}
use Rattle.lucid_normal_steps.specs.Added.{added}
use Rattle.lucid_normal_steps.proofs.Adding.{added_more, added_none}
use Rattle.lucid_normal_spec.specs.declared.env.Typed.{Typed}
use Rattle.lucid_normal_spec.specs.Translate.{◌>>=◌, Expressed, Translation, body_code, both_made, done, expr_code, expr_step, held_by, stmt_code}
use Rattle.lucid_normal_spec.specs.Translate.{stmt_step, touch_code, touch_step, valued}

-- ---- forms

abbrev pub opened : Expr-F Expr Stmt Touch → Expressed
opened y = expr_step (map-Expr Expr Stmt Touch Expressed (Translation ⊤) Expressed expr_code stmt_code touch_code y)

abbrev pub opened_stmt : Stmt-F Expr Stmt Touch → Translation ⊤
opened_stmt y = stmt_step (map-Stmt Expr Stmt Touch Expressed (Translation ⊤) Expressed expr_code stmt_code touch_code y)

abbrev pub opened_touch : Touch → Expressed
opened_touch t = touch_step (map-Touch Expr Stmt Touch Expressed (Translation ⊤) Expressed expr_code stmt_code touch_code (out-Touch t))

expr_is : (x : Expr) (y : Expr-F Expr Stmt Touch) → roll-Expr y ≡ x → expr_code x ≡ opened y
expr_is x y at = ap expr_code (sym at) ∙ fold-roll-Expr Expressed (Translation ⊤) Expressed expr_step stmt_step touch_step y

stmt_is : (x : Stmt) (y : Stmt-F Expr Stmt Touch) → roll-Stmt y ≡ x → stmt_code x ≡ opened_stmt y
stmt_is x y at = ap stmt_code (sym at) ∙ fold-roll-Stmt Expressed (Translation ⊤) Expressed expr_step stmt_step touch_step y

touch_is : (t : Touch) → touch_code t ≡ opened_touch t
touch_is t =
    ap touch_code (sym (roll-out-Touch t))
    ∙ fold-roll-Touch Expressed (Translation ⊤) Expressed expr_step stmt_step touch_step (out-Touch t)

-- The walk after a form is that after its translation.
pub of_expr : {x : Expr} (y : Expr-F Expr Stmt Touch) → roll-Expr y ≡ x → (s : Walk) →
    expressed (opened y).made s ≡ expressed (expr_code x).made s
of_expr {x} y at s = sym (ap (λ (t : Expressed). expressed t.made s) (expr_is x y at))

pub of_stmt : {x : Stmt} (y : Stmt-F Expr Stmt Touch) → roll-Stmt y ≡ x → (s : Walk) →
    finished (opened_stmt y) s ≡ finished (stmt_code x) s
of_stmt {x} y at s = sym (ap (λ (t : Translation ⊤). finished t s) (stmt_is x y at))

pub of_touch : (t : Touch) (s : Walk) → expressed (opened_touch t).made s ≡ expressed (touch_code t).made s
of_touch t s = sym (ap (λ (x : Expressed). expressed x.made s) (touch_is t))

-- ---- a translation, and what follows it

-- A translation that adds no operation and keeps the environment.
pub idle : {A : Type 0} (view : A → Option Typed) (t : Translation A) (s : Walk) (v : Option Typed) →
    v ≡ view (t s.env).value → (t s.env).ops ≡ [] → (t s.env).env ≡ s.env → record s { value = v } ≡ ended view t s
unfolding ended
idle view t s v value_is ops_is env_is = rw (value_is, ops_is, env_is) (rw (append-nil s.ops) refl)

pub bind : {A B : Type 0} (view : B → Option Typed) (v : Option Typed) (t : Translation A) (f : A → Translation B) (s : Walk) →
    ended view (f (t s.env).value) (ended (λ _. v) t s) ≡ ended view (t >>= f) s
unfolding ended
bind view v t f s =
    let a = t s.env in
    let b = f a.value a.env in
    ap (λ (o : List Op). record s { ops = o; env = b.env; value = view b.value }) (added_more s.guard s.ops a.ops b.ops)

-- Two translations, and one that takes both values.
pub pair : {A B C : Type 0} (view : B → Option Typed) (v : Option Typed) (t : Translation A) (u : Translation C)
    (f : A × C → Translation B) (s : Walk) →
    ended view (u >>= (λ c. f ((t s.env).value, c))) (ended (λ _. v) t s) ≡ ended view (both_made t u >>= f) s
unfolding ended
pair view v t u f s =
    let a = t s.env in
    let b = u a.env in
    let c = f (a.value, b.value) b.env in
    ap (λ (o : List Op). record s { ops = o; env = c.env; value = view c.value })
    (added_more s.guard s.ops a.ops (b.ops ++ c.ops) ∙ ap (added s.guard s.ops) (sym (append_assoc a.ops b.ops c.ops)))

-- Another view of the value.
pub then_done : {A B : Type 0} (view : B → Option Typed) (t : Translation A) (f : A → B) (s : Walk) →
    ended (λ a. view (f a)) t s ≡ ended view (t >>= (λ a. done (f a))) s
unfolding ended
then_done view t f s =
    let a = t s.env in
    ap (λ (o : List Op). record s { ops = o; env = a.env; value = view (f a.value) }) (sym (added_none s.guard s.ops a.ops))

-- An operand that is needed.
valued_is : (x : Translation (Option Typed)) (s : Walk) → expressed x s ≡ ended (λ _. (x s.env).value) (valued x) s
unfolding ended
valued_is x s =
    let a = x s.env in
    ap (λ (o : List Op). record s { ops = o; env = a.env; value = a.value }) (sym (added_none s.guard s.ops a.ops))

pub valued_bind : {B : Type 0} (view : B → Option Typed) (x : Translation (Option Typed)) (f : Typed → Translation B) (s : Walk) →
    ended view (f (held_by (x s.env).value)) (expressed x s) ≡ ended view (valued x >>= f) s
valued_bind view x f s =
    ap (ended view (f (held_by (x s.env).value))) (valued_is x s) ∙ bind view (x s.env).value (valued x) f s

pub valued_pair : {B C : Type 0} (view : B → Option Typed) (x : Translation (Option Typed)) (u : Translation C)
    (f : Typed × C → Translation B) (s : Walk) →
    ended view (u >>= (λ c. f (held_by (x s.env).value, c))) (expressed x s) ≡ ended view (both_made (valued x) u >>= f) s
valued_pair view x u f s =
    ap (ended view (u >>= (λ c. f (held_by (x s.env).value, c)))) (valued_is x s) ∙ pair view (x s.env).value (valued x) u f s

-- What follows, in another grouping.
pub regroup : {A B C : Type 0} (view : C → Option Typed) (t : Translation A) (f : A → Translation B) (g : B → Translation C) (s : Walk) →
    ended view (t >>= (λ a. f a >>= g)) s ≡ ended view ((t >>= f) >>= g) s
unfolding ended
regroup view t f g s =
    let a = t s.env in
    let b = f a.value a.env in
    let c = g b.value b.env in
    ap (λ (o : List Op). record s { ops = added s.guard s.ops o; env = c.env; value = view c.value })
    (sym (append_assoc a.ops b.ops c.ops))

pub through_done : {A B C : Type 0} (view : C → Option Typed) (t : Translation A) (f : A → B) (g : B → Translation C) (s : Walk) →
    ended view (t >>= (λ a. g (f a))) s ≡ ended view ((t >>= (λ a. done (f a))) >>= g) s
unfolding ended
through_done view t f g s =
    let a = t s.env in
    let c = g (f a.value) a.env in
    ap (λ (o : List Op). record s { ops = added s.guard s.ops (o ++ c.ops); env = c.env; value = view c.value })
    (sym (append-nil a.ops))

-- ---- a whole body

pub env_after : (s z : Walk) (ss : List Stmt) → z ≡ finished (body_code ss) s → z.env ≡ (body_code ss s.env).env
unfolding ended
env_after s z ss is = ap (λ (w : Walk). w.env) is

pub ops_after : (s z : Walk) (ss : List Stmt) → z ≡ finished (body_code ss) s → z.ops ≡ added s.guard s.ops (body_code ss s.env).ops
unfolding ended
ops_after s z ss is = ap (λ (w : Walk). w.ops) is

pub was_after : (s z : Walk) (ss : List Stmt) → z ≡ finished (body_code ss) s → z.was ≡ s.was
unfolding ended
was_after s z ss is = ap (λ (w : Walk). w.was) is
