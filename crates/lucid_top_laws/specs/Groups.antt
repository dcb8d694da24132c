-- The language without groups: the step of a program that sends to no group, whatever a send to a group means.
use Rattle.std.specs.Prelude.{◌≡◌, ℕ, List, [], ◌∷◌, ◌++◌, Bool, true, ◌&&◌, Option, None, Some, fold, map}
use Rattle.std.specs.List.{list_all}
use Rattle.lucid_base.specs.declared.bits.Bits.{Bits}
use Rattle.lucid_base.specs.declared.event.Event.{Event}
use Rattle.lucid_core.specs.declared.body.Stmt.{Stmt}
use Rattle.lucid_core.specs.declared.body.Expr.TheOpen.{Expr-F, Stmt-F}
use Rattle.lucid_core.specs.declared.body.Expr.TheFolds.{fold-Stmt}
use Rattle.lucid_core.specs.declared.defs.FunDef.{FunDef}
use Rattle.lucid_core.specs.declared.defs.HandlerDef.{HandlerDef}
use Rattle.lucid_core.specs.Children.{expr_children}
use Rattle.lucid_core.specs.Computations.{Computation, Effect, Fun, Ran, block, begun_with, called}
use Rattle.lucid_core.specs.Meaning as meaning
use Rattle.lucid_core.specs.Numbers.{all_hold}
use Rattle.lucid_core.specs.Parts.{CoreParts}
use Rattle.lucid_core.specs.Step.{Stepped, handler_of, started, step, taken_at}
use Rattle.lucid_core.specs.Syntax.{not_group, touch_step}

-- ---- bodies that send to no group

abbrev pub any_expr : Expr-F Bool Bool Bool → Bool
any_expr e = all_hold (expr_children e)

abbrev pub sends_to_no_group : Stmt → Bool
sends_to_no_group = fold-Stmt Bool Bool Bool any_expr not_group touch_step

abbrev pub has_no_groups : CoreParts → Bool
has_no_groups parts = list_all (λ f. list_all sends_to_no_group f.body) parts.funs && list_all (λ h. list_all sends_to_no_group h.body) parts.handlers

-- ---- the step, if a send to a group has any other meaning

-- The meaning of a send to a group: by its event, its arguments, its delay and its members.
abbrev pub Send : Type 0
Send = ℕ → List (Computation Bits) → Option (Computation Bits) → List ℕ → Effect

abbrev pub stmt_step_with : Send → Stmt-F (Computation Bits) Effect (Computation Bits) → Effect
stmt_step_with send (Stmt-F.Multi event xs delay members) = send event xs delay members
stmt_step_with send s = meaning.stmt_step s

abbrev pub effect_with : Send → Stmt → Effect
effect_with send = fold-Stmt (Computation Bits) Effect (Computation Bits) meaning.expr_step (stmt_step_with send) meaning.touch_step

abbrev pub fun_with : Send → ℕ → ℕ → List Fun → FunDef → Fun
fun_with send now me before f arrays vs =
    called (begun_with vs f.locals) (block (map (effect_with send) f.body)) (record { now = now; me = me; arrays = arrays; funs = before })

abbrev pub funs_with : Send → ℕ → ℕ → List FunDef → List Fun
funs_with send now me fs = fold (λ before f. before ++ fun_with send now me before f ∷ []) [] fs

abbrev pub handled_with : Send → Option HandlerDef → CoreParts → List (List ℕ) → ℕ → ℕ → List ℕ → Ran (Unit {0})
handled_with send None parts cells now me args = record { gives = tt; after = started cells []; calls = [] }
handled_with send (Some h) parts cells now me args = let locals = begun_with (taken_at h.locals args) h.locals in
    block (map (effect_with send) h.body) (record { now = now; me = me; arrays = []; funs = funs_with send now me parts.funs }) (started cells locals)

abbrev pub step_with : Send → CoreParts → List (List ℕ) → ℕ → ℕ → Event → Stepped
step_with send parts cells now me event = let after = (handled_with send (handler_of parts event.id) parts cells now me event.args).after in
    record { cells = after.cells; outs = after.outs }

-- If no statement of a program sends to a group, its step does not depend on the meaning of such a send: it is the step of the language
-- without groups.
abbrev pub GroupsAreApart : Type 0
GroupsAreApart =
    (send : Send) (parts : CoreParts) → has_no_groups parts ≡ true → (cells : List (List ℕ)) (now me : ℕ) (event : Event) →
    step_with send parts cells now me event ≡ step parts cells now me event
