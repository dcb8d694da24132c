-- The small programs, built node by node.
use Rattle.std.proofs.Common.{◌≡◌, ℕ, zero, suc, List, [], ◌∷◌, None, Some, true, false, refl, ap, sym, ◌∙◌, slice_get}
use Rattle.lucid_base.specs.Bits.{bits_of}
use Rattle.lucid_base.specs.declared.array.ArrayName.{ArrayName}
use Rattle.lucid_base.specs.declared.array.ArrayName.TheVariants.{Global, Param}
use Rattle.lucid_base.specs.declared.ops.CmpOp.TheVariants.{Lt}
use Rattle.lucid_core.specs.declared.body.Expr.{Expr}
use Rattle.lucid_core.specs.declared.body.Stmt.{Stmt}
use Rattle.lucid_core.specs.declared.body.Touch.{Touch}
use Rattle.lucid_core.specs.declared.body.Expr.TheOpen.{Touch-F}
use Rattle.lucid_core.specs.declared.body.Expr.TheViews.{roll-Touch}
use Rattle.lucid_core.specs.declared.defs.EventDef.{EventDef}
use Rattle.lucid_core.specs.declared.defs.HandlerDef.{HandlerDef}
use Rattle.lucid_core.specs.ExamplePrograms.{bump, bump_put_in, bumps, drop_value, flat, handler, handles, local, note, one, plus, small, update}
use Rattle.lucid_core.specs.Scope.{fun_scope, handler_scope}
use Rattle.lucid_core.specs.Typing.{cell_width}
use Rattle.lucid_core.proofs.Folds.{folds}
use Rattle.lucid_core.specs.declared.ending.Ending.TheVariants.{Never, Always}
use Rattle.lucid_core_laws.specs.Keeps.{KeepsExpr, KeepsBlock}
use Rattle.lucid_core_laws.specs.Place.{Place, behind}
use Rattle.lucid_core_laws.specs.Programs.{IsBuilt}
use Rattle.lucid_core_laws.proofs.Expressions as e
use Rattle.lucid_core_laws.proofs.Statements as s

-- One event, and the one handler that handles it.
handled : (h : HandlerDef) → h.event ≡ 0 → (id : ℕ) (d : EventDef) (k : ℕ) → slice_get (note ∷ []) id ≡ Some d → d.handler ≡ Some k → (g : HandlerDef) × (slice_get (h ∷ []) k ≡ Some g) × (g.event ≡ id)
handled h own zero d k at is =
    let same : note ≡ d = cc in
    let number : Some 0 ≡ Some k = ap (λ (x : EventDef). x.handler) same ∙ is in
    let first : 0 ≡ k = cc in
    (h, ap (slice_get (h ∷ [])) (sym first), own)
handled h own (suc id) d k at is = absurd (cc)

handling : (h : HandlerDef) → h.event ≡ 0 → (k : ℕ) (g : HandlerDef) → slice_get (h ∷ []) k ≡ Some g → (d : EventDef) × (slice_get (note ∷ []) g.event ≡ Some d) × (d.handler ≡ Some k)
handling h own zero g at =
    let same : h ≡ g = cc in
    (note, ap (slice_get (note ∷ [])) (ap (λ (x : HandlerDef). x.event) (sym same) ∙ own), refl)
handling h own (suc k) g at = absurd (cc)

-- Array.update(a, i, plus, 1, plus, 1), where the array's cells have width 32.
updated : (p : Place) (a : ArrayName) (i : Expr) → cell_width a p.scope ≡ Some 32 → KeepsExpr p (Some 32) i → KeepsExpr p (Some 32) (update a i plus)
updated p a i there x =
    let number = e.expr_nodes.fixed p (bits_of 32 1) in
    let t : Touch-F Expr Stmt Touch = record { array = a; index = i; get = plus; get_arg = one; set = plus; set_arg = one; answers = true } in
    e.expr_nodes.array p (Some 32) (roll-Touch t) (e.expr_nodes.touch p 32 32 t there refl refl refl refl x number number)

abbrev in_bump : Place
in_bump = record { scope = fun_scope small [] (bump bumps); known = 0 ∷ []; flat = false }

-- { int n = Array.update(a, i, plus, 1, plus, 1); return n; }
bump_keeps : KeepsBlock in_bump (Some 32) Always bumps
bump_keeps =
    s.stmt_nodes.first in_bump (Some 32) Always (1 ∷ []) _ _ (s.stmt_nodes.assign in_bump (Some 32) 1 32 _ refl (updated in_bump (Param 0) (local 0) refl (e.expr_nodes.local in_bump 0 32 refl refl)))
    (s.stmt_nodes.last (behind in_bump (1 ∷ [])) (Some 32) Always [] _ (s.stmt_nodes.return_value (behind in_bump (1 ∷ [])) 32 (local 1) (e.expr_nodes.local (behind in_bump (1 ∷ [])) 1 32 refl refl)))

abbrev in_handler : Place
in_handler = record { scope = handler_scope small (handler handles); known = 0 ∷ 1 ∷ []; flat = false }

abbrev behind_call : Place
behind_call = behind in_handler (2 ∷ [])

-- { int n = bump(first, i); if (n < most) { generate note(i, n); } else { printf("n %d", n); } }
handler_keeps : KeepsBlock in_handler None Never handles
handler_keeps =
    let i = e.expr_nodes.local in_handler 0 32 refl refl in
    let i_again = e.expr_nodes.local behind_call 0 32 refl refl in
    let most = e.expr_nodes.local behind_call 1 32 refl refl in
    let n = e.expr_nodes.local behind_call 2 32 refl refl in
    let called = e.expr_nodes.call in_handler 0 (bump bumps) (Global 0 ∷ []) (local 0 ∷ []) refl refl refl (i, tt) in
    let sends = s.stmt_nodes.generate behind_call None 0 (32 ∷ 32 ∷ []) (local 0 ∷ local 2 ∷ []) None None false (record { there = refl; few = refl }) (i_again, (n, tt)) tt tt in
    let says = s.stmt_nodes.say behind_call None 0 _ (32 ∷ []) (local 2 ∷ []) refl refl (n, tt) in
    s.stmt_nodes.first in_handler None Never (2 ∷ []) _ _ (s.stmt_nodes.assign in_handler None 2 32 _ refl called)
    (s.stmt_nodes.last behind_call None Never [] _ (s.stmt_nodes.choose behind_call None Never Never _ _ _ (e.expr_nodes.cmp behind_call 32 Lt (local 2) (local 1) n most)
    (s.stmt_nodes.last behind_call None Never [] _ sends) (s.stmt_nodes.last behind_call None Never [] _ says)))

pub small_is_built : IsBuilt false small
small_is_built = record {
  funs = (record { ending = Always; body = bump_keeps; ends = λ h. refl; params = refl; assigns = simp folds refl }, tt);
  handlers = (record { ending = Never; body = handler_keeps; begins = refl; assigns = simp folds refl }, tt);
  handled = handled (handler handles) refl;
  handles = handling (handler handles) refl;
  few_in_funs = simp folds refl;
  few_in_handlers = simp folds refl;
  declarations = refl;
  numbered = refl;
  outs = simp folds refl;
}

abbrev flat_body : List Stmt
flat_body = drop_value bump_put_in ∷ []

abbrev in_flat : Place
in_flat = record { scope = handler_scope (flat flat_body) (handler flat_body); known = 0 ∷ 1 ∷ []; flat = true }

-- An inlined call of `bump`: local 2 holds its parameter.
flat_keeps : KeepsBlock in_flat None Never flat_body
flat_keeps =
    let inside = behind in_flat (2 ∷ []) in
    let arg = e.expr_nodes.local in_flat 0 32 refl refl in
    let answer = updated inside (Global 0) (local 2) refl (e.expr_nodes.local inside 2 32 refl refl) in
    let body = s.stmt_nodes.last inside (Some 32) Always [] _ (s.stmt_nodes.return_value inside 32 _ answer) in
    let put_in = e.expr_nodes.inlined in_flat (32 ∷ []) ((2, local 0) ∷ []) (Some 32) Always _ refl (refl, arg, tt) body (λ h. refl) in
    s.stmt_nodes.last in_flat None Never [] _ (s.stmt_nodes.drop_value in_flat None (Some 32) bump_put_in put_in)

pub flat_is_built : IsBuilt true (flat flat_body)
flat_is_built = record {
  funs = tt;
  handlers = (record { ending = Never; body = flat_keeps; begins = refl; assigns = simp folds refl }, tt);
  handled = handled (handler flat_body) refl;
  handles = handling (handler flat_body) refl;
  few_in_funs = refl;
  few_in_handlers = simp folds refl;
  declarations = refl;
  numbered = refl;
  outs = simp folds refl;
}
