-- In a sound program each body keeps the state fine, so all that a handler sends out fits.
use Rattle.std.proofs.Common.{◌≡◌, ℕ, ◌≤◌, List, [], ◌∷◌, ◌++◌, true, false, ◌&&◌, ◌||◌, not, map, take, length, Option, None, Some, refl, sym, ap, subst, arith, append_assoc, append-nil, All, IsTrue, is_some, nat_le, slice_get, option_and_then}
use Rattle.std.specs.List.{list_all}
use Rattle.std.proofs.lemmas.Bool.{and_parts, leb-true}
use Rattle.std.proofs.lemmas.List.Elements.{All-weaker}
use Rattle.std.proofs.lemmas.List.Sums.{AllPass-from_list_all}
use Rattle.lucid_base.specs.declared.bits.Bits.{Bits}
use Rattle.lucid_base.specs.declared.event.Event.{Event}
use Rattle.lucid_core.specs.declared.body.Expr.{Expr}
use Rattle.lucid_core.specs.declared.body.Stmt.{Stmt}
use Rattle.lucid_core.specs.declared.body.Touch.{Touch}
use Rattle.lucid_core.specs.declared.body.Expr.TheOpen.{Expr-F, Stmt-F, Touch-F}
use Rattle.lucid_core.specs.declared.body.Expr.TheViews.{roll-Expr, roll-Stmt, roll-Touch}
use Rattle.lucid_core.specs.declared.body.Expr.TheFolds.{fold-roll-Expr, fold-roll-Stmt, fold-roll-Touch}
use Rattle.lucid_core.specs.declared.defs.FunDef.{FunDef}
use Rattle.lucid_core.specs.declared.defs.HandlerDef.{HandlerDef}
use Rattle.lucid_core.specs.Computations.{Computation, Effect, Frame, Fun, State, begun_with}
use Rattle.lucid_base.specs.Cells.{zero_cells}
use Rattle.lucid_core.specs.Fits.{carried, cells_fit, out_fits}
use Rattle.lucid_core.specs.Laws.{CellsStayFit, OutsFit}
use Rattle.lucid_core.specs.Limits.{body_keeps_limits}
use Rattle.lucid_core.specs.Meaning as m
use Rattle.lucid_core.specs.Meaning.{value_of, effect_of, touch_of, fun_of}
use Rattle.lucid_core.specs.OutCount.{body_outs, funs_outs}
use Rattle.lucid_core.specs.Parts.{CoreParts}
use Rattle.lucid_core.specs.Returns as r
use Rattle.lucid_core.specs.Returns.{Returns, expr_returns, stmt_returns, touch_returns, body_returns}
use Rattle.lucid_core.specs.Scope.{Scope, fun_scope, handler_scope, funs_pass}
use Rattle.lucid_core.specs.Step.{Entry, Steps, one_more, handled, ran, started, step, taken_at}
use Rattle.lucid_core.specs.Texts as x
use Rattle.lucid_core.specs.Texts.{Printed, body_fills_texts}
use Rattle.lucid_core.specs.Typing as t
use Rattle.lucid_core.specs.Typing.{Answer, Typed, answer_of, returns_of, touch_answer, body_gives_only}
use Rattle.lucid_core.specs.Valid.{IsSound}
use Rattle.lucid_core.specs.Values.{nothing}
use Rattle.lucid_core.proofs.Arrays.{nothing_there, zero_cells-fit}
use Rattle.lucid_core.proofs.Entries.{steps_from}
use Rattle.lucid_core.proofs.Fine.{Asked, IsFine, FunFits, Stands, answer_given, goes_out, once}
use Rattle.lucid_core.proofs.Funs.{funs_from}
use Rattle.lucid_core.proofs.Pairwise.{Pairwise, one_more as both_more}
use Rattle.lucid_core.proofs.Prints.{body_prints, prints_step, expr_prints, stmt_prints, touch_prints}
use Rattle.lucid_core.proofs.SentCount.{handler_keeps}
use Rattle.lucid_core.proofs.SentFit.{BodyFits, E, S, T, ExprFits, StmtFits, expr_tree, touch_tree, stmt_tree, block_fits, expr_level, touch_level, stmt_level}
use Rattle.lucid_core.proofs.TypingRules.{body_rule}
use Rattle.lucid_core.proofs.WidthLists.{passes_at, widths-begun, widths-taken}
use Rattle.lucid_core.proofs.Induction.{Cases, body_by, expr_by, opened4}

module _ (asked : Asked) (core : CoreParts) (s : Scope) (p : Frame) (stands : Stands asked core s p) where
  abbrev ExprHolds : Expr → Type 0
  ExprHolds e = ExprFits asked core s p stands (value_of e) (answer_of e) (expr_prints e) (expr_returns e)

  abbrev StmtHolds : Stmt → Type 0
  StmtHolds e = StmtFits asked core s p stands (effect_of e) (returns_of e) (stmt_prints e) (stmt_returns e)

  abbrev TouchHolds : Touch → Type 0
  TouchHolds e = ExprFits asked core s p stands (touch_of e) (touch_answer e) (touch_prints e) (touch_returns e)

  of_expr : (y : Expr-F (E asked core s p stands) (S asked core s p stands) (T asked core s p stands)) → ExprHolds (roll-Expr (expr_tree asked core s p stands y))
  of_expr y = let tree = expr_tree asked core s p stands y in opened4 (ExprFits asked core s p stands)
      (fold-roll-Expr (Computation Bits) Effect (Computation Bits) m.expr_step m.stmt_step m.touch_step tree)
      (fold-roll-Expr (Typed Answer) (Typed (List Answer)) (Typed Answer) t.expr_step t.stmt_step t.touch_step tree)
      (fold-roll-Expr Printed Printed Printed x.expr_step prints_step x.touch_step tree)
      (fold-roll-Expr Returns Returns Returns r.expr_step r.stmt_step r.touch_step tree)
      (expr_level asked core s p stands y)

  of_touch : (y : Touch-F (E asked core s p stands) (S asked core s p stands) (T asked core s p stands)) → TouchHolds (roll-Touch (touch_tree asked core s p stands y))
  of_touch y = let tree = touch_tree asked core s p stands y in opened4 (ExprFits asked core s p stands)
      (fold-roll-Touch (Computation Bits) Effect (Computation Bits) m.expr_step m.stmt_step m.touch_step tree)
      (fold-roll-Touch (Typed Answer) (Typed (List Answer)) (Typed Answer) t.expr_step t.stmt_step t.touch_step tree)
      (fold-roll-Touch Printed Printed Printed x.expr_step prints_step x.touch_step tree)
      (fold-roll-Touch Returns Returns Returns r.expr_step r.stmt_step r.touch_step tree)
      (touch_level asked core s p stands y)

  of_stmt : (y : Stmt-F (E asked core s p stands) (S asked core s p stands) (T asked core s p stands)) → StmtHolds (roll-Stmt (stmt_tree asked core s p stands y))
  of_stmt y = let tree = stmt_tree asked core s p stands y in opened4 (StmtFits asked core s p stands)
      (fold-roll-Stmt (Computation Bits) Effect (Computation Bits) m.expr_step m.stmt_step m.touch_step tree)
      (fold-roll-Stmt (Typed Answer) (Typed (List Answer)) (Typed Answer) t.expr_step t.stmt_step t.touch_step tree)
      (fold-roll-Stmt Printed Printed Printed x.expr_step prints_step x.touch_step tree)
      (fold-roll-Stmt Returns Returns Returns r.expr_step r.stmt_step r.touch_step tree)
      (stmt_level asked core s p stands y)

  -- By induction on all three.
  by_nodes : Cases ExprHolds StmtHolds TouchHolds
  by_nodes = record { expr = of_expr; stmt = of_stmt; touch = of_touch }

  pub expr_holds : (e : Expr) → ExprHolds e
  expr_holds = expr_by by_nodes

  body_fits : (ss : List Stmt) → BodyFits asked core s p stands ss
  body_fits = body_by (BodyFits asked core s p stands) by_nodes (block_fits asked core s p stands)

-- No event has more than 8 parameters.
abbrev pub EventsAreSmall : CoreParts → Type 0
EventsAreSmall parts = list_all (λ e. nat_le (length e.params) 8) parts.events ≡ true

-- The rules for a function, behind those before it.
pub record IsSoundFun (parts : CoreParts) (before : List FunDef) (f : FunDef) : Type 0 where
  pub widths : body_gives_only f.answer f.body (fun_scope parts before f) ≡ true
  pub texts : body_fills_texts f.body parts.forms ≡ true
  pub limits : body_keeps_limits f.body ≡ true
  pub returns : ((body_returns f.body).last && (not (is_some f.answer) || (body_returns f.body).always)) ≡ true

-- A sound function gives a value of its answer's width.
pub fun_fits : (asked : Asked) (parts : CoreParts) → EventsAreSmall parts → (now me : ℕ) (before : List FunDef) (known : List Fun) (f : FunDef) → Pairwise (FunFits asked parts) before known → IsSoundFun parts before f →
    FunFits asked parts f (fun_of now me known f)
fun_fits asked parts few now me before known f pairs sound arrays vs width wide ws a s fine =
    let place : Frame = record { now = now; me = me; arrays = arrays; funs = known } in
    let rule = body_rule (fun_scope parts before f) f.answer (map returns_of f.body) sound.widths in
    let own : State = record s { locals = begun_with vs f.locals; answer = nothing } in
    let begun : IsFine asked parts f.locals (once false f.answer) own = record { locals = widths-begun vs f.params f.locals width; answer = tt; outs = fine.outs; cells = fine.cells } in
    let ends = and_parts _ _ sound.returns in
    let done = body_fits asked parts (fun_scope parts before f) place (record { events = refl; few = few; funs = pairs; arrays = refl; params = wide }) f.body (λ is. body_prints parts.forms f.body sound.texts sound.limits) ends.0 rule.0 rule.1 f.answer rule.2 false own begun in
    record {
      gives = answer_given asked parts f.locals f.answer (is_some f.answer) (body_returns f.body).always _ (λ w e. ap is_some e) ends.1 done;
      fine = record { locals = fine.locals; answer = fine.answer; outs = done.outs; cells = done.cells };
    }

-- Behind sound functions, each function is sound.
pub funs_fit : (asked : Asked) (parts : CoreParts) → EventsAreSmall parts → (now me : ℕ) (before : List FunDef) (known : List Fun) (fs : List FunDef) → Pairwise (FunFits asked parts) before known →
    funs_pass (λ earlier f. body_gives_only f.answer f.body (fun_scope parts earlier f)) before fs ≡ true →
    list_all (λ f. body_fills_texts f.body parts.forms) fs ≡ true →
    list_all (λ f. body_keeps_limits f.body) fs ≡ true →
    list_all (λ f. (body_returns f.body).last && (not (is_some f.answer) || (body_returns f.body).always)) fs ≡ true →
    Pairwise (FunFits asked parts) (before ++ fs) (funs_from now me known fs)
funs_fit asked parts few now me before known [] pairs widths texts limits returns = subst (λ (q : List FunDef). Pairwise (FunFits asked parts) q known) (sym (append-nil before)) pairs
funs_fit asked parts few now me before known (f ∷ fs) pairs widths texts limits returns =
    let width = and_parts _ _ widths in
    let text = and_parts _ _ texts in
    let limit = and_parts _ _ limits in
    let return = and_parts _ _ returns in
    let one = fun_fits asked parts few now me before known f pairs (record { widths = width.0; texts = text.0; limits = limit.0; returns = return.0 }) in
    let more = both_more (FunFits asked parts) before known f (fun_of now me known f) pairs one in
    let all = funs_fit asked parts few now me (before ++ f ∷ []) (known ++ fun_of now me known f ∷ []) fs more width.1 text.1 limit.1 return.1 in
    subst (λ (q : List FunDef). Pairwise (FunFits asked parts) q (funs_from now me (known ++ fun_of now me known f ∷ []) fs)) (append_assoc before (f ∷ []) fs) all

-- After an event's handler, the outs fit and carry few numbers, and are at most 8; and the cells fit, if they did before.
record Ends (parts : CoreParts) (cells : List (List ℕ)) (after : State) : Type 0 where
  outs : list_all (goes_out parts) after.outs ≡ true
  few : length after.outs ≤ 8
  cells_fit : cells_fit parts cells ≡ true → cells_fit parts after.cells ≡ true

module _ (parts : CoreParts) (sound : IsSound parts) (cells : List (List ℕ)) (now me : ℕ) (args : List ℕ) where
  -- All is asked, of the cells where they fit at the start.
  abbrev asked : Asked
  asked = record { outs = true; cells = cells_fit parts cells }

  few_counted : (k : ℕ) (h : HandlerDef) → slice_get parts.handlers k ≡ Some h → body_outs h.body (funs_outs [] parts.funs) ≤ 8
  few_counted k h is = leb-true _ _ (passes_at (λ g. nat_le (body_outs g.body (funs_outs [] parts.funs)) 8) parts.handlers k h (and_parts _ _ sound.outs).1 is)

  -- For any arguments, a handler begins with locals of their widths.
  started_fine : (h : HandlerDef) → IsFine asked parts h.locals (once false None) (started cells (begun_with (taken_at h.locals args) h.locals))
  started_fine h = record { locals = widths-begun (taken_at h.locals args) (length args) h.locals (widths-taken h.locals args); answer = tt; outs = λ is. refl; cells = λ is. is }

  sent_few : (k : ℕ) (h : HandlerDef) → slice_get parts.handlers k ≡ Some h → length (handled (Some h) parts cells now me args).after.outs ≤ 8
  sent_few k h is =
      let least = few_counted k h is in
      let counted = handler_keeps h parts cells now me args in
      omega arith

  handler_fits : (k : ℕ) (h : HandlerDef) → slice_get parts.handlers k ≡ Some h → Ends parts cells (handled (Some h) parts cells now me args).after
  handler_fits k h is =
      let widths = and_parts _ _ sound.widths in
      let texts = and_parts _ _ sound.texts in
      let limits = and_parts _ _ sound.bodies in
      let returns = and_parts _ _ sound.returns in
      let few : EventsAreSmall parts = (and_parts _ _ (and_parts _ _ sound.declarations).0).1 in
      let pairs = funs_fit asked parts few now me [] [] parts.funs tt widths.0 texts.0 limits.0 returns.0 in
      let place : Frame = record { now = now; me = me; arrays = []; funs = funs_from now me [] parts.funs } in
      let rule = body_rule (handler_scope parts h) None (map returns_of h.body) (passes_at _ parts.handlers k h widths.1 is) in
      let begun = started_fine h in
      let text = body_prints parts.forms h.body (passes_at _ parts.handlers k h texts.1 is) (passes_at _ parts.handlers k h limits.1 is) in
      let return = passes_at _ parts.handlers k h returns.1 is in
      let done = body_fits asked parts (handler_scope parts h) place (record { events = refl; few = few; funs = pairs; arrays = refl; params = λ is i w none. absurd (nothing_there i w none) }) h.body (λ is. text) return rule.0 rule.1 None rule.2 false (started cells (begun_with (taken_at h.locals args) h.locals)) begun in
      record { outs = done.outs refl; few = sent_few k h is; cells_fit = done.cells }

  -- An event without a handler sends nothing.
  at_handler : (k : ℕ) (found : Option HandlerDef) → slice_get parts.handlers k ≡ found → Ends parts cells (handled found parts cells now me args).after
  at_handler k None is = record { outs = refl; few = omega arith; cells_fit = λ fit. fit }
  at_handler k (Some h) is = handler_fits k h is

  handled_fits : (k : Option ℕ) → Ends parts cells (handled (option_and_then (slice_get parts.handlers) k) parts cells now me args).after
  handled_fits None = record { outs = refl; few = omega arith; cells_fit = λ fit. fit }
  handled_fits (Some k) = at_handler k (slice_get parts.handlers k) refl

ends : (parts : CoreParts) → IsSound parts → (cells : List (List ℕ)) (now me : ℕ) (event : Event) → Ends parts cells (ran parts cells now me event).after
ends parts sound cells now me event = handled_fits parts sound cells now me event.args (option_and_then (λ e. e.handler) (slice_get parts.events event.id))

-- In a sound program, the outs of an event's handler fit and carry few numbers, and are at most 8.
pub outs_fit : (parts : CoreParts) → IsSound parts → OutsFit parts
outs_fit parts sound = record {
  each = λ cells now me event. All-weaker (λ out. goes_out parts out ≡ true) (λ out. IsTrue (out_fits parts out)) (λ out fits. (and_parts _ _ fits).0) _ (all_go_out cells now me event);
  small = λ cells now me event. All-weaker (λ out. goes_out parts out ≡ true) (λ out. length (carried out) ≤ 8) (λ out fits. leb-true _ _ (and_parts _ _ fits).1) _ (all_go_out cells now me event);
  few = λ cells now me event. (ends parts sound cells now me event).few;
}
  where
    all_go_out : (cells : List (List ℕ)) (now me : ℕ) (event : Event) → All (λ out. goes_out parts out ≡ true) (step parts cells now me event).outs
    all_go_out cells now me event = AllPass-from_list_all (goes_out parts) _ (ends parts sound cells now me event).outs

step_fits : (parts : CoreParts) → IsSound parts → (cells : List (List ℕ)) (now me : ℕ) (event : Event) → cells_fit parts cells ≡ true → cells_fit parts (step parts cells now me event).cells ≡ true
step_fits parts sound cells now me event fit = (ends parts sound cells now me event).cells_fit fit

steps_fit : (parts : CoreParts) → IsSound parts → (entries : List Entry) (so_far : Steps) → cells_fit parts so_far.cells ≡ true → cells_fit parts (steps_from parts so_far entries).cells ≡ true
steps_fit parts sound [] so_far fit = fit
steps_fit parts sound (e ∷ es) so_far fit = steps_fit parts sound es (one_more parts so_far e) (step_fits parts sound so_far.cells e.now e.me e.event fit)

-- Cells that fit stay so at each step, and so after any list of events from cells that are all 0.
pub cells_stay_fit : (parts : CoreParts) → IsSound parts → CellsStayFit parts
cells_stay_fit parts sound = record {
  zero = zero_cells-fit parts;
  step = step_fits parts sound;
  after = λ entries n. steps_fit parts sound (take n entries) (record { cells = zero_cells parts.arrays; outs = [] }) (zero_cells-fit parts);
}
