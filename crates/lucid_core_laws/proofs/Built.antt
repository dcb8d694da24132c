-- A program whose bodies keep the rules is valid, rule by rule.
use Rattle.std.proofs.Common.{◌≡◌, ℕ, zero, suc, ◌+◌, List, [], ◌∷◌, ◌++◌, Option, None, Some, Bool, true, false, not, ◌&&◌, ◌||◌, is_some, length, map, take, arith, nat_eq, nat_le, refl, sym, ap, ap₂, subst, ◌∙◌, slice_get}
use Rattle.std.specs.List.{list_all, enumerate_from, starts_with}
use Rattle.std.specs.Option.{option_map_or}
use Rattle.std.proofs.lemmas.Bool.{and_from, and_parts, eq-eqb}
use Rattle.lucid_core.specs.declared.body.Stmt.{Stmt}
use Rattle.lucid_core.specs.declared.body.Expr.TheOpen.{Expr-F, Stmt-F}
use Rattle.lucid_core.specs.declared.body.Expr.TheFolds.{fold-Stmt}
use Rattle.lucid_core.specs.declared.defs.EventDef.{EventDef}
use Rattle.lucid_core.specs.declared.defs.FunDef.{FunDef}
use Rattle.lucid_core.specs.declared.defs.HandlerDef.{HandlerDef}
use Rattle.lucid_core.specs.Assigned.{body_reads_assigned}
use Rattle.lucid_core.specs.Events.{event_params, events_and_handlers_agree, handles, is_handled_by}
use Rattle.lucid_core.specs.Limits.{body_keeps_limits}
use Rattle.lucid_core.specs.Names.{stmt_names}
use Rattle.lucid_core.specs.Parts.{CoreParts}
use Rattle.lucid_core.specs.Returns.{body_returns}
use Rattle.lucid_core.specs.Scope.{each, fun_scope, funs_pass, handler_scope}
use Rattle.lucid_core.specs.Syntax as syntax
use Rattle.lucid_core.specs.Syntax.{is_core_stmt, is_flat_stmt}
use Rattle.lucid_core.specs.Texts.{body_fills_texts}
use Rattle.lucid_core.specs.Typing.{Answer, body_gives_only}
use Rattle.lucid_core.specs.Uses.{assigns_its_locals}
use Rattle.lucid_core.specs.Valid.{IsSound}
use Rattle.lucid_core.specs.declared.ending.Ending.{Ending}
use Rattle.lucid_core_laws.specs.Allowed as allowed
use Rattle.lucid_core_laws.specs.Allowed.{stmt_allowed}
use Rattle.lucid_core.specs.Few.{arguments_are_few}
use Rattle.lucid_core_laws.specs.Keeps.{KeepsBlock}
use Rattle.lucid_core_laws.specs.Place.{Place}
use Rattle.lucid_core_laws.specs.Programs.{CoreIsValid, FlatIsValid, IsBuilt, KeepFuns, KeepHandlers, KeepsFun, KeepsHandler}

-- ---- the rule on syntax

in_core_expr : (e : Expr-F Bool Bool Bool) → allowed.expr_step false e ≡ syntax.not_inlined e
in_core_expr (Expr-F.Fixed n) = refl
in_core_expr (Expr-F.Local i) = refl
in_core_expr Expr-F.Now = refl
in_core_expr Expr-F.Me = refl
in_core_expr (Expr-F.Un op x) = refl
in_core_expr (Expr-F.Bin op x y) = refl
in_core_expr (Expr-F.Cmp op x y) = refl
in_core_expr (Expr-F.Cast w x) = refl
in_core_expr (Expr-F.Hash w xs) = refl
in_core_expr (Expr-F.Array t) = refl
in_core_expr (Expr-F.Fun k names xs) = refl
in_core_expr (Expr-F.Inlined given ss) = refl

in_core_stmt : (s : Stmt-F Bool Bool Bool) → allowed.stmt_step false s ≡ syntax.any_stmt s
in_core_stmt (Stmt-F.Assign i x) = refl
in_core_stmt (Stmt-F.Drop x) = refl
in_core_stmt (Stmt-F.If x ss ts) = refl
in_core_stmt (Stmt-F.Gen event xs delay to delay_first) = refl
in_core_stmt (Stmt-F.Multi event xs delay members) = refl
in_core_stmt (Stmt-F.Say form xs) = refl
in_core_stmt (Stmt-F.Return x) = refl

in_flat_expr : (e : Expr-F Bool Bool Bool) → allowed.expr_step true e ≡ syntax.not_call e
in_flat_expr (Expr-F.Fixed n) = refl
in_flat_expr (Expr-F.Local i) = refl
in_flat_expr Expr-F.Now = refl
in_flat_expr Expr-F.Me = refl
in_flat_expr (Expr-F.Un op x) = refl
in_flat_expr (Expr-F.Bin op x y) = refl
in_flat_expr (Expr-F.Cmp op x y) = refl
in_flat_expr (Expr-F.Cast w x) = refl
in_flat_expr (Expr-F.Hash w xs) = refl
in_flat_expr (Expr-F.Array t) = refl
in_flat_expr (Expr-F.Fun k names xs) = refl
in_flat_expr (Expr-F.Inlined given ss) = refl

in_flat_stmt : (s : Stmt-F Bool Bool Bool) → allowed.stmt_step true s ≡ syntax.not_group s
in_flat_stmt (Stmt-F.Assign i x) = refl
in_flat_stmt (Stmt-F.Drop x) = refl
in_flat_stmt (Stmt-F.If x ss ts) = refl
in_flat_stmt (Stmt-F.Gen event xs delay to delay_first) = refl
in_flat_stmt (Stmt-F.Multi event xs delay members) = refl
in_flat_stmt (Stmt-F.Say form xs) = refl
in_flat_stmt (Stmt-F.Return x) = refl

abbrev allowed_by : (Expr-F Bool Bool Bool → Bool) → (Stmt-F Bool Bool Bool → Bool) → Stmt → Bool
allowed_by e s = fold-Stmt Bool Bool Bool e s syntax.touch_step

core_allowed : stmt_allowed false ≡ is_core_stmt
core_allowed = ap₂ allowed_by (λ i e. in_core_expr e i) (λ i s. in_core_stmt s i)

flat_allowed : stmt_allowed true ≡ is_flat_stmt
flat_allowed = ap₂ allowed_by (λ i e. in_flat_expr e i) (λ i s. in_flat_stmt s i)

all_map : {A B : Type 0} (f : A → B) (test : B → Bool) (xs : List A) → list_all test (map f xs) ≡ list_all (λ x. test (f x)) xs
all_map f test [] = refl
all_map f test (x ∷ xs) = ap (λ b. test (f x) && b) (all_map f test xs)

all_allowed : (flat : Bool) (is : Stmt → Bool) → stmt_allowed flat ≡ is → (ss : List Stmt) → list_all (λ b. b) (map (stmt_allowed flat) ss) ≡ true → list_all is ss ≡ true
all_allowed flat is e ss h = subst (λ (f : Stmt → Bool). list_all f ss ≡ true) e (sym (all_map (stmt_allowed flat) (λ b. b) ss) ∙ h)

-- ---- one body after another

module _ (flat : Bool) (parts : CoreParts) where
  -- A test of a function and those before it.
  pub by_place : (test : List FunDef → FunDef → Bool) → ((before : List FunDef) (f : FunDef) → KeepsFun flat parts before f → test before f ≡ true) →
      (before fs : List FunDef) → KeepFuns flat parts before fs → funs_pass test before fs ≡ true
  by_place test one before [] all = refl
  by_place test one before (f ∷ fs) all = and_from _ _ (one before f all.0) (by_place test one (before ++ f ∷ []) fs all.1)

  -- A test of a function alone.
  pub each_fun : (test : FunDef → Bool) → ((before : List FunDef) (f : FunDef) → KeepsFun flat parts before f → arguments_are_few f.body ≡ true → test f ≡ true) →
      (before fs : List FunDef) → KeepFuns flat parts before fs → list_all (λ f. arguments_are_few f.body) fs ≡ true → list_all test fs ≡ true
  each_fun test one before [] all few = refl
  each_fun test one before (f ∷ fs) all few = let both = and_parts _ _ few in and_from _ _ (one before f all.0 both.0) (each_fun test one (before ++ f ∷ []) fs all.1 both.1)

  pub each_handler : (test : HandlerDef → Bool) → ((h : HandlerDef) → KeepsHandler flat parts h → arguments_are_few h.body ≡ true → test h ≡ true) →
      (hs : List HandlerDef) → KeepHandlers flat parts hs → list_all (λ h. arguments_are_few h.body) hs ≡ true → list_all test hs ≡ true
  each_handler test one [] all few = refl
  each_handler test one (h ∷ hs) all few = let both = and_parts _ _ few in and_from _ _ (one h all.0 both.0) (each_handler test one hs all.1 both.1)

  handler_at : (hs : List HandlerDef) (k : ℕ) (h : HandlerDef) → KeepHandlers flat parts hs → slice_get hs k ≡ Some h → KeepsHandler flat parts h
  handler_at [] k h all at = absurd (cc)
  handler_at (g ∷ hs) zero h all at = let same : g ≡ h = cc in subst (KeepsHandler flat parts) same all.0
  handler_at (g ∷ hs) (suc k) h all at = handler_at hs k h all.1 at

-- ---- events and handlers

-- A test of numbers and elements.
all_numbered : {A : Type 0} (test : ℕ × A → Bool) (k : ℕ) (xs : List A) → ((i : ℕ) (x : A) → slice_get xs i ≡ Some x → test (k + i, x) ≡ true) → list_all test (enumerate_from k xs) ≡ true
all_numbered test k [] h = refl
all_numbered {A} test k (x ∷ xs) h =
    let head : k + 0 ≡ k = omega arith in
    and_from _ _ (subst (λ (n : ℕ). test (n, x) ≡ true) head (h 0 x refl))
    (all_numbered test (k + 1) xs (λ i y is. let next : k + suc i ≡ k + 1 + i = omega arith in subst (λ (n : ℕ). test (n, y) ≡ true) next (h (suc i) y is)))

zero_on : (i : ℕ) → i ≡ 0 + i
zero_on i = omega arith

is_handled : (hs : List HandlerDef) (id : ℕ) (o : Option ℕ) → ((k : ℕ) → o ≡ Some k → (h : HandlerDef) × (slice_get hs k ≡ Some h) × (h.event ≡ id)) → option_map_or (handles hs id) o true ≡ true
is_handled hs id None link = refl
is_handled hs id (Some k) link = let h = link k refl in rw h.1 (eq-eqb h.0.event id h.2)

handles_it : (events : List EventDef) (k id : ℕ) → ((e : EventDef) × (slice_get events id ≡ Some e) × (e.handler ≡ Some k)) → is_handled_by events k id ≡ true
handles_it events k id e = rw (e.1, e.2) (eq-eqb k k refl)

events_agree : (flat : Bool) (parts : CoreParts) → IsBuilt flat parts → events_and_handlers_agree parts ≡ true
events_agree flat parts built = and_from _ _
    (all_numbered (λ e. option_map_or (handles parts.handlers e.0) e.1.handler true) 0 parts.events (λ id e at.
    subst (λ (n : ℕ). option_map_or (handles parts.handlers n) e.handler true ≡ true) (zero_on id) (is_handled parts.handlers id e.handler (λ k is. built.handled id e k at is))))
    (all_numbered (λ h. is_handled_by parts.events h.0 h.1.event && starts_with nat_eq h.1.locals (event_params parts.events h.1.event)) 0 parts.handlers (λ k h at.
    and_from _ _ (subst (λ (n : ℕ). is_handled_by parts.events n h.event ≡ true) (zero_on k) (handles_it parts.events k h.event (built.handles k h at)))
    (handler_at flat parts parts.handlers k h built.handlers at).begins))

-- ---- all rules

ends_well : (a : Answer) (always : Bool) → (is_some a ≡ true → always ≡ true) → not (is_some a) || always ≡ true
ends_well None always h = refl
ends_well (Some w) always h = h refl

gives_answer : (p : Place) (a : Answer) (r : Ending) (xs : List Stmt) → KeepsBlock p a r xs → body_gives_only a xs p.scope ≡ true
gives_answer p a r xs f = rw f.typed f.only

pub sound : (flat : Bool) (parts : CoreParts) → IsBuilt flat parts → IsSound parts
sound flat parts built =
    let of_funs = λ (test : FunDef → Bool) (one : (before : List FunDef) (f : FunDef) → KeepsFun flat parts before f → arguments_are_few f.body ≡ true → test f ≡ true). each_fun flat parts test one [] parts.funs built.funs built.few_in_funs in
    let of_handlers = λ (test : HandlerDef → Bool) (one : (h : HandlerDef) → KeepsHandler flat parts h → arguments_are_few h.body ≡ true → test h ≡ true). each_handler flat parts test one parts.handlers built.handlers built.few_in_handlers in
    record {
      names = and_from _ _ (and_from _ _
          (by_place flat parts (λ before f. each (map stmt_names f.body) (fun_scope parts before f)) (λ before f k. k.body.named) [] parts.funs built.funs)
          (of_handlers (λ h. each (map stmt_names h.body) (handler_scope parts h)) (λ h k few. k.body.named)))
          (of_funs (λ f. nat_le f.params (length f.locals)) (λ before f k few. k.params));
      events = events_agree flat parts built;
      widths = and_from _ _
          (by_place flat parts (λ before f. body_gives_only f.answer f.body (fun_scope parts before f)) (λ before f k. gives_answer _ f.answer k.ending f.body k.body) [] parts.funs built.funs)
          (of_handlers (λ h. body_gives_only None h.body (handler_scope parts h)) (λ h k few. gives_answer _ None k.ending h.body k.body));
      returns = and_from _ _
          (of_funs (λ f. (body_returns f.body).last && (not (is_some f.answer) || (body_returns f.body).always)) (λ before f k few. and_from _ _ k.body.last (ends_well f.answer _ (λ is. k.body.always ∙ k.ends is))))
          (of_handlers (λ h. (body_returns h.body).last) (λ h k few. k.body.last));
      outs = built.outs;
      assigned = and_from _ _
          (of_funs (λ f. assigns_its_locals f.params f.locals f.body) (λ before f k few. k.assigns))
          (of_handlers (λ h. assigns_its_locals (length (event_params parts.events h.event)) h.locals h.body) (λ h k few. k.assigns));
      reads = and_from _ _
          (of_funs (λ f. body_reads_assigned (take f.params f.locals) f.body) (λ before f k few. k.body.reads))
          (of_handlers (λ h. body_reads_assigned (event_params parts.events h.event) h.body) (λ h k few. k.body.reads));
      declarations = built.declarations;
      bodies = and_from _ _
          (of_funs (λ f. body_keeps_limits f.body) (λ before f k few. k.body.limited few))
          (of_handlers (λ h. body_keeps_limits h.body) (λ h k few. k.body.limited few));
      texts = and_from _ _
          (of_funs (λ f. body_fills_texts f.body parts.forms) (λ before f k few. k.body.filled))
          (of_handlers (λ h. body_fills_texts h.body parts.forms) (λ h k few. k.body.filled));
      numbered = built.numbered;
    }

pub core_is_valid : CoreIsValid
core_is_valid parts built = record {
  sound = sound false parts built;
  syntax = and_from _ _
      (each_fun false parts (λ f. list_all is_core_stmt f.body) (λ before f k few. all_allowed false is_core_stmt core_allowed f.body k.body.formed) [] parts.funs built.funs built.few_in_funs)
      (each_handler false parts (λ h. list_all is_core_stmt h.body) (λ h k few. all_allowed false is_core_stmt core_allowed h.body k.body.formed) parts.handlers built.handlers built.few_in_handlers);
}

pub flat_is_valid : FlatIsValid
flat_is_valid parts built none inlined = record {
  sound = sound true parts built;
  syntax = each_handler true parts (λ h. list_all is_flat_stmt h.body) (λ h k few. all_allowed true is_flat_stmt flat_allowed h.body k.body.formed) parts.handlers built.handlers built.few_in_handlers;
  no_functions = none;
  inlined = inlined;
}
