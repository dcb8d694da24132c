-- The flat form of a valid core has its step.
use Rattle.std.proofs.Common.{◌≡◌, ℕ, suc, ◌≤◌, List, [], ◌∷◌, ◌++◌, true, false, Option, None, Some, length, map, refl, sym, ap, ap₂, subst, ◌∙◌, arith, append-nil, append_assoc, nat_eq, nat_le, slice_get, option_and_then}
use Rattle.std.specs.List.{list_all, starts_with}
use Rattle.std.specs.Option.{option_map_or}
use Rattle.std.proofs.lemmas.Bool.{and_from, and_parts}
use Rattle.std.proofs.lemmas.List.{map-append}
use Rattle.std.proofs.lemmas.List.Folds.{list_all-append}
use Rattle.lucid_base.specs.declared.event.Event.{Event}
use Rattle.lucid_core.specs.declared.defs.EventDef.{EventDef}
use Rattle.lucid_core.specs.declared.defs.FunDef.{FunDef}
use Rattle.lucid_core.specs.declared.defs.HandlerDef.{HandlerDef}
use Rattle.lucid_core.specs.Events.{events_and_handlers_agree}
use Rattle.lucid_core.specs.Fits.{args_fit, event_fits}
use Rattle.lucid_core.specs.Syntax.{is_core_stmt}
use Rattle.lucid_core.specs.Limits.{body_keeps_limits}
use Rattle.lucid_core.specs.Names.{stmt_names}
use Rattle.lucid_core.specs.Parts.{CoreParts}
use Rattle.lucid_core.specs.Scope.{each, fun_scope, handler_scope, funs_pass}
use Rattle.lucid_core.specs.Step.{handler_of, ran}
use Rattle.lucid_core.specs.Typing.{returns_of, body_gives_only}
use Rattle.lucid_core.specs.Valid.{IsValid}
use Rattle.lucid_core.proofs.TypingRules.{body_rule}
use Rattle.lucid_core.proofs.Handlers.{declared, one_handler}
use Rattle.lucid_inline_spec.specs.Flat as f
use Rattle.lucid_inline_spec.specs.Laws.{KeepsSteps}
use Rattle.lucid_inline_spec.proofs.Fit as r
use Rattle.lucid_inline_spec.proofs.Fit.{stmt_fit}
use Rattle.lucid_inline_spec.proofs.FitOfValid.{rooms_of, body_fits}
use Rattle.lucid_inline_spec.proofs.Runs.{RunsAlike, funs_fit, program_fits, rooms_from, flat_runs}

rooms_from-is : (rooms : List ℕ) (ds : List FunDef) → rooms_from rooms ds ≡ rooms ++ rooms_of ds
rooms_from-is rooms [] = sym (append-nil rooms)
rooms_from-is rooms (d ∷ ds) = rooms_from-is (rooms ++ d.params ∷ []) ds ∙ append_assoc rooms (d.params ∷ []) (rooms_of ds)

valid_funs_fit : (core : CoreParts) (before ds : List FunDef) → list_all (λ d. nat_le d.params (length d.locals)) before ≡ true → list_all (λ d. nat_le d.params (length d.locals)) ds ≡ true → funs_pass (λ earlier d. each (map stmt_names d.body) (fun_scope core earlier d)) before ds ≡ true →
    funs_pass (λ earlier d. body_gives_only d.answer d.body (fun_scope core earlier d)) before ds ≡ true → list_all (λ d. list_all is_core_stmt d.body) ds ≡ true →
    list_all (λ d. body_keeps_limits d.body) ds ≡ true → funs_fit (rooms_of before) ds ≡ true
valid_funs_fit core before [] known small names widths forms limits = refl
valid_funs_fit core before (d ∷ ds) known small names widths forms limits =
    let name = and_parts _ _ names in
    let width = and_parts _ _ widths in
    let form = and_parts _ _ forms in
    let limit = and_parts _ _ limits in
    let rule = body_rule (fun_scope core before d) d.answer (map returns_of d.body) width.0 in
    let smalls = and_parts _ _ small in
    let known2 = list_all-append (λ (g : FunDef). nat_le g.params (length g.locals)) before (d ∷ []) ∙ and_from _ _ known (and_from _ _ smalls.0 refl) in
    let one = body_fits (fun_scope core before d) known d.body name.0 rule.0 rule.1 form.0 limit.0 in
    let more = valid_funs_fit core (before ++ d ∷ []) ds known2 smalls.1 name.1 width.1 form.1 limit.1 in
    and_from _ _ (and_from _ _ smalls.0 one) (subst (λ (rooms : List ℕ). funs_fit rooms ds ≡ true) (map-append (λ (g : FunDef). g.params) before (d ∷ [])) more)

valid_handlers_fit : (core : CoreParts) → list_all (λ d. nat_le d.params (length d.locals)) core.funs ≡ true → (hs : List HandlerDef) → list_all (λ h. each (map stmt_names h.body) (handler_scope core h)) hs ≡ true → list_all (λ h. body_gives_only None h.body (handler_scope core h)) hs ≡ true →
    list_all (λ h. list_all is_core_stmt h.body) hs ≡ true → list_all (λ h. body_keeps_limits h.body) hs ≡ true →
    list_all (λ h. r.each (map stmt_fit h.body) (length h.locals) (rooms_of core.funs)) hs ≡ true
valid_handlers_fit core small [] names widths forms limits = refl
valid_handlers_fit core small (h ∷ hs) names widths forms limits =
    let name = and_parts _ _ names in
    let width = and_parts _ _ widths in
    let form = and_parts _ _ forms in
    let limit = and_parts _ _ limits in
    let rule = body_rule (handler_scope core h) None (map returns_of h.body) width.0 in
    and_from _ _ (body_fits (handler_scope core h) small h.body name.0 rule.0 rule.1 form.0 limit.0) (valid_handlers_fit core small hs name.1 width.1 form.1 limit.1)

pub valid_fits : (core : CoreParts) → IsValid core → program_fits core ≡ true
valid_fits core valid =
    let all_names = and_parts _ _ valid.sound.names in
    let small = all_names.1 in
    let names = and_parts _ _ all_names.0 in
    let widths = and_parts _ _ valid.sound.widths in
    let forms = and_parts _ _ valid.syntax in
    let limits = and_parts _ _ valid.sound.bodies in
    let e : rooms_of core.funs ≡ rooms_from [] core.funs = sym (rooms_from-is [] core.funs) in
    and_from _ _ (valid_funs_fit core [] core.funs refl small names.0 widths.0 forms.0 limits.0)
    (subst (λ (rooms : List ℕ). list_all (λ h. r.each (map stmt_fit h.body) (length h.locals) rooms) core.handlers ≡ true) e
    (valid_handlers_fit core small core.handlers names.1 widths.1 forms.1 limits.1))

-- A handler has a local for each argument of an event that fits.
pub starts-length : (xs ys : List ℕ) → starts_with nat_eq xs ys ≡ true → length ys ≤ length xs
starts-length xs [] h = omega arith
starts-length [] (y ∷ ys) h = absurd (cc)
starts-length (x ∷ xs) (y ∷ ys) h = let rest = starts-length xs ys (and_parts _ _ h).1 in omega arith

args-length : (ws args : List ℕ) → args_fit ws args ≡ true → length args ≡ length ws
args-length [] [] h = refl
args-length [] (a ∷ args) h = absurd (cc)
args-length (w ∷ ws) [] h = absurd (cc)
args-length (w ∷ ws) (a ∷ args) h = ap suc (args-length ws args (and_parts _ _ h).1)

pub few_arguments : (core : CoreParts) → IsValid core → (event : Event) → event_fits core event ≡ true → (h : HandlerDef) → handler_of core event.id ≡ Some h → length event.args ≤ length h.locals
few_arguments core valid event fits h is = at (option_and_then (λ e. e.handler) (slice_get core.events event.id)) refl is
  where
    agree : events_and_handlers_agree core ≡ true
    agree = valid.sound.events

    fit : (o : Option EventDef) (e : EventDef) → o ≡ Some e → option_map_or (λ d. args_fit d.params event.args) o false ≡ true → length event.args ≡ length e.params
    fit o e there h2 = args-length e.params event.args (subst (λ (x : Option EventDef). option_map_or (λ d. args_fit d.params event.args) x false ≡ true) there h2)

    at : (o : Option ℕ) → option_and_then (λ e. e.handler) (slice_get core.events event.id) ≡ o → option_and_then (slice_get core.handlers) o ≡ Some h → length event.args ≤ length h.locals
    at None named found = absurd (cc)
    at (Some k) named found =
        let d = declared core agree k h found in
        let its : h.event ≡ event.id = (one_handler core valid.sound).its_event event.id h is in
        let l1 = fit (slice_get core.events event.id) d.event (ap (slice_get core.events) (sym its) ∙ d.there) fits in
        let l2 = starts-length h.locals d.event.params d.begins in
        omega arith

pub flat_steps : (core : CoreParts) → IsValid core → KeepsSteps core
flat_steps core valid = record {
  step = λ cells now me event fits. let same = runs cells now me event fits in ap₂ (λ c o. record { cells = c; outs = o }) same.cells same.outs;
  touches = λ cells now me event fits. (runs cells now me event fits).calls;
}
  where
    runs : (cells : List (List ℕ)) (now me : ℕ) (event : Event) → event_fits core event ≡ true → RunsAlike (ran core cells now me event) (ran (f.flat_of core) cells now me event)
    runs cells now me event fits = flat_runs core (valid_fits core valid) cells now me event (few_arguments core valid event fits)
