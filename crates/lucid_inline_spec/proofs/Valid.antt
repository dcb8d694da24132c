-- The flat form of a valid core is a valid flat core.
use Rattle.std.proofs.Common.{◌≡◌, ◌⊎◌, inl, inr, ℕ, suc, ◌+◌, ◌-◌, ◌<◌, ◌≤◌, List, [], ◌∷◌, ◌++◌, Bool, true, false, not, Option, None, Some, length, map, refl, sym, ap, subst, ◌∙◌, arith, length-append, nat_eq, nat_le, slice_get, option_map}
use Rattle.std.specs.List.{list_all, starts_with}
use Rattle.std.specs.Option.{option_map_or}
use Rattle.std.proofs.lemmas.Bool.{and_from, and_parts, cases_lt, eqb-true, leb-true}
use Rattle.std.proofs.lemmas.Option.{slice_get-map}
use Rattle.lucid_core.specs.declared.defs.EventDef.{EventDef}
use Rattle.lucid_core.specs.declared.defs.FunDef.{FunDef}
use Rattle.lucid_core.specs.declared.defs.HandlerDef.{HandlerDef}
use Rattle.lucid_core.specs.Events.{event_params, events_and_handlers_agree, handles}
use Rattle.lucid_core.specs.Numbered.{rising}
use Rattle.lucid_base.specs.Numbers.{is_in}
use Rattle.lucid_core.specs.OutCount.{body_outs, funs_outs}
use Rattle.lucid_core.specs.Parts.{CoreParts}
use Rattle.lucid_core.specs.Uses.{all_keep_to_themselves, assigns_its_locals, body_uses, times_in}
use Rattle.lucid_core.specs.Valid.{IsValid, IsValidFlat}
use Rattle.lucid_core.proofs.Handlers.{declared, numbered_at}
use Rattle.lucid_core.proofs.WidthLists.{passes_at}
use Rattle.lucid_core.specs.Few.{arguments_are_few}
use Rattle.lucid_core_laws.specs.InlinedNodes.{Owns}
use Rattle.lucid_core_laws.specs.Programs.{IsBuilt, KeepHandlers, KeepsHandler}
use Rattle.lucid_core_laws.proofs.Built.{flat_is_valid}
use Rattle.lucid_core_laws.proofs.Owning.{inlined_nodes}
use Rattle.lucid_inline_spec.specs.Flat as f
use Rattle.lucid_inline_spec.specs.Flat.{PutIn, flat_stmt}
use Rattle.lucid_inline_spec.proofs.Fit as r
use Rattle.lucid_inline_spec.proofs.Fit.{stmt_fit}
use Rattle.lucid_inline_spec.proofs.Grows.{AllGrow, stmts_grow}
use Rattle.lucid_inline_spec.proofs.KeptBodies.{handler_keeps}
use Rattle.lucid_inline_spec.proofs.LengthLaw.{grow_more, grow_puts, put_grows}
use Rattle.lucid_inline_spec.proofs.Outs.{handler_outs}
use Rattle.lucid_inline_spec.proofs.OwningNodes.{AllOwn, Owned, PutOwns, body_owned}
use Rattle.lucid_inline_spec.proofs.Runs.{funs_fit, puts_from, rooms_from}
use Rattle.lucid_inline_spec.proofs.Steps.{starts-length, valid_fits}
use Rattle.lucid_core_laws.proofs.Times.{in-times, is_in-from}
use Rattle.lucid_inline_spec.proofs.Times.{dropped_from, dropped_there}

-- ---- the assigned locals of functions and handlers

own_more : (rs : List ℕ) (ps : List PutIn) (k : ℕ) (put : PutIn) → AllOwn rs ps → PutOwns k put → AllOwn (rs ++ k ∷ []) (ps ++ put ∷ [])
own_more [] [] k put all one = (one, tt)
own_more (q ∷ rs) (p ∷ ps) k put all one = (all.0, own_more rs ps k put all.1 one)
own_more [] (p ∷ ps) k put all one = absurd all
own_more (q ∷ rs) [] k put all one = absurd all

fun_owns : (rooms : List ℕ) (puts : List PutIn) (d : FunDef) → AllOwn rooms puts → AllGrow puts → d.params ≤ length d.locals → r.each (map stmt_fit d.body) (length d.locals) rooms ≡ true → assigns_its_locals d.params d.locals d.body ≡ true →
    PutOwns d.params (f.put_of puts d)
fun_owns rooms puts d all grow small fit assigned = record {
  own = length d.locals;
  room = small;
  owns = λ arrays ws. subst (λ (lo : ℕ). Owns (length ws) (length d.locals) lo (length (f.put_of puts d arrays ws).locals) (body_uses (f.put_of puts d arrays ws).value)) (length-append ws d.locals) (body arrays ws).owns;
  covers = λ arrays ws x l u.
      let c = x - length ws in
      let e : length ws + c ≡ x = omega arith in
      let there = dropped_there d.params d.locals 0 (body_uses d.body).assigns assigned c (omega arith) (omega arith) in
      let z : 0 + c ≡ c = omega arith in
      let some = in-times (body_uses d.body).assigns c (subst (λ (i : ℕ). is_in i (body_uses d.body).assigns ≡ true) z there) in
      subst (λ (i : ℕ). 0 < times_in (body_uses (f.put_of puts d arrays ws).value).assigns i) e ((body arrays ws).carries c some);
}
  where
    body : (arrays ws : List ℕ) → Owned (record { arrays = arrays; first = length ws; funs = puts }) rooms all grow (length d.locals) (body_uses d.body) (body_uses (f.put_of puts d arrays ws).value) (length (ws ++ d.locals)) (length (f.put_of puts d arrays ws).locals)
    body arrays ws = let l = length-append ws d.locals in body_owned (record { arrays = arrays; first = length ws; funs = puts }) rooms all grow (length d.locals) d.body fit (ws ++ d.locals) (omega arith)

funs_own : (rooms : List ℕ) (puts : List PutIn) (ds : List FunDef) → AllOwn rooms puts → AllGrow puts → funs_fit rooms ds ≡ true → list_all (λ d. assigns_its_locals d.params d.locals d.body) ds ≡ true → AllOwn (rooms_from rooms ds) (puts_from puts ds)
funs_own rooms puts [] all grow fit assigned = all
funs_own rooms puts (d ∷ ds) all grow fit assigned =
    let fits = and_parts _ _ fit in
    let own = and_parts _ _ fits.0 in
    let both = and_parts _ _ assigned in
    funs_own (rooms ++ d.params ∷ []) (puts ++ f.put_of puts d ∷ []) ds (own_more rooms puts d.params (f.put_of puts d) all (fun_owns rooms puts d all grow (leb-true _ _ own.0) own.1 both.0))
    (grow_more puts (f.put_of puts d) grow (put_grows puts d grow)) fits.1 both.1

-- ---- rules on declarations

starts_more : (xs ys more : List ℕ) → starts_with nat_eq xs ys ≡ true → starts_with nat_eq (xs ++ more) ys ≡ true
starts_more xs [] more h = refl
starts_more [] (y ∷ ys) more h = absurd (cc)
starts_more (x ∷ xs) (y ∷ ys) more h = let both = and_parts _ _ h in and_from _ _ both.0 (starts_more xs ys more both.1)

mapped : {A B : Type 0} (g : A → B) (xs : List A) (k : ℕ) (y : B) → slice_get (map g xs) k ≡ Some y → (x : A) × (slice_get xs k ≡ Some x) × (y ≡ g x)
mapped {A = A} g xs k y h = at (slice_get xs k) refl (sym (slice_get-map g xs k) ∙ h)
  where
    at : (o : Option A) → slice_get xs k ≡ o → option_map g o ≡ Some y → (x : A) × (slice_get xs k ≡ Some x) × (y ≡ g x)
    at None is e = absurd (cc)
    at (Some x) is e = (x, is, cc)

module _ (core : CoreParts) (valid : IsValid core) where
  abbrev flat : HandlerDef → HandlerDef
  flat = f.flat_handler core.funs

  abbrev params : HandlerDef → ℕ
  params h = length (event_params core.events h.event)

  agree : events_and_handlers_agree core ≡ true
  agree = valid.sound.events

  grow : AllGrow (f.puts_of core.funs)
  grow = grow_puts [] core.funs tt

  fits : (funs_fit [] core.funs ≡ true) × (list_all (λ h. r.each (map stmt_fit h.body) (length h.locals) (rooms_from [] core.funs)) core.handlers ≡ true)
  fits = and_parts _ _ (valid_fits core valid)

  fit_at : (k : ℕ) (h : HandlerDef) → slice_get core.handlers k ≡ Some h → r.each (map stmt_fit h.body) (length h.locals) (rooms_from [] core.funs) ≡ true
  fit_at k h is = passes_at (λ (g : HandlerDef). r.each (map stmt_fit g.body) (length g.locals) (rooms_from [] core.funs)) core.handlers k h fits.1 is

  handler_begins : (k : ℕ) (h : HandlerDef) → slice_get core.handlers k ≡ Some h → starts_with nat_eq h.locals (event_params core.events h.event) ≡ true
  handler_begins k h is =
      let d = declared core agree k h is in
      let e : event_params core.events h.event ≡ d.event.params = ap (λ (o : Option EventDef). option_map_or (λ e. e.params) o []) d.there in
      subst (λ (ws : List ℕ). starts_with nat_eq h.locals ws ≡ true) (sym e) d.begins

  few_params : (k : ℕ) (h : HandlerDef) → slice_get core.handlers k ≡ Some h → params h ≤ length h.locals
  few_params k h is = starts-length h.locals (event_params core.events h.event) (handler_begins k h is)

  owned : (k : ℕ) (h : HandlerDef) → slice_get core.handlers k ≡ Some h →
      Owned (record { arrays = []; first = 0; funs = f.puts_of core.funs }) (rooms_from [] core.funs) (funs_own [] [] core.funs tt tt fits.0 (and_parts _ _ valid.sound.assigned).0) grow (length h.locals) (body_uses h.body) (body_uses (flat h).body) (length h.locals) (length (flat h).locals)
  owned k h is = body_owned (record { arrays = []; first = 0; funs = f.puts_of core.funs }) (rooms_from [] core.funs) (funs_own [] [] core.funs tt tt fits.0 (and_parts _ _ valid.sound.assigned).0) grow (length h.locals) h.body (fit_at k h is) h.locals (omega arith)

  keeps_to_itself : (k : ℕ) (h : HandlerDef) → slice_get core.handlers k ≡ Some h → all_keep_to_themselves (params h) (body_uses (flat h).body) ≡ true
  keeps_to_itself k h is = inlined_nodes.body (params h) 0 (length h.locals) (length h.locals) (length (flat h).locals) (body_uses (flat h).body) (few_params k h is) (owned k h is).owns

  handler_assigns : (k : ℕ) (h : HandlerDef) → slice_get core.handlers k ≡ Some h → assigns_its_locals (params h) (flat h).locals (flat h).body ≡ true
  handler_assigns k h is =
      let own = owned k h is in
      let core_rule = passes_at (λ (g : HandlerDef). assigns_its_locals (params g) g.locals g.body) core.handlers k h (and_parts _ _ valid.sound.assigned).1 is in
      dropped_from (params h) (flat h).locals 0 (body_uses (flat h).body).assigns (λ i l m. is_in-from (body_uses (flat h).body).assigns (0 + i) (at core_rule own i l m (cases_lt i (length h.locals))))
    where
      at : assigns_its_locals (params h) h.locals h.body ≡ true → Owned (record { arrays = []; first = 0; funs = f.puts_of core.funs }) (rooms_from [] core.funs) (funs_own [] [] core.funs tt tt fits.0 (and_parts _ _ valid.sound.assigned).0) grow (length h.locals) (body_uses h.body) (body_uses (flat h).body) (length h.locals) (length (flat h).locals) →
          (i : ℕ) → params h ≤ i → i < length (flat h).locals → (i < length h.locals) ⊎ (length h.locals ≤ i) → 0 < times_in (body_uses (flat h).body).assigns (0 + i)
      at rule own i l m (inl q) =
          let z : 0 + i ≡ i = omega arith in
          own.carries i (in-times (body_uses h.body).assigns i (subst (λ (j : ℕ). is_in j (body_uses h.body).assigns ≡ true) z (dropped_there (params h) h.locals 0 (body_uses h.body).assigns rule i l q)))
      at rule own i l m (inr q) = own.owns.covers (0 + i) (omega arith) (omega arith)

  -- For all handlers, a fact of each.
  each_handler : (test : HandlerDef → Bool) → ((k : ℕ) (h : HandlerDef) → slice_get core.handlers k ≡ Some h → test (flat h) ≡ true) → list_all test (map flat core.handlers) ≡ true
  each_handler test h = from core.handlers 0 h
    where
      from : (hs : List HandlerDef) (b : ℕ) → ((k : ℕ) (g : HandlerDef) → slice_get hs k ≡ Some g → test (flat g) ≡ true) → list_all test (map flat hs) ≡ true
      from [] b all = refl
      from (g ∷ hs) b all = and_from _ _ (all 0 g refl) (from hs (b + 1) (λ k x is. all (suc k) x is))

  handlers_keep : (hs : List HandlerDef) → ((k : ℕ) (h : HandlerDef) → slice_get hs k ≡ Some h → KeepsHandler true (f.flat_of core) (flat h)) → KeepHandlers true (f.flat_of core) (map flat hs)
  handlers_keep [] all = tt
  handlers_keep (h ∷ hs) all = (all 0 h refl, handlers_keep hs (λ k x is. all (suc k) x is))

  one_keeps : (k : ℕ) (h : HandlerDef) → slice_get core.handlers k ≡ Some h → KeepsHandler true (f.flat_of core) (flat h)
  one_keeps k h is =
      let kept = handler_keeps core valid grow k h is in
      let more = stmts_grow h.body (record { arrays = []; first = 0; funs = f.puts_of core.funs }) grow h.locals in record {
        ending = kept.ending;
        body = kept.body;
        begins = subst (λ (ws : List ℕ). starts_with nat_eq ws (event_params core.events h.event) ≡ true) (sym more.1) (starts_more h.locals (event_params core.events h.event) more.0 (handler_begins k h is));
        assigns = handler_assigns k h is;
      }

  its_handler : (id : ℕ) (e : EventDef) (k : ℕ) → slice_get core.events id ≡ Some e → e.handler ≡ Some k → (h : HandlerDef) × (slice_get core.handlers k ≡ Some h) × (h.event ≡ id)
  its_handler id e k there named =
      let own = numbered_at (λ (p : ℕ × EventDef). option_map_or (handles core.handlers p.0) p.1.handler true) core.events 0 id e (and_parts _ _ agree).0 there in
      at (slice_get core.handlers k) refl (subst (λ (o : Option ℕ). option_map_or (handles core.handlers (0 + id)) o true ≡ true) named own)
    where
      at : (o : Option HandlerDef) → slice_get core.handlers k ≡ o → option_map_or (λ (h : HandlerDef). nat_eq h.event (0 + id)) o false ≡ true → (h : HandlerDef) × (slice_get core.handlers k ≡ Some h) × (h.event ≡ id)
      at None is q = absurd (cc)
      at (Some h) is q = let e2 = eqb-true h.event (0 + id) q in (h, is, omega arith)

  same_decls : (hs : List HandlerDef) → map (λ (h : HandlerDef). h.decl) (map flat hs) ≡ map (λ (h : HandlerDef). h.decl) hs
  same_decls [] = refl
  same_decls (h ∷ hs) = ap (λ (ds : List ℕ). h.decl ∷ ds) (same_decls hs)

  built : IsBuilt true (f.flat_of core)
  built =
      let limits = and_parts _ _ valid.sound.declarations in
      let numbered = and_parts _ _ (and_parts _ _ valid.sound.numbered).0 in
      let outs = and_parts _ _ valid.sound.outs in record {
        funs = tt;
        handlers = handlers_keep core.handlers one_keeps;
        handled = λ id e k there named. let h = its_handler id e k there named in (flat h.0, slice_get-map flat core.handlers k ∙ ap (option_map flat) h.1, h.2);
        handles = λ k g is. let h = mapped flat core.handlers k g is in let d = declared core agree k h.0 h.1 in
            (d.event, ap (λ (x : HandlerDef). slice_get core.events x.event) h.2 ∙ d.there, d.named);
        few_in_funs = refl;
        few_in_handlers = each_handler (λ h. arguments_are_few h.body) (λ k h is. (handler_keeps core valid grow k h is).few);
        declarations = and_from _ _ limits.0 refl;
        numbered = and_from _ _ (and_from _ _ refl (ap (rising 1) (same_decls core.handlers) ∙ numbered.1)) (each_handler (λ h. list_all (λ (g : FunDef). not (nat_eq g.decl h.decl)) []) (λ k h is. refl));
        outs = and_from _ _ refl (each_handler (λ h. nat_le (body_outs h.body []) 8) (λ k h is.
            ap (λ (n : ℕ). nat_le n 8) (handler_outs core.funs fits.0 h (fit_at k h is)) ∙ passes_at (λ (g : HandlerDef). nat_le (body_outs g.body (funs_outs [] core.funs)) 8) core.handlers k h outs.1 is));
      }

  pub flat_valid : IsValidFlat (f.flat_of core)
  flat_valid = flat_is_valid (f.flat_of core) built refl (each_handler (λ h. all_keep_to_themselves (length (event_params core.events h.event)) (body_uses h.body)) keeps_to_itself)
