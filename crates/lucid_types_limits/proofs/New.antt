-- The limits of a new part are those that a declaration can pass.
use Rattle.std.proofs.Common.{◌≡◌, ℕ, ◌+◌, List, [], ◌∷◌, ◌++◌, Bool, true, false, ◌&&◌, Option, None, Some, length, map, nat_le, refl, sym, ap, ap₂, subst, ◌∙◌, slice_get, slice_set, arith, length-append}
use Rattle.std.specs.List.{list_all}
use Rattle.std.proofs.lemmas.Bool.{and_from, and_parts}
use Rattle.std.proofs.lemmas.List.Folds.{list_all-append, list_all-map}
use Rattle.lucid_base.specs.declared.array.ArrayDef.{ArrayDef}
use Rattle.lucid_core.specs.declared.defs.EventDef.{EventDef}
use Rattle.lucid_core.specs.declared.defs.FunDef.{FunDef}
use Rattle.lucid_core.specs.declared.defs.HandlerDef.{HandlerDef}
use Rattle.lucid_core.specs.OutCount.{body_outs, funs_outs, outs_are_few}
use Rattle.lucid_core.specs.Names.{stmt_names}
use Rattle.lucid_core.specs.Parts.{CoreParts}
use Rattle.lucid_core.specs.Scope.{each, handler_scope}
use Rattle.lucid_core.specs.Valid.{IsValid}
use Rattle.lucid_core.specs.Few.{arguments_are_few}
use Rattle.lucid_parse_tree.specs.declared.tree.Decl.{Decl}
use Rattle.lucid_parse_tree.specs.declared.tree.DeclKind.{DeclKind}
use Rattle.lucid_parse_tree.specs.declared.tree.Tree.{Tree}
use Rattle.lucid_types_spec.specs.declared.limit.What.{What}
use Rattle.lucid_types_spec.specs.declared.limit.What.TheVariants as what
use Rattle.lucid_types_spec.specs.Declaration.{Definitions, parts_of}
use Rattle.lucid_types_spec.specs.Limits.{body_of, cases_are_few, first_passed, limits, passed}
use Rattle.lucid_types_spec.specs.Makes.{IsTyped, Makes}
use Rattle.lucid_types_spec.specs.Makes as made
use Rattle.lucid_types_laws.proofs.Lists.{map-set}
use Rattle.lucid_types_laws.proofs.Programs.{typed_is_valid}
use Rattle.lucid_types_limits.specs.Laws.{NewAlone, OnlyTheNew}
use Rattle.lucid_types_limits.specs.NewPart.{array_passes, event_passes, fun_passes, handler_passes}
use Rattle.lucid_types_limits.proofs.Passing.{funs_outs-last}
use Rattle.lucid_types_limits.proofs.Stays.{handlers_stay}

-- ---- what was made before passes none

record Within (m : CoreParts) : Type 0 where
  arrays : nat_le (length m.arrays) 64 ≡ true
  array_params : list_all (λ (f : FunDef). nat_le (length f.arrays) 8) m.funs ≡ true
  event_params : list_all (λ (e : EventDef). nat_le (length e.params) 8) m.events ≡ true
  fun_params : list_all (λ (f : FunDef). nat_le f.params 8) m.funs ≡ true
  funs : list_all (λ (f : FunDef). arguments_are_few f.body) m.funs ≡ true
  handlers : list_all (λ (h : HandlerDef). arguments_are_few h.body) m.handlers ≡ true
  outs : list_all (λ (n : ℕ). nat_le n 8) (funs_outs [] m.funs) ≡ true
  handler_outs : list_all (λ (h : HandlerDef). nat_le (body_outs h.body (funs_outs [] m.funs)) 8) m.handlers ≡ true

all_kept : (ls : List (What × Bool)) → first_passed ls ≡ None → list_all (λ (l : What × Bool). l.1) ls ≡ true
all_kept [] none = refl
all_kept ((w, true) ∷ ls) none = all_kept ls none
all_kept ((w, false) ∷ ls) none = absurd (cc)

within : (x : DeclKind) (m : CoreParts) → passed x m ≡ None → Within m
within x m none =
    let a = and_parts _ _ (all_kept (limits x m) none) in
    let b = and_parts _ _ a.1 in
    let c = and_parts _ _ b.1 in
    let d = and_parts _ _ c.1 in
    let e = and_parts _ _ d.1 in
    let values = and_parts _ _ c.0 in
    let few = and_parts _ _ d.0 in
    let outs = and_parts _ _ e.0 in
    record { arrays = a.0; array_params = b.0; event_params = values.0; fun_params = values.1; funs = few.0; handlers = few.1; outs = outs.0; handler_outs = outs.1 }

made_within : {number : ℕ} {m k : Definitions} {xs : List Decl} → Makes number m xs k → Within (parts_of m) → Within (parts_of k)
made_within (made.done number m) kept = kept
made_within (made.one_more number m l k x xs of none rest) kept = made_within rest (within x.kind (parts_of l) none)

typed_within : (tree : Tree) (m : CoreParts) → IsTyped tree m → Within m
typed_within tree m typed =
    subst Within typed.2 (made_within typed.1 (record { arrays = refl; array_params = refl; event_params = refl; fun_params = refl; funs = refl; handlers = refl; outs = refl; handler_outs = refl }))

-- ---- tests in turn

-- The first that fails, of all six.
abbrev first_of : Bool → Bool → Bool → Bool → Bool → Bool → Option What
first_of a b c d e f =
    first_passed ((what.Arrays, a) ∷ (what.ArrayParameters, b) ∷ (what.ValueParameters, c) ∷ (what.Arguments, d) ∷ (what.Outs, e) ∷ (what.Cases, f) ∷ [])

alike : (a b c d e f g h i j k l : Bool) → a ≡ g → b ≡ h → c ≡ i → d ≡ j → e ≡ k → f ≡ l → first_of a b c d e f ≡ first_of g h i j k l
alike a b c d e f g h i j k l p q r s t u =
    ap₂ (λ (x y : Bool). first_of x y c d e f) p q ∙ ap₂ (λ (x y : Bool). first_of g h x y e f) r s ∙ ap₂ (λ (x y : Bool). first_of g h i j x y) t u

second : (a b c : Bool) → a ≡ true → b ≡ c → (a && b) ≡ c
second a b c is same = ap (λ (t : Bool). t && b) is ∙ same

first : (a b c : Bool) → a ≡ c → b ≡ true → (a && b) ≡ c
first a b c same is = ap₂ (λ (t u : Bool). t && u) same is ∙ whole c
  where
    whole : (t : Bool) → (t && true) ≡ t
    whole true = refl
    whole false = refl

-- Behind those that pass, the last decides.
last : {A : Type 0} (test : A → Bool) (xs : List A) (x : A) → list_all test xs ≡ true → list_all test (xs ++ x ∷ []) ≡ test x
last test xs x all = list_all-append test xs (x ∷ []) ∙ second (list_all test xs) (test x && true) (test x) all (first (test x) true (test x) refl refl)

no_cases : (x : DeclKind) → body_of x ≡ [] → list_all cases_are_few (body_of x) ≡ true
no_cases x none = ap (list_all cases_are_few) none

-- ---- the outs of functions

length-funs_outs : (counted : List ℕ) (fs : List FunDef) → length (funs_outs counted fs) ≡ length counted + length fs
length-funs_outs counted [] = omega arith
length-funs_outs counted (f ∷ fs) =
    let rest = length-funs_outs (counted ++ body_outs f.body counted ∷ []) fs in
    let one = length-append counted (body_outs f.body counted ∷ []) in
    omega arith

-- ---- the law

module _ (m : CoreParts) (lim : Within m) (there : list_all (λ (h : HandlerDef). each (map stmt_names h.body) (handler_scope m h)) m.handlers ≡ true) where
  no_part : (x : DeclKind) → body_of x ≡ [] → passed x m ≡ None
  no_part x none = alike _ _ _ _ _ _ true true true true true true lim.arrays lim.array_params (and_from _ _ lim.event_params lim.fun_params) (and_from _ _ lim.funs lim.handlers)
      (and_from _ _ lim.outs lim.handler_outs) (no_cases x none)

  one_array : (x : DeclKind) (a : ArrayDef) → body_of x ≡ [] → passed x (record m { arrays = m.arrays ++ a ∷ [] }) ≡ array_passes (length m.arrays + 1)
  one_array x a none =
      alike _ _ _ _ _ _ (nat_le (length m.arrays + 1) 64) true true true true true (ap (λ (n : ℕ). nat_le n 64) (length-append m.arrays (a ∷ []))) lim.array_params
      (and_from _ _ lim.event_params lim.fun_params) (and_from _ _ lim.funs lim.handlers) (and_from _ _ lim.outs lim.handler_outs) (no_cases x none)

  one_event : (x : DeclKind) (e : EventDef) → body_of x ≡ [] → passed x (record m { events = m.events ++ e ∷ [] }) ≡ event_passes e
  one_event x e none =
      alike _ _ _ _ _ _ true true (nat_le (length e.params) 8) true true true lim.arrays lim.array_params
      (first _ _ _ (last (λ (d : EventDef). nat_le (length d.params) 8) m.events e lim.event_params) lim.fun_params) (and_from _ _ lim.funs lim.handlers)
      (and_from _ _ lim.outs lim.handler_outs) (no_cases x none)

  -- An event that has a handler has its parameters still.
  events_stay : (i : ℕ) (e : EventDef) (number : Option ℕ) → slice_get m.events i ≡ Some e →
      list_all (λ (d : EventDef). nat_le (length d.params) 8) (slice_set m.events i (record e { handler = number })) ≡ true
  events_stay i e number is =
      sym (list_all-map (λ (ws : List ℕ). nat_le (length ws) 8) (λ (d : EventDef). d.params) (slice_set m.events i (record e { handler = number })))
      ∙ ap (list_all (λ (ws : List ℕ). nat_le (length ws) 8)) (map-set (λ (d : EventDef). d.params) m.events i e (record e { handler = number }) is refl)
      ∙ list_all-map (λ (ws : List ℕ). nat_le (length ws) 8) (λ (d : EventDef). d.params) m.events ∙ lim.event_params

  one_handler : (x : DeclKind) (h : HandlerDef) (i : ℕ) (e : EventDef) (number : Option ℕ) → slice_get m.events i ≡ Some e →
      passed x (record m { events = slice_set m.events i (record e { handler = number }); handlers = m.handlers ++ h ∷ [] }) ≡ handler_passes (funs_outs [] m.funs) h (body_of x)
  one_handler x h i e number is =
      alike _ _ _ _ _ _ true true true (arguments_are_few h.body) (nat_le (body_outs h.body (funs_outs [] m.funs)) 8) (list_all cases_are_few (body_of x)) lim.arrays lim.array_params
      (and_from _ _ (events_stay i e number is) lim.fun_params) (second _ _ _ lim.funs (last (λ (g : HandlerDef). arguments_are_few g.body) m.handlers h lim.handlers))
      (second _ _ _ lim.outs (last (λ (g : HandlerDef). nat_le (body_outs g.body (funs_outs [] m.funs)) 8) m.handlers h lim.handler_outs)) refl

  abbrev handlers_few : List ℕ → Bool
  handlers_few counts = list_all (λ (h : HandlerDef). nat_le (body_outs h.body counts) 8) m.handlers

  outs_of_one : (f : FunDef) → outs_are_few (record m { funs = m.funs ++ f ∷ [] }) ≡ nat_le (body_outs f.body (funs_outs [] m.funs)) 8
  outs_of_one f =
      let counts = funs_outs [] m.funs in
      let more = body_outs f.body counts ∷ [] in
      ap (λ (cs : List ℕ). list_all (λ (n : ℕ). nat_le n 8) cs && handlers_few cs) (funs_outs-last [] m.funs f)
      ∙ first _ _ _ (last (λ (n : ℕ). nat_le n 8) counts (body_outs f.body counts) lim.outs) (handlers_stay m counts more (sym (length-funs_outs [] m.funs ∙ long)) m.handlers there lim.handler_outs)
    where
      long : 0 + length m.funs ≡ length m.funs
      long = omega arith

  one_fun : (x : DeclKind) (f : FunDef) → passed x (record m { funs = m.funs ++ f ∷ [] }) ≡ fun_passes (funs_outs [] m.funs) f (body_of x)
  one_fun x f =
      alike _ _ _ _ _ _ true (nat_le (length f.arrays) 8) (nat_le f.params 8) (arguments_are_few f.body) (nat_le (body_outs f.body (funs_outs [] m.funs)) 8) (list_all cases_are_few (body_of x))
      lim.arrays (last (λ (g : FunDef). nat_le (length g.arrays) 8) m.funs f lim.array_params)
      (second _ _ _ lim.event_params (last (λ (g : FunDef). nat_le g.params 8) m.funs f lim.fun_params))
      (first _ _ _ (last (λ (g : FunDef). arguments_are_few g.body) m.funs f lim.funs) lim.handlers) (outs_of_one f) refl

  new_alone : NewAlone m
  new_alone = record { nothing = no_part; array = one_array; event = one_event; handler = one_handler; fun = one_fun }

calls_are_there : (m : CoreParts) → IsValid m → list_all (λ (h : HandlerDef). each (map stmt_names h.body) (handler_scope m h)) m.handlers ≡ true
calls_are_there m valid = (and_parts _ _ (and_parts _ _ valid.sound.names).0).1

pub only_the_new : OnlyTheNew
only_the_new tree m typed = new_alone m (typed_within tree m typed) (calls_are_there m (typed_is_valid tree m typed))
