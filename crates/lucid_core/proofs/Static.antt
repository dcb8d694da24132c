-- The widths that the rules give are those of the values.
use Rattle.std.proofs.Common.{◌≡◌, ℕ, zero, suc, List, [], ◌∷◌, ◌++◌, Bool, true, false, None, Some, take, refl, subst, sym, append-nil, append_assoc, slice_get}
use Rattle.std.specs.List.{list_all}
use Rattle.std.proofs.lemmas.Bool.{and_from, and_parts}
use Rattle.lucid_core.specs.declared.defs.FunDef.{FunDef}
use Rattle.lucid_core.specs.declared.defs.HandlerDef.{HandlerDef}
use Rattle.lucid_core.specs.Computations.{Frame, State}
use Rattle.lucid_core.specs.Laws.{AnswersItsWidth, GivesItsWidth, WidthsAreStatic}
use Rattle.lucid_core.specs.Meaning.{fun_of, funs_of}
use Rattle.lucid_core.specs.Parts.{CoreParts}
use Rattle.lucid_core.specs.Scope.{Scope, fun_scope, funs_pass, handler_scope}
use Rattle.lucid_core.specs.Typing.{Answer}
use Rattle.lucid_core.specs.Valid.{IsSound}
use Rattle.lucid_core.proofs.BodiesFit.{EventsAreSmall, IsSoundFun, expr_holds, fun_fits, funs_fit}
use Rattle.lucid_core.proofs.Fine.{Asked, FunFits, Has, IsFine, Stands}
use Rattle.lucid_core.proofs.Pairwise.{Pairwise}
use Rattle.lucid_core.proofs.WidthLists.{passes_at, widths}

-- Nothing is asked but widths.
abbrev nothing_asked : Asked
nothing_asked = record { outs = false; cells = false }

not_asked : {P : Type 0} → false ≡ true → P
not_asked h = absurd (cc)

-- A function that is there passes, behind those before it; and so do the first functions.
pub funs_pass-at : (test : List FunDef → FunDef → Bool) (before fs : List FunDef) (k : ℕ) (f : FunDef) → funs_pass test before fs ≡ true → slice_get fs k ≡ Some f → test (before ++ take k fs) f ≡ true
funs_pass-at test before [] k f all is = absurd (cc)
funs_pass-at test before (g ∷ fs) zero f all is =
    let e : g ≡ f = cc in
    subst (λ (bs : List FunDef). test bs f ≡ true) (sym (append-nil before)) (subst (λ (x : FunDef). test before x ≡ true) e (and_parts _ _ all).0)
funs_pass-at test before (g ∷ fs) (suc k) f all is =
    subst (λ (bs : List FunDef). test bs f ≡ true) (append_assoc before (g ∷ []) (take k fs)) (funs_pass-at test (before ++ g ∷ []) fs k f (and_parts _ _ all).1 is)

funs_pass-take : (test : List FunDef → FunDef → Bool) (before fs : List FunDef) (k : ℕ) → funs_pass test before fs ≡ true → funs_pass test before (take k fs) ≡ true
funs_pass-take test before [] zero all = refl
funs_pass-take test before [] (suc k) all = refl
funs_pass-take test before (g ∷ fs) zero all = refl
funs_pass-take test before (g ∷ fs) (suc k) all = let each = and_parts _ _ all in and_from _ _ each.0 (funs_pass-take test (before ++ g ∷ []) fs k each.1)

passes-take : {A : Type 0} (test : A → Bool) (xs : List A) (k : ℕ) → list_all test xs ≡ true → list_all test (take k xs) ≡ true
passes-take test [] zero all = refl
passes-take test [] (suc k) all = refl
passes-take test (x ∷ xs) zero all = refl
passes-take test (x ∷ xs) (suc k) all = let each = and_parts _ _ all in and_from _ _ each.0 (passes-take test xs k each.1)

module _ (parts : CoreParts) (sound : IsSound parts) (now me : ℕ) where
  few : EventsAreSmall parts
  few = (and_parts _ _ (and_parts _ _ sound.declarations).0).1

  -- The first functions give values of the widths that they answer.
  pairs : (k : ℕ) → Pairwise (FunFits nothing_asked parts) (take k parts.funs) (funs_of now me (take k parts.funs))
  pairs k = funs_fit nothing_asked parts few now me [] [] (take k parts.funs) tt
      (funs_pass-take _ [] parts.funs k (and_parts _ _ sound.widths).0)
      (passes-take _ parts.funs k (and_parts _ _ sound.texts).0)
      (passes-take _ parts.funs k (and_parts _ _ sound.bodies).0)
      (passes-take _ parts.funs k (and_parts _ _ sound.returns).0)

  all_pairs : Pairwise (FunFits nothing_asked parts) parts.funs (funs_of now me parts.funs)
  all_pairs = funs_fit nothing_asked parts few now me [] [] parts.funs tt (and_parts _ _ sound.widths).0 (and_parts _ _ sound.texts).0 (and_parts _ _ sound.bodies).0 (and_parts _ _ sound.returns).0

  -- Any state is fine where its locals have their widths.
  fine : (ws : List ℕ) (s : State) → widths s.locals ≡ ws → IsFine nothing_asked parts ws None s
  fine ws s h = record { locals = h; answer = tt; outs = λ is. not_asked is; cells = λ is. not_asked is }

  gives : (scope : Scope) (p : Frame) → Stands nothing_asked parts scope p → GivesItsWidth scope p
  gives scope p stands e w s typed last locals = (expr_holds nothing_asked parts scope p stands e (λ is. not_asked is) last (Some w) typed None s (fine scope.locals s locals)).gives

  in_handler : (h : HandlerDef) → GivesItsWidth (handler_scope parts h) (record { now = now; me = me; arrays = []; funs = funs_of now me parts.funs })
  in_handler h = gives (handler_scope parts h) (record { now = now; me = me; arrays = []; funs = funs_of now me parts.funs })
      (record { events = refl; few = few; funs = all_pairs; arrays = refl; params = λ is. not_asked is })

  in_fun : (k : ℕ) (f : FunDef) (arrays : List ℕ) → GivesItsWidth (fun_scope parts (take k parts.funs) f) (record { now = now; me = me; arrays = arrays; funs = funs_of now me (take k parts.funs) })
  in_fun k f arrays = gives (fun_scope parts (take k parts.funs) f) (record { now = now; me = me; arrays = arrays; funs = funs_of now me (take k parts.funs) })
      (record { events = refl; few = few; funs = pairs k; arrays = refl; params = λ is. not_asked is })

  answers : (k : ℕ) (f : FunDef) → slice_get parts.funs k ≡ Some f → AnswersItsWidth f (fun_of now me (funs_of now me (take k parts.funs)) f)
  answers k f there arrays vs w s width answer =
      let own : IsSoundFun parts (take k parts.funs) f = record {
        widths = funs_pass-at _ [] parts.funs k f (and_parts _ _ sound.widths).0 there;
        texts = passes_at _ parts.funs k f (and_parts _ _ sound.texts).0 there;
        limits = passes_at _ parts.funs k f (and_parts _ _ sound.bodies).0 there;
        returns = passes_at _ parts.funs k f (and_parts _ _ sound.returns).0 there;
      } in
      let ran = fun_fits nothing_asked parts few now me (take k parts.funs) (funs_of now me (take k parts.funs)) f (pairs k) own arrays vs width (λ is. not_asked is) (widths s.locals) None s (fine (widths s.locals) s refl) in
      subst (λ (a : Answer). Has a (fun_of now me (funs_of now me (take k parts.funs)) f arrays vs s).gives) answer ran.gives

pub widths_are_static : (parts : CoreParts) → IsSound parts → WidthsAreStatic parts
widths_are_static parts sound = record {
  handlers = λ h now me. in_handler parts sound now me h;
  funs = λ k f there now me arrays. in_fun parts sound now me k f arrays;
  answers = λ k f there now me. answers parts sound now me k f there;
}
