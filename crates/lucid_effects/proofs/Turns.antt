-- One more turn of a loop over functions, or over handlers.
use Rattle.std.proofs.Common.{◌≡◌, ℕ, zero, suc, ◌+◌, List, [], ◌∷◌, ◌++◌, Option, Some, take, slice_get, sym, ap, ap₂, subst, ◌∙◌, arith, append-nil, append_assoc}
use Rattle.std.proofs.lemmas.List.{map-append}
use Rattle.lucid_core.specs.declared.body.Stmt.{Stmt}
use Rattle.lucid_core.specs.declared.defs.FunDef.{FunDef}
use Rattle.lucid_core.specs.declared.defs.HandlerDef.{HandlerDef}
use Rattle.lucid_core.proofs.Grown.{grown}
use Rattle.lucid_effects_spec.specs.Order.{Body, fun_bodies, handler_bodies}
use Rattle.lucid_effects.specs.declared.first.Refused.{Refused}
use Rattle.lucid_effects_spec.specs.declared.scheme.Scheme.{Scheme}
use Rattle.lucid_effects.specs.First.{IsFirst, Judges}
use Rattle.lucid_effects_spec.specs.Schemes.{handler_schemes, scheme_of, schemes_of}

take_more : {A : Type 0} (xs : List A) (i : ℕ) (x : A) → slice_get xs i ≡ Some x → take (suc i) xs ≡ take i xs ++ x ∷ []
take_more [] i x is = absurd (cc)
take_more (y ∷ xs) zero x is = let e : y ≡ x = cc in ap (λ z. z ∷ []) e
take_more (y ∷ xs) (suc i) x is = ap (λ zs. y ∷ zs) (take_more xs i x is)

-- Functions, each behind those before it.
bodies_more : (before fs : List FunDef) (i : ℕ) (f : FunDef) → slice_get fs i ≡ Some f → fun_bodies before (take (suc i) fs) ≡ fun_bodies before (take i fs) ++ record { decl = f.decl; funs = before ++ take i fs; body = f.body } ∷ []
bodies_more before [] i f is = absurd (cc)
bodies_more before (g ∷ fs) zero f is = ap₂ (λ (b : List FunDef) (x : FunDef). the b x ∷ []) (sym (append-nil before)) (let e : g ≡ f = cc in e)
  where
    the : List FunDef → FunDef → Body
    the b x = record { decl = x.decl; funs = b; body = x.body }
bodies_more before (g ∷ fs) (suc i) f is =
    ap (λ (bs : List Body). the before g ∷ bs) (bodies_more (before ++ g ∷ []) fs i f is ∙ ap (λ (b : List FunDef). fun_bodies (before ++ g ∷ []) (take i fs) ++ the b f ∷ []) (append_assoc before (g ∷ []) (take i fs)))
  where
    the : List FunDef → FunDef → Body
    the b x = record { decl = x.decl; funs = b; body = x.body }

pub judges_same : (n : ℕ) (ss rs : List Scheme) (decl : ℕ) (body stmts : List Stmt) (first next : Option Refused) → rs ≡ ss → stmts ≡ body → Judges n rs decl stmts first next → Judges n ss decl body first next
judges_same n ss rs decl body stmts first next same is h = subst (λ (xs : List Scheme). Judges n xs decl body first next) same (subst (λ (b : List Stmt). Judges n rs decl b first next) is h)

module _ (n i : ℕ) (ss more : List Scheme) (found : Scheme) (first next : Option Refused) (pushed : more ≡ ss ++ found ∷ []) where
  pub fun_turn : (funs : List FunDef) (f : FunDef) → slice_get funs i ≡ Some f → found ≡ scheme_of ss f.body → Judges n ss f.decl f.body first next →
      ss ≡ schemes_of (take i funs) → IsFirst n (fun_bodies [] (take i funs)) first → (more ≡ schemes_of (take (i + 1) funs)) × IsFirst n (fun_bodies [] (take (i + 1) funs)) next
  fun_turn funs f is found_is judges known order =
      let before = take i funs in
      let one : suc i ≡ i + 1 = omega arith in
      let both : ss ++ found ∷ [] ≡ schemes_of before ++ scheme_of (schemes_of before) f.body ∷ [] = ap₂ (λ (xs : List Scheme) (s : Scheme). xs ++ s ∷ []) known (found_is ∙ ap (λ (xs : List Scheme). scheme_of xs f.body) known) in (
        pushed ∙ both ∙ sym (grown (λ (fs : List Scheme) (g : FunDef). scheme_of fs g.body) [] funs i f is) ∙ ap (λ k. schemes_of (take k funs)) one,
        subst (λ (k : ℕ). IsFirst n (fun_bodies [] (take k funs)) next) one
            (subst (λ (bs : List Body). IsFirst n bs next) (sym (bodies_more [] funs i f is)) (judges before known (fun_bodies [] before) order)),
      )

  pub handler_turn : (fs front : List Scheme) (handlers : List HandlerDef) (h : HandlerDef) → slice_get handlers i ≡ Some h → front ≡ fs → found ≡ scheme_of front h.body → Judges n front h.decl h.body first next →
      (start : Option Refused) → ss ≡ fs ++ handler_schemes fs (take i handlers) →
      ((funs : List FunDef) → fs ≡ schemes_of funs → (bs : List Body) → IsFirst n bs start → IsFirst n (bs ++ handler_bodies funs (take i handlers)) first) →
      (more ≡ fs ++ handler_schemes fs (take (i + 1) handlers))
      × ((funs : List FunDef) → fs ≡ schemes_of funs → (bs : List Body) → IsFirst n bs start → IsFirst n (bs ++ handler_bodies funs (take (i + 1) handlers)) next)
  handler_turn fs front handlers h is front_is found_is judges start known order = (schemes, firsts)
    where
      one : suc i ≡ i + 1
      one = omega arith

      next_is : take (i + 1) handlers ≡ take i handlers ++ h ∷ []
      next_is = ap (λ k. take k handlers) (sym one) ∙ take_more handlers i h is

      schemes : more ≡ fs ++ handler_schemes fs (take (i + 1) handlers)
      schemes =
          let last : found ≡ scheme_of fs h.body = found_is ∙ ap (λ (xs : List Scheme). scheme_of xs h.body) front_is in
          let grows : handler_schemes fs (take (i + 1) handlers) ≡ handler_schemes fs (take i handlers) ++ scheme_of fs h.body ∷ [] =
          ap (λ (hs : List HandlerDef). handler_schemes fs hs) next_is ∙ map-append (λ (x : HandlerDef). scheme_of fs x.body) (take i handlers) (h ∷ []) in
          pushed ∙ ap₂ (λ (xs : List Scheme) (s : Scheme). xs ++ s ∷ []) known last ∙ append_assoc fs (handler_schemes fs (take i handlers)) (scheme_of fs h.body ∷ []) ∙ ap (λ (xs : List Scheme). fs ++ xs) (sym grows)

      firsts : (funs : List FunDef) → fs ≡ schemes_of funs → (bs : List Body) → IsFirst n bs start → IsFirst n (bs ++ handler_bodies funs (take (i + 1) handlers)) next
      firsts funs known bs before =
          let b : Body = record { decl = h.decl; funs = funs; body = h.body } in
          let done = judges funs (front_is ∙ known) (bs ++ handler_bodies funs (take i handlers)) (order funs known bs before) in
          let grows : handler_bodies funs (take (i + 1) handlers) ≡ handler_bodies funs (take i handlers) ++ b ∷ [] =
          ap (λ (hs : List HandlerDef). handler_bodies funs hs) next_is ∙ map-append (λ (x : HandlerDef). the funs x) (take i handlers) (h ∷ []) in
          subst (λ (xs : List Body). IsFirst n xs next) (append_assoc bs (handler_bodies funs (take i handlers)) (b ∷ []) ∙ ap (λ (xs : List Body). bs ++ xs) (sym grows)) done
        where
          the : List FunDef → HandlerDef → Body
          the fs x = record { decl = x.decl; funs = fs; body = x.body }
