-- Member an accepted program every event calls the arrays in their order, each at most once.
use Rattle.std.proofs.Common.{◌≡◌, ℕ, zero, suc, ◌+◌, ◌<◌, ◌≤◌, List, [], ◌∷◌, Option, None, Some, length, map, refl, sym, ap, subst, arith, option_and_then, slice_get, slice_index_or}
use Rattle.std.specs.Prelude.{AllPairs, Contains}
use Rattle.std.proofs.lemmas.List.Elements.{All-contains, Contains-append_right}
use Rattle.lucid_core.specs.declared.defs.EventDef.{EventDef}
use Rattle.lucid_core.specs.declared.defs.HandlerDef.{HandlerDef}
use Rattle.lucid_core.specs.Computations.{array_of, begun_with}
use Rattle.lucid_core.specs.Parts.{CoreParts}
use Rattle.lucid_core.specs.Step.{handled, started, taken_at, touches}
use Rattle.lucid_core.specs.Valid.{IsSound}
use Rattle.lucid_effects_spec.specs.Laws.{RisesAlong, TouchesFollowPaths, TouchesRise, own_numbers}
use Rattle.lucid_effects_spec.specs.Order.{Body, InOrder, IsAccepted, bodies, fun_bodies}
use Rattle.lucid_effects_spec.specs.Paths.{Path, paths}
use Rattle.lucid_effects_spec.proofs.Cycles.{paths_decide}
use Rattle.lucid_constraints.specs.Circle.{Member}
use Rattle.lucid_effects_spec.proofs.Members.{contains, of_map}
use Rattle.lucid_effects_spec.proofs.OwnNumbers.{by_own_numbers}
use Rattle.lucid_effects_spec.proofs.Touched.{runs_along}

-- A path that rises from a place is after it, and rises itself.
none_before : (c : ℕ) (p : Path) → RisesAlong own_numbers c p → (j e : ℕ) → j < length (map own_numbers p) → c ≤ slice_index_or (map own_numbers p) j e
none_before c [] h j e k = absurd (omega arith)
none_before c (x ∷ p) h zero e k = h.0
none_before c (x ∷ p) h (suc j) e k = let rest = none_before (own_numbers x + 1) p h.1 j e (omega arith) in let first = h.0 in omega arith

path_rises : (c : ℕ) (p : Path) → RisesAlong own_numbers c p → AllPairs (λ a b. a < b) (map own_numbers p)
path_rises c [] h i j e k l = absurd (omega arith)
path_rises c (x ∷ p) h zero zero e k l = absurd (omega arith)
path_rises c (x ∷ p) h zero (suc j) e k l = let rest = none_before (own_numbers x + 1) p h.1 j e (omega arith) in omega arith
path_rises c (x ∷ p) h (suc i) zero e k l = absurd (omega arith)
path_rises c (x ∷ p) h (suc i) (suc j) e k l = path_rises (own_numbers x + 1) p h.1 i j e (omega arith) (omega arith)

among : {A B : Type 0} (f : A → B) (xs : List A) (k : ℕ) (x : A) → slice_get xs k ≡ Some x → Contains (map f xs) (f x)
among f [] k x is = absurd (cc)
among f (y ∷ ys) zero x is = let e : y ≡ x = cc in (0, omega arith, ap f e)
among f (y ∷ ys) (suc k) x is = let rest = among f ys k x is in let within = rest.1 in (suc rest.0, omega arith, rest.2)

-- Of an accepted program each handler is in order.
pub handler_in_order : (parts : CoreParts) → IsAccepted parts → (k : ℕ) (h : HandlerDef) → slice_get parts.handlers k ≡ Some h → InOrder (length parts.arrays) parts.funs h.body
handler_in_order parts accepted k h is =
    let body : HandlerDef → Body = λ g. record { decl = g.decl; funs = parts.funs; body = g.body } in
    All-contains (λ b. InOrder (length parts.arrays) b.funs b.body) (bodies parts) (body h) accepted
    (Contains-append_right (fun_bodies [] parts.funs) (map body parts.handlers) (body h) (among body parts.handlers k h is))

-- A handler that is run calls one of its paths.
handler_along : (parts : CoreParts) (h : HandlerDef) (cells : List (List ℕ)) (now me : ℕ) (args : List ℕ) → Member (handled (Some h) parts cells now me args).calls (map (map (array_of [])) (paths parts.funs h.body))
handler_along parts h cells now me args = runs_along now me [] parts.funs h.body (started cells (begun_with (taken_at h.locals args) h.locals))

pub touches_follow_paths : TouchesFollowPaths
touches_follow_paths parts cells now me event h is =
    let calls = λ (o : Option HandlerDef). (handled o parts cells now me event.args).calls in
    let along = map (map (array_of [])) (paths parts.funs h.body) in
    contains (touches parts cells now me event) along (subst (λ (o : Option HandlerDef). Member (calls o) along) (sym is) (handler_along parts h cells now me event.args))

handler_rises : (parts : CoreParts) → IsSound parts → (k : ℕ) (h : HandlerDef) → slice_get parts.handlers k ≡ Some h → InOrder (length parts.arrays) parts.funs h.body →
    (cells : List (List ℕ)) (now me : ℕ) (args : List ℕ) → AllPairs (λ a b. a < b) (handled (Some h) parts cells now me args).calls
handler_rises parts sound k h is order cells now me args =
    let ps = paths parts.funs h.body in
    let rises = (paths_decide parts.funs h.body own_numbers 0).0 (by_own_numbers parts sound.names k h is order) in
    let path = of_map (map (array_of [])) (handled (Some h) parts cells now me args).calls ps (handler_along parts h cells now me args) in
    subst (λ (xs : List ℕ). AllPairs (λ a b. a < b) xs) path.2 (path_rises 0 path.0 (All-contains (RisesAlong own_numbers 0) ps path.0 rises (contains path.0 ps path.1)))

pub touches_rise : (parts : CoreParts) → IsSound parts → IsAccepted parts → TouchesRise parts
touches_rise parts sound accepted cells now me event = at (option_and_then (λ (e : EventDef). e.handler) (slice_get parts.events event.id))
  where
    none : AllPairs (λ a b. a < b) []
    none i j e k l = absurd (omega arith)

    found : (k : ℕ) (o : Option HandlerDef) → slice_get parts.handlers k ≡ o → AllPairs (λ a b. a < b) (handled o parts cells now me event.args).calls
    found k None is = none
    found k (Some h) is = handler_rises parts sound k h is (handler_in_order parts accepted k h is) cells now me event.args

    at : (o : Option ℕ) → AllPairs (λ a b. a < b) (handled (option_and_then (slice_get parts.handlers) o) parts cells now me event.args).calls
    at None = none
    at (Some k) = found k (slice_get parts.handlers k) refl
