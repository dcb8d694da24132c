-- A body is derived where the numbering rises along each of its paths, and so a cycle leaves no derivation.
use Rattle.std.proofs.Common.{◌≡◌, ℕ, ◌+◌, ◌<◌, ◌≤◌, List, [], ◌∷◌, ◌++◌, subst, ◌∙◌, arith, slice_index_or, inl, inr}
use Rattle.std.specs.Prelude.{All}
use Rattle.std.proofs.lemmas.List.Elements.{All-contains}
use Rattle.lucid_base.specs.declared.array.ArrayName.{ArrayName}
use Rattle.lucid_base.specs.declared.array.ArrayName.TheVariants.{Global, Param}
use Rattle.lucid_core.specs.declared.body.Stmt.{Stmt}
use Rattle.lucid_core.specs.declared.defs.FunDef.{FunDef}
use Rattle.lucid_effects_spec.specs.Cycle.{CallsThen, NeededBefore}
use Rattle.lucid_effects_spec.specs.Ends.{Derives, Numbering}
use Rattle.lucid_effects_spec.specs.Laws.{CyclesRefuse, EndsAreGreatest, PathsDecide, RisesAlong, path_end}
use Rattle.lucid_constraints.specs.Cycle.{Earlier, Leads, Rises}
use Rattle.lucid_effects_spec.specs.Paths.{Path, paths}
use Rattle.lucid_effects_spec.proofs.Matching.{body_matches, climbs_rise, rises_next}
use Rattle.lucid_constraints.specs.Circle.{Member}
use Rattle.lucid_effects_spec.proofs.Members.{contains, in_at}

derived_rises : (funs : List FunDef) (body : List Stmt) (N : Numbering) (c end : ℕ) → Derives funs N c body end → (p : Path) → Member p (paths funs body) → RisesAlong N c p × (path_end N c p ≤ end)
derived_rises funs body N c end is p h = climbs_rise N c p end ((body_matches funs body N).climbs c end is p h)

pub paths_decide : PathsDecide
paths_decide funs body N c = (λ found k d l. (derived_rises funs body N c found.0 found.1 (slice_index_or (paths funs body) k d) (in_at (paths funs body) k d l)).0, back)
  where
    back : All (RisesAlong N c) (paths funs body) → (end : ℕ) × Derives funs N c body end
    back all = let found = (body_matches funs body N).ends c (λ p h. All-contains (RisesAlong N c) (paths funs body) p all (contains p (paths funs body) h)) in (found.0, found.1)

pub ends_are_greatest : EndsAreGreatest
ends_are_greatest funs body N c end is =
    let found = (body_matches funs body N).ends c (λ p h. (derived_rises funs body N c end is p h).0) in
    let same : found.0 ≡ end = let e = found.1 in cc in
    let place = contains found.2 (paths funs body) found.3 in
    ((λ k d l. (derived_rises funs body N c end is (slice_index_or (paths funs body) k d) (in_at (paths funs body) k d l)).1), (place.0, found.2, place.1, place.2, found.4 ∙ same))

-- ---- cycles

reaches : (N : Numbering) (c : ℕ) (between : Path) (y : ArrayName) (after : Path) → RisesAlong N c (between ++ y ∷ after) → c ≤ N y
reaches N c [] y after h = h.0
reaches N c (z ∷ between) y after h = let first = h.0 in let later = reaches N (N z + 1) between y after h.1 in omega arith

called_before : (N : Numbering) (c : ℕ) (x y : ArrayName) (p : Path) → CallsThen x y p → RisesAlong N c p → N x < N y
called_before N c x y p calls h =
    let split = subst (RisesAlong N c) calls.is h in
    let from = rises_next N c calls.before (x ∷ (calls.between ++ y ∷ calls.after)) split in
    let behind = reaches N (N x + 1) calls.between y calls.after from.1 in
    omega arith

declared_before : (arrays : ℕ) (N : Numbering) → Rises arrays N → (x y : ArrayName) → Earlier arrays x y → N x < N y
declared_before arrays N rises (Global a) (Global b) h = rises a b h.0 h.1
declared_before arrays N rises (Global a) (Param b) h = absurd h
declared_before arrays N rises (Param a) (Global b) h = absurd h
declared_before arrays N rises (Param a) (Param b) h = absurd h

module _ (arrays : ℕ) (ps : List Path) (N : Numbering) (rises : Rises arrays N) (along : All (RisesAlong N 0) ps) where
  needed_before : (x y : ArrayName) → NeededBefore arrays ps x y → N x < N y
  needed_before x y (inl some) = called_before N 0 x y some.1 some.4 (All-contains (RisesAlong N 0) ps some.1 along (some.0, some.2, some.3))
  needed_before x y (inr earlier) = declared_before arrays N rises x y earlier

  leads_up : (x : ArrayName) (xs : List ArrayName) (z : ArrayName) → Leads (NeededBefore arrays ps) (x ∷ xs) z → N x < N z
  leads_up x [] z h = needed_before x z h.0
  leads_up x (y ∷ ys) z h = let next = needed_before x y h.0 in let rest = leads_up y ys z h.1 in omega arith

pub cycles_refuse : CyclesRefuse
cycles_refuse arrays funs body first others cycle order =
    let N = order.numbering in
    let along = (paths_decide funs body N 0).0 (order.end, order.derived) in
    let up = leads_up arrays (paths funs body) N order.rises along first others first cycle.leads in
    omega arith
