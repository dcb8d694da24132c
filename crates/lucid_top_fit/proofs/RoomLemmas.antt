-- First fit refuses a node of an accepted program only where a limit is exceeded.
use Rattle.std.proofs.Common.{◌≡◌, ℕ, ◌<◌, ◌^◌, List, [], Result, Ok, Err, map, sym, subst}
use Rattle.std.proofs.lemmas.List.Elements.{All-map}
use Rattle.std.specs.Prelude.{All, IsTrue}
use Rattle.lucid_code.proofs.Following.{nodes_follow}
use Rattle.lucid_code.specs.Nodes.{nodes_follow_writes}
use Rattle.lucid_code.specs.Valid.{IsValid}
use Rattle.lucid_conf.specs.declared.limits.Limits.{Limits}
use Rattle.lucid_core.specs.declared.defs.HandlerDef.{HandlerDef}
use Rattle.lucid_core.specs.Parts.{CoreParts}
use Rattle.lucid_core.specs.Valid.{IsValidFlat}
use Rattle.lucid_effects_spec.specs.Order.{IsAccepted}
use Rattle.lucid_inline.proofs.Accepted.{flat_is_accepted}
use Rattle.lucid_inline_spec.proofs.SameOrder as order
use Rattle.lucid_inline_spec.proofs.Valid as flat
use Rattle.lucid_inline_spec.specs.Flat.{flat_handler, flat_of}
use Rattle.lucid_inline_spec.specs.Laws.{KeepsOrder}
use Rattle.lucid_layout.specs.declared.error.FitError.TheVariants as cause
use Rattle.lucid_layout.specs.Fit.{NoRoom}
use Rattle.lucid_layout_laws.specs.Laws.{StuckForRoom}
use Rattle.lucid_layout.specs.Layout.{IsRefused}
use Rattle.lucid_stages.specs.NodeWorks.{works}
use Rattle.lucid_normal_laws.proofs.Ordered.{accepted_together, all_followed}
use Rattle.lucid_normal_laws.proofs.Valid.{valid_code}
use Rattle.lucid_pass.specs.Through.{ListsKeepNodes}
use Rattle.lucid_tables.specs.Placed.{PlacedParts}
use Rattle.lucid_top_fit.specs.Fit.{Composed, Fit, IsComposed, IsPlaced, composed, fit_of, normal_of}
use Rattle.lucid_top_fit.specs.Passes.{KeepNodes, PassView}
use Rattle.lucid_top_words.specs.declared.no_fit.NoFit.TheVariants as fit
use Rattle.lucid_top_words.specs.declared.refusal.Refusal.{Refusal}
use Rattle.lucid_top_words.specs.declared.refusal.Refusal.TheVariants as refusal
use Rattle.lucid_top_words.specs.Outcome.{After, FollowedBy}
use Rattle.lucid_top_fit.specs.Room.{ProgramsLackRoom, RefusedForRoom}

same_cause : (r s : Refusal) → ◌≡◌ {A = Result Fit Refusal} (Err r) (Err s) → r ≡ s
same_cause r s same = cc

no_fit : (x : Fit) (r : Refusal) → ◌≡◌ {A = Result Fit Refusal} (Err r) (Ok x) → ⊥
no_fit x r same = cc

-- the normal form of an accepted program is valid
pub normal_is_valid : (core : CoreParts) → KeepsOrder core → IsValidFlat (flat_of core) → All (λ (h : HandlerDef). h.event < 2 ^ 32) core.handlers → IsAccepted core → IsValid (normal_of core)
normal_is_valid core order valid small accepted =
    valid_code (flat_of core) valid (flat_is_accepted core order accepted) (All-map (λ (h : HandlerDef). h.event < 2 ^ 32) (flat_handler core.funs) core.handlers small)

-- the normal form of an accepted program has each node after its reads
pub normal_follows : (core : CoreParts) → KeepsOrder core → IsValidFlat (flat_of core) → IsAccepted core → IsTrue (nodes_follow_writes (normal_of core).ops)
normal_follows core order valid accepted =
    nodes_follow (normal_of core).ops (all_followed (flat_of core) (accepted_together (flat_of core) valid (flat_is_accepted core order accepted)))

module _ (core : CoreParts) (stuck : StuckForRoom) (lists : ListsKeepNodes) (valid : IsValid (normal_of core)) (follows : IsTrue (nodes_follow_writes (normal_of core).ops)) where
  module _ (limits : Limits) (passes : List PassView) (keep : KeepNodes (map PassView.gives passes)) (i : ℕ) where
    abbrev Stuck : Type 0
    Stuck = let code = (composed core passes).code in NoRoom code.ops limits [] (works code.ops) i

    of_code : IsRefused (composed core passes).code limits (cause.Node i) → Stuck
    of_code refused = stuck (composed core passes).code limits i (lists (map PassView.gives passes) keep (normal_of core) valid follows) refused.1

    of_places : (made : Composed) → made ≡ composed core passes → (end : Result PlacedParts Refusal) → IsPlaced core limits made.code end →
        After end (λ placed p. p ≡ Ok (fit_of made.gone placed)) (Err (refusal.NoFit (fit.Node i))) → Stuck
    of_places made same (Ok placed) places after = absurd (no_fit (fit_of made.gone placed) (refusal.NoFit (fit.Node i)) after)
    of_places made same (Err r) places after =
        let refused : IsRefused made.code limits (cause.Node i) =
        subst (λ (s : Refusal). IsPlaced core limits made.code (Err s)) (sym (same_cause (refusal.NoFit (fit.Node i)) r after)) places in
        of_code (subst (λ (m : Composed). IsRefused m.code limits (cause.Node i)) same refused)

    of_composed : (end : Result Composed Refusal) → IsComposed core passes end →
        After end (λ made. FollowedBy (IsPlaced core limits made.code) (λ placed p. p ≡ Ok (fit_of made.gone placed))) (Err (refusal.NoFit (fit.Node i))) → Stuck
    of_composed (Ok made) is after = of_places made is.1 after.0 after.1 after.2
    of_composed (Err r) is after =
        let never : IsComposed core passes (Err (refusal.NoFit (fit.Node i))) =
        subst (λ (s : Refusal). IsComposed core passes (Err s)) (sym (same_cause (refusal.NoFit (fit.Node i)) r after)) is in
        absurd never

  pub for_room : RefusedForRoom core
  for_room limits passes keep i fitted = of_composed limits passes keep i fitted.0 fitted.1 fitted.2

pub programs_lack_room : StuckForRoom → ListsKeepNodes → ProgramsLackRoom
programs_lack_room stuck lists core valid accepted small =
    let keeps = order.handlers_keep_order core valid in
    let flat_valid = flat.flat_valid core valid in
    for_room core stuck lists (normal_is_valid core keeps flat_valid small accepted) (normal_follows core keeps flat_valid accepted)
