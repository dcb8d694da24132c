-- One packet through the stages does what the handler does that runs whole.
use Rattle.std.proofs.Common.{◌≡◌, ◌∙◌, ℕ, List, Result, Ok, Err, length, map, ap, sym, subst}
use Rattle.std.proofs.lemmas.List.{length-map}
use Rattle.lucid_audit.proofs.Places.{rules_place}
use Rattle.lucid_audit.specs.Audit.{pair_of, pairs_of}
use Rattle.lucid_audit.specs.Audit as audit
use Rattle.lucid_base.specs.declared.event.Event.{Event}
use Rattle.lucid_code.specs.Inputs.{IsInput}
use Rattle.lucid_code.specs.Nodes.{nodes}
use Rattle.lucid_code.specs.Parts as code
use Rattle.lucid_code.specs.Run.{Done, run_code}
use Rattle.lucid_code.specs.Valid.{IsValid}
use Rattle.lucid_conf.specs.declared.limits.Limits.{Limits}
use Rattle.lucid_conf.specs.Kept.{AreLimits}
use Rattle.lucid_core.specs.Parts.{CoreParts}
use Rattle.lucid_layout.specs.Layout.{IsLayout, stages_of}
use Rattle.lucid_stages.specs.NodeWorks.{work_of, works}
use Rattle.lucid_stages.specs.declared.stage.Pair.{Pair}
use Rattle.lucid_layout.proofs.LayoutLemmas.{fit_keeps}
use Rattle.lucid_merge.specs.Laws.{GuardsContradict, ProductsAct, ProductsName}
use Rattle.lucid_normal_spec.specs.Stands.{StandsFor}
use Rattle.lucid_pass.specs.Through.{ListsReplace}
use Rattle.lucid_pass_spec.specs.Replace.{MayReplace}
use Rattle.lucid_pass_laws.specs.Core.{CodeStands}
use Rattle.lucid_tables.specs.Placed.{IsPlaced, PlacedParts}
use Rattle.lucid_tables.specs.Stages.{pass}
use Rattle.lucid_tables.proofs.Passing.{pass_is_run}
use Rattle.lucid_top_fit.specs.Fit.{Fit, IsComposed, IsPlaced as PlacesAs, Composed, fit_of, normal_of}
use Rattle.lucid_top_fit.specs.Passes.{PassView}
use Rattle.lucid_top_words.specs.declared.refusal.Refusal.{Refusal}
use Rattle.lucid_top_words.specs.Outcome.{After, FollowedBy}
use Rattle.lucid_top_laws.specs.Packet.{AuditsRunWhole, FitsRunWhole, RunsWhole}

-- ---- placed code that stands for a program

abbrev PassesAsRun : PlacedParts → Type 0
PassesAsRun placed = (cells : List (List ℕ)) (now me : ℕ) (event : Event) → IsInput placed.code me event →
    pass placed.code placed.stages cells now me event ≡ run_code placed.code cells now me event

pub runs_whole : (placed : PlacedParts) (core : CoreParts) → PassesAsRun placed → StandsFor placed.code core → RunsWhole placed core
runs_whole placed core passes stands = record {
  cells = λ cells now me event h. ap (λ (d : Done). d.cells) (passes cells now me event (stands.takes me event h)) ∙ stands.cells cells now me event h;
  outs = λ cells now me event h. ap (λ (d : Done). d.outs) (passes cells now me event (stands.takes me event h)) ∙ stands.outs cells now me event h;
}

-- ---- a first fit

only_fit : (x y : Fit) → ◌≡◌ {A = Result Fit Refusal} (Ok x) (Ok y) → x ≡ y
only_fit x y same = cc

no_fit : (x : Fit) (r : Refusal) → ◌≡◌ {A = Result Fit Refusal} (Ok x) (Err r) → ⊥
no_fit x r same = cc

module _ (core : CoreParts) (stand : CodeStands core) (replace : ListsReplace) (acting : ProductsAct) (naming : ProductsName) (contradicting : GuardsContradict)
    (valid : IsValid (normal_of core)) where
  -- code in stages
  stages_run : (from : code.CodeParts) → MayReplace (normal_of core) from → (placed : PlacedParts) → placed.code ≡ from → IsPlaced from placed.stages → RunsWhole placed core
  stages_run from may placed code_is keeps =
      let is_placed : IsPlaced placed.code placed.stages = subst (λ (c : code.CodeParts). IsPlaced c placed.stages) (sym code_is) keeps in
      let valid_placed : IsValid placed.code = subst IsValid (sym code_is) may.valid in
      runs_whole placed core (λ cells now me event input. pass_is_run placed.code placed.stages valid_placed is_placed cells now me event input)
      (subst (λ (c : code.CodeParts). StandsFor c core) (sym code_is) (stand.stands from may))

  placed_runs : (limits : Limits) → AreLimits limits → (from : code.CodeParts) → MayReplace (normal_of core) from → (placed : PlacedParts) → IsLayout from limits placed → RunsWhole placed core
  placed_runs limits ranges from may placed layout =
      let keeps : IsPlaced from (stages_of from limits layout.fit.0) = fit_keeps acting naming contradicting from limits layout.fit.0 may.valid ranges layout.fit.1 in
      stages_run from may placed layout.code_is (subst (IsPlaced from) (sym layout.fit.2) keeps)

  -- an accepted placement
  audited_runs : (limits : Limits) → AreLimits limits → (from : code.CodeParts) → MayReplace (normal_of core) from → (pairs : List Pair) → length pairs ≡ length (works from.ops) →
      (placed : PlacedParts) → audit.IsAudited from limits pairs placed → RunsWhole placed core
  audited_runs limits ranges from may pairs long placed is =
      stages_run from may placed is.code_is (subst (IsPlaced from) (sym is.stages_are) (rules_place acting naming contradicting from limits pairs may.valid ranges long is.rules))

  pub audits_run_whole : AuditsRunWhole core
  audits_run_whole limits ranges passes made is plan pairs placed audited =
      let may : MayReplace (normal_of core) made.code = subst (λ (m : Composed). MayReplace (normal_of core) m.code) (sym is.1) (replace (map PassView.gives passes) (normal_of core) valid) in
      let long : length (pairs_of plan.pairs) ≡ length (works made.code.ops) = length-map plan.pairs pair_of ∙ pairs ∙ sym (length-map (nodes made.code.ops) (work_of made.code.ops)) in
      audited_runs limits ranges made.code may (pairs_of plan.pairs) long placed audited

  -- what places tell of the fit
  after_places : (limits : Limits) → AreLimits limits → (made : Composed) → MayReplace (normal_of core) made.code → (fit : Fit) (end : Result PlacedParts Refusal) →
      PlacesAs core limits made.code end → After end (λ placed p. p ≡ Ok (fit_of made.gone placed)) (Ok fit) → RunsWhole fit.placed core
  after_places limits ranges made may fit (Ok placed) places after =
      let same : fit ≡ fit_of made.gone placed = only_fit fit (fit_of made.gone placed) after in
      subst (λ (f : Fit). RunsWhole f.placed core) (sym same) (placed_runs limits ranges made.code may placed places)
  after_places limits ranges made may fit (Err r) places after = absurd (no_fit fit r after)

  -- and what the composed code tells
  after_passes : (limits : Limits) → AreLimits limits → (passes : List PassView) (fit : Fit) (end : Result Composed Refusal) → IsComposed core passes end →
      After end (λ made. FollowedBy (PlacesAs core limits made.code) (λ placed p. p ≡ Ok (fit_of made.gone placed))) (Ok fit) → RunsWhole fit.placed core
  after_passes limits ranges passes fit (Ok made) composed after =
      let may : MayReplace (normal_of core) made.code =
      subst (λ (m : Composed). MayReplace (normal_of core) m.code) (sym composed.1) (replace (map PassView.gives passes) (normal_of core) valid) in
      after_places limits ranges made may fit after.0 after.1 after.2
  after_passes limits ranges passes fit (Err r) composed after = absurd (no_fit fit r after)

  pub fits_run_whole : FitsRunWhole core
  fits_run_whole limits ranges passes fit fitted = after_passes limits ranges passes fit fitted.0 fitted.1 fitted.2
