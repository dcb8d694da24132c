-- The premises of the headline, from what the commands accept.
use Rattle.std.proofs.Common.{◌≡◌, ◌↔◌, ℕ, List, Result, Ok, Err, length, map, map-id, refl, sym, ◌∙◌, ap, subst}
use Rattle.lucid_code.specs.Nodes.{nodes}
use Rattle.lucid_code.specs.Parts.{CodeParts}
use Rattle.lucid_core.specs.Parts.{CoreParts}
use Rattle.lucid_effects_spec.specs.Order as order
use Rattle.lucid_stages.specs.Counts.{CountsFit}
use Rattle.lucid_layout.specs.Layout.{IsLayout}
use Rattle.lucid_pass.specs.Through.{through}
use Rattle.lucid_top.specs.Premises.{HasCore}
use Rattle.lucid_net_spec.specs.Log.{log, whole}
use Rattle.lucid_top.specs.Headline.{Accepted, AuditAccepts, FirstFitPlaces, Three, code_by, network_log, placed_by, whole_network}
use Rattle.lucid_top.specs.Pipes.{IsPiped, IsPlacedIn, IsReady, IsSet, IsTarget, IsUnder, Piped, Ready, Target, network_of, piped, ready, target}
use Rattle.lucid_top.specs.RunPipe.{RunPipeAnswers}
use Rattle.lucid_top.specs.PremisesLaws.{IsAccepted}
use Rattle.lucid_top_fit.specs.Fit.{Composed, Fit, IsComposed, IsFitted, IsPlaced, composed, fit_of, normal_of}
use Rattle.lucid_top_fit.specs.Passes.{PassView}
use Rattle.lucid_top_fit.specs.Placing.{IsAudited, IsPlan}
use Rattle.lucid_top_program.specs.Program.{AreTokens, IsElaborated, IsExpanded, IsOrdered, IsParsed, IsProgram, IsProgramFrom, IsProgramOf, IsRead, IsSource}
use Rattle.lucid_top_program.specs.Settings.{IsLimits, IsScenario}
use Rattle.lucid_top_words.specs.declared.refusal.Refusal.{Refusal}
use Rattle.lucid_top_words.specs.Outcome.{After, FollowedBy}
use Rattle.lucid_types_spec.specs.Makes.{IsTyped}
use Rattle.lucid_top.proofs.Headlines.{MakeSame, is-fitted, same-through}

-- A result of two parts has a result of the first.
first-of : {X Y : Type 0} (part : Result X Refusal → Type 0) (rest : X → Result Y Refusal → Type 0) (y : Y) → FollowedBy part rest (Ok y) →
    (x : X) × part (Ok x) × rest x (Ok y)
first-of {X} {Y} part rest y f = at f.0 f.1 f.2
  where
    at : (end : Result X Refusal) → part end → After end rest (Ok y) → (x : X) × part (Ok x) × rest x (Ok y)
    at (Ok x) p q = (x, p, q)
    at (Err r) p q = absurd (cc)

pub has-core : (text : List ℕ) (core : CoreParts) → IsProgram text (Ok core) → HasCore text core
has-core text core is =
    let source = first-of (IsSource text) IsRead core is in
    let written = first-of (AreTokens text) (IsExpanded text) source.0 source.1 in
    let tokens = first-of (AreTokens source.0) (IsProgramFrom source.0) core source.2 in
    let tree = first-of (IsParsed source.0 tokens.0) IsProgramOf core tokens.2 in
    let typed = first-of (IsElaborated tree.0) (IsOrdered tree.0) core tree.2 in
    let same : typed.0 ≡ core = sym typed.2.1 in
    record {
      written = written.0;
      reads = written.1;
      source = source.0;
      expands = written.2.0;
      fits = written.2.1;
      tokens = tokens.0;
      reads_source = tokens.1;
      nests = tree.1.0;
      tree = tree.0;
      spelled = tree.1.1;
      typed = subst (λ (c : CoreParts). IsTyped tree.0 c) same typed.1;
      ordered = subst (λ (c : CoreParts). order.IsAccepted c) same typed.2.0;
    }

ok-same : {X : Type 0} {x y : X} → ◌≡◌ {A = Result X Refusal} (Ok x) (Ok y) → x ≡ y
ok-same is = cc

-- the text that is the answer of `run pipe` is the log of accepted texts
pub logged-pipe : (program limits scenario : List ℕ) (passes : List PassView) (text : List ℕ) → RunPipeAnswers program limits scenario passes (Ok text) →
    (a : Accepted (record { program = program; limits = limits; scenario = scenario })) × (text ≡ network_log a)
logged-pipe program limits scenario passes text is =
    let run = first-of (IsReady program limits scenario passes) (λ r o. o ≡ Ok (log (network_of r))) text is in
    let set = first-of (IsPiped program limits passes) (IsSet scenario) run.0 run.1 in
    let scene = first-of (IsScenario set.0.under.core scenario) (λ x o. o ≡ Ok (ready set.0 x)) run.0 set.2 in
    let under = first-of (IsTarget program limits) (IsPlacedIn passes) set.0 set.1 in
    let fitted = first-of (IsFitted under.0.core under.0.limits passes) (λ x o. o ≡ Ok (piped under.0 x)) set.0 under.2 in
    let core = first-of (IsProgram program) (λ x. IsUnder x limits) under.0 under.1 in
    let limit = first-of (IsLimits limits) (λ x o. o ≡ Ok (target core.0 x)) under.0 core.2 in
    let run_is : run.0 ≡ ready set.0 scene.0 = ok-same scene.2 in
    let set_is : set.0 ≡ piped under.0 fitted.0 = ok-same fitted.2 in
    let under_is : set.0.under ≡ target core.0 limit.0 = ap (λ (p : Piped). p.under) set_is ∙ ok-same limit.2 in
    let a : Accepted (record { program = program; limits = limits; scenario = scenario }) = record {
      core = core.0;
      program_is = has-core program core.0 core.1;
      limits = limit.0;
      limits_are = limit.1;
      scene = scene.0;
      scenario_is = subst (λ (t : Target). IsScenario t.core scenario (Ok scene.0)) under_is scene.1;
    } in
    let net : network_of run.0 ≡ whole_network a = ap network_of run_is ∙ ap (λ (t : Target). whole t.core scene.0 t.limits) under_is in
    (a, ok-same run.2 ∙ ap log net)

-- What passes make is what their functions make.
views-same : (passes : List PassView) → MakeSame (map (λ p. p.gives.makes) passes) passes
views-same passes core =
    same-through (λ v. v) passes (normal_of core) ∙ ap (λ (views : List PassView). through (map PassView.gives views) (normal_of core)) (map-id passes)

module _ (passes : List PassView) {texts : Three} (a : Accepted texts) where
  fit-of : FirstFitPlaces (map (λ p. p.gives.makes) passes) a → (fit : Fit) × IsFitted a.core a.limits passes (Ok fit)
  fit-of f = (fit_of (composed a.core passes).gone (placed_by f), is-fitted a passes (views-same passes) f)

  places-of : (fit : Fit) → IsFitted a.core a.limits passes (Ok fit) → FirstFitPlaces (map (λ p. p.gives.makes) passes) a
  places-of fit is =
      let c = first-of (IsComposed a.core passes) (λ m. FollowedBy (IsPlaced a.core a.limits m.code) (λ placed p. p ≡ Ok (fit_of m.gone placed))) fit is in
      let p = first-of (IsPlaced a.core a.limits c.0.code) (λ placed p. p ≡ Ok (fit_of c.0.gone placed)) fit c.2 in
      let same : c.0.code ≡ code_by (map (λ p. p.gives.makes) passes) a.core = ap (λ (m : Composed). m.code) c.1.1 ∙ sym (views-same passes a.core) in
      let layout : IsLayout (code_by (map (λ p. p.gives.makes) passes) a.core) a.limits p.0 = subst (λ (code : CodeParts). IsLayout code a.limits p.0) same p.1 in
      record { normal = c.1.0; counts = layout.counts; places = layout.fit.0; least = layout.fit.1 }

  pub fits : FirstFitPlaces (map (λ p. p.gives.makes) passes) a ↔ ((fit : Fit) × IsFitted a.core a.limits passes (Ok fit))
  fits = (fit-of, λ f. places-of f.0 f.1)

  accepted-of : (placement : List ℕ) → AuditAccepts (map (λ p. p.gives.makes) passes) a placement → IsAccepted a.core a.limits passes placement
  accepted-of placement audit =
      let is = views-same passes a.core in
      record {
        made = composed a.core passes;
        composed = (audit.normal, refl);
        counted = (subst (λ (code : CodeParts). CountsFit code a.limits) is audit.counts, refl);
        plan = audit.plan;
        planned = subst (λ (code : CodeParts). IsPlan placement (length (nodes code.ops)) (Ok audit.plan)) is audit.plan_is;
        placed = audit.placed;
        audited = subst (λ (code : CodeParts). IsAudited a.limits code audit.plan (Ok audit.placed)) is audit.accepts;
      }

  audit-of : (placement : List ℕ) → IsAccepted a.core a.limits passes placement → AuditAccepts (map (λ p. p.gives.makes) passes) a placement
  audit-of placement i =
      let same : i.made.code ≡ code_by (map (λ p. p.gives.makes) passes) a.core = ap (λ (m : Composed). m.code) i.composed.1 ∙ sym (views-same passes a.core) in
      record {
        normal = i.composed.0;
        counts = subst (λ (code : CodeParts). CountsFit code a.limits) same i.counted.0;
        plan = i.plan;
        plan_is = subst (λ (code : CodeParts). IsPlan placement (length (nodes code.ops)) (Ok i.plan)) same i.planned;
        placed = i.placed;
        accepts = subst (λ (code : CodeParts). IsAudited a.limits code i.plan (Ok i.placed)) same i.audited;
      }

  pub audits : (placement : List ℕ) → AuditAccepts (map (λ p. p.gives.makes) passes) a placement ↔ IsAccepted a.core a.limits passes placement
  audits placement = (accepted-of placement, audit-of placement)
