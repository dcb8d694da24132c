-- What the reader of placement files and the audit answered is what a placement gives, or why it is refused.
use Rattle.std.proofs.Common.{◌≡◌, ◌≢◌, ◌∙◌, ℕ, List, Option, None, Some, Result, Ok, Err, length, refl, sym, ap}
use Rattle.std.proofs.lemmas.List.{length-map}
use Rattle.std.proofs.lemmas.List.FromFn.{length-map-range_with_len}
use Rattle.serde_json.specs.Data.{Data}
use Rattle.lucid_audit.specs.declared.error.AuditError.{AuditError}
use Rattle.lucid_audit.specs.declared.error.AuditError.TheVariants as cause
use Rattle.lucid_audit.specs.declared.plan.Plan.{Plan}
use Rattle.lucid_audit.specs.declared.plan.PlanError.{PlanError}
use Rattle.lucid_audit.specs.declared.plan.PlanError.TheVariants as error
use Rattle.lucid_audit.specs.declared.plan.PlanKey.{PlanKey}
use Rattle.lucid_audit.specs.declared.plan.PlanKey.TheVariants as key
use Rattle.lucid_audit.specs.Audit.{pairs_of}
use Rattle.lucid_audit.specs.Audit as audit
use Rattle.lucid_audit.specs.Laws.{AuditsAreOne}
use Rattle.lucid_audit.specs.PlanFile.{Answers, OrKey, Refuses, plan_read}
use Rattle.lucid_audit.specs.Refused as refused
use Rattle.lucid_code.specs.Parts as code
use Rattle.lucid_conf.specs.Answers.{Reads}
use Rattle.lucid_conf.specs.declared.limits.Limits.{Limits}
use Rattle.lucid_stages.specs.Stage.{seats}
use Rattle.lucid_stages.specs.Placing.{stage_code}
use Rattle.lucid_stages.specs.NodeWorks.{works}
use Rattle.lucid_tables.specs.Placed.{PlacedParts}
use Rattle.lucid_top_fit.specs.Causes.{of_audit, of_plan}
use Rattle.lucid_top_fit.specs.Placing.{IsAudited, IsPlan}
use Rattle.lucid_top_fit.proofs.Told.{Tells, given, only-cause}
use Rattle.lucid_top_words.specs.declared.placement.BadPlacement.TheVariants as placement
use Rattle.lucid_top_words.specs.declared.refusal.Refusal.{Refusal}
use Rattle.lucid_top_words.specs.declared.refusal.Refusal.TheVariants as refusal
use Rattle.lucid_top_words.specs.Outcome.{Alike, IsTheAnswer, Declines}

-- ---- files

-- a text has one reading
one_reading : {A : Type 0} (reading : Data → OrKey A) (text : List ℕ) (d e : Data) (p q : OrKey A) →
    Reads text d → reading d ≡ p → Reads text e → reading e ≡ q → p ≡ q
one_reading reading text d e p q first at_d second at_e =
    let both : Some d ≡ Some e = sym first.1 ∙ second.1 in
    let same : d ≡ e = cc in
    sym at_d ∙ ap reading same ∙ at_e

value_of : {A : Type 0} (x y : A) → ◌≡◌ {A = OrKey A} (Ok x) (Ok y) → x ≡ y
value_of x y same = cc

no_fault : {A : Type 0} (x : A) (k : PlanKey) (place : Option ℕ) → ◌≡◌ {A = OrKey A} (Ok x) (Err (k, place)) → ⊥
no_fault x k place same = cc

fault_of : (A : Type 0) (f g : PlanKey × Option ℕ) → ◌≡◌ {A = OrKey A} (Err f) (Err g) → f ≡ g
fault_of A f g same = cc

module _ (text : List ℕ) (nodes : ℕ) where
  told-fault : Tells (IsPlan text nodes) (λ e. Refuses e (plan_read nodes) text) error.Memory of_plan
  told-fault (refusal.Placement placement.NotJson) o = (error.NotJson, o, (λ memory. cc), refl)
  told-fault (refusal.Placement placement.File) o = (error.BadField key.File o.0, o.1, (λ memory. cc), refl)
  told-fault (refusal.Placement placement.Other) o = (error.BadField key.Other o.0, o.1, (λ memory. cc), refl)
  told-fault (refusal.Placement placement.Nodes) o = (error.BadField key.Nodes None, o, (λ memory. cc), refl)
  told-fault (refusal.Placement (placement.Item i)) o = (error.BadField key.Nodes (Some i), o, (λ memory. cc), refl)
  told-fault r o = absurd o

  never-fault : (plan : Plan) (e : PlanError) → IsPlan text nodes (Ok plan) → Refuses e (plan_read nodes) text → e ≡ error.Memory
  never-fault plan error.NotJson o is = absurd (is o.0 o.1)
  never-fault plan (error.BadField k place) o is =
      absurd (no_fault plan.pairs k place (one_reading (plan_read nodes) text o.0 is.0 (Ok plan.pairs) (Err (k, place)) o.1 o.2 is.1 is.2))
  never-fault plan error.Memory o is = refl

  one-fault : (e f : PlanError) → Refuses e (plan_read nodes) text → Refuses f (plan_read nodes) text → e ≢ error.Memory → f ≢ error.Memory → e ≡ f
  one-fault error.NotJson error.NotJson a b x y = refl
  one-fault error.NotJson (error.BadField k place) a b x y = absurd (a b.0 b.1)
  one-fault (error.BadField k place) error.NotJson a b x y = absurd (b a.0 a.1)
  one-fault (error.BadField k place) (error.BadField j at) a b x y =
      ap (λ (f : PlanKey × Option ℕ). error.BadField f.0 f.1)
      (fault_of (List (ℕ × ℕ)) (k, place) (j, at) (one_reading (plan_read nodes) text a.0 b.0 (Err (k, place)) (Err (j, at)) a.1 a.2 b.1 b.2))
  one-fault error.Memory f a b x y = absurd (x refl)
  one-fault e error.Memory a b x y = absurd (y refl)

  pub plan-is : (plan : Plan) → Answers (Ok plan) (plan_read nodes) text → IsTheAnswer (IsPlan text nodes) (Ok plan)
  plan-is plan is =
      given (IsPlan text nodes) (λ e. Refuses e (plan_read nodes) text) error.Memory of_plan told-fault never-fault plan is
      (λ p o. ap (λ (pairs : List (ℕ × ℕ)). record { pairs = pairs })
      (value_of p.pairs plan.pairs (one_reading (plan_read nodes) text o.0 is.0 (Ok p.pairs) (Ok plan.pairs) o.1 o.2 is.1 is.2)))

  only-fault : (e : PlanError) → Refuses e (plan_read nodes) text → e ≢ error.Memory → (p : Result Plan Refusal) → IsPlan text nodes p → Alike p (Err (of_plan e))
  only-fault = only-cause (IsPlan text nodes) (λ e. Refuses e (plan_read nodes) text) error.Memory of_plan told-fault never-fault one-fault

  pub not-plan : (e : PlanError) → Refuses e (plan_read nodes) text → Declines (IsPlan text nodes) (of_plan e)
  not-plan error.Memory is = tt
  not-plan error.NotJson is = record { is = is; only = only-fault error.NotJson is (λ memory. cc) }
  not-plan (error.BadField key.File place) is = record { is = (place, is); only = only-fault (error.BadField key.File place) is (λ memory. cc) }
  not-plan (error.BadField key.Other place) is = record { is = (place, is); only = only-fault (error.BadField key.Other place) is (λ memory. cc) }
  not-plan (error.BadField key.Nodes None) is = record { is = is; only = only-fault (error.BadField key.Nodes None) is (λ memory. cc) }
  not-plan (error.BadField key.Nodes (Some i)) is = record { is = is; only = only-fault (error.BadField key.Nodes (Some i)) is (λ memory. cc) }

-- ---- places

module _ (limits : Limits) (from : code.CodeParts) (plan : Plan) where
  told-rule : Tells (IsAudited limits from plan) (refused.IsRefused from limits (pairs_of plan.pairs)) cause.Memory of_audit
  told-rule (refusal.Placement (placement.Range i)) o = (cause.Range i, o, (λ memory. cc), refl)
  told-rule (refusal.Placement (placement.Early i)) o = (cause.Early i, o, (λ memory. cc), refl)
  told-rule (refusal.Placement (placement.Rows stage t)) o = (cause.Rows stage t, o, (λ memory. cc), refl)
  told-rule (refusal.Placement (placement.Arrays stage)) o = (cause.Arrays stage, o, (λ memory. cc), refl)
  told-rule r o = absurd o

  pub audited-is : (placed : PlacedParts) → AuditsAreOne → audit.IsAudited from limits (pairs_of plan.pairs) placed → IsTheAnswer (IsAudited limits from plan) (Ok placed)
  audited-is placed one is =
      given (IsAudited limits from plan) (refused.IsRefused from limits (pairs_of plan.pairs)) cause.Memory of_audit told-rule
      (λ p e. one.never_both from limits (pairs_of plan.pairs) p e) placed is
      (λ p o. one.one from limits (pairs_of plan.pairs) p placed o is)

  -- so many stages as there are, whatever stands in them
  pub stages-audited : (placed : PlacedParts) → audit.IsAudited from limits (pairs_of plan.pairs) placed → length placed.stages ≡ limits.stages
  stages-audited placed is =
      let ss = seats (works from.ops) (pairs_of plan.pairs) in
      ap length is.stages_are ∙ length-map (audit.stages from.ops limits ss) (stage_code from.ops)
      ∙ length-map-range_with_len (audit.stage_at from.ops ss) 0 limits.stages

  only-rule : (e : AuditError) → AuditsAreOne → refused.IsRefused from limits (pairs_of plan.pairs) e → e ≢ cause.Memory →
      (p : Result PlacedParts Refusal) → IsAudited limits from plan p → Alike p (Err (of_audit e))
  only-rule e one is not =
      only-cause (IsAudited limits from plan) (refused.IsRefused from limits (pairs_of plan.pairs)) cause.Memory of_audit told-rule
      (λ p f. one.never_both from limits (pairs_of plan.pairs) p f) (λ f g. one.one_cause from limits (pairs_of plan.pairs) f g) e is not

  pub not-audited : (e : AuditError) → AuditsAreOne → refused.IsRefused from limits (pairs_of plan.pairs) e → Declines (IsAudited limits from plan) (of_audit e)
  not-audited (cause.Range i) one is = record { is = is; only = only-rule (cause.Range i) one is (λ memory. cc) }
  not-audited (cause.Early i) one is = record { is = is; only = only-rule (cause.Early i) one is (λ memory. cc) }
  not-audited (cause.Rows stage t) one is = record { is = is; only = only-rule (cause.Rows stage t) one is (λ memory. cc) }
  not-audited (cause.Arrays stage) one is = record { is = is; only = only-rule (cause.Arrays stage) one is (λ memory. cc) }
  not-audited e one is = tt
