-- What the readers of limits files and scenarios answered is what the texts set up.
use Rattle.std.proofs.Common.{◌≡◌, ◌∙◌, ℕ, List, Some, Result, Ok, Err, sym, ap, refl}
use Rattle.serde_json.specs.Data.{Data}
use Rattle.lucid_conf.specs.Answers.{Answers, Reads, Refuses}
use Rattle.lucid_conf.specs.Reading.{Fault, Reading}
use Rattle.lucid_conf.specs.Tables.{limits_read, scene_read}
use Rattle.lucid_conf.specs.declared.error.ConfError.{ConfError}
use Rattle.lucid_conf.specs.declared.error.ConfError.TheVariants as conf
use Rattle.lucid_conf.specs.declared.limits.Limits.{Limits}
use Rattle.lucid_conf.specs.declared.scene.Scene.{Scene}
use Rattle.lucid_core.specs.Parts.{CoreParts}
use Rattle.lucid_top_words.specs.declared.refusal.Refusal.{Refusal}
use Rattle.lucid_top_words.specs.declared.refusal.Refusal.TheVariants as refusal
use Rattle.lucid_top_words.specs.Outcome.{Alike, IsTheAnswer, Declines}
use Rattle.lucid_top_program.specs.Causes.{of_limits, of_scene}
use Rattle.lucid_top_program.specs.Settings.{IsLimits, IsScenario}

-- a text has one reading
one_reading : {A : Type 0} (reading : Data → Reading A) (text : List ℕ) (d e : Data) (p q : Reading A) →
    Reads text d → reading d ≡ p → Reads text e → reading e ≡ q → p ≡ q
one_reading reading text d e p q first at_d second at_e =
    let both : Some d ≡ Some e = sym first.1 ∙ second.1 in
    let same : d ≡ e = cc in
    sym at_d ∙ ap reading same ∙ at_e

value_of : {A : Type 0} (x y : A) → ◌≡◌ {A = Reading A} (Ok x) (Ok y) → x ≡ y
value_of x y same = cc

no_fault : {A : Type 0} (x : A) (f : Fault) → ◌≡◌ {A = Reading A} (Ok x) (Err f) → ⊥
no_fault x f same = cc

fault_of : {A : Type 0} (f g : Fault) → ◌≡◌ {A = Reading A} (Err f) (Err g) → f ≡ g
fault_of f g same = cc

-- ---- limits

pub limits-read : (text : List ℕ) (limits : Limits) → Answers (Ok limits) limits_read text → IsTheAnswer (IsLimits text) (Ok limits)
limits-read text limits is = record { is = is; only = only }
  where
    only : (p : Result Limits Refusal) → IsLimits text p → Alike p (Ok limits)
    only (Ok l) o = value_of l limits (one_reading limits_read text o.0 is.0 (Ok l) (Ok limits) o.1 o.2 is.1 is.2)
    only (Err refusal.LimitsNotJson) o = absurd (o is.0 is.1)
    only (Err (refusal.LimitsKey key)) o =
        absurd (no_fault limits (key, o.0) (one_reading limits_read text is.0 o.1.0 (Ok limits) (Err (key, o.0)) is.1 is.2 o.1.1 o.1.2))
    only (Err r) o = absurd o

pub not-limits : (text : List ℕ) (e : ConfError) → Refuses e limits_read text → Declines (IsLimits text) (of_limits e)
not-limits text conf.Memory is = tt
not-limits text conf.NotJson is = record { is = is; only = only }
  where
    only : (p : Result Limits Refusal) → IsLimits text p → Alike p (Err refusal.LimitsNotJson)
    only (Ok l) o = absurd (is o.0 o.1)
    only (Err refusal.LimitsNotJson) o = refl
    only (Err (refusal.LimitsKey key)) o = absurd (is o.1.0 o.1.1)
    only (Err r) o = absurd o
not-limits text (conf.BadField key place) is = record { is = (place, is); only = only }
  where
    only : (p : Result Limits Refusal) → IsLimits text p → Alike p (Err (refusal.LimitsKey key))
    only (Ok l) o = absurd (no_fault l (key, place) (one_reading limits_read text o.0 is.0 (Ok l) (Err (key, place)) o.1 o.2 is.1 is.2))
    only (Err refusal.LimitsNotJson) o = absurd (o is.0 is.1)
    only (Err (refusal.LimitsKey k)) o =
        ap (λ (f : Fault). refusal.LimitsKey f.0)
        (fault_of (k, o.0) (key, place) (one_reading limits_read text o.1.0 is.0 (Err (k, o.0)) (Err (key, place)) o.1.1 o.1.2 is.1 is.2))
    only (Err r) o = absurd o

-- ---- scenarios

pub scenario-read : (core : CoreParts) (text : List ℕ) (scene : Scene) → Answers (Ok scene) (scene_read core) text → IsTheAnswer (IsScenario core text) (Ok scene)
scenario-read core text scene is = record { is = is; only = only }
  where
    only : (p : Result Scene Refusal) → IsScenario core text p → Alike p (Ok scene)
    only (Ok s) o = value_of s scene (one_reading (scene_read core) text o.0 is.0 (Ok s) (Ok scene) o.1 o.2 is.1 is.2)
    only (Err refusal.SceneNotJson) o = absurd (o is.0 is.1)
    only (Err (refusal.SceneKey key place)) o =
        absurd (no_fault scene (key, place) (one_reading (scene_read core) text is.0 o.0 (Ok scene) (Err (key, place)) is.1 is.2 o.1 o.2))
    only (Err r) o = absurd o

pub not-scenario : (core : CoreParts) (text : List ℕ) (e : ConfError) → Refuses e (scene_read core) text → Declines (IsScenario core text) (of_scene e)
not-scenario core text conf.Memory is = tt
not-scenario core text conf.NotJson is = record { is = is; only = only }
  where
    only : (p : Result Scene Refusal) → IsScenario core text p → Alike p (Err refusal.SceneNotJson)
    only (Ok s) o = absurd (is o.0 o.1)
    only (Err refusal.SceneNotJson) o = refl
    only (Err (refusal.SceneKey key place)) o = absurd (is o.0 o.1)
    only (Err r) o = absurd o
not-scenario core text (conf.BadField key place) is = record { is = is; only = only }
  where
    only : (p : Result Scene Refusal) → IsScenario core text p → Alike p (Err (refusal.SceneKey key place))
    only (Ok s) o = absurd (no_fault s (key, place) (one_reading (scene_read core) text o.0 is.0 (Ok s) (Err (key, place)) o.1 o.2 is.1 is.2))
    only (Err refusal.SceneNotJson) o = absurd (o is.0 is.1)
    only (Err (refusal.SceneKey k at)) o =
        ap (λ (f : Fault). refusal.SceneKey f.0 f.1)
        (fault_of (k, at) (key, place) (one_reading (scene_read core) text o.0 is.0 (Err (k, at)) (Err (key, place)) o.1 o.2 is.1 is.2))
    only (Err r) o = absurd o
