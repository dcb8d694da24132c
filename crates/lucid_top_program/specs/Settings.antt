-- The settings of a program's run: the limits of a target, and the scenario of a network.
use Rattle.std.specs.Prelude.{ℕ, Option, Result, Ok, Err}
use Rattle.lucid_conf.specs.Answers.{Answers, Refuses}
use Rattle.lucid_conf.specs.Tables.{limits_read, scene_read}
use Rattle.lucid_conf.specs.declared.error.ConfError.TheVariants as error
use Rattle.lucid_conf.specs.declared.limits.Limits.{Limits}
use Rattle.lucid_conf.specs.declared.scene.Scene.{Scene}
use Rattle.lucid_core.specs.Parts.{CoreParts}
use Rattle.lucid_top_words.specs.declared.refusal.Refusal.{Refusal}
use Rattle.lucid_top_words.specs.declared.refusal.Refusal.TheVariants as refusal
use Rattle.lucid_top_words.specs.Words.{Bytes}

-- the limits that the text writes, or the first key that fails; no key of this file has a place
abbrev pub IsLimits : Bytes → Result Limits Refusal → Type 0
IsLimits text (Ok limits) = Answers (Ok limits) limits_read text
IsLimits text (Err refusal.LimitsNotJson) = Refuses error.NotJson limits_read text
IsLimits text (Err (refusal.LimitsKey key)) = (place : Option ℕ) × Refuses (error.BadField key place) limits_read text
IsLimits text (Err r) = ⊥

-- the scenario that the text writes for the program, or the first key that fails, and of a list the first bad item
abbrev pub IsScenario : CoreParts → Bytes → Result Scene Refusal → Type 0
IsScenario core text (Ok scene) = Answers (Ok scene) (scene_read core) text
IsScenario core text (Err refusal.SceneNotJson) = Refuses error.NotJson (scene_read core) text
IsScenario core text (Err (refusal.SceneKey key place)) = Refuses (error.BadField key place) (scene_read core) text
IsScenario core text (Err r) = ⊥
