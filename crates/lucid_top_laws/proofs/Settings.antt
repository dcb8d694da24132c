-- The limits file `{}` and the scenario `{"stop":1}`.
use Rattle.std.proofs.Common.{◌≡◌, IsUtf8, Ok, Some, [], codes, refl}
use Rattle.std.specs.Char.{encode_utf8}
use Rattle.serde_json.proofs.OnLiterals.{serde_json_on_literals}
use Rattle.serde_json.specs.Data.{Data, member, no_members, number, object, unsigned}
use Rattle.serde_json.specs.Read.{read}
use Rattle.lucid_conf.specs.declared.limits.Limits.{Limits}
use Rattle.lucid_conf.specs.declared.scene.Scene.{Scene}
use Rattle.lucid_top_program.specs.Settings.{IsLimits, IsScenario}
use Rattle.lucid_top_words.specs.Words.{Bytes}
use Rattle.lucid_top_laws.proofs.Empty.{core}

-- ---- the limits, each the one that stands for a key that is absent

abbrev pub limits : Limits
limits = record { stages = 12; tables = 16; rows = 64; arrays = 4; arms = 8; bits = 16384; recirc = 0 }

limits_utf8 : IsUtf8 (codes "{}")
unfolding encode_utf8
limits_utf8 = (codes "{}", (refl, refl))

limits_data : read (codes "{}") ≡ Some (object no_members)
unfolding serde_json_on_literals
limits_data = refl

pub are_limits : IsLimits (codes "{}") (Ok limits)
are_limits = (object no_members, (limits_utf8, limits_data), refl)

-- ---- the scenario

abbrev text : Bytes
text = codes "{\"stop\":1}"

abbrev told : Data
told = object (member (codes "stop") (number (unsigned 1)) no_members)

told_is : read text ≡ Some told
unfolding serde_json_on_literals
told_is = refl

text_utf8 : IsUtf8 text
unfolding encode_utf8
text_utf8 = (text, (refl, refl))

abbrev pub scene : Scene
scene = record { switches = 1; stop = 1; links = []; down = []; events = []; steps = [] }

pub is_scenario : IsScenario core text (Ok scene)
is_scenario = (told, (text_utf8, told_is), refl)
