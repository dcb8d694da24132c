-- The generated limits, and the scenario of that seed with one event.
use Rattle.std.proofs.Common.{◌≡◌, ◌∷◌, IsUtf8, Ok, Some, [], codes, refl, subst, sym}
use Rattle.std.specs.Char.{encode_utf8}
use Rattle.std.specs.Fmt.{digits}
use Rattle.serde_json.proofs.OnLiterals.{serde_json_on_literals}
use Rattle.serde_json.specs.Data.{Data, array, item, member, no_items, no_members, number, object, string, unsigned}
use Rattle.serde_json.specs.Read.{read}
use Rattle.lucid_conf.specs.declared.limits.Limits.{Limits}
use Rattle.lucid_conf.specs.declared.scene.Scene.{Scene}
use Rattle.lucid_gen.specs.Draws.{times}
use Rattle.lucid_gen.specs.Limits.{limits_text}
use Rattle.lucid_gen.specs.Scene.{scene_text}
use Rattle.lucid_top_program.specs.Settings.{IsLimits, IsScenario}
use Rattle.lucid_top_words.specs.Words.{Bytes}
use Rattle.lucid_top_laws.proofs.GeneratedCore.{core_parts}

-- ---- the limits, with the one that stands for each key that is absent

abbrev pub limits : Limits
limits = record { stages = 32; tables = 64; rows = 1024; arrays = 4; arms = 8; bits = 65536; recirc = 0 }

abbrev limits_told : Data
limits_told = object
    (member (codes "bits") (number (unsigned 65536))
    (member (codes "rows") (number (unsigned 1024))
    (member (codes "stages") (number (unsigned 32))
    (member (codes "tables") (number (unsigned 64)) no_members))))

limits_are : read limits_text ≡ Some limits_told
unfolding serde_json_on_literals
limits_are = refl

limits_utf8 : IsUtf8 limits_text
unfolding encode_utf8
limits_utf8 = (limits_text, (refl, refl))

pub are_limits : IsLimits limits_text (Ok limits)
are_limits = (limits_told, (limits_utf8, limits_are), refl)

-- ---- the scenario

abbrev text : Bytes
text = codes "{\"switches\":4,\"stop\":1000,\"links\":[[0,1,1],[2,3,2]],\"events\":[{\"at\":73,\"switch\":3,\"name\":\"e6\",\"args\":[875,859]}]}\n"

text_is : scene_text 69426392 1 ≡ text
unfolding digits times
text_is = refl

abbrev link_told : Data → Data → Data → Data
link_told a b delay = array (item a (item b (item delay no_items)))

-- the keys of an object stand in their order
abbrev event_told : Data
event_told = object
    (member (codes "args") (array (item (number (unsigned 875)) (item (number (unsigned 859)) no_items)))
    (member (codes "at") (number (unsigned 73))
    (member (codes "name") (string (codes "e6"))
    (member (codes "switch") (number (unsigned 3)) no_members))))

abbrev told : Data
told = object
    (member (codes "events") (array (item event_told no_items))
    (member (codes "links") (array (item (link_told (number (unsigned 0)) (number (unsigned 1)) (number (unsigned 1)))
    (item (link_told (number (unsigned 2)) (number (unsigned 3)) (number (unsigned 2))) no_items)))
    (member (codes "stop") (number (unsigned 1000))
    (member (codes "switches") (number (unsigned 4)) no_members))))

told_is : read text ≡ Some told
unfolding serde_json_on_literals
told_is = refl

text_utf8 : IsUtf8 text
unfolding encode_utf8
text_utf8 = (text, (refl, refl))

abbrev pub scene : Scene
scene = record {
  switches = 4;
  stop = 1000;
  links = record { a = 0; b = 1; latency = 1 } ∷ record { a = 2; b = 3; latency = 2 } ∷ [];
  down = [];
  events = record { at = 73; switch = 3; event = record { id = 6; args = 875 ∷ 859 ∷ [] } } ∷ [];
  steps = [];
}

pub is_scenario : IsScenario core_parts (scene_text 69426392 1) (Ok scene)
is_scenario = subst (λ (t : Bytes). IsScenario core_parts t (Ok scene)) (sym text_is) (told, (text_utf8, told_is), refl)
