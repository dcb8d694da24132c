-- The scenario in which the event of `event e();` comes to switch 0 at tick 0.
use Rattle.std.proofs.Common.{◌≡◌, ◌∷◌, IsUtf8, Ok, Some, [], codes, refl}
use Rattle.std.specs.Char.{encode_utf8}
use Rattle.serde_json.proofs.OnLiterals.{serde_json_on_literals}
use Rattle.serde_json.specs.Data.{Data, array, item, member, no_items, no_members, number, object, string, unsigned}
use Rattle.serde_json.specs.Read.{read}
use Rattle.lucid_conf.specs.declared.scene.Scene.{Scene}
use Rattle.lucid_top_program.specs.Settings.{IsScenario}
use Rattle.lucid_top_words.specs.Words.{Bytes}
use Rattle.lucid_top_laws.proofs.Declares.{core}

abbrev pub text : Bytes
text = codes "{\"stop\":1,\"events\":[{\"at\":0,\"switch\":0,\"name\":\"e\",\"args\":[]}]}"

-- the keys of an object stand in their order
abbrev event_told : Data
event_told = object
    (member (codes "args") (array no_items)
    (member (codes "at") (number (unsigned 0))
    (member (codes "name") (string (codes "e"))
    (member (codes "switch") (number (unsigned 0)) no_members))))

abbrev told : Data
told = object (member (codes "events") (array (item event_told no_items)) (member (codes "stop") (number (unsigned 1)) no_members))

told_is : read text ≡ Some told
unfolding serde_json_on_literals
told_is = refl

text_utf8 : IsUtf8 text
unfolding encode_utf8
text_utf8 = (text, (refl, refl))

abbrev pub scene : Scene
scene = record {
  switches = 1;
  stop = 1;
  links = [];
  down = [];
  events = record { at = 0; switch = 0; event = record { id = 0; args = [] } } ∷ [];
  steps = [];
}

pub is_scenario : IsScenario core text (Ok scene)
is_scenario = (told, (text_utf8, told_is), refl)
