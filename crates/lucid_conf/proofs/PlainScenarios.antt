-- A scenario without the keys `version` and `down` is read as by the table without them.
use Rattle.std.proofs.Common.{◌≡◌, ◌∙◌, ℕ, List, [], Bool, false, Option, Some, None, Ok, Ordering, Less, Equal, Greater, refl, ap, sym}
use Rattle.std.specs.Prelude.{◌||◌, not, nat_eq, is_some}
use Rattle.std.specs.Ordering.{nat_cmp, match_ordering, is_eq}
use Rattle.std.specs.Cmp.Lexicographic.{slice_cmp}
use Rattle.std.specs.Str.{bytes_eq}
use Rattle.std.proofs.lemmas.Map.Text.{is_eq-slice_cmp}
use Rattle.serde_json.specs.Data.{Data, null, boolean, number, string, array, object, Members, no_members, member}
use Rattle.serde_json.specs.Find.{get, get_member}
use Rattle.lucid_core.specs.Parts.{CoreParts}
use Rattle.lucid_conf.specs.declared.key.Key.{Key}
use Rattle.lucid_conf.specs.declared.key.Key.TheVariants as key
use Rattle.lucid_conf.specs.declared.key.Key.TheVariants.{Version, Switches, Stop, Links, Events, Steps}
use Rattle.lucid_conf.specs.declared.scene.Scene.{Scene}
use Rattle.lucid_conf.specs.Items.{link, window, event, step}
use Rattle.lucid_conf.specs.Keys.{name_of, is_known, scene_keys}
use Rattle.lucid_conf.specs.Laws.{plain_keys, PlainScenariosStay}
use Rattle.lucid_conf.specs.Reading.{◌>>=◌, Reading, check, all_known, file, number_or, items_or, each, list}
use Rattle.lucid_conf.specs.Tables.{switches_read, stop_read}

-- A name that no member has is not that of the first, nor one of the others.
later : (k : List ℕ) (e : Data) (ms : Members) (o : Ordering) → match_ordering o (get_member k ms) (Some e) (get_member k ms) ≡ None →
    (is_eq o ≡ false) × (get_member k ms ≡ None)
later k e ms Less none = (refl, none)
later k e ms Equal none = absurd (cc none)
later k e ms Greater none = (refl, none)

absent : (k l : List ℕ) (e : Data) (ms : Members) → get_member k (member l e ms) ≡ None → (bytes_eq k l ≡ false) × (get_member k ms ≡ None)
absent k l e ms none =
    let rest = later k e ms (slice_cmp nat_cmp k l) none in
    (sym (is_eq-slice_cmp k l) ∙ rest.0, rest.1)

without : (v s t l d e p : Bool) → v ≡ false → d ≡ false → (v || (s || (t || (l || (d || (e || (p || false))))))) ≡ (s || (t || (l || (e || (p || false)))))
without v s t l d e p no_v no_d = rw (no_v, no_d) refl

known : (name : List ℕ) → bytes_eq (name_of Version) name ≡ false → bytes_eq (name_of key.Down) name ≡ false →
    is_known scene_keys name ≡ is_known plain_keys name
known name no_version no_down =
    let is : Key → Bool = λ k. bytes_eq (name_of k) name in
    without (is Version) (is Switches) (is Stop) (is Links) (is key.Down) (is Events) (is Steps) no_version no_down

all_known_plain : (ms : Members) → get_member (name_of Version) ms ≡ None → get_member (name_of key.Down) ms ≡ None →
    all_known scene_keys ms ≡ all_known plain_keys ms
all_known_plain no_members no_version no_down = refl
all_known_plain (member name d ms) no_version no_down =
    let version = absent (name_of Version) name d ms no_version in
    let down = absent (name_of key.Down) name d ms no_down in
    rw (known name version.0 down.0, all_known_plain ms version.1 down.1) refl

file_plain : (d : Data) → get (name_of Version) d ≡ None → get (name_of key.Down) d ≡ None → file d scene_keys ≡ file d plain_keys
file_plain null no_version no_down = refl
file_plain (boolean b) no_version no_down = refl
file_plain (number n) no_version no_down = refl
file_plain (string s) no_version no_down = refl
file_plain (array ds) no_version no_down = refl
file_plain (object ms) no_version no_down = ap (check key.Other) (all_known_plain ms no_version no_down)

-- The table, given the values of the two keys and whether the file has no others.
abbrev read_with : CoreParts → Data → Option Data → Option Data → Reading (Unit {0}) → Reading Scene
read_with parts d version down keys = do
  _ ← keys
  version ← number_or Version 1 2 1 version
  switches ← switches_read parts d
  stop ← stop_read switches d
  links ← list d Links (link switches)
  down ← check key.Down (nat_eq version 2 || not (is_some down)) >>= λ _. (items_or key.Down down >>= each key.Down (window links) [])
  events ← list d Events (event parts switches)
  steps ← list d Steps (step parts)
  Ok (record { switches = switches; stop = stop; links = links; down = down; events = events; steps = steps })

pub stay : PlainScenariosStay
stay parts d no_version no_down =
    ap (λ v. read_with parts d v (get (name_of key.Down) d) (file d scene_keys)) no_version
    ∙ ap (λ w. read_with parts d None w (file d scene_keys)) no_down
    ∙ ap (read_with parts d None None) (file_plain d no_version no_down)
