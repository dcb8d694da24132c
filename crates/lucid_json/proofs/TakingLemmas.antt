-- An object from whose map a member is removed.
use Rattle.std.proofs.Common.{◌≡◌, ◌∙◌, ℕ, List, Bool, true, false, Option, None, option_map, String, BTreeMap, Global, string_bytes, string_cmp, nat_cmp, refl, sym, ap, cond, bytes_eq, if◌then◌else◌}
use Rattle.std.proofs.lemmas.Map.Text.{btree_map_updates_text}
use Rattle.std.specs.BTreeMap.{get_by_text, UpdatesBy}
use Rattle.std.specs.Cmp.Lexicographic.{slice_cmp}
use Rattle.serde_json.specs.Data.{Data}
use Rattle.serde_json.specs.Find.{get}
use Rattle.serde_json.specs.View.{view}
use Rattle.serde_json.specs.declared.value.Value.{Value, Object}
use Rattle.serde_json.proofs.Views.{view-Object, view-lookup}

pub found : (m : BTreeMap (String Global) Value) (name : List ℕ) → get name (view (Object m)) ≡ option_map view (get_by_text m name)
found m name = ap (get name) (view-Object m) ∙ sym (view-lookup name m.entries)

either : (is : Bool) (v : Option Value) (d : Option Data) → d ≡ option_map view v → option_map view (cond is None v) ≡ (if is then None else d)
either true v d e = refl
either false v d e = sym e

pub removed : (m n : BTreeMap (String Global) Value) (key : List ℕ) → UpdatesBy string_cmp (λ k. slice_cmp nat_cmp key (string_bytes k)) m n None →
    (name : List ℕ) → get name (view (Object n)) ≡ (if bytes_eq key name then None else get name (view (Object m)))
removed m n key updates name =
    found n name ∙ ap (option_map view) (btree_map_updates_text key m n None updates name) ∙ either (bytes_eq key name) _ _ (found m name)
