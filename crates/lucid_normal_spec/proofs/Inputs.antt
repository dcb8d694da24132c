-- An event that fits is an input of code that represents the program, if the program has no more than 2 ^ 32 events.
use Rattle.std.proofs.Common.{◌≡◌, ℕ, ◌<◌, ◌≤◌, ◌^◌, List, length, Option, None, Some, false, true, IsTrue, slice_get, refl, arith}
use Rattle.std.proofs.lemmas.Option.{slice_get_within}
use Rattle.std.specs.Option.{option_map_or}
use Rattle.lucid_base.specs.declared.event.Event.{Event}
use Rattle.lucid_core.specs.declared.defs.EventDef.{EventDef}
use Rattle.lucid_core.specs.Fits.{args_fit, event_fits}
use Rattle.lucid_core.specs.Parts.{CoreParts}
use Rattle.lucid_code.specs.Inputs.{IsInput}
use Rattle.lucid_code.specs.Parts as code
use Rattle.lucid_normal_spec.specs.Stands.{Happens, StandsFor}

found : (es : List EventDef) (args : List ℕ) (k : ℕ) (o : Option EventDef) → slice_get es k ≡ o → option_map_or (λ (e : EventDef). args_fit e.params args) o false ≡ true → k < length es
found es args k None is fits = absurd (cc)
found es args k (Some e) is fits = slice_get_within es k e is

pub id_small : (parts : CoreParts) (event : Event) → IsTrue (event_fits parts event) → event.id < length parts.events
id_small parts event fits = found parts.events event.args event.id (slice_get parts.events event.id) refl fits

pub happens : (parts : CoreParts) → length parts.events ≤ 2 ^ 32 → (me : ℕ) (event : Event) → me < 2 ^ 32 → IsTrue (event_fits parts event) → Happens parts me event
happens parts few me event switch fits = record { switch = switch; id = omega (arith, id_small parts event fits, few); event_fits = fits }

pub input_of : (parts : CoreParts) (c : code.CodeParts) → StandsFor c parts → length parts.events ≤ 2 ^ 32 → (switch : ℕ) (event : Event) → switch < 2 ^ 32 → IsTrue (event_fits parts event) → IsInput c switch event
input_of parts c stands_for few switch event within fits = stands_for.takes switch event (happens parts few switch event within fits)
