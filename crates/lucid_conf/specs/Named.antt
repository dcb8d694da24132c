-- The last that is declared with a name, among all that are declared.
use Rattle.std.specs.Prelude.{◌≡◌, String, ℕ, suc, List, [], ◌∷◌, Option, None, Some, bytes_eq, map, if◌then◌else◌}
use Rattle.std.specs.HashMap.{HashMap, get_by_text}
use Rattle.std.specs.declared.alloc.Global.{Global}
use Rattle.lucid_base.specs.declared.array.ArrayDef.{ArrayDef}
use Rattle.lucid_core.specs.declared.defs.EventDef.{EventDef}

abbrev pub event_names : List EventDef → List (List ℕ)
event_names events = map (λ e. e.name) events

abbrev pub array_names : List ArrayDef → List (List ℕ)
array_names arrays = map (λ a. a.name) arrays

-- The place of the last of these names that equals the name, if the first of them has the number n; without one, the earlier result.
abbrev pub last_from : List ℕ → ℕ → Option ℕ → List (List ℕ) → Option ℕ
last_from name n found [] = found
last_from name n found (x ∷ xs) = last_from name (suc n) (if bytes_eq name x then Some n else found) xs

abbrev pub last_named : List ℕ → List (List ℕ) → Option ℕ
last_named name names = last_from name 0 None names

-- The map gives each name the number of the last that has it.
abbrev pub NumbersLast : {S : Type 0} → HashMap (String Global) ℕ S → List (List ℕ) → Type 0
NumbersLast m names = (name : List ℕ) → get_by_text m name ≡ last_named name names
