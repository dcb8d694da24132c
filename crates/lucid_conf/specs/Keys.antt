-- How the keys are written, and which keys each file may have.
use Rattle.std.specs.Prelude.{ℕ, List, [], ◌∷◌, Bool, bytes_eq, codes}
use Rattle.std.specs.List.{list_any}
use Rattle.lucid_conf.specs.declared.key.Key.{Key}
use Rattle.lucid_conf.specs.declared.key.Key.TheVariants.{File, Other, Stages, Tables, Rows, Arrays, Arms, Bits, Recirc}
use Rattle.lucid_conf.specs.declared.key.Key.TheVariants.{Version, Switches, Stop, Links, Down, Events, Steps}

abbrev pub name_of : Key → List ℕ
name_of File = codes "file"
name_of Other = codes "other"
name_of Stages = codes "stages"
name_of Tables = codes "tables"
name_of Rows = codes "rows"
name_of Arrays = codes "arrays"
name_of Arms = codes "arms"
name_of Bits = codes "bits"
name_of Recirc = codes "recirc"
name_of Version = codes "version"
name_of Switches = codes "switches"
name_of Stop = codes "stop"
name_of Links = codes "links"
name_of Down = codes "down"
name_of Events = codes "events"
name_of Steps = codes "steps"

abbrev pub limits_keys : List Key
limits_keys = Stages ∷ Tables ∷ Rows ∷ Arrays ∷ Arms ∷ Bits ∷ Recirc ∷ []

abbrev pub scene_keys : List Key
scene_keys = Version ∷ Switches ∷ Stop ∷ Links ∷ Down ∷ Events ∷ Steps ∷ []

-- The name is that of one of these keys.
abbrev pub is_known : List Key → List ℕ → Bool
is_known keys name = list_any (λ key. bytes_eq (name_of key) name) keys
