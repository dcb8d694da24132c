-- The rules for the items of the scenario's lists, one per line: an item that breaks one is bad. The words of the lines are in Fields.
use Rattle.std.specs.Prelude.{ℕ, List, length, Bool, ◌&&◌, ◌||◌, not, nat_eq, nat_lt, nat_le, bytes_eq, codes, if◌then◌else◌}
use Rattle.std.specs.Prelude.{Option, None, Some, option_and_then}
use Rattle.std.specs.List.{list_any}
use Rattle.serde_json.specs.Data.{Data, Members}
use Rattle.serde_json.specs.Find.{get, as_object}
use Rattle.lucid_json.specs.Keys.{every_key}
use Rattle.lucid_core.specs.Fits.{event_fits}
use Rattle.lucid_core.specs.Parts.{CoreParts}
use Rattle.lucid_conf.specs.declared.scene.Down.{Down}
use Rattle.lucid_conf.specs.declared.scene.FileEvent.{FileEvent}
use Rattle.lucid_conf.specs.declared.scene.Link.{Link}
use Rattle.lucid_conf.specs.declared.scene.Step.{Step}
use Rattle.lucid_conf.specs.declared.scene.Step.TheVariants.{Enter, Go, Look}
use Rattle.lucid_conf.specs.Fields.{◌>>=◌, must, number_at, number_of, text_at, text_of, ends_at, args_of}
use Rattle.lucid_conf.specs.Named.{last_named, event_names, array_names}

-- The link joins these two, in either direction.
abbrev pub joins : ℕ → ℕ → Link → Bool
joins a b l = (nat_eq l.a a && nat_eq l.b b) || (nat_eq l.a b && nat_eq l.b a)

abbrev pub are_linked : List Link → ℕ → ℕ → Bool
are_linked links a b = list_any (joins a b) links

-- `[a, b, latency]`: two different switches that no link before joins, and 1 to 65,536 ticks.
abbrev pub most_latency : ℕ
most_latency = 65536

abbrev pub link : ℕ → List Link → Data → Option Link
link switches before d = do
  a ← number_at 0 d
  b ← number_at 1 d
  latency ← number_at 2 d
  _ ← ends_at 3 d
  _ ← must (nat_lt a switches && nat_lt b switches && not (nat_eq a b))
  _ ← must (nat_le 1 latency && nat_le latency most_latency)
  _ ← must (not (are_linked before a b))
  Some (record { a = a; b = b; latency = latency })

-- `[a, b, from, until]`: a linked pair in either order, and a tick and a later one; item 1,024 is bad.
abbrev pub most_windows : ℕ
most_windows = 1024

abbrev pub window : List Link → List Down → Data → Option Down
window links before d = do
  a ← number_at 0 d
  b ← number_at 1 d
  begin ← number_at 2 d
  end ← number_at 3 d
  _ ← ends_at 4 d
  _ ← must (are_linked links a b)
  _ ← must (nat_lt begin end)
  _ ← must (nat_lt (length before) most_windows)
  Some (record { a = a; b = b; from = begin; until = end })

-- `{"at": tick, "switch": switch, "name": text, "args": [number, ..]}`, these keys and no others: the last declared event of the name, and
-- arguments that fit it.
abbrev pub is_event_key : List ℕ → Bool
is_event_key k = bytes_eq k (codes "at") || bytes_eq k (codes "switch") || bytes_eq k (codes "name") || bytes_eq k (codes "args")

abbrev pub are_event_keys : Members → Bool
are_event_keys = every_key is_event_key

abbrev pub event : CoreParts → ℕ → List FileEvent → Data → Option FileEvent
event parts switches before d = do
  members ← as_object d
  _ ← must (are_event_keys members)
  at ← number_of (codes "at") d
  switch ← number_of (codes "switch") d
  _ ← must (nat_lt switch switches)
  name ← text_of (codes "name") d
  id ← last_named name (event_names parts.events)
  args ← option_and_then args_of (get (codes "args") d)
  _ ← must (event_fits parts (record { id = id; args = args }))
  Some (record { at = at; switch = switch; event = record { id = id; args = args } })

-- `["enter"]`; `["go", k]` with a slot of a pipeline of at most 32 stages; `["look", name, cell]` with the last declared array of the name.
abbrev pub enter : Data → Option Step
enter d = do
  _ ← ends_at 1 d
  Some Enter

abbrev pub last_stage : ℕ
last_stage = 31

abbrev pub go : Data → Option Step
go d = do
  k ← number_at 1 d
  _ ← ends_at 2 d
  _ ← must (nat_le k last_stage)
  Some (Go k)

abbrev pub look : CoreParts → Data → Option Step
look parts d = do
  name ← text_at 1 d
  cell ← number_at 2 d
  _ ← ends_at 3 d
  array ← last_named name (array_names parts.arrays)
  Some (Look array cell)

abbrev pub step_of : CoreParts → List ℕ → Data → Option Step
step_of parts word d =
    if bytes_eq word (codes "enter") then enter d else (if bytes_eq word (codes "go") then go d else (if bytes_eq word (codes "look") then look parts d else None))

abbrev pub step : CoreParts → List Step → Data → Option Step
step parts before d = do
  word ← text_at 0 d
  step_of parts word d
