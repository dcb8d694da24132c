-- The text of the scenario: two pairs of switches that are linked, and n events.
use Rattle.std.specs.Prelude.{ℕ, List, ◌++◌, codes, decimal}
use Rattle.std.specs.List.{join_with_byte}
use Rattle.lucid_gen.specs.Choices.{entry}
use Rattle.lucid_gen.specs.Draws.{Draw, give, times, ◌>>=◌}
use Rattle.lucid_gen.specs.declared.choices.Entry.{Entry}

-- the item of an event
abbrev pub entry_text : Entry → List ℕ
entry_text e =
    codes "{\"at\":" ++ decimal e.at ++ codes ",\"switch\":" ++ decimal e.switch ++ codes ",\"name\":\"e" ++ decimal e.event
    ++ codes "\",\"args\":[" ++ decimal e.index ++ codes "," ++ decimal e.value ++ codes "]}"

abbrev pub item : ℕ → Draw (List ℕ)
item _ = do e ← entry; give (entry_text e)

-- n items, with a comma, 44, between each two
abbrev pub items : ℕ → Draw (List ℕ)
items n = do texts ← times n item; give (join_with_byte 44 texts)

abbrev pub scene : ℕ → Draw (List ℕ)
scene n = do
  text ← items n
  give (codes "{\"switches\":4,\"stop\":1000,\"links\":[[0,1,1],[2,3,2]],\"events\":[" ++ text ++ codes "]}\n")

-- the scenario of a seed
abbrev pub scene_text : ℕ → ℕ → List ℕ
scene_text seed n = (scene n seed).gives
