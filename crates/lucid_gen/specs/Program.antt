-- The text of the program: eight arrays, one memop, eight events, and eight handlers that each go through all arrays in order.
use Rattle.std.specs.Prelude.{ℕ, List, [], ◌++◌, map, codes, decimal, if◌then◌else◌}
use Rattle.std.specs.List.{concat, range_with_len}
use Rattle.lucid_gen.specs.Choices.{size, call, generated}
use Rattle.lucid_gen.specs.Draws.{Draw, give, times, ◌>>=◌}
use Rattle.lucid_gen.specs.declared.choices.Call.{Call}
use Rattle.lucid_gen.specs.declared.choices.Call.TheVariants.{Nothing, Get, Set, Update}
use Rattle.lucid_gen.specs.declared.choices.Generate.{Generate}

abbrev pub array_line : ℕ → ℕ → List ℕ
array_line j size = codes "global Array.t<<32>> a" ++ decimal j ++ codes " = Array.create(" ++ decimal size ++ codes ");\n"

abbrev pub memop_line : List ℕ
memop_line = codes "memop plus(int stored, int x) { return stored + x; }\n"

abbrev pub event_line : ℕ → List ℕ
event_line j = codes "event e" ++ decimal j ++ codes "(int i, int v);\n"

abbrev pub handler_line : ℕ → List ℕ
handler_line j = codes "handle e" ++ decimal j ++ codes "(int i, int v) {\n"

-- the line for a use of array q
abbrev pub call_line : ℕ → Call → List ℕ
call_line q Nothing = []
call_line q Get = codes "  v = Array.getm(a" ++ decimal q ++ codes ", i, plus, v);\n"
call_line q Set = codes "  Array.setm(a" ++ decimal q ++ codes ", i, plus, v);\n"
call_line q (Update above) =
    codes "  if (v > " ++ decimal above ++ codes ") { v = Array.update(a" ++ decimal q ++ codes ", i, plus, 1, plus, v); }\n"

-- the event with its delay, which is generated here or at the other switch of a pair
abbrev pub delayed : Generate → List ℕ
delayed g = codes "Event.delay(e" ++ decimal g.event ++ codes "(i + 1, v), " ++ decimal g.delay ++ codes ")"

abbrev pub generate_line : Generate → List ℕ
generate_line g =
    if g.crosses then codes "  generate Event.locate(" ++ delayed g ++ codes ", SELF ^ 1);\n" else codes "  generate " ++ delayed g ++ codes ";\n"

-- the texts for 0 to 7, in a row
abbrev pub eight : (ℕ → Draw (List ℕ)) → Draw (List ℕ)
eight draw = do texts ← times 8 draw; give (concat texts)

abbrev pub array : ℕ → Draw (List ℕ)
array j = do s ← size; give (array_line j s)

-- a handler's use of array q
abbrev pub step : ℕ → Draw (List ℕ)
step q = do c ← call; give (call_line q c)

abbrev pub handler : ℕ → Draw (List ℕ)
handler j = do
  steps ← eight step
  g ← generated
  give (handler_line j ++ steps ++ generate_line g ++ codes "}\n")

abbrev pub program : Draw (List ℕ)
program = do
  arrays ← eight array
  handlers ← eight handler
  give (arrays ++ memop_line ++ concat (map event_line (range_with_len 0 8)) ++ handlers)

-- the program of a seed
abbrev pub program_text : ℕ → List ℕ
program_text seed = (program seed).gives
