-- Networks worked by hand. The effects of their events are written here in place of handlers.
use Rattle.std.specs.Prelude.{◌≡◌, ℕ, ◌+◌, ◌-◌, ◌^◌, List, [], ◌∷◌, ◌++◌, None, codes, map, if◌then◌else◌, nat_eq, slice_index}
use Rattle.lucid_base.specs.Cells.{cell_at, with_cell}
use Rattle.lucid_base.specs.declared.array.ArrayDef.{ArrayDef}
use Rattle.lucid_base.specs.declared.event.Event.{Event}
use Rattle.lucid_base.specs.declared.event.Out.{Out}
use Rattle.lucid_base.specs.declared.event.Out.TheVariants.{Gen, Say}
use Rattle.lucid_base.specs.declared.event.Target.{Target}
use Rattle.lucid_base.specs.declared.event.Target.TheVariants.{Here, At}
use Rattle.lucid_conf.specs.declared.scene.Down.{Down}
use Rattle.lucid_conf.specs.declared.scene.FileEvent.{FileEvent}
use Rattle.lucid_conf.specs.declared.scene.Link.{Link}
use Rattle.lucid_conf.specs.declared.scene.Scene.{Scene}
use Rattle.lucid_core.specs.Parts.{CoreParts, made_of}
use Rattle.lucid_core.specs.Step.{Stepped}
use Rattle.lucid_core.specs.declared.defs.EventDef.{EventDef}
use Rattle.lucid_net_spec.specs.Log.{log, whole}
use Rattle.lucid_net_spec.specs.Ways.{Network}

abbrev named : List ℕ → EventDef
named name = record { name = name; params = []; handler = None }

abbrev hits : ArrayDef
hits = record { name = codes "hits"; width = 32; size = 2 }

abbrev names : List (List ℕ)
names = codes "note" ∷ codes "send" ∷ codes "again" ∷ codes "cast" ∷ codes "hit" ∷ codes "wait" ∷ codes "tell" ∷ []

abbrev parts : CoreParts
parts = made_of (hits ∷ []) [] (map named names) [] [] (codes "it is %d" ∷ [])

abbrev link : ℕ → ℕ → ℕ → Link
link a b latency = record { a = a; b = b; latency = latency }

abbrev event : ℕ → List ℕ → Event
event id args = record { id = id; args = args }

abbrev first : List ℕ → ℕ
first args = slice_index args 0

abbrev note : List ℕ → Target → Out
note args to = Gen (event 0 args) 0 to

-- send(to, n) sends note(n) to that switch and to switch 9; again(n) sends again(n + 1); cast(n) sends note(n) to switches 1 and 2;
-- wait(d) sends note(d) after a delay of d to its own switch; tell(n) prints n, and sends note(n) to switch 9.
abbrev sent : ℕ → ℕ → List ℕ → List Out
sent me id args =
    if nat_eq id 1 then note (slice_index args 1 ∷ []) (At (first args)) ∷ note (slice_index args 1 ∷ []) (At 9) ∷ []
    else if nat_eq id 2 then Gen (event 2 ((first args + 1) ∷ [])) 0 Here ∷ []
    else if nat_eq id 3 then note args (At 1) ∷ note args (At 2) ∷ []
    else if nat_eq id 5 then Gen (event 0 args) (first args) (At me) ∷ []
    else if nat_eq id 6 then Say 0 args ∷ note args (At 9) ∷ []
    else []

-- hit(v) adds v to hits[0].
abbrev does : List (List ℕ) → ℕ → ℕ → Event → Stepped
does cells tick me e = record {
  cells = if nat_eq e.id 4 then with_cell cells 0 0 (cell_at cells 0 0 + first e.args) else cells;
  outs = sent me e.id e.args;
}

abbrev at : ℕ → ℕ → ℕ → List ℕ → FileEvent
at tick switch id args = record { at = tick; switch = switch; event = event id args }

abbrev network : ℕ → ℕ → Scene → Network
network stages recirc scene = record {
  parts = parts;
  scene = scene;
  limits = record { stages = stages; tables = 1; rows = 1; arrays = 1; arms = 1; bits = 1; recirc = recirc };
  does = does;
}

abbrev scene : ℕ → ℕ → List Link → List Down → List FileEvent → Scene
scene switches stop links down events = record { switches = switches; stop = stop; links = links; down = down; events = events; steps = [] }

-- Nothing happens before tick 0, and the later events are pending.
abbrev Nothing : Type 0
Nothing = log (network 12 1 (scene 1 1 [] [] [])) ≡ codes "entered 0 lost 0 pending 0\n"

abbrev NoTick : Type 0
NoTick = log (network 12 1 (scene 1 0 [] [] (at 0 0 0 (1 ∷ []) ∷ []))) ≡ codes "entered 0 lost 0 pending 1\n"

-- One event enters a switch at a tick. An event that is ready exactly at the end doesn't enter.
abbrev Again : Type 0
Again =
    log (network 3 1 (scene 1 8 [] [] (at 0 0 2 (0 ∷ []) ∷ [])))
    ≡ codes "[0] s0 again(0)\n  generate again(1) delay 0 here\n[4] s0 again(1)\n  generate again(2) delay 0 here\nentered 2 lost 0 pending 1\n"

-- With one stage and no way back it enters again at once.
abbrev AtOnce : Type 0
AtOnce =
    log (network 1 0 (scene 1 2 [] [] (at 0 0 2 (0 ∷ []) ∷ [])))
    ≡ codes "[0] s0 again(0)\n  generate again(1) delay 0 here\n[1] s0 again(1)\n  generate again(2) delay 0 here\nentered 2 lost 0 pending 1\n"

-- A print is an out, but neither pending nor lost.
abbrev Print : Type 0
Print =
    log (network 1 0 (scene 1 2 [] [] (at 0 0 6 (4 ∷ []) ∷ [])))
    ≡ codes "[0] s0 tell(4)\n  say it is 4\n  generate note(4) delay 0 to 9 lost\nentered 1 lost 1 pending 0\n"

-- Of two that are ready at one tick, and whose parents entered at one tick, the one of the lower switch goes first.
abbrev Parents : Type 0
Parents =
    log (network 1 0 (scene 3 6 (link 0 2 2 ∷ link 2 1 2 ∷ []) [] (at 0 1 1 (2 ∷ 10 ∷ []) ∷ at 0 0 1 (2 ∷ 11 ∷ []) ∷ [])))
    ≡ codes "[0] s0 send(2,11)\n  generate note(11) delay 0 to 2\n  generate note(11) delay 0 to 9 lost\n" ++ codes "[0] s1 send(2,10)\n  generate note(10) delay 0 to 2\n"
    ++ codes "  generate note(10) delay 0 to 9 lost\n[3] s2 note(11)\n[4] s2 note(10)\nentered 4 lost 2 pending 0\n"

-- Over a link of 5 ticks: sent at 0, it is ready at 0 + 2 + 1 + 5. The event of the file goes first, and an event to no neighbour is
-- lost.
abbrev TwoSwitches : Type 0
TwoSwitches =
    log (network 2 1 (scene 2 20 (link 0 1 5 ∷ []) [] (at 0 0 1 (1 ∷ 7 ∷ []) ∷ at 8 1 0 (8 ∷ []) ∷ [])))
    ≡ codes "[0] s0 send(1,7)\n  generate note(7) delay 0 to 1\n  generate note(7) delay 0 to 9 lost\n[8] s1 note(8)\n[9] s1 note(7)\nentered 3 lost 1 pending 0\n"

-- A link that is down at tick 3 alone, at which the first departs.
abbrev Window : Type 0
Window =
    log (network 2 1 (scene 3 20 (link 0 1 5 ∷ link 0 2 4 ∷ []) (record { a = 2; b = 0; from = 3; until = 4 } ∷ []) (at 0 0 3 (7 ∷ []) ∷ at 1 0 3 (8 ∷ []) ∷ [])))
    ≡ codes "[0] s0 cast(7)\n  generate note(7) delay 0 to 1\n  generate note(7) delay 0 to 2 lost\n"
    ++ codes "[1] s0 cast(8)\n  generate note(8) delay 0 to 1\n  generate note(8) delay 0 to 2\n"
    ++ codes "[8] s1 note(7)\n[8] s2 note(8)\n[9] s1 note(8)\nentered 5 lost 1 pending 0\n"

-- Two events of one tick enter one after the other, in the file's order, on the cells of their switch alone.
abbrev Cells : Type 0
Cells =
    log (network 12 1 (scene 2 5 [] [] (at 1 1 4 (3 ∷ []) ∷ at 1 1 4 (4 ∷ []) ∷ at 2 0 4 (5 ∷ []) ∷ [])))
    ≡ codes "[1] s1 hit(3)\n[2] s0 hit(5)\n[2] s1 hit(4)\ns0 hits[0] = 5\ns1 hits[0] = 7\nentered 3 lost 0 pending 0\n"

-- A ready time stops at the last u64, and an event to the own switch needs no link.
abbrev Saturated : Type 0
Saturated =
    log (network 2 1 (scene 1 20 [] [] (at 0 0 5 ((2 ^ 64 - 1) ∷ []) ∷ at 0 0 5 (0 ∷ []) ∷ [])))
    ≡ codes "[0] s0 wait(18446744073709551615)\n  generate note(18446744073709551615) delay 18446744073709551615 to 0\n"
    ++ codes "[1] s0 wait(0)\n  generate note(0) delay 0 to 0\n[4] s0 note(0)\nentered 3 lost 0 pending 1\n"

-- The program itself has no handlers: its events enter and send nothing.
abbrev Unhandled : Type 0
Unhandled =
    (let net = network 12 1 (scene 1 3 [] [] (at 1 0 2 (5 ∷ []) ∷ at 1 0 4 (6 ∷ []) ∷ [])) in log (whole net.parts net.scene net.limits))
    ≡ codes "[1] s0 again(5)\n[2] s0 hit(6)\nentered 2 lost 0 pending 0\n"

pub record NetworkExamples : Type 0 where
  pub nothing : Nothing
  pub no_tick : NoTick
  pub again : Again
  pub at_once : AtOnce
  pub print : Print
  pub parents : Parents
  pub two_switches : TwoSwitches
  pub window : Window
  pub cells : Cells
  pub saturated : Saturated
  pub unhandled : Unhandled
