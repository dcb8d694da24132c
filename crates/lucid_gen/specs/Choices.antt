-- The random choices for a program and for a scenario, in the order in which they are printed, and a choice before those that depend on
-- it.
use Rattle.std.specs.Prelude.{ℕ, ◌+◌, nat_eq, if◌then◌else◌}
use Rattle.lucid_gen.specs.Draws.{Draw, below, give, ◌>>=◌}
use Rattle.lucid_gen.specs.declared.choices.Call.{Call}
use Rattle.lucid_gen.specs.declared.choices.Call.TheVariants.{Nothing, Get, Set, Update}
use Rattle.lucid_gen.specs.declared.choices.Generate.{Generate}
use Rattle.lucid_gen.specs.declared.choices.Entry.{Entry}

-- the size of an array
abbrev pub size : Draw ℕ
size = do less ← below 64; give (1 + less)

-- a handler's use of an array, by a number below 4; an update has a bound of its own
abbrev pub call_by : ℕ → Draw Call
call_by choice =
    if nat_eq choice 0 then give Nothing
    else if nat_eq choice 1 then give Get
    else if nat_eq choice 2 then give Set
    else (do above ← below 1000; give (Update above))

abbrev pub call : Draw Call
call = do choice ← below 4; call_by choice

-- the event that a handler generates: to the other switch of a pair or not, which, and after how long
abbrev pub generated : Draw Generate
generated = do
  choice ← below 2
  event ← below 8
  delay ← below 100
  give (record { crosses = nat_eq choice 1; event = event; delay = delay })

-- an event of a scenario
abbrev pub entry : Draw Entry
entry = do
  at ← below 100
  switch ← below 4
  event ← below 8
  index ← below 1000
  value ← below 1000
  give (record { at = at; switch = switch; event = event; index = index; value = value })
