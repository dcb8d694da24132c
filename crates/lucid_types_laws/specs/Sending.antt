-- The event of a `generate`, as a function.
use Rattle.std.specs.Prelude.{ℕ, List, Option, None, Some, Bool, true, false, is_some, map}
use Rattle.lucid_core.specs.Typing.{◌>>=◌}
use Rattle.lucid_parse_tree.specs.declared.tree.V.{V, fold-V}
use Rattle.lucid_parse_tree.specs.declared.tree.V.TheOpen.{V-F}
use Rattle.lucid_types_spec.specs.declared.body.Destination.{Destination}
use Rattle.lucid_types_spec.specs.declared.body.Destination.TheVariants.{Here, Switch, Group}
use Rattle.lucid_types_spec.specs.declared.body.Sending.{Sending}
use Rattle.lucid_types_spec.specs.declared.scope.Entry.{Entry}
use Rattle.lucid_types_spec.specs.declared.scope.Entry.TheVariants as entry
use Rattle.lucid_types_spec.specs.Names.{Names, seen}
use Rattle.lucid_types_spec.specs.Types.{ints}
use Rattle.lucid_types_laws.specs.Partial.{given, when}
use Rattle.lucid_types_laws.specs.Reading.{Elaboration, free, given_all, reading}

abbrev pub is_none : {A : Type 0} → Option A → Bool
is_none None = true
is_none (Some x) = false

abbrev pub is_here : Destination → Bool
is_here Here = true
is_here _ = false

abbrev pub event_at : Option Entry → List Elaboration → Names → Option Sending
event_at (Some (entry.Event i ws)) fs s = do
  all ← given_all (ints ws) fs s
  Some (record { event = i; args = all.values; delay = None; to = Here; delay_first = false })
event_at _ fs s = None

abbrev pub group_at : Option Entry → Option (List ℕ)
group_at (Some (entry.Group members)) = Some members
group_at _ = None

-- The members of the group that a bare name denotes.
abbrev pub named_group : Option (List ℕ) → Names → Option (List ℕ)
named_group None s = None
named_group (Some n) s = group_at (seen n s)

abbrev pub delayed : Elaboration → Names → Sending → Option Sending
delayed f s g = do
  c ← free f s
  given (is_none g.delay) (record g { delay = Some c })

abbrev pub switch_of : Elaboration → Names → Sending → Option Sending
switch_of f s g = do
  c ← free f s
  Some (record g { to = Switch c; delay_first = is_some g.delay })

abbrev pub target_of : Option (List ℕ) → Elaboration → Names → Sending → Option Sending
target_of None f s g = switch_of f s g
target_of (Some members) f s g = Some (record g { to = Group members })

abbrev pub located : Elaboration → Names → Sending → Option Sending
located f s g = when (is_here g.to) (target_of (named_group f.bare s) f s g)

abbrev pub Sends : Type 0
Sends = Names → Option Sending

abbrev pub sends_step : V-F Sends → Sends
sends_step (V-F.Paren f) s = f s
sends_step (V-F.Call n xs) s = event_at (seen n s) (map reading xs) s
sends_step (V-F.Delay f y) s = f s >>= delayed (reading y) s
sends_step (V-F.Locate f y) s = f s >>= located (reading y) s

abbrev pub sending_of : V → Sends
sending_of = fold-V Sends sends_step
