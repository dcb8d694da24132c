use Rattle.std.proofs.Common.{◌≡◌, drop}
use Rattle.lucid_conf.specs.Named.{event_names, last_from, last_named}
use Rattle.lucid_top.proofs.commands.once.last_event.Given as goal

-- what is left decides
abbrev pub invariant-loop-id : goal.invariant-loop-id
invariant-loop-id l = last_from l.name l.id l.last (drop l.id (event_names l.events)) ≡ last_named l.name (event_names l.events)
