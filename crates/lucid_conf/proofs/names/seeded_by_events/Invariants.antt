use Rattle.std.proofs.Common.{◌≡◌, drop, fold}
use Rattle.std.specs.Hash.DefaultHasher.{initial}
use Rattle.lucid_conf.specs.Named.{event_names}
use Rattle.lucid_seed.specs.Started.{with_part}
use Rattle.lucid_conf.proofs.names.seeded_by_events.Given as goal

abbrev pub invariant-loop-event : goal.invariant-loop-event
invariant-loop-event l = fold with_part l.seed.parts (event_names (drop l.event-index l.events)) ≡ fold with_part initial (event_names l.events)
