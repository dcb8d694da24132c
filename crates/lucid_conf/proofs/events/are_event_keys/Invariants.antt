use Rattle.std.proofs.Common.{◌≡◌}
use Rattle.serde_json.specs.View.{members_view}
use Rattle.lucid_conf.specs.Items.{are_event_keys}
use Rattle.lucid_conf.proofs.events.are_event_keys.Given as goal

abbrev pub invariant-loop-key : goal.invariant-loop-key
invariant-loop-key l = (goal.iterator-loop-key).can_next l.key-iterator × (goal.iterator-loop-key).is_finite l.key-iterator
    × (are_event_keys (members_view l.key-iterator) ≡ are_event_keys (members_view l.members.entries))
