use Rattle.std.proofs.Common.{◌+◌, ◌*◌}
use Rattle.lucid_parse.proofs.event.+event.Given as goal

-- within one depth the functions call one another downwards, and an event goes one deeper

abbrev pub decreases-event_at : goal.decreases-event_at
decreases-event_at l = 4 * l.depth

abbrev pub decreases-event_pair : goal.decreases-event_pair
decreases-event_pair l = 4 * l.depth + 1

abbrev pub decreases-event_by : goal.decreases-event_by
decreases-event_by l = 4 * l.depth + 2

abbrev pub decreases-event_within : goal.decreases-event_within
decreases-event_within l = 4 * l.depth + 3
