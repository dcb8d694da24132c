use Rattle.std.proofs.Common.{◌≡◌, ◌-◌, ◌+◌, ◌<◌, length, take}
use Rattle.lucid_core.specs.Texts.{holes_of}
use Rattle.lucid_log.proofs.filled.first_hole.Given as goal

-- No `%d` ends at this place or before it.
abbrev pub invariant-search : goal.invariant-search
invariant-search l = record { within : l.at + 1 < length l.text; none_yet : holes_of (take (l.at + 1) l.text) ≡ 0 }

abbrev pub decreases-search : goal.decreases-search
decreases-search l = length l.text - l.at
