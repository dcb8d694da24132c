use Rattle.std.proofs.Common.{◌≡◌, ◌+◌, ◌≤◌, ◌++◌, drop, length}
use Rattle.std.specs.List.{filter}
use Rattle.lucid_merge.specs.Partners.{is_partner}
use Rattle.lucid_merge.proofs.partners.partners_among.Given as goal

-- the positions so far, and the partners of the rest, are those of all; there was a step for each position
abbrev pub invariant-loop-place : goal.invariant-loop-place
invariant-loop-place g l =
    (l.found ++ filter (is_partner l.rows l.p) (drop l.place-index l.places) ≡ filter (is_partner l.rows l.p) l.places)
    × (length l.found ≤ l.place-index)
    × (l.steps ≤ l.fn.steps + l.place-index)
