use Rattle.std.proofs.Common.{◌≡◌, ◌+◌, ◌*◌, ◌≤◌, drop, length, map}
use Rattle.lucid_merge.specs.Product.{pair, kept_of}
use Rattle.lucid_merge.specs.Standing.{rows_at}
use Rattle.lucid_merge.proofs.offer.offer_places.Given as goal

-- the rest gives, with the kept rows, the result of the whole; there are not too many, at this many steps for each position
abbrev pub invariant-loop-place : goal.invariant-loop-place
invariant-loop-place g l =
    (kept_of l.kept (map (pair l.a) (rows_at l.rows (drop l.place-index l.places))) ≡ kept_of l.fn.kept (map (pair l.a) (rows_at l.rows l.places)))
    × (length l.kept ≤ l.most)
    × (l.steps ≤ l.fn.steps + l.place-index * l.most)
