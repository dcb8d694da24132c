use Rattle.std.proofs.Common.{◌≡◌, ◌*◌, ◌+◌, ◌≤◌, drop, slice_index}
use Rattle.std.specs.List.{fold}
use Rattle.lucid_stages.specs.Counts.{width_of}
use Rattle.lucid_stages.proofs.counts.width_of.Given as goal

-- the rest gives, with the sum so far, the result of the whole
abbrev pub invariant-loop-field : goal.invariant-loop-field
invariant-loop-field l =
    (l.sum ≤ l.field-index * 64) × (fold (λ sum k. sum + slice_index l.widths k) l.sum (drop l.field-index l.fields) ≡ width_of l.widths l.fields)
