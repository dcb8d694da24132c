use Rattle.std.proofs.Common.{◌≡◌, drop, IsTrue}
use Rattle.std.specs.List.{flat_map}
use Rattle.lucid_tables.specs.declared.table.Row.{Row}
use Rattle.lucid_tables.specs.Numbers.{with_numbers, rising, rises}
use Rattle.lucid_tables.specs.Placed.{named_by}
use Rattle.lucid_layout_text.proofs.listing.named.Given as goal

-- the rest gives, with the items so far, the result of the whole
abbrev pub invariant-loop-row : goal.invariant-loop-row
invariant-loop-row l =
    IsTrue (rises l.named.items)
    × (with_numbers l.named.items (flat_map (λ (r : Row). r.ops) (drop l.row-index l.row-items)) ≡ rising (named_by l.table))
