use Rattle.std.proofs.Common.{◌≡◌, drop, IsTrue}
use Rattle.std.specs.List.{flat_map}
use Rattle.lucid_tables.specs.declared.table.Row.{Row}
use Rattle.lucid_tables.specs.Numbers.{with_numbers, rises}
use Rattle.lucid_tables.specs.Placed.{named_by}
use Rattle.lucid_stages.specs.Placing.{arrays_at}
use Rattle.lucid_stages.proofs.placing.put_named.Given as goal

-- the rest gives, with the items so far, the result of the whole
abbrev pub invariant-loop-row : goal.invariant-loop-row
invariant-loop-row l =
    IsTrue (rises l.arrays.items)
    × (with_numbers l.arrays.items (arrays_at l.ops (flat_map (λ (r : Row). r.ops) (drop l.row-index l.row-items))) ≡ with_numbers l.fn.arrays.items (arrays_at l.ops (named_by l.table)))
