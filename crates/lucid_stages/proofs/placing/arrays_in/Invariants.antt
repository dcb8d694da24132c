use Rattle.std.proofs.Common.{◌≡◌, drop, IsTrue}
use Rattle.std.specs.List.{flat_map}
use Rattle.lucid_tables.specs.Numbers.{with_numbers, rises}
use Rattle.lucid_tables.specs.Placed.{named_by}
use Rattle.lucid_stages.specs.Placing.{arrays_at, arrays_in}
use Rattle.lucid_stages.proofs.placing.arrays_in.Given as goal

-- the rest gives, with the items so far, the result of the whole
abbrev pub invariant-loop-table : goal.invariant-loop-table
invariant-loop-table l =
    IsTrue (rises l.arrays.items)
    × (with_numbers l.arrays.items (arrays_at l.ops (flat_map named_by (drop l.table-index l.tables))) ≡ arrays_in l.ops l.tables)
