use Rattle.std.proofs.Common.{◌≡◌, drop, IsTrue}
use Rattle.lucid_tables.specs.Numbers.{with_numbers, rises}
use Rattle.lucid_stages.specs.Placing.{arrays_at}
use Rattle.lucid_stages.proofs.placing.put_arrays.Given as goal

-- the rest gives, with the items so far, the result of the whole
abbrev pub invariant-loop-place : goal.invariant-loop-place
invariant-loop-place l =
    IsTrue (rises l.arrays.items)
    × (with_numbers l.arrays.items (arrays_at l.ops (drop l.place-index l.places)) ≡ with_numbers l.fn.arrays.items (arrays_at l.ops l.places))
