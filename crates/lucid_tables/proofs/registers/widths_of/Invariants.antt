use Rattle.std.proofs.Common.{◌≡◌, ◌++◌, drop, length, map, nat_lt, slice_index, IsTrue}
use Rattle.std.specs.List.{list_all}
use Rattle.lucid_tables.proofs.registers.widths_of.Given as goal

-- what was put and what is left is the whole, and what is left are fields
abbrev pub invariant-loop-field : goal.invariant-loop-field
invariant-loop-field l =
    (l.of.items ++ map (slice_index l.widths) (drop l.field-index l.registers) ≡ map (slice_index l.widths) l.registers)
    × IsTrue (list_all (λ k. nat_lt k (length l.widths)) (drop l.field-index l.registers))
