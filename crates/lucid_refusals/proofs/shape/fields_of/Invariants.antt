use Rattle.std.proofs.Common.{◌≡◌, map, drop, IsTrue}
use Rattle.std.specs.List.{flat_map}
use Rattle.lucid_code.specs.declared.op.Literal.{Literal}
use Rattle.lucid_tables.specs.Numbers.{with_numbers, rises}
use Rattle.lucid_merge.specs.RowCounts.{patterns_of}
use Rattle.lucid_refusals.specs.Refusal.{fields_of}
use Rattle.lucid_refusals.proofs.shape.fields_of.Given as goal

-- the rest gives, with the items so far, the result of the whole
abbrev pub invariant-loop-row : goal.invariant-loop-row
invariant-loop-row l =
    IsTrue (rises l.fields.items)
    × (with_numbers l.fields.items (flat_map (λ p. map (λ (l : Literal). l.field) p) (patterns_of (drop l.row-index l.rows))) ≡ fields_of (patterns_of l.rows))
