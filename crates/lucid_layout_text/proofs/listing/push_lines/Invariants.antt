use Rattle.std.proofs.Common.{◌≡◌, ◌++◌, ℕ, map, drop}
use Rattle.std.specs.List.{enumerate_from}
use Rattle.lucid_tables.specs.declared.table.Table.{Table}
use Rattle.lucid_layout_text.specs.Text as spec
use Rattle.lucid_layout_text.proofs.listing.push_lines.Given as goal

-- the rest gives, with the items so far, the result of the whole
abbrev pub invariant-loop-number : goal.invariant-loop-number
invariant-loop-number l =
    l.lines.items ++ map (λ (t : ℕ × Table). spec.line_of l.ops l.stage t.0 t.1) (enumerate_from l.number (drop l.number l.tables))
    ≡ l.fn.lines.items ++ spec.lines_in l.ops l.stage l.tables
