use Rattle.std.proofs.Common.{◌≡◌, ◌++◌, ℕ, drop}
use Rattle.std.specs.List.{flat_map, enumerate_from}
use Rattle.lucid_tables.specs.declared.stage.StageCode.{StageCode}
use Rattle.lucid_layout_text.specs.Text as spec
use Rattle.lucid_layout_text.proofs.listing.lines.Given as goal

-- the rest gives, with the items so far, the result of the whole
abbrev pub invariant-loop-number : goal.invariant-loop-number
invariant-loop-number l =
    l.lines.items ++ flat_map (λ (s : ℕ × StageCode). spec.lines_in l.ops s.0 s.1.tables) (enumerate_from l.number (drop l.number l.stages))
    ≡ spec.lines l.ops l.stages
