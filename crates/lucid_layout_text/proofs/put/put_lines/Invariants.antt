use Rattle.std.proofs.Common.{drop}
use Rattle.std.specs.List.{flat_map}
use Rattle.lucid_io.specs.Puts.{Leaves}
use Rattle.lucid_layout_text.specs.Lines.{line_text}
use Rattle.lucid_layout_text.proofs.put.put_lines.Given as goal

-- The rest: the other lines.
abbrev pub invariant-loop-line : goal.invariant-loop-line
invariant-loop-line g l =
    Leaves g.S.Sink.written g.S.Sink.faults l.fn.sink l.sink (flat_map (line_text l.arrays) l.lines) (flat_map (line_text l.arrays) (drop l.line-index l.lines))
