use Rattle.std.proofs.Common.{drop}
use Rattle.std.specs.List.{flat_map}
use Rattle.lucid_io.specs.Puts.{Leaves}
use Rattle.lucid_layout_text.specs.Lines.{name_text}
use Rattle.lucid_layout_text.proofs.put.put_names.Given as goal

-- The rest: the other names.
abbrev pub invariant-loop-number : goal.invariant-loop-number
invariant-loop-number g l =
    Leaves g.S.Sink.written g.S.Sink.faults l.fn.sink l.sink (flat_map (name_text l.arrays) l.numbers) (flat_map (name_text l.arrays) (drop l.number-index l.numbers))
