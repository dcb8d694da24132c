use Rattle.std.proofs.Common.{drop}
use Rattle.lucid_io.specs.Puts.{Leaves}
use Rattle.lucid_top.specs.Layout.{passes_text}
use Rattle.lucid_top.proofs.commands.layout.put_passes.Given as goal

-- what is left: the passes to come
abbrev pub invariant-loop-i : goal.invariant-loop-i
invariant-loop-i g l =
    Leaves g.W.Sink.written g.W.Sink.faults l.fn.out l.out (passes_text l.names l.gone) (passes_text (drop l.i l.names) (drop l.i l.gone))
