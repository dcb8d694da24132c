use Rattle.std.proofs.Common.{drop, map}
use Rattle.lucid_io.specs.Puts.{Leaves}
use Rattle.lucid_net_spec.specs.Log.{all_cells}
use Rattle.lucid_net.specs.Rows.{held}
use Rattle.lucid_net.proofs.ending.put_all_pipes.Given as goal

-- The rest: the cells of the other switches.
abbrev pub invariant-loop-switch : goal.invariant-loop-switch
invariant-loop-switch g l =
    Leaves g.S.Sink.written g.S.Sink.faults l.fn.sink l.sink (all_cells l.world.core.now 0 (map held l.all)) (all_cells l.world.core.now l.switch (drop l.switch (map held l.all)))
