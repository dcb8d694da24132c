use Rattle.std.proofs.Common.{Option, sym, subst}
use Rattle.lucid_net_laws.specs.Runs.{text_by}
use Rattle.lucid_pipe.specs.declared.passed.Passed.{Passed}
use Rattle.lucid_net.specs.Leaving.{gone_run}
use Rattle.lucid_net.specs.Sent.{net_of}
use Rattle.lucid_net.specs.Writes.{Writes}
use Rattle.lucid_net.proofs.leaving.leave_any.Goals as goal

pub returns-in-Some-clause-writes : goal.returns-in-Some-clause-writes
returns-in-Some-clause-writes g c =
    subst (λ (o : Option Passed). Writes g.S.Sink.written g.S.Sink.faults c.args.sink.now c.leave.new.sink (text_by (net_of c.args.world.now) (gone_run o)) c.leave.result) (sym c.in-Some.is) c.leave.ensures.writes
