use Rattle.std.proofs.Common.{◌≡◌, Option, None, rules, ap, sym, ◌∙◌}
use Rattle.std.specs.List.{find}
use Rattle.lucid_net_laws.specs.Flying.{packet_for}
use Rattle.lucid_net_laws.specs.Rows.{rows_in}
use Rattle.lucid_net_laws.specs.PipeStages.{stages_of}
use Rattle.lucid_pipe_laws.specs.Moves.{entered_by}
use Rattle.lucid_queue.specs.Waiting.{is_ready}
use Rattle.lucid_queue.specs.declared.pending.Pending.{Pending}
use Rattle.lucid_net.proofs.Went.{entered_none}
use Rattle.lucid_net.proofs.leaving.let_in.Goals as goal

pub returns-in-None-clause-rows : goal.returns-in-None-clause-rows
returns-in-None-clause-rows c =
    let none : find (is_ready c.args.switch c.args.tick) c.args.queue.now ≡ None = search rules in
    sym (ap (λ (o : Option Pending). entered_by (packet_for (stages_of c.args.pipe.now.placed) c.args.tick c.args.switch o) (rows_in c.args.pipe.now)) none
    ∙ entered_none c.args.pipe.now c.requires.long c.requires.free)
