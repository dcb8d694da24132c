use Rattle.std.proofs.Common.{◌+◌, ℕ, length, ap, ◌∙◌, subst}
use Rattle.lucid_io.proofs.Leaves.{on_err}
use Rattle.lucid_io.specs.Puts.{PutsAll, PutsPart}
use Rattle.lucid_log.specs.Block.{block_text}
use Rattle.lucid_net_laws.specs.PipeStages.{run_of_passed}
use Rattle.lucid_net_spec.specs.Log.{losses, made}
use Rattle.lucid_net_spec.specs.Ways.{Run, lost_marks}
use Rattle.lucid_net.specs.Sent.{net_of}
use Rattle.lucid_net.proofs.pipes.tell_block.Goals as goal

pub returns-clause-made : goal.returns-clause-made
returns-clause-made g c = c.tell-told.ensures.made ∙ ap (λ (r : Run). length (made (net_of c.args.world.now) r)) c.of-ran.ensures.run

pub returns-clause-lost : goal.returns-clause-lost
returns-clause-lost g c =
    ap (λ (n : ℕ). c.args.counts.now.lost + n) (c.tell-told.ensures.count ∙ ap (losses (net_of c.args.world.now)) c.of-ran.ensures.run)

pub returns-clause-all : goal.returns-clause-all
returns-clause-all g c =
    let run = run_of_passed c.args.passed.now in
    subst (λ (m : ℕ). PutsAll g.S.Sink.written g.S.Sink.faults c.args.sink.now c.put_block.new.sink (block_text c.args.world.now.core.now run.tick run.switch run.event run.outs m))
    (c.tell-told.ensures.marks ∙ ap (λ (r : Run). lost_marks (net_of c.args.world.now) r 0 r.outs) c.of-ran.ensures.run) c.in_ok-put_block.ensures.all

pub returns-in_err-put_block-clause-part : goal.returns-in_err-put_block-clause-part
returns-in_err-put_block-clause-part g c =
    let run = run_of_passed c.args.passed.now in
    on_err _ (subst (λ (m : ℕ). PutsPart g.S.Sink.written g.S.Sink.faults c.args.sink.now c.put_block.new.sink (block_text c.args.world.now.core.now run.tick run.switch run.event run.outs m))
    (c.tell-told.ensures.marks ∙ ap (λ (r : Run). lost_marks (net_of c.args.world.now) r 0 r.outs) c.of-ran.ensures.run) c.in_err-put_block.ensures.part)
