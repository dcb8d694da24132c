use Rattle.std.proofs.Common.{◌≡◌, ◌++◌, List, map, rules, refl, sym, ap, arith}
use Rattle.std.proofs.lemmas.Result.{on_err_weaker, on_ok_weaker}
use Rattle.std.proofs.lemmas.Grind.{common_steps}
use Rattle.lucid_io.proofs.Leaves.{Leaves-after, Leaves-whole, PutsAll-last, PutsPart-at, PutsPart-last, on_err}
use Rattle.lucid_log.specs.Ending.{ending_text}
use Rattle.lucid_net_spec.specs.Log.{all_cells}
use Rattle.lucid_pipe.specs.Pipe.{PipeParts}
use Rattle.lucid_net.specs.Pipes.{piped_of}
use Rattle.lucid_net.specs.Rows.{held}
use Rattle.lucid_net.specs.Sent.{net_of}
use Rattle.lucid_net.proofs.Ended.{ended, last_is}
use Rattle.lucid_net.proofs.ending.put_pipes_end.Goals as goal

pub returns-in_err-waiting-clause-part : goal.returns-in_err-waiting-clause-part
returns-in_err-waiting-clause-part g c = on_err _ (PutsPart-at _ Leaves-whole c.in_err-waiting.ensures.part refl)

pub returns-in_err-put_all_pipes-clause-part : goal.returns-in_err-put_all_pipes-clause-part
returns-in_err-put_all_pipes-clause-part g c =
    let net = net_of c.args.world.now in
    let e = ended net c.args.now.now.placed.now (piped_of c.drain_ticks.new.now) c.in_ok-waiting.waiting c.requires.ready c.in_ok-waiting.ensures.drained in
    let same : c.as_slice.result.now ≡ c.drain_ticks.new.now.pipes.items = search rules in
    on_err _ (PutsPart-at (ending_text c.drain_ticks.new.now.counts.entered c.drain_ticks.new.now.counts.lost c.in_ok-waiting.waiting)
    (Leaves-after Leaves-whole c.in_ok-waiting.ensures.all (last_is net (piped_of c.drain_ticks.new.now) c.in_ok-waiting.waiting e)) c.in_err-put_all_pipes.ensures.part
    (ap (λ (l : List PipeParts). all_cells c.args.world.now.core.now 0 (map held l) ++ ending_text c.drain_ticks.new.now.counts.entered c.drain_ticks.new.now.counts.lost c.in_ok-waiting.waiting) (sym same)))

pub returns-clause-all : goal.returns-clause-all
returns-clause-all g c =
    let net = net_of c.args.world.now in
    let e = ended net c.args.now.now.placed.now (piped_of c.drain_ticks.new.now) c.in_ok-waiting.waiting c.requires.ready c.in_ok-waiting.ensures.drained in
    let same : c.as_slice.result.now ≡ c.drain_ticks.new.now.pipes.items = search rules in
    on_ok_weaker c.put_ending.result
    (λ puts. PutsAll-last
    (Leaves-after (Leaves-after Leaves-whole c.in_ok-waiting.ensures.all (last_is net (piped_of c.drain_ticks.new.now) c.in_ok-waiting.waiting e)) c.in_ok-put_all_pipes.ensures.all
    (ap (λ (l : List PipeParts). all_cells c.args.world.now.core.now 0 (map held l) ++ ending_text c.drain_ticks.new.now.counts.entered c.drain_ticks.new.now.counts.lost c.in_ok-waiting.waiting) (sym same)))
    puts refl)
    c.put_ending.ensures.all

pub returns-clause-part : goal.returns-clause-part
returns-clause-part g c =
    let net = net_of c.args.world.now in
    let e = ended net c.args.now.now.placed.now (piped_of c.drain_ticks.new.now) c.in_ok-waiting.waiting c.requires.ready c.in_ok-waiting.ensures.drained in
    let same : c.as_slice.result.now ≡ c.drain_ticks.new.now.pipes.items = search rules in
    on_err_weaker c.put_ending.result
    (λ cut. PutsPart-last
    (Leaves-after (Leaves-after Leaves-whole c.in_ok-waiting.ensures.all (last_is net (piped_of c.drain_ticks.new.now) c.in_ok-waiting.waiting e)) c.in_ok-put_all_pipes.ensures.all
    (ap (λ (l : List PipeParts). all_cells c.args.world.now.core.now 0 (map held l) ++ ending_text c.drain_ticks.new.now.counts.entered c.drain_ticks.new.now.counts.lost c.in_ok-waiting.waiting) (sym same)))
    cut refl)
    c.put_ending.ensures.part

pub put_all_pipes-requires : goal.put_all_pipes-requires
put_all_pipes-requires g c = grind (arith, common_steps)
