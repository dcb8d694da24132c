use Rattle.lucid_size.proofs.Bytes.{score_turn}
use Rattle.lucid_size.proofs.writing.put_underscores.Goals as goal

pub loop-i-preserved : goal.loop-i-preserved
loop-i-preserved c = score_turn c.loop-i._i c.args.out.now.items c.loop-i.out.items c.push.new.self.items c.loop-i.invariant c.in_ok-push.ensures.items
