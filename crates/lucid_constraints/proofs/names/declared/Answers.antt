use Rattle.std.proofs.Common.{rules}
use Rattle.lucid_constraints.proofs.NamesLemmas.{one_more}
use Rattle.lucid_constraints.proofs.names.declared.Goals as goal

pub loop-a-preserved : goal.loop-a-preserved
loop-a-preserved c = one_more c.loop-a.a c.loop-a.names.items c.push.new.self.items c.loop-a.invariant (search rules)
