use Rattle.std.proofs.Common.{rules}
use Rattle.lucid_size.proofs.Dealing.{one_row}
use Rattle.lucid_size.proofs.widths.no_rows.Goals as goal

pub loop-i-preserved : goal.loop-i-preserved
loop-i-preserved c = record { many = search rules; dealt = one_row c.loop-i.made.items c.push.new.self.items c.loop-i.invariant.dealt (search rules) }
