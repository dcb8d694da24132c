use Rattle.std.proofs.Common.{rules, ◌+◌, ◌<◌, ◌≤◌, length}
use Rattle.lucid_pipe.proofs.Handing.{handed_on, handed_last}
use Rattle.lucid_pipe.proofs.slots.hand_on.Goals as goal

pub returns-then-k-len-clause-slots : goal.returns-then-k-len-clause-slots
returns-then-k-len-clause-slots c =
    let below : c.args.k + 1 < length c.args.slots.now.items = search rules in
    handed_on c.args.slots.now.items c.args.k c.index-here.result.now c.index-next.result.now below c.index-here.ensures c.index-next.ensures

pub returns-else-k-len-clause-slots : goal.returns-else-k-len-clause-slots
returns-else-k-len-clause-slots c =
    let past : length c.args.slots.now.items ≤ c.args.k + 1 = search rules in
    handed_last c.args.slots.now.items c.args.k c.index-here.result.now c.requires past c.index-here.ensures
