use Rattle.lucid_pipe.proofs.Parted.{head_told}
use Rattle.lucid_pipe.proofs.block.Blocks.passed.Goals as goal

pub returns : goal.returns
returns c =
    head_told c.self.inside.count c.self.inside.registers.items c.self.inside.heads.items c.args.self.now c.args.number
    c.index-head.result.now c.collect.new.sent c.self.view_is c.requires c.index-head.ensures c.collect.ensures
