use Rattle.std.proofs.Common.{rules, ◌≡◌, ◌*◌, length, ◌∙◌}
use Rattle.lucid_tables.specs.Registers.{registers_of}
use Rattle.lucid_pipe.proofs.Parted.{many_blocks, are_blocks}
use Rattle.lucid_pipe.proofs.block.Blocks.new.Goals as goal

pub returns-clause-many : goal.returns-clause-many
returns-clause-many c = many_blocks _ c.in_ok-registers.registers.items c.in_ok-heads.heads.items ∙ c.in_ok-heads.ensures

pub returns-clause-registers : goal.returns-clause-registers
returns-clause-registers c =
    let each : c.registers-count.result ≡ length (registers_of c.args.placed.now.code) = search rules in
    let long : length c.in_ok-registers.registers.items ≡ length c.in_ok-heads.heads.items * c.registers-count.result = search rules in
    are_blocks c.args.placed.now.code _ c.in_ok-registers.registers.items c.in_ok-heads.heads.items each long
