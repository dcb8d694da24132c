use Rattle.std.proofs.Common.{◌∙◌, append_assoc}
use Rattle.lucid_gen.proofs.program.write_generate.Goals as goal

pub returns-in_ok-writeln-2 : goal.returns-in_ok-writeln-2
returns-in_ok-writeln-2 c = c.in_ok-writeln-2.ensures.bytes ∙ rw c.if-crosses.false (simp append_assoc)
