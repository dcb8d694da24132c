use Rattle.std.proofs.Common.{◌∙◌, append_assoc}
use Rattle.lucid_gen.proofs.scene.write_entry.Goals as goal

pub returns : goal.returns
returns c = c.in_ok-write.ensures.bytes ∙ simp append_assoc
