use Rattle.std.proofs.Common.{arith}
use Rattle.std.proofs.lemmas.Grind.{elements}
use Rattle.lucid_inline.proofs.calls.take_given.Goals as goal

pub numbered-requires : goal.numbered-requires
numbered-requires c = grind (arith, elements)
