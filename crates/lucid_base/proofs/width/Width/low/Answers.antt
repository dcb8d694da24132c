use Rattle.std.proofs.Common.{bit_and, ap, ◌∙◌}
use Rattle.std.proofs.lemmas.Nat.{and_mask}
use Rattle.lucid_base.proofs.width.Width.low.Goals as goal

pub returns-clause-value : goal.returns-clause-value
returns-clause-value c = ap (bit_and c.args.n) c.most.ensures.value ∙ and_mask c.args.n c.args.self
