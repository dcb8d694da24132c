use Rattle.std.proofs.Common.{ap, arith, sym}
use Rattle.lucid_size.specs.Parts.{end_before}
use Rattle.lucid_size.proofs.Whole.{end_behind}
use Rattle.lucid_size.proofs.steps.end_before.Goals as goal

pub returns-then-at-eq0 : goal.returns-then-at-eq0
returns-then-at-eq0 c = ap (λ n. end_before n c.args.tokens.now) (sym c.if-at-eq0.true)

pub returns-else-at-eq0 : goal.returns-else-at-eq0
returns-else-at-eq0 c = end_behind c.args.tokens.now c.args.at _ (let h = c.if-at-eq0.false in omega arith) c.requires
