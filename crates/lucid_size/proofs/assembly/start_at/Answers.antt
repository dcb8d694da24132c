use Rattle.std.proofs.Common.{ap, sym}
use Rattle.std.proofs.lemmas.Option.{slice_get-get_or, slice_get_past}
use Rattle.lucid_size.specs.Parts.{start_of}
use Rattle.lucid_size.proofs.assembly.start_at.Goals as goal

pub returns-then-at-tokens : goal.returns-then-at-tokens
returns-then-at-tokens c = ap (start_of c.args.text.now) (sym (slice_get-get_or c.args.tokens.now c.args.at _ c.if-at-tokens.true))

pub returns-else-at-tokens : goal.returns-else-at-tokens
returns-else-at-tokens c = ap (start_of c.args.text.now) (sym (slice_get_past c.args.tokens.now c.args.at c.if-at-tokens.false))
