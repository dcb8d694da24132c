use Rattle.std.proofs.Common.{◌*◌, ◌-◌, ◌/◌, ◌%◌, ◌^◌, rules}
use Rattle.std.proofs.lemmas.List.FromFn.{fill_by_all}
use Rattle.lucid_log.specs.Pieces.{hex_digit, hex_text}
use Rattle.lucid_log.proofs.pieces.hex_digits.Goals as goal

pub returns : goal.returns
unfolding hex_text
returns c = fill_by_all (λ k. hex_digit (c.args.n / 2 ^ (60 - 4 * k) % 16)) c.loop-i.digits 16 0 c.loop-i.invariant.long (search rules)
