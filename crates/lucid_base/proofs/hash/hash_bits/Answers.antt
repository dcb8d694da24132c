use Rattle.std.proofs.Common.{rules, ◌≡◌, ◌∙◌, sym, ap}
use Rattle.std.specs.List.{fold}
use Rattle.std.specs.Int.{w64, to_le_bytes}
use Rattle.lucid_base.specs.Hash.{offset_basis, with_byte}
use Rattle.lucid_base.specs.Ops.{low_of}
use Rattle.lucid_base.proofs.Folds.{fold-flat_map}
use Rattle.lucid_base.proofs.hash.hash_bits.Goals as goal

pub returns-clause-value : goal.returns-clause-value
returns-clause-value c =
    let words = c.args.words.now in
    let folded : c.fold-hash.result ≡ fold (λ hash word. fold with_byte hash (to_le_bytes w64 word)) offset_basis c.args.words.now = search rules in
    c.low.ensures.value ∙ ap (low_of c.args.to) (folded ∙ sym (fold-flat_map with_byte (to_le_bytes w64) offset_basis words))
