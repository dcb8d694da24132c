use Rattle.std.proofs.Common.{◌≡◌, ◌%◌, ◌^◌, ℕ, ◌∙◌, sym, ap, rules}
use Rattle.std.specs.List.{fold}
use Rattle.std.specs.Int.{w64, to_le_bytes}
use Rattle.std.proofs.lemmas.List.Folds.{fold-map}
use Rattle.lucid_base.specs.Hash.{offset_basis, with_byte}
use Rattle.lucid_base.specs.declared.bits.Bits.{Bits}
use Rattle.lucid_base.proofs.BitsLemmas.{is_bits_of}
use Rattle.lucid_base.proofs.Folds.{fold-flat_map}
use Rattle.lucid_core.specs.Values.{numbers}
use Rattle.lucid_core_run.proofs.operate.hashed.Goals as goal

pub returns : goal.returns
returns c =
    let words = numbers c.args.values in
    let folded : c.fold-hash.result ≡ fold (λ hash (v : Bits). fold with_byte hash (to_le_bytes w64 v.value)) offset_basis c.args.values = search rules in
    let hash = folded ∙ sym (fold-map (λ hash word. fold with_byte hash (to_le_bytes w64 word)) (λ (v : Bits). v.value) offset_basis c.args.values) ∙ sym (fold-flat_map with_byte (to_le_bytes w64) offset_basis words) in
    is_bits_of _ _ _ (ap (λ (b : Bits). b.width) c.low.ensures) (ap (λ (b : Bits). b.value) c.low.ensures ∙ ap (λ (n : ℕ). n % 2 ^ c.args.width) hash)
