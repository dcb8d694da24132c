-- The counts over a program are those over its flat form.
use Rattle.std.proofs.Common.{◌≡◌, ℕ, ◌+◌, List, [], ◌∷◌, map, refl, sym, ◌∙◌, ap}
use Rattle.std.specs.Prelude.{sum}
use Rattle.std.proofs.lemmas.List.Sums.{sum_by-cons}
use Rattle.lucid_core.specs.Parts.{CoreParts}
use Rattle.lucid_core.specs.Valid.{IsValidFlat}
use Rattle.lucid_effects_spec.specs.Size.{total}
use Rattle.lucid_inline_spec.specs.Counts.{flat_handler_size}
use Rattle.lucid_inline_spec.specs.Flat.{flat_of}
use Rattle.lucid_inline_spec.specs.Laws.{KeepsCounts}
use Rattle.lucid_normal_laws.proofs.Length.{normal_length}
use Rattle.lucid_pass_laws.specs.Core.{LengthIsCounted, SizeIsCounted}

pub length_counted : (core : CoreParts) → KeepsCounts core → IsValidFlat (flat_of core) → LengthIsCounted core
length_counted core keeps valid = normal_length (flat_of core) valid ∙ ap sum keeps.lengths

total_is_sum : (ns : List ℕ) → total ns ≡ sum ns
total_is_sum [] = refl
total_is_sum (n ∷ ns) = ap (λ m. n + m) (total_is_sum ns) ∙ sym (sum_by-cons (λ (k : ℕ). k) n ns)

pub size_counted : (core : CoreParts) → KeepsCounts core → SizeIsCounted core
size_counted core keeps = total_is_sum (map flat_handler_size (flat_of core).handlers) ∙ ap sum keeps.sizes
