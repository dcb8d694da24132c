use Rattle.std.proofs.Common.{◌≡◌, drop, fold, map}
use Rattle.std.specs.Hash.DefaultHasher.{initial}
use Rattle.std.specs.Int.{to_le_bytes, w64}
use Rattle.lucid_seed.specs.Started.{with_part}
use Rattle.lucid_types_scope.proofs.distinct.seeded_by.Given as goal

abbrev pub invariant-loop-number : goal.invariant-loop-number
invariant-loop-number l = fold with_part l.seed.parts (map (to_le_bytes w64) (drop l.number-index l.numbers)) ≡ fold with_part initial (map (to_le_bytes w64) l.numbers)
