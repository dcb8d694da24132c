use Rattle.std.proofs.Common.{◌≡◌, drop, fold}
use Rattle.std.specs.Hash.DefaultHasher.{initial}
use Rattle.lucid_conf.specs.Named.{array_names}
use Rattle.lucid_seed.specs.Started.{with_part}
use Rattle.lucid_conf.proofs.names.seeded_by_arrays.Given as goal

abbrev pub invariant-loop-array : goal.invariant-loop-array
invariant-loop-array l = fold with_part l.seed.parts (array_names (drop l.array-index l.arrays)) ≡ fold with_part initial (array_names l.arrays)
