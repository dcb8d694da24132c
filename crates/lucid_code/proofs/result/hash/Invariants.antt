use Rattle.std.proofs.Common.{◌≡◌, drop}
use Rattle.std.specs.List.{fold}
use Rattle.lucid_base.specs.Hash.{fnv_1a, bytes_of, with_byte}
use Rattle.lucid_code.specs.Run as run
use Rattle.lucid_code.proofs.result.hash.Given as goal

-- the hash so far, continued with the rest, is that of the whole
abbrev pub invariant-loop-x : goal.invariant-loop-x
invariant-loop-x l = fold with_byte l.hash (bytes_of (run.values l.fields (drop l.x-index l.xs))) ≡ fnv_1a (bytes_of (run.values l.fields l.xs))
