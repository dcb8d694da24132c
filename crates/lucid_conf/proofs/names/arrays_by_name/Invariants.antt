use Rattle.std.proofs.Common.{◌≡◌, ℕ, List, drop}
use Rattle.std.specs.HashMap.{get_by_text}
use Rattle.lucid_conf.specs.Named.{array_names, last_from, last_named}
use Rattle.lucid_conf.proofs.names.arrays_by_name.Given as goal

abbrev pub invariant-loop-i : goal.invariant-loop-i
invariant-loop-i l = (n : List ℕ) → last_from n l.i (get_by_text l.names n) (drop l.i (array_names l.arrays)) ≡ last_named n (array_names l.arrays)
