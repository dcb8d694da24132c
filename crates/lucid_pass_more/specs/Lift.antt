-- The operations that never act.
use Rattle.std.specs.Prelude.{List, Bool, map}
use Rattle.lucid_code.specs.declared.op.Op.{Op}
use Rattle.lucid_code.specs.Guards.{contradict}

-- The guard of an operation contradicts itself.
abbrev pub is_impossible : Op → Bool
is_impossible o = contradict o.guard o.guard

abbrev pub impossible : List Op → List Bool
impossible ops = map is_impossible ops
