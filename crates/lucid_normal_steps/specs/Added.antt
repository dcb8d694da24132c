-- Operations that are added under a guard.
use Rattle.std.specs.Prelude.{List, ◌++◌, map}
use Rattle.lucid_code.specs.declared.op.Literal.{Literal}
use Rattle.lucid_code.specs.declared.op.Op.{Op}

abbrev pub under : List Literal → Op → Op
under guard o = record o { guard = guard ++ o.guard }

abbrev pub added : List Literal → List Op → List Op → List Op
added guard ops more = ops ++ map (under guard) more
