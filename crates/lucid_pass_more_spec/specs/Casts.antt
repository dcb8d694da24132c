-- The result of `Casts`: a cast becomes a move, so that the other passes see through it.
use Rattle.std.specs.Prelude.{List, map}
use Rattle.lucid_code.specs.declared.op.Act.{Act}
use Rattle.lucid_code.specs.declared.op.Act.TheVariants as act
use Rattle.lucid_code.specs.declared.op.Op.{Op}
use Rattle.lucid_code.specs.Parts.{CodeParts}

-- A cast and a move write the same: the low bits of the operand, by the width of the written field.
abbrev pub without_cast : Act → Act
without_cast (act.Cast a k) = act.Move a k
without_cast a = a

abbrev pub uncast_op : Op → Op
uncast_op o = record o { act = without_cast o.act }

abbrev pub uncast_ops : List Op → List Op
uncast_ops ops = map uncast_op ops

abbrev pub uncast : CodeParts → CodeParts
uncast code = record code { ops = uncast_ops code.ops }
