-- The replacement of a field that is moved from an operand, and the operations at a point of the change.
use Rattle.std.specs.Prelude.{ℕ, List, ◌++◌, drop, length}
use Rattle.lucid_code.specs.declared.op.Act.{Act}
use Rattle.lucid_code.specs.declared.op.Op.{Op}
use Rattle.lucid_code.specs.Uses.{with_operands}
use Rattle.lucid_pass_spec.specs.Looks.{Putting, copied, constant, looked, settled}
use Rattle.lucid_pass_rewrites.specs.declared.looks.Looks.{Looks}
use Rattle.lucid_pass_rewrites.specs.declared.looks.Looks.TheVariants.{Copied, Constant}

abbrev pub put_of : Looks → List ℕ → Putting
put_of Copied = copied
put_of Constant = constant

abbrev pub standing : List Op → List Op → List Op
standing done ops = done ++ drop (length done) ops

abbrev pub finish_of : Looks → Act → Act
finish_of Copied a = a
finish_of Constant a = settled a

abbrev pub change_of : Looks → List ℕ → List Op → Op → Op
change_of looks widths ops o = record o { act = finish_of looks (with_operands (looked (put_of looks widths) ops o.guard) o.act) }
