-- The operators between two operands, and the core of each.
use Rattle.std.specs.Prelude.{Option, None, Some}
use Rattle.lucid_base.specs.declared.ops.BinOp.{BinOp}
use Rattle.lucid_base.specs.declared.ops.BinOp.TheVariants as bin
use Rattle.lucid_base.specs.declared.ops.CmpOp.{CmpOp}
use Rattle.lucid_base.specs.declared.ops.CmpOp.TheVariants as cmp
use Rattle.lucid_parse_tree.specs.declared.tree.Infix.{Infix}
use Rattle.lucid_parse_tree.specs.declared.tree.Infix.TheVariants as sign

-- Of ints, which give an int.
abbrev pub arithmetic : Infix → Option BinOp
arithmetic sign.Plus = Some bin.Add
arithmetic sign.Minus = Some bin.Sub
arithmetic sign.And = Some bin.And
arithmetic sign.Or = Some bin.Or
arithmetic sign.Caret = Some bin.Xor
arithmetic sign.SatAdd = Some bin.SatAdd
arithmetic sign.SatSub = Some bin.SatSub
arithmetic _ = None

-- Of ints, which give a bool.
abbrev pub comparison : Infix → Option CmpOp
comparison sign.EqualEqual = Some cmp.Eq
comparison sign.NotEqual = Some cmp.Ne
comparison sign.Less = Some cmp.Lt
comparison sign.Greater = Some cmp.Gt
comparison sign.LessEqual = Some cmp.Le
comparison sign.GreaterEqual = Some cmp.Ge
comparison _ = None

-- Of bools, which give a bool.
abbrev pub logic : Infix → Option BinOp
logic sign.AndAnd = Some bin.And
logic sign.OrOr = Some bin.Or
logic _ = None
