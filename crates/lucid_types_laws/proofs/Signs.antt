-- A sign is of arithmetic, a comparison or of logic, and of one of them alone.
use Rattle.std.proofs.Common.{◌≡◌, None, Some, refl}
use Rattle.lucid_base.specs.declared.ops.BinOp.{BinOp}
use Rattle.lucid_base.specs.declared.ops.CmpOp.{CmpOp}
use Rattle.lucid_parse_tree.specs.declared.tree.Infix.{Infix}
use Rattle.lucid_parse_tree.specs.declared.tree.Infix.TheVariants as sign
use Rattle.lucid_types_spec.specs.Operators.{arithmetic, comparison, logic}

pub compares : (i : Infix) (op : CmpOp) → comparison i ≡ Some op → arithmetic i ≡ None
compares sign.OrOr op h = cc
compares sign.AndAnd op h = cc
compares sign.EqualEqual op h = refl
compares sign.NotEqual op h = refl
compares sign.Less op h = refl
compares sign.Greater op h = refl
compares sign.LessEqual op h = refl
compares sign.GreaterEqual op h = refl
compares sign.Or op h = cc
compares sign.Caret op h = cc
compares sign.And op h = cc
compares sign.Plus op h = cc
compares sign.Minus op h = cc
compares sign.SatAdd op h = cc
compares sign.SatSub op h = cc

pub joins : (i : Infix) (op : BinOp) → logic i ≡ Some op → arithmetic i ≡ None
joins sign.OrOr op h = refl
joins sign.AndAnd op h = refl
joins sign.EqualEqual op h = cc
joins sign.NotEqual op h = cc
joins sign.Less op h = cc
joins sign.Greater op h = cc
joins sign.LessEqual op h = cc
joins sign.GreaterEqual op h = cc
joins sign.Or op h = cc
joins sign.Caret op h = cc
joins sign.And op h = cc
joins sign.Plus op h = cc
joins sign.Minus op h = cc
joins sign.SatAdd op h = cc
joins sign.SatSub op h = cc

pub joins_alone : (i : Infix) (op : BinOp) → logic i ≡ Some op → comparison i ≡ None
joins_alone sign.OrOr op h = refl
joins_alone sign.AndAnd op h = refl
joins_alone sign.EqualEqual op h = cc
joins_alone sign.NotEqual op h = cc
joins_alone sign.Less op h = cc
joins_alone sign.Greater op h = cc
joins_alone sign.LessEqual op h = cc
joins_alone sign.GreaterEqual op h = cc
joins_alone sign.Or op h = cc
joins_alone sign.Caret op h = cc
joins_alone sign.And op h = cc
joins_alone sign.Plus op h = cc
joins_alone sign.Minus op h = cc
joins_alone sign.SatAdd op h = cc
joins_alone sign.SatSub op h = cc
