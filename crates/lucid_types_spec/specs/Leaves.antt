-- The width of a place that asks for none.
use Rattle.std.specs.Prelude.{◌≡◌, ℕ, List, Some, Bool}
use Rattle.std.specs.List.{AllByRecursion}
use Rattle.lucid_base.specs.declared.ops.BinOp.{BinOp}
use Rattle.lucid_parse_tree.specs.declared.tree.E.{E}
use Rattle.lucid_parse_tree.specs.declared.tree.E.TheVariants as e
use Rattle.lucid_parse_tree.specs.declared.tree.Infix.{Infix}
use Rattle.lucid_parse_tree.specs.declared.tree.Pre.TheVariants.{Minus, Tilde}
use Rattle.lucid_types_spec.specs.Operators.{arithmetic}
use Rattle.lucid_types_spec.specs.Types.{IsWidth}

-- Each leaf is a number. Leaves are found through parentheses, `-`, `~`, arithmetic and the left side of a shift.
pub data OnlyNumbers : E → Type 0 where
  number : (n : ℕ) → OnlyNumbers (e.Number n)
  paren : (x : E) → OnlyNumbers x → OnlyNumbers (e.Paren x)
  minus : (x : E) → OnlyNumbers x → OnlyNumbers (e.Prefix Minus x)
  tilde : (x : E) → OnlyNumbers x → OnlyNumbers (e.Prefix Tilde x)
  shift : (x : E) (left : Bool) (k : ℕ) → OnlyNumbers x → OnlyNumbers (e.Shift x left k)
  sum : (sign : Infix) (op : BinOp) (x y : E) → arithmetic sign ≡ Some op → OnlyNumbers x → OnlyNumbers y → OnlyNumbers (e.Infix sign x y)

-- A free place, which these expressions share, has the width of its leaves that are no numbers, and 32 if there are none. The rules of
-- expressions require that all such leaves have that width, so the first of them decides it.
pub data FreeWidth : List E → ℕ → Type 0 where
  of_leaves : (xs : List E) (w : ℕ) → IsWidth w → (AllByRecursion OnlyNumbers xs → ⊥) → FreeWidth xs w
  of_numbers : (xs : List E) → AllByRecursion OnlyNumbers xs → FreeWidth xs 32
