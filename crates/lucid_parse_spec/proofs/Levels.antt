-- The level of an infix operator lies from 1 to 8.
use Rattle.std.proofs.Common.{◌≡◌, ◌+◌, true, nat_le, refl}
use Rattle.lucid_parse_tree.specs.declared.tree.Infix.{Infix}
use Rattle.lucid_parse_tree.specs.declared.tree.Infix.TheVariants as infixes
use Rattle.lucid_parse_spec.specs.declared.operator.Next.{Next}
use Rattle.lucid_parse_spec.specs.declared.operator.Next.TheVariants as nexts
use Rattle.lucid_parse_spec.specs.Operators.{level}
use Rattle.lucid_parse_spec.specs.ReadExpression as read_e

pub level_lies : (op : Infix) → (nat_le 1 (level op) ≡ true) × (nat_le (level op + 1) 9 ≡ true)
level_lies infixes.OrOr = (refl, refl)
level_lies infixes.AndAnd = (refl, refl)
level_lies infixes.EqualEqual = (refl, refl)
level_lies infixes.NotEqual = (refl, refl)
level_lies infixes.Less = (refl, refl)
level_lies infixes.Greater = (refl, refl)
level_lies infixes.LessEqual = (refl, refl)
level_lies infixes.GreaterEqual = (refl, refl)
level_lies infixes.Or = (refl, refl)
level_lies infixes.Caret = (refl, refl)
level_lies infixes.And = (refl, refl)
level_lies infixes.Plus = (refl, refl)
level_lies infixes.Minus = (refl, refl)
level_lies infixes.SatAdd = (refl, refl)
level_lies infixes.SatSub = (refl, refl)

pub next_level_lies : (p : Next) → (nat_le 1 (read_e.next_level p) ≡ true) × (nat_le (read_e.next_level p + 1) 9 ≡ true)
next_level_lies (nexts.Infix op) = level_lies op
next_level_lies (nexts.Shift up n) = (refl, refl)
