-- The width of a free place, found: that of the first leaf, from the left, that is no number.
use Rattle.std.specs.Prelude.{ℕ, List, Option, None, Some}
use Rattle.lucid_base.specs.declared.ops.BinOp.{BinOp}
use Rattle.lucid_parse_tree.specs.declared.tree.Pre.{Pre}
use Rattle.lucid_parse_tree.specs.declared.tree.Pre.TheVariants.{Not}
use Rattle.lucid_types_spec.specs.declared.scope.Entry.{Entry}
use Rattle.lucid_types_spec.specs.declared.scope.Entry.TheVariants as entry
use Rattle.lucid_types_spec.specs.declared.scope.ValueType.{ValueType}
use Rattle.lucid_types_spec.specs.declared.scope.ValueType.TheVariants.{Int}
use Rattle.lucid_types_spec.specs.declared.scope.ValueType.TheVariants as vt
use Rattle.lucid_types_spec.specs.Names.{Names, seen}
use Rattle.lucid_types_laws.specs.Partial.{first_some}

-- None where every leaf is a number. A leaf that is no int has no width either, and no rule.
abbrev pub Lead : Type 0
Lead = Names → Option ℕ

abbrev pub int_width : ValueType → Option ℕ
int_width (Int w) = Some w
int_width vt.Bool = None

-- The width of a name's value, or of that of its call.
abbrev pub value_width : Option Entry → Option ℕ
value_width (Some (entry.Constant b)) = Some b.width
value_width (Some (entry.Local i t)) = int_width t
value_width (Some (entry.Fun k ps (Some t))) = int_width t
value_width _ = None

-- Of an array's cells.
abbrev pub cell_width : Option Entry → Option ℕ
cell_width (Some (entry.Array array w)) = Some w
cell_width _ = None

abbrev pub named_lead : List ℕ → Lead
named_lead n s = value_width (seen n s)

abbrev pub array_lead : List ℕ → Lead
array_lead n s = cell_width (seen n s)

abbrev pub either_lead : Lead → Lead → Lead
either_lead f g s = first_some (f s) (g s)

abbrev pub prefix_lead : Pre → Lead → Lead
prefix_lead Not f s = None
prefix_lead _ f s = f s

abbrev pub infix_lead : Option BinOp → Lead → Lead → Lead
infix_lead None f g s = None
infix_lead (Some op) f g s = either_lead f g s

abbrev pub or_32 : Option ℕ → ℕ
or_32 None = 32
or_32 (Some w) = w
