-- The rules of a memop's body as a function.
use Rattle.std.specs.Prelude.{ℕ, List, [], ◌∷◌, Option, None, Some}
use Rattle.lucid_core.specs.declared.body.Stmt.{Stmt}
use Rattle.lucid_core.specs.declared.body.Stmt.TheVariants as core
use Rattle.lucid_core.specs.Typing.{◌>>=◌}
use Rattle.lucid_parse_tree.specs.declared.tree.C.{C, out-C}
use Rattle.lucid_parse_tree.specs.declared.tree.No.{No, out-No}
use Rattle.lucid_parse_tree.specs.declared.tree.No.TheOpen.{No-F, S-F, C-F}
use Rattle.lucid_parse_tree.specs.declared.tree.S.{S, out-S}
use Rattle.lucid_types_spec.specs.declared.scope.ValueType.TheVariants.{Int}
use Rattle.lucid_types_spec.specs.Names.{Names}
use Rattle.lucid_types_laws.specs.Reading.{core_of, reading}

abbrev pub return_form : ℕ → Names → S-F No S C → Option (List Stmt)
return_form w s (S-F.Return (Some x)) = do
  c ← core_of x s (Int w)
  Some (core.Return (Some c) ∷ [])
return_form w s _ = None

-- A block that is one return.
abbrev pub one_return : ℕ → Names → List S → Option (List Stmt)
one_return w s (y ∷ []) = return_form w s (out-S y)
one_return w s _ = None

-- The second branch: that of the if, or the statements after it.
abbrev pub second_form : ℕ → Names → No-F No S C → List S → Option (List Stmt)
second_form w s No-F.Absent zs = one_return w s zs
second_form w s (No-F.Block ys) [] = one_return w s ys
second_form w s _ _ = None

abbrev pub choice_form : ℕ → Names → C-F No S C → List S → Option (List Stmt)
choice_form w s k zs = do
  c ← (reading k.test).condition s w
  cs ← one_return w s k.yes
  ds ← second_form w s (out-No k.no) zs
  Some (core.If c cs ds ∷ [])

abbrev pub memop_form : ℕ → Names → S → S-F No S C → List S → Option (List Stmt)
memop_form w s y (S-F.«S::Cond» k) zs = choice_form w s (out-C k) zs
memop_form w s y _ zs = one_return w s (y ∷ zs)

-- The core of the body of a memop of this width.
abbrev pub memop_body : ℕ → Names → List S → Option (List Stmt)
memop_body w s [] = None
memop_body w s (y ∷ zs) = memop_form w s y (out-S y) zs
