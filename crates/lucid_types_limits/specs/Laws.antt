-- The limit that a declaration exceeds depends on its own additions, and on the outs of the functions before.
use Rattle.std.specs.Prelude.{◌≡◌, ℕ, ◌+◌, [], ◌∷◌, ◌++◌, Option, None, Some, length, slice_get, slice_set}
use Rattle.lucid_base.specs.declared.array.ArrayDef.{ArrayDef}
use Rattle.lucid_core.specs.declared.defs.EventDef.{EventDef}
use Rattle.lucid_core.specs.declared.defs.FunDef.{FunDef}
use Rattle.lucid_core.specs.declared.defs.HandlerDef.{HandlerDef}
use Rattle.lucid_core.specs.OutCount.{funs_outs}
use Rattle.lucid_core.specs.Parts.{CoreParts}
use Rattle.lucid_parse_tree.specs.declared.tree.DeclKind.{DeclKind}
use Rattle.lucid_parse_tree.specs.declared.tree.Tree.{Tree}
use Rattle.lucid_types_spec.specs.Limits.{body_of, passed}
use Rattle.lucid_types_spec.specs.Makes.{IsTyped}
use Rattle.lucid_types_limits.specs.NewPart.{array_passes, event_passes, fun_passes, handler_passes}

-- The limit that any declaration exceeds with these additions to earlier definitions. Memops and texts have no limit.
pub record NewAlone (m : CoreParts) : Type 0 where
  pub nothing : (x : DeclKind) → body_of x ≡ [] → passed x m ≡ None
  pub array : (x : DeclKind) (a : ArrayDef) → body_of x ≡ [] → passed x (record m { arrays = m.arrays ++ a ∷ [] }) ≡ array_passes (length m.arrays + 1)
  pub event : (x : DeclKind) (e : EventDef) → body_of x ≡ [] → passed x (record m { events = m.events ++ e ∷ [] }) ≡ event_passes e
  -- one that names an event, which has it as its handler from then on
  pub handler : (x : DeclKind) (h : HandlerDef) (i : ℕ) (e : EventDef) (number : Option ℕ) → slice_get m.events i ≡ Some e →
      passed x (record m { events = slice_set m.events i (record e { handler = number }); handlers = m.handlers ++ h ∷ [] })
      ≡ handler_passes (funs_outs [] m.funs) h (body_of x)
  pub fun : (x : DeclKind) (f : FunDef) → passed x (record m { funs = m.funs ++ f ∷ [] }) ≡ fun_passes (funs_outs [] m.funs) f (body_of x)

-- The earlier definitions are typed. So no limit was exceeded, and handlers call earlier functions, whose outs are not changed by others.
abbrev pub OnlyTheNew : Type 0
OnlyTheNew = (tree : Tree) (m : CoreParts) → IsTyped tree m → NewAlone m
