-- The rules of a memop's body, before its shape. An operand is asked for the memop's width, in the condition too.
use Rattle.std.specs.Prelude.{◌≡◌, ℕ, List, [], ◌∷◌, Some}
use Rattle.lucid_base.specs.declared.ops.CmpOp.{CmpOp}
use Rattle.lucid_core.specs.declared.body.Expr.{Expr}
use Rattle.lucid_core.specs.declared.body.Expr.TheVariants as expr
use Rattle.lucid_core.specs.declared.body.Stmt.{Stmt}
use Rattle.lucid_core.specs.declared.body.Stmt.TheVariants as core
use Rattle.lucid_parse_tree.specs.declared.tree.E.{E}
use Rattle.lucid_parse_tree.specs.declared.tree.E.TheVariants as e
use Rattle.lucid_parse_tree.specs.declared.tree.Infix.{Infix}
use Rattle.lucid_parse_tree.specs.declared.tree.No.TheVariants as no
use Rattle.lucid_parse_tree.specs.declared.tree.S.{S}
use Rattle.lucid_parse_tree.specs.declared.tree.S.TheVariants as statement
use Rattle.lucid_types_spec.specs.declared.scope.Entry.TheVariants as entry
use Rattle.lucid_types_spec.specs.declared.scope.ValueType.TheVariants.{Int}
use Rattle.lucid_types_spec.specs.Block.{if_of}
use Rattle.lucid_types_spec.specs.Names.{Names, called}
use Rattle.lucid_types_spec.specs.Operators.{comparison}
use Rattle.lucid_types_spec.specs.Typed.{Typed}

-- The stored value is local 0 and the other local 1; the second parameter hides a first of its name.
abbrev pub memop_names : ℕ → List ℕ → List ℕ → Names → Names
memop_names w first second s = called second (entry.Local 1 (Int w)) ∷ called first (entry.Local 0 (Int w)) ∷ s

-- The condition: a comparison.
pub data Compared (s : Names) (w : ℕ) : E → Expr → Type 0 where
  paren : (x : E) (c : Expr) → Compared s w x c → Compared s w (e.Paren x) c
  compare : (sign : Infix) (op : CmpOp) (x y : E) (c d : Expr) → comparison sign ≡ Some op →
      Typed s (Int w) x c → Typed s (Int w) y d → Compared s w (e.Infix sign x y) (expr.Cmp op c d)

-- The block is one return.
pub data Returned (s : Names) (w : ℕ) : List S → List Stmt → Type 0 where
  returned : (x : E) (c : Expr) → Typed s (Int w) x c → Returned s w (statement.Return (Some x) ∷ []) (core.Return (Some c) ∷ [])

-- One return, or one if with one return in each branch, where the second may follow the if.
pub data MemopBody (s : Names) (w : ℕ) : List S → List Stmt → Type 0 where
  plain : (ys : List S) (cs : List Stmt) → Returned s w ys cs → MemopBody s w ys cs
  choice : (x : E) (ys zs : List S) (c : Expr) (cs ds : List Stmt) → Compared s w x c → Returned s w ys cs → Returned s w zs ds →
      MemopBody s w (if_of x ys (no.Block zs) ∷ []) (core.If c cs ds ∷ [])
  guard : (x : E) (ys zs : List S) (c : Expr) (cs ds : List Stmt) → Compared s w x c → Returned s w ys cs → Returned s w zs ds →
      MemopBody s w (if_of x ys no.Absent ∷ zs) (core.If c cs ds ∷ [])
