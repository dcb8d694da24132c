-- The law of the typing function: it computes exactly the derivations of the rules.
use Rattle.std.specs.Prelude.{◌≡◌, ◌↔◌, List, Option, Some}
use Rattle.lucid_core.specs.declared.body.Expr.{Expr}
use Rattle.lucid_parse_tree.specs.declared.tree.E.{E}
use Rattle.lucid_parse_tree.specs.declared.tree.S.{S}
use Rattle.lucid_parse_tree.specs.declared.tree.Tree.{Tree}
use Rattle.lucid_types_spec.specs.declared.body.Body.{Body}
use Rattle.lucid_types_spec.specs.declared.scope.ValueType.{ValueType}
use Rattle.lucid_types_spec.specs.Block.{Block, Numbered}
use Rattle.lucid_types_spec.specs.Found.{Computes, Decides}
use Rattle.lucid_types_spec.specs.Names.{Names}
use Rattle.lucid_types_spec.specs.Typed.{Typed}
use Rattle.lucid_types_laws.specs.Declaration.{declaration}
use Rattle.lucid_types_laws.specs.Reading.{core_of}
use Rattle.lucid_types_laws.specs.Statement.{body_of}

-- Expressions at a place that asks for a type.
abbrev pub ComputesExpressions : Type 0
ComputesExpressions = (s : Names) (t : ValueType) (x : E) (c : Expr) → (core_of x s t ≡ Some c) ↔ Typed s t x c

-- Blocks in a body with this answer.
abbrev pub ComputesBlocks : Type 0
ComputesBlocks = (a : Option ValueType) (s : Names) (m : Numbered) (xs : List S) (b : Body) (k : Numbered) →
    (body_of xs a s m ≡ Some (b, k)) ↔ Block a s m xs b k

-- Declarations after earlier definitions.
abbrev pub ComputesDeclarations : Type 0
ComputesDeclarations = Computes declaration

-- Programs: the result of the rules, or the first declaration that is refused, with its line and the reason.
abbrev pub DecidesPrograms : Type 0
DecidesPrograms = (tree : Tree) → Decides declaration tree
