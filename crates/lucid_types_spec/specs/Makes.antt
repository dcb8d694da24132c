-- The programs that the rules accept, and the meaning of a refusal of any other.
use Rattle.std.specs.Prelude.{◌≡◌, ℕ, ◌+◌, List, [], ◌∷◌, ◌++◌, Option, None, Some, length}
use Rattle.lucid_core.specs.Parts.{CoreParts}
use Rattle.lucid_parse_tree.specs.declared.tree.Decl.{Decl}
use Rattle.lucid_parse_tree.specs.declared.tree.Tree.{Tree}
use Rattle.lucid_types_spec.specs.declared.limit.What.{What}
use Rattle.lucid_types_spec.specs.Declaration.{Declared, Definitions, parts_of, start}
use Rattle.lucid_types_spec.specs.Limits.{passed}

-- Each of these declarations in order has a rule and passes no limit; the first has this number.
pub data Makes : ℕ → Definitions → List Decl → Definitions → Type 0 where
  done : (number : ℕ) (m : Definitions) → Makes number m [] m
  one_more : (number : ℕ) (m l k : Definitions) (x : Decl) (xs : List Decl) →
      Declared number x.line m x.kind l → passed x.kind (parts_of l) ≡ None → Makes (number + 1) l xs k → Makes number m (x ∷ xs) k

-- The tree is typed, with this core.
abbrev pub IsTyped : Tree → CoreParts → Type 0
IsTyped tree core = (m : Definitions) × Makes 1 start tree.decls m × (parts_of m ≡ core)

-- The reason why a declaration is refused after earlier definitions: it has no rule; or it has one, and the limit that it exceeds first
-- is this.
pub data Because : ℕ → Definitions → Decl → Option What → Type 0 where
  no_rule : (number : ℕ) (m : Definitions) (x : Decl) → ((l : Definitions) → Declared number x.line m x.kind l → ⊥) → Because number m x None
  limit : (number : ℕ) (m l : Definitions) (x : Decl) (w : What) → Declared number x.line m x.kind l → passed x.kind (parts_of l) ≡ Some w →
      Because number m x (Some w)

-- Declaration `number` of the tree, from 1, which begins on this line, is the first that is refused, for this reason.
pub record IsRefused (tree : Tree) (number line : ℕ) (reason : Option What) : Type 0 where
  pub front : List Decl
  pub bad : Decl
  pub back : List Decl
  pub before : Definitions
  pub splits : tree.decls ≡ front ++ bad ∷ back
  pub counted : number ≡ length front + 1
  pub at : line ≡ bad.line
  pub accepted : Makes 1 start front before
  pub because : Because number before bad reason
