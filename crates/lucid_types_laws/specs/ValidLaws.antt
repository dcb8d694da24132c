-- Laws of the typing rules.
use Rattle.lucid_core.specs.Parts.{CoreParts}
use Rattle.lucid_core.specs.Valid.{IsValid}
use Rattle.lucid_parse_tree.specs.declared.tree.Tree.{Tree}
use Rattle.lucid_types_spec.specs.Makes.{IsTyped}

-- The core of a tree that is typed is valid: it keeps every rule that lucid_core has.
abbrev pub TypedIsValid : Type 0
TypedIsValid = (tree : Tree) (core : CoreParts) → IsTyped tree core → IsValid core
