-- How far a program was read.
use Rattle.std.specs.Prelude.{◌≡◌, ℕ, ◌+◌, List, ◌++◌, take}
use Rattle.lucid_parse_tree.specs.declared.tree.Decl.{Decl}
use Rattle.lucid_types_spec.specs.Declaration.{Definitions, start}
use Rattle.lucid_types_spec.specs.Found.{found}
use Rattle.lucid_types_laws.specs.Declaration.{declaration}

-- Any declarations after the first `count` follow the parts of these.
abbrev pub SoFar : List Decl → ℕ → Definitions → Type 0
SoFar decls count m = (rest : List Decl) → found declaration 1 start (take count decls ++ rest) ≡ found declaration (count + 1) m rest
