-- The law of the grammar: a declaration is read exactly as it is spelled.
use Rattle.std.specs.Prelude.{◌≡◌, ◌<◌, true, length, Some}
use Rattle.lucid_parse_tree.specs.declared.tree.DeclKind.{DeclKind}
use Rattle.lucid_parse_spec.specs.ReadDeclaration.{declaration}
use Rattle.lucid_parse_spec.specs.Spelling as spell
use Rattle.lucid_parse_spec.specs.Spelling.{Text, declaration_built}

pub record ReadAsSpelled : Type 0 where
  -- a declaration that is read is built by the grammar, and its spelling precedes the rest
  pub sound : (ts : Text) (x : DeclKind) (rest : Text) → declaration ts ≡ Some (x, rest) → (ts ≡ spell.declaration x rest) × (declaration_built x ≡ true)
  -- a declaration that is built by the grammar and spelled is read, before any rest
  pub complete : (x : DeclKind) (rest : Text) → declaration_built x ≡ true → declaration (spell.declaration x rest) ≡ Some (x, rest)
  -- it has a token at least
  pub long : (x : DeclKind) (rest : Text) → length rest < length (spell.declaration x rest)
