-- The position of a part of a body.
use Rattle.std.specs.Prelude.{ℕ, List, ◌++◌, Bool}
use Rattle.lucid_core.specs.Scope.{Scope}

-- The names that the part may use, the locals that are assigned there, and whether it is in a flat program.
pub record Place : Type 0 where
  pub scope : Scope
  pub known : List ℕ
  pub flat : Bool

-- Behind an assignment of these.
abbrev pub behind : Place → List ℕ → Place
behind p locals = record p { known = p.known ++ locals }
