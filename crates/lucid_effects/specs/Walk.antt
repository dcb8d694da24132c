-- Branches in a walk. Only contracts inside this crate cite this page.
use Rattle.std.specs.Prelude.{List, Option, None, Some}
use Rattle.std.specs.Option.{option_map}
use Rattle.lucid_core.specs.declared.body.Expr.{Expr}
use Rattle.lucid_core.specs.declared.body.Stmt.{Stmt}
use Rattle.lucid_constraints.specs.declared.pair.Atom.{Atom}
use Rattle.lucid_constraints.specs.Same.{same_atom, join_all}
use Rattle.lucid_effects_spec.specs.Evaluation.{optional}
use Rattle.lucid_effects_spec.specs.Schemes.{Advance, Walked, body_found, expr_found, finds}

-- An operand that may be left out.
abbrev pub asked_found : Option Expr → Advance
asked_found x = optional finds (option_map expr_found x)

-- The condition of an `if` and its first branch.
abbrev pub first : Expr → List Stmt → Advance
first x ss = λ fs w. body_found ss fs (expr_found x fs w)

-- They, and then back to where the branches begin.
abbrev pub back_from : Expr → List Stmt → Advance
back_from x ss = λ fs w. record (first x ss fs w) { ends = (expr_found x fs w).ends }

-- The ends of first branches, with those of one more that is in a second branch.
abbrev pub with_more : Option (List Atom) → List Atom → List Atom
with_more None more = more
with_more (Some ends) more = join_all same_atom ends more

-- The places after the branches, which are at the ends of the first ones or at these.
abbrev pub behind : Option (List Atom) → List Atom → List Atom
behind None ends = ends
behind (Some firsts) ends = join_all same_atom firsts ends

-- The walk that is left, and then the ends of the first branches that were left behind.
abbrev pub closed : Option (List Atom) → Walked → Walked
closed firsts w = record w { ends = behind firsts w.ends }
