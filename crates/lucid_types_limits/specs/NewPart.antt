-- The limits that a new part of a program can pass behind parts that pass none, in the order in which they are tried.
use Rattle.std.specs.Prelude.{◌≡◌, ℕ, List, [], ◌∷◌, Option, Bool, length, nat_le}
use Rattle.std.specs.List.{list_all}
use Rattle.lucid_core.specs.declared.body.Stmt.{Stmt}
use Rattle.lucid_core.specs.declared.defs.EventDef.{EventDef}
use Rattle.lucid_core.specs.declared.defs.FunDef.{FunDef}
use Rattle.lucid_core.specs.declared.defs.HandlerDef.{HandlerDef}
use Rattle.lucid_core.specs.OutCount.{body_outs, funs_outs}
use Rattle.lucid_core.specs.Few.{arguments_are_few}
use Rattle.lucid_parse_tree.specs.declared.tree.S.{S}
use Rattle.lucid_types_spec.specs.declared.limit.What.{What}
use Rattle.lucid_types_spec.specs.declared.limit.What.TheVariants as what
use Rattle.lucid_types_spec.specs.Limits.{cases_are_few, first_passed}
use Rattle.lucid_types_limits.specs.declared.limits.Limits.{Limits}
use Rattle.lucid_types_limits.specs.declared.tally.Tally.{Tally}

-- It has the outs of these functions.
abbrev pub Knows : List FunDef → Limits → Type 0
Knows funs limits = limits.outs.items ≡ funs_outs [] funs

-- The last of this many arrays.
abbrev pub array_passes : ℕ → Option What
array_passes arrays = first_passed ((what.Arrays, nat_le arrays 64) ∷ [])

abbrev pub event_passes : EventDef → Option What
event_passes e = first_passed ((what.ValueParameters, nat_le (length e.params) 8) ∷ [])

-- A body of the tree with its core, given the outs of the functions before it.
abbrev pub body_limits : List ℕ → List Stmt → List S → List (What × Bool)
body_limits outs core body =
    (what.Arguments, arguments_are_few core)
    ∷ (what.Outs, nat_le (body_outs core outs) 8)
    ∷ (what.Cases, list_all cases_are_few body)
    ∷ []

-- The same, from the tally of the core.
abbrev pub tally_limits : Tally → List S → List (What × Bool)
tally_limits found body = (what.Arguments, found.few) ∷ (what.Outs, nat_le found.outs 8) ∷ (what.Cases, list_all cases_are_few body) ∷ []

abbrev pub handler_passes : List ℕ → HandlerDef → List S → Option What
handler_passes outs h body = first_passed (body_limits outs h.body body)

abbrev pub fun_passes : List ℕ → FunDef → List S → Option What
fun_passes outs f body =
    first_passed ((what.ArrayParameters, nat_le (length f.arrays) 8) ∷ (what.ValueParameters, nat_le f.params 8) ∷ body_limits outs f.body body)
