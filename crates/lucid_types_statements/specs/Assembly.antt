-- Bodies that are put together from the back.
use Rattle.std.specs.Prelude.{◌≡◌, ℕ, List, [], ◌∷◌, ◌++◌, Option, Some, Result, Ok, Err, reverse}
use Rattle.lucid_core.specs.declared.body.Stmt.TheVariants.{If}
use Rattle.lucid_core.specs.Endings.{of_either}
use Rattle.lucid_types_spec.specs.declared.body.Body.{Body}
use Rattle.lucid_types_spec.specs.Block.{is_number, one}
use Rattle.lucid_types_laws.specs.declared.part.Part.{Part}
use Rattle.lucid_types_laws.specs.Statement.{onto}
use Rattle.lucid_types_expressions.specs.declared.fault.Fault.{Fault}
use Rattle.lucid_types_expressions.specs.Gives.{Fails}
use Rattle.lucid_types_statements.specs.declared.arms.Arm.{Arm}
use Rattle.lucid_types_statements.specs.declared.assembly.Rest.{Rest}

-- The first parts have the effect of the others before all that follows.
abbrev pub HaveTheEffect : List Part → List Part → Type 0
HaveTheEffect ps qs = (more : List Part) (rest : Option Body) → onto (ps ++ more) rest ≡ onto (qs ++ more) rest

abbrev pub rest_of : Rest → Body
rest_of r = record { steps = reverse r.steps.items; ending = r.ending }

abbrev pub GivesRest : Result Rest Fault → Option Body → Type 0
GivesRest (Ok r) o = o ≡ Some (rest_of r)
GivesRest (Err f) o = Fails f o

-- A choice for each arm on this local of this width, whose second branch is all that follows.
abbrev pub chained : ℕ → ℕ → List Arm → Body → Body
chained i w [] last = last
chained i w (x ∷ xs) last =
    one (If (is_number i w x.number) x.body.steps (chained i w xs last).steps) (of_either x.body.ending (chained i w xs last).ending)
