-- What is left of the parts decides.
use Rattle.std.proofs.Common.{◌≡◌, Some, length}
use Rattle.lucid_types_laws.specs.Statement.{onto}
use Rattle.lucid_types_statements.specs.Assembly.{rest_of}
use Rattle.lucid_types_statements.proofs.assembly.all_before.Given as goal

abbrev pub invariant-parts : goal.invariant-parts
invariant-parts l = onto l.parts (Some (rest_of l.rest)) ≡ onto l.fn.parts (Some (rest_of l.fn.rest))

abbrev pub decreases-parts : goal.decreases-parts
decreases-parts l = length l.parts
