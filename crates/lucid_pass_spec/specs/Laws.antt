-- The laws of the four passes.
use Rattle.std.specs.Prelude.{IsTrue}
use Rattle.lucid_code.specs.Nodes.{nodes_follow_writes}
use Rattle.lucid_code.specs.Parts.{CodeParts}
use Rattle.lucid_code.specs.Valid.{IsValid}
use Rattle.lucid_pass_spec.specs.Replace.{MayReplace}

-- The result on valid code may replace the code.
abbrev pub Replaces : (CodeParts → CodeParts) → Type 0
Replaces makes = (code : CodeParts) → IsValid code → MayReplace code (makes code)

-- If each node that writes a field precedes each other node that reads it, and none reads a field of its own, this holds for the result
-- too.
abbrev pub KeepsNodes : (CodeParts → CodeParts) → Type 0
KeepsNodes makes = (code : CodeParts) → IsValid code → IsTrue (nodes_follow_writes code.ops) → IsTrue (nodes_follow_writes (makes code).ops)
