use Rattle.std.proofs.Common.{◌≡◌, [], ℕ, List, map, drop}
use Rattle.lucid_core.specs.Width.{first_of, first_return}
use Rattle.lucid_inline.proofs.widths.+first.Given as goal

-- The rest of the block decides.
abbrev pub invariant-first-loop-stmt : goal.invariant-first-loop-stmt
invariant-first-loop-stmt l = (locals : List ℕ) → first_of (map first_return (drop l.stmt-index l.stmts)) locals [] ≡ first_of (map first_return l.stmts) locals []
