-- What is left of the statements, or of the cases, decides; the names so far keep those of the block. Measures: four times the depth of
-- the tree, and a rank among the functions.
use Rattle.std.proofs.Common.{◌≡◌, ◌+◌, ◌*◌, drop, map}
use Rattle.lucid_types_laws.specs.Statement.{parts, taking}
use Rattle.lucid_types_scope.specs.Numbered.{numbered_of}
use Rattle.lucid_types_statements.specs.MatchArms.{arms_of, cases_taken, with_arms}
use Rattle.lucid_types_statements.specs.Kept.{Keeps}
use Rattle.lucid_types_statements.proofs.Assembled.{AreLeft}
use Rattle.lucid_types_statements.proofs.blocks.+block.Given as goal

abbrev pub decreases-statement : goal.decreases-statement
decreases-statement l = 4 * goal.size-statement l

abbrev pub decreases-choice : goal.decreases-choice
decreases-choice l = 4 * goal.size-choice l

abbrev pub decreases-second : goal.decreases-second
decreases-second l = 4 * goal.size-second l

abbrev pub decreases-statements : goal.decreases-statements
decreases-statements l = 4 * goal.size-statements l + 1

abbrev pub decreases-block : goal.decreases-block
decreases-block l = 4 * goal.size-block l + 2

abbrev pub decreases-arms : goal.decreases-arms
decreases-arms l = 4 * goal.size-arms l + 3

abbrev pub decreases-last_arm : goal.decreases-last_arm
decreases-last_arm l = 4 * goal.size-last_arm l + 3

abbrev pub invariant-statements-loop-x : goal.invariant-statements-loop-x
invariant-statements-loop-x l = record {
  left : AreLeft l.parts (parts (map taking (drop l.x-index l.xs)) l.answer l.scope (numbered_of l.numbering))
      (parts (map taking l.xs) l.answer l.fn.scope (numbered_of l.fn.numbering));
  kept : Keeps l.fn.scope l.scope;
}

abbrev pub invariant-arms-loop-case : goal.invariant-arms-loop-case
invariant-arms-loop-case l = record {
  left : with_arms l.arms (arms_of (cases_taken (drop l.case-index l.cases)) l.width l.answer l.scope (numbered_of l.numbering))
      ≡ arms_of (cases_taken l.cases) l.width l.answer l.fn.scope (numbered_of l.fn.numbering);
  kept : l.scope ≡ l.fn.scope;
}
