use Rattle.std.proofs.Common.{◌≡◌, ℕ, List, ◌+◌, ◌*◌, [], length}
use Rattle.lucid_core_run.specs.declared.task.Purpose.{Purpose}
use Rattle.lucid_core_run.specs.Interpret.{listed, ran}
use Rattle.lucid_core_run.proofs.recurse.+recurse.Given as goal

abbrev pub decreases-block : goal.decreases-block
decreases-block l = 5 * l.depth

abbrev pub decreases-statement : goal.decreases-statement
decreases-statement l = 5 * l.depth + 4

abbrev pub decreases-generate : goal.decreases-generate
decreases-generate l = 5 * l.depth + 3

abbrev pub decreases-generate_for_all : goal.decreases-generate_for_all
decreases-generate_for_all l = 5 * l.depth + 3

abbrev pub decreases-ticks : goal.decreases-ticks
decreases-ticks l = 5 * l.depth + 2

abbrev pub decreases-target : goal.decreases-target
decreases-target l = 5 * l.depth + 2

abbrev pub decreases-say : goal.decreases-say
decreases-say l = 5 * l.depth + 3

abbrev pub decreases-evaluate : goal.decreases-evaluate
decreases-evaluate l = 5 * l.depth + 1

abbrev pub decreases-parts : goal.decreases-parts
decreases-parts l = 5 * l.depth

abbrev pub decreases-touch : goal.decreases-touch
decreases-touch l = 5 * l.depth + 2

abbrev pub decreases-hash : goal.decreases-hash
decreases-hash l = 5 * l.depth + 3

abbrev pub decreases-begin_call : goal.decreases-begin_call
decreases-begin_call l = 5 * l.depth + 3

abbrev pub decreases-call : goal.decreases-call
decreases-call l = 5 * l.depth + 2

abbrev pub decreases-values : goal.decreases-values
decreases-values l = 5 * l.depth + 2

abbrev pub invariant-values-es : goal.invariant-values-es
invariant-values-es l = record {
  given : (purpose : Purpose) → listed l.values l.rest purpose l.machine ≡ listed [] l.es purpose l.fn.machine;
  start : l.machine.run.start ≡ l.fn.machine.run.start;
}

abbrev pub decreases-values-es : goal.decreases-values-es
decreases-values-es l = length l.rest

abbrev pub invariant-block-stmts : goal.invariant-block-stmts
invariant-block-stmts l = record {
  state : ran l.rest l.machine ≡ ran l.stmts l.fn.machine;
  start : l.machine.run.start ≡ l.fn.machine.run.start;
}

abbrev pub decreases-block-stmts : goal.decreases-block-stmts
decreases-block-stmts l = length l.rest
