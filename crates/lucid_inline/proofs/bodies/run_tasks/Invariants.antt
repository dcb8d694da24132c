use Rattle.std.proofs.Common.{◌≡◌}
use Rattle.lucid_inline.specs.Bodies.{after_all, ran}
use Rattle.lucid_inline.proofs.bodies.run_tasks.Given as goal

abbrev pub invariant-loop : goal.invariant-loop
invariant-loop l = after_all l.tasks l.machine ≡ ran l.body l.fn.machine
