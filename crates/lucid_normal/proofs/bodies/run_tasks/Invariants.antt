use Rattle.std.proofs.Common.{◌≡◌}
use Rattle.lucid_normal_spec.specs.Translate.{body_code}
use Rattle.lucid_normal.specs.Bodies.{after_all, finished, walk}
use Rattle.lucid_normal.proofs.bodies.run_tasks.Given as goal

abbrev pub invariant-loop : goal.invariant-loop
invariant-loop l = after_all l.tasks (walk l.machine) ≡ finished (body_code l.stmts) (walk l.fn.machine)
