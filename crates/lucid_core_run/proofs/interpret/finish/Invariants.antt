use Rattle.std.proofs.Common.{◌≡◌}
use Rattle.lucid_core_run.specs.Interpret.{after_all}
use Rattle.lucid_core_run.proofs.interpret.finish.Given as goal

abbrev pub invariant-loop : goal.invariant-loop
invariant-loop l = record {
  leads : after_all l.tasks l.machine ≡ after_all l.fn.tasks l.fn.machine;
  start : l.machine.run.start ≡ l.fn.machine.run.start;
}
