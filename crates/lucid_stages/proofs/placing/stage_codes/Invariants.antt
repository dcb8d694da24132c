use Rattle.std.proofs.Common.{◌≡◌, map}
use Rattle.lucid_stages.specs.Placing.{stage_code}
use Rattle.lucid_stages.proofs.placing.stage_codes.Given as goal

abbrev pub invariant-loop-stage : goal.invariant-loop-stage
invariant-loop-stage l = l.codes.items ≡ map (stage_code l.ops) l.yielded
