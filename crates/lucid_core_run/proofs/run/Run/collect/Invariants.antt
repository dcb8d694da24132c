use Rattle.std.proofs.Common.{◌≡◌, map, take}
use Rattle.lucid_core_run.specs.Running.{out_of}
use Rattle.lucid_core_run.proofs.run.Run.collect.Given as goal

abbrev pub invariant-loop-draft : goal.invariant-loop-draft
invariant-loop-draft l = l.outs ≡ map out_of (take l.draft-index l.draft-items)
