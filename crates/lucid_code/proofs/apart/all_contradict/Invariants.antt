use Rattle.std.proofs.Common.{◌≡◌, drop}
use Rattle.lucid_code.specs.Shared.{all_contradict}
use Rattle.lucid_code.proofs.apart.all_contradict.Given as goal

-- the rest decides the whole
abbrev pub invariant-loop-place : goal.invariant-loop-place
invariant-loop-place l = all_contradict l.guard l.ops (drop l.place-index l.places) ≡ all_contradict l.guard l.ops l.places
