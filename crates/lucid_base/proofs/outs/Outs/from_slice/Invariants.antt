use Rattle.std.specs.Prelude.{◌≡◌, take}
use Rattle.lucid_base.proofs.outs.Outs.from_slice.Given as goal

abbrev pub invariant-loop-out : goal.invariant-loop-out
invariant-loop-out l = l.outs ≡ take l.out-index l.sent
