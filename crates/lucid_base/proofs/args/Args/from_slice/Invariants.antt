use Rattle.std.specs.Prelude.{◌≡◌, take}
use Rattle.lucid_base.proofs.args.Args.from_slice.Given as goal

abbrev pub invariant-loop-number : goal.invariant-loop-number
invariant-loop-number l = l.args ≡ take l.number-index l.numbers
