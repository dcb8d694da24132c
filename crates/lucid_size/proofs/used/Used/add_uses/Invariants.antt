use Rattle.std.proofs.Common.{◌≡◌, drop}
use Rattle.lucid_size.specs.Used.{uses}
use Rattle.lucid_size.specs.Search.{Sees, with_all}
use Rattle.lucid_size.proofs.used.Used.add_uses.Given as goal

-- what is left adds to what is found what all steps add
abbrev pub invariant-loop-step : goal.invariant-loop-step
invariant-loop-step l = record {
  sees : Sees l.self.found.items l.self.seen;
  left : with_all l.self.found.items (uses l.width (drop l.step-index l.steps)) ≡ with_all l.fn.self.found.items (uses l.width l.steps);
}
