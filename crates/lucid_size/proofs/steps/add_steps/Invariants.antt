use Rattle.std.proofs.Common.{◌≡◌, ◌++◌, ◌-◌, drop, take}
use Rattle.std.specs.Prelude.{option_map}
use Rattle.lucid_size.specs.Parts.{steps_between}
use Rattle.lucid_size.specs.Steps.{steps_from}
use Rattle.lucid_size.proofs.steps.add_steps.Given as goal

-- the steps so far, and then those from here on, are all
abbrev pub invariant-loop-at : goal.invariant-loop-at
invariant-loop-at l =
    l.steps ++ steps_from l.text l.names (option_map (λ w. w.now) l.width) l.from l.more (take (l.end - l.at) (drop l.at l.tokens))
    ≡ l.fn.steps ++ steps_between l.text l.names (option_map (λ w. w.now) l.width) l.tokens l.first l.end
