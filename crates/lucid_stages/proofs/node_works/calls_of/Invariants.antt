use Rattle.std.proofs.Common.{ℕ, ◌≡◌, ◌++◌, Some, map, drop}
use Rattle.std.specs.List.{filter, enumerate_from}
use Rattle.lucid_code.specs.declared.op.Op.{Op}
use Rattle.lucid_code.specs.Uses.{is_same, called_by}
use Rattle.lucid_stages.specs.NodeWorks.{calls_of}
use Rattle.lucid_stages.proofs.node_works.calls_of.Given as goal

-- the rest gives, with the items so far, the result of the whole
abbrev pub invariant-loop-at : goal.invariant-loop-at
invariant-loop-at l =
    l.calls ++ map (λ (o : ℕ × Op). o.0) (filter (λ (o : ℕ × Op). is_same (called_by o.1.act) (Some l.array)) (enumerate_from l.at (drop l.at l.ops)))
    ≡ calls_of l.ops l.array
