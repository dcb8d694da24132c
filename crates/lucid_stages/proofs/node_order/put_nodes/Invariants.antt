use Rattle.std.proofs.Common.{◌≡◌, ◌++◌, drop}
use Rattle.std.specs.List.{enumerate_from}
use Rattle.lucid_code.specs.Nodes.{with_key, nodes_with_key}
use Rattle.lucid_stages.proofs.node_order.put_nodes.Given as goal

-- the rest gives, with the items so far, the result of the whole
abbrev pub invariant-loop-at : goal.invariant-loop-at
invariant-loop-at l =
    l.nodes.items ++ nodes_with_key (with_key l.key (enumerate_from l.at (drop l.at l.ops)))
    ≡ l.fn.nodes.items ++ nodes_with_key (with_key l.key (enumerate_from 0 l.ops))
