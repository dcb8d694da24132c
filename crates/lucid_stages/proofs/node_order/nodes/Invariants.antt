use Rattle.std.proofs.Common.{◌≡◌, ◌++◌, drop}
use Rattle.std.specs.List.{enumerate_from, flat_map}
use Rattle.lucid_code.specs.Nodes as spec
use Rattle.lucid_code.specs.Nodes.{with_key, nodes_with_key}
use Rattle.lucid_stages.proofs.node_order.nodes.Given as goal

-- the rest gives, with the items so far, the result of the whole
abbrev pub invariant-loop-key : goal.invariant-loop-key
invariant-loop-key l =
    l.nodes.items ++ flat_map (λ key. nodes_with_key (with_key key (enumerate_from 0 l.ops))) (drop l.key-index l.key-items)
    ≡ spec.nodes l.ops
