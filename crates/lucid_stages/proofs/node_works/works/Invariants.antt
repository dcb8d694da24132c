use Rattle.std.proofs.Common.{◌≡◌, ◌++◌, map, drop}
use Rattle.lucid_stages.specs.NodeWorks.{work_of}
use Rattle.lucid_stages.proofs.node_works.works.Given as goal

-- the rest gives, with the items so far, the result of the whole
abbrev pub invariant-loop-node : goal.invariant-loop-node
invariant-loop-node l = l.works ++ map (work_of l.ops) (drop l.node-index l.nodes) ≡ map (work_of l.ops) l.nodes
