use Rattle.std.proofs.Common.{ℕ, List, ◌++◌, ◌+◌, ◌∙◌, ap, drop, sym}
use Rattle.std.specs.List.{enumerate_from, flat_map}
use Rattle.std.proofs.lemmas.List.{append-nil, append_assoc, drop_all, drop_more}
use Rattle.lucid_code.specs.declared.node.Node.{Node}
use Rattle.lucid_code.specs.declared.op.Op.{Op}
use Rattle.lucid_code.specs.Nodes.{nodes, nodes_with_key, with_key}
use Rattle.lucid_stages.proofs.node_order.nodes.Goals as goal

abbrev nodes_of : List Op → ℕ → List Node
nodes_of ops key = nodes_with_key (with_key key (enumerate_from 0 ops))

pub loop-key-preserved : goal.loop-key-preserved
loop-key-preserved c =
    let l = c.loop-key in
    let ops = c.ops-ops.result.now in
    let keys = c.as_slice-key-items.result.now in
    ap (λ ns. ns ++ flat_map (nodes_of ops) (drop (l.key-index + 1) keys)) c.in_ok-put_nodes.ensures
    ∙ append_assoc l.nodes.items _ _
    ∙ sym (ap (λ ks. l.nodes.items ++ flat_map (nodes_of ops) ks) (drop_more keys l.key-index 0 c.loop-key-test.true))
    ∙ l.invariant

pub returns : goal.returns
returns c =
    let l = c.loop-key in
    let ops = c.ops-ops.result.now in
    sym (append-nil l.nodes.items)
    ∙ sym (ap (λ ks. l.nodes.items ++ flat_map (nodes_of ops) ks) (drop_all l.key-index c.as_slice-key-items.result.now c.loop-key-test.false))
    ∙ l.invariant
    ∙ ap nodes c.ops-ops.ensures.value
