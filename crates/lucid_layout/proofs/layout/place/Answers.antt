use Rattle.std.proofs.Common.{subst, sym, ap, ap₂, length, map, List, ◌≡◌, ◌∙◌, arith}
use Rattle.std.specs.List.{AllByRecursion}
use Rattle.lucid_code.specs.declared.op.Op.{Op}
use Rattle.lucid_code.specs.declared.node.Node.{Node}
use Rattle.lucid_stages.specs.declared.node.Work.{Work}
use Rattle.lucid_stages.specs.NodeWorks.{works, work_of}
use Rattle.lucid_stages.specs.Marks.{Within}
use Rattle.lucid_stages.proofs.NodeOrderLemmas.{ops_within, writes_within, no_more_works}
use Rattle.lucid_layout.proofs.layout.place.Goals as goal

pub fit-requires-clause-ops : goal.fit-requires-clause-ops
fit-requires-clause-ops c =
    let are : c.as_slice-2.result.now ≡ works c.args.code.now.ops =
    c.as_slice-2.ensures ∙ c.in_ok-works.ensures ∙ ap₂ (λ (ops : List Op) (nodes : List Node). map (work_of ops) nodes) c.ops.ensures.value (c.as_slice.ensures.value ∙ c.in_ok-nodes.ensures) in
    subst (AllByRecursion (λ (w : Work). Within (length c.args.code.now.ops) w.ops)) (sym are) (ops_within c.args.code.now.ops)

pub fit-requires-clause-writes : goal.fit-requires-clause-writes
fit-requires-clause-writes c =
    let are : c.as_slice-2.result.now ≡ works c.args.code.now.ops =
    c.as_slice-2.ensures ∙ c.in_ok-works.ensures ∙ ap₂ (λ (ops : List Op) (nodes : List Node). map (work_of ops) nodes) c.ops.ensures.value (c.as_slice.ensures.value ∙ c.in_ok-nodes.ensures) in
    subst (AllByRecursion (λ (w : Work). Within (length c.args.code.now.fields) w.writes)) (sym are) (writes_within c.args.code.now c.ops.ensures.valid)

pub fit-requires-clause-few : goal.fit-requires-clause-few
fit-requires-clause-few c =
    let are : c.as_slice-2.result.now ≡ works c.args.code.now.ops =
    c.as_slice-2.ensures ∙ c.in_ok-works.ensures ∙ ap₂ (λ (ops : List Op) (nodes : List Node). map (work_of ops) nodes) c.ops.ensures.value (c.as_slice.ensures.value ∙ c.in_ok-nodes.ensures) in
    omega (arith, c.in_ok-test_counts.ensures.ok.ops, no_more_works c.args.code.now.ops, ap length are)
