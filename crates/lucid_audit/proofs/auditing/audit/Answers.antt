use Rattle.std.proofs.Common.{◌≡◌, sym, ap, subst, length, ◌∙◌, arith}
use Rattle.std.specs.List.{AllByRecursion}
use Rattle.lucid_stages.specs.Stage.{seats}
use Rattle.lucid_stages.specs.NodeWorks.{works}
use Rattle.lucid_stages.specs.Marks.{Within}
use Rattle.lucid_stages.proofs.NodeOrderLemmas.{ops_within, writes_within, no_more_works}
use Rattle.lucid_audit.specs.Audit.{pairs_of}
use Rattle.lucid_audit.proofs.Places.{seats_are, seats_few, each_seat}
use Rattle.lucid_audit.proofs.auditing.audit.Goals as goal

pub audited-requires-clause-few : goal.audited-requires-clause-few
audited-requires-clause-few c =
    let are : c.as_slice-3.result.now ≡ seats (works c.args.code.ops) (pairs_of c.args.plan.now.pairs) =
    c.as_slice-3.ensures.value ∙ c.in_ok-seats.ensures ∙ seats_are _ c.args.code.ops _ _ _ c.args.plan.now.pairs c.ops.ensures.value (c.as_slice.ensures.value ∙ c.in_ok-nodes.ensures) c.as_slice-2.ensures in
    omega (arith, c.in_ok-test_counts.ensures.ok.ops, no_more_works c.args.code.ops, ap length are, seats_few (works c.args.code.ops) (pairs_of c.args.plan.now.pairs))

pub audited-requires-clause-ops : goal.audited-requires-clause-ops
audited-requires-clause-ops c =
    let are : c.as_slice-3.result.now ≡ seats (works c.args.code.ops) (pairs_of c.args.plan.now.pairs) =
    c.as_slice-3.ensures.value ∙ c.in_ok-seats.ensures ∙ seats_are _ c.args.code.ops _ _ _ c.args.plan.now.pairs c.ops.ensures.value (c.as_slice.ensures.value ∙ c.in_ok-nodes.ensures) c.as_slice-2.ensures in
    subst (AllByRecursion (λ s. Within (length c.args.code.ops) s.node.ops)) (sym are) (each_seat (λ n. Within (length c.args.code.ops) n.ops) (works c.args.code.ops) (pairs_of c.args.plan.now.pairs) (ops_within c.args.code.ops))

pub audited-requires-clause-writes : goal.audited-requires-clause-writes
audited-requires-clause-writes c =
    let are : c.as_slice-3.result.now ≡ seats (works c.args.code.ops) (pairs_of c.args.plan.now.pairs) =
    c.as_slice-3.ensures.value ∙ c.in_ok-seats.ensures ∙ seats_are _ c.args.code.ops _ _ _ c.args.plan.now.pairs c.ops.ensures.value (c.as_slice.ensures.value ∙ c.in_ok-nodes.ensures) c.as_slice-2.ensures in
    subst (AllByRecursion (λ s. Within (length c.args.code.fields) s.node.writes)) (sym are) (each_seat (λ n. Within (length c.args.code.fields) n.writes) (works c.args.code.ops) (pairs_of c.args.plan.now.pairs) (writes_within c.args.code c.ops.ensures.valid))
