use Rattle.std.proofs.Common.{refl, subst, sym, ap, length, slice_set, slice_index_or, Ok, ◌≡◌, ◌∙◌, ◌+◌, ◌<◌, ◌≤◌}
use Rattle.lucid_stages.specs.Stage.{with_table, no_tables}
use Rattle.lucid_stages.specs.Marks.{Within, end_marks, zeros, raised}
use Rattle.lucid_layout.proofs.FitLemmas.{all_at, start, many, writes_within, nowhere, further, finish, taken, taken_none}
use Rattle.lucid_layout.proofs.fit.fit.Goals as goal

pub next-requires-clause-stages : goal.next-requires-clause-stages
next-requires-clause-stages c =
    many c.args.code.now.ops c.args.limits.now (length c.args.code.now.fields) c.loop-at.at c.args.nodes.now c.loop-at.stages.items c.loop-at.low.items c.loop-at.pairs c.loop-at.invariant

pub returns-in-None-clause-node : goal.returns-in-None-clause-node
returns-in-None-clause-node c =
    let ends : c.in_ok-ends.ends.items ≡ end_marks (zeros (length c.args.code.now.fields)) 0 c.args.nodes.now = c.in_ok-ends.ensures ∙ ap (λ fs. end_marks (zeros (length fs)) 0 c.args.nodes.now) c.fields-fields.ensures.value in
    nowhere c.args.code.now.ops c.args.limits.now (length c.args.code.now.fields) c.loop-at.at c.args.nodes.now c.loop-at.stages.items c.loop-at.low.items c.loop-at.pairs c.loop-at.invariant
    c.index-nodes-at.result c.in_ok-ends.ends.items c.requires.writes c.loop-at-test.true c.index-nodes-at.is ends
    (taken_none c.args.code.now.ops c.args.limits.now c.in_ok-ends.ends.items c.as_slice.result.now c.loop-at.low.items c.as_slice-in-loop-at.result.now c.loop-at.stages.items c.loop-at.stages.items c.index-nodes-at.result c.loop-at.at
    (c.in_ok-next.ensures.none (ap Ok c.in-None.is)) c.as_slice.ensures.value c.as_slice-in-loop-at.ensures.value refl)

pub sit-requires-clause-stage : goal.sit-requires-clause-stage
sit-requires-clause-stage c =
    let found = taken c.args.code.now.ops c.args.limits.now c.in_ok-ends.ends.items c.as_slice.result.now c.loop-at.low.items c.as_slice-in-loop-at.result.now c.loop-at.stages.items c.loop-at.stages.items c.index-nodes-at.result c.loop-at.at
    c.in_ok-next.field-0 c.in-Some.pair c.in-Some.table c.in_ok-next.ensures.some c.as_slice.ensures.value c.as_slice-in-loop-at.ensures.value refl c.in-Some.is in
    subst (λ m. c.in-Some.pair.stage < m)
    (sym (ap length c.in_ok-next.ensures.same ∙ many c.args.code.now.ops c.args.limits.now (length c.args.code.now.fields) c.loop-at.at c.args.nodes.now c.loop-at.stages.items c.loop-at.low.items c.loop-at.pairs c.loop-at.invariant)) found.least.holds.below

pub raise-requires : goal.raise-requires
raise-requires c =
    let ends : c.in_ok-ends.ends.items ≡ end_marks (zeros (length c.args.code.now.fields)) 0 c.args.nodes.now = c.in_ok-ends.ensures ∙ ap (λ fs. end_marks (zeros (length fs)) 0 c.args.nodes.now) c.fields-fields.ensures.value in
    subst (Within (length c.loop-at.low.items)) (sym c.as_slice-in-Some.ensures)
    (writes_within c.args.code.now.ops c.args.limits.now (length c.args.code.now.fields) c.loop-at.at c.args.nodes.now c.loop-at.stages.items c.loop-at.low.items c.loop-at.pairs c.loop-at.invariant
    c.index-nodes-at.result c.in_ok-ends.ends.items c.requires.writes c.loop-at-test.true c.index-nodes-at.is ends)

pub loop-at-preserved : goal.loop-at-preserved
loop-at-preserved c =
    let ends : c.in_ok-ends.ends.items ≡ end_marks (zeros (length c.args.code.now.fields)) 0 c.args.nodes.now = c.in_ok-ends.ensures ∙ ap (λ fs. end_marks (zeros (length fs)) 0 c.args.nodes.now) c.fields-fields.ensures.value in
    let found = taken c.args.code.now.ops c.args.limits.now c.in_ok-ends.ends.items c.as_slice.result.now c.loop-at.low.items c.as_slice-in-loop-at.result.now c.loop-at.stages.items c.loop-at.stages.items c.index-nodes-at.result c.loop-at.at
    c.in_ok-next.field-0 c.in-Some.pair c.in-Some.table c.in_ok-next.ensures.some c.as_slice.ensures.value c.as_slice-in-loop-at.ensures.value refl c.in-Some.is in
    further c.args.code.now.ops c.args.limits.now (length c.args.code.now.fields) c.loop-at.at c.args.nodes.now c.loop-at.stages.items c.loop-at.low.items c.loop-at.pairs c.loop-at.invariant
    c.index-nodes-at.result c.in_ok-ends.ends.items c.requires.writes c.loop-at-test.true c.index-nodes-at.is ends
    c.in-Some.pair c.in-Some.table c.sit.new.stages.items c.raise.new.marks.items c.push.new.self found
    (subst (λ xs. c.sit.new.stages.items ≡ slice_set xs c.in-Some.pair.stage (with_table c.index-nodes-at.result.is_array c.in-Some.pair.table c.in-Some.table (slice_index_or xs c.in-Some.pair.stage no_tables))) c.in_ok-next.ensures.same c.in_ok-sit-in-Some.ensures)
    (c.raise.ensures ∙ ap (λ ws. raised c.loop-at.low.items ws (c.in-Some.pair.stage + 1)) c.as_slice-in-Some.ensures) c.in_ok-push-in-Some.ensures.ok

pub returns-clause-pairs : goal.returns-clause-pairs
returns-clause-pairs c = finish c.args.code.now.ops c.args.limits.now (length c.args.code.now.fields) c.loop-at.at c.args.nodes.now c.loop-at.stages.items c.loop-at.low.items c.loop-at.pairs c.loop-at.invariant c.loop-at-test.false

pub loop-at-init : goal.loop-at-init
loop-at-init c =
    start c.args.code.now.ops c.args.limits.now (length c.args.code.now.fields) c.args.nodes.now c.in_ok-stages.stages.items c.in_ok-low.low.items c.new-pairs.result
    c.in_ok-stages.ensures (c.in_ok-low.ensures ∙ ap (λ fs. zeros (length fs)) c.fields-fields.ensures.value) c.new-pairs.ensures

pub next-requires-clause-ops : goal.next-requires-clause-ops
next-requires-clause-ops c =
    all_at (λ n. Within (length c.args.code.now.ops) n.ops) c.loop-at.at c.args.nodes.now c.index-nodes-at.result c.requires.ops c.loop-at-test.true c.index-nodes-at.is

pub sit-requires-clause-table : goal.sit-requires-clause-table
sit-requires-clause-table c =
    let found = taken c.args.code.now.ops c.args.limits.now c.in_ok-ends.ends.items c.as_slice.result.now c.loop-at.low.items c.as_slice-in-loop-at.result.now c.loop-at.stages.items c.loop-at.stages.items c.index-nodes-at.result c.loop-at.at
    c.in_ok-next.field-0 c.in-Some.pair c.in-Some.table c.in_ok-next.ensures.some c.as_slice.ensures.value c.as_slice-in-loop-at.ensures.value refl c.in-Some.is in
    subst (λ xs. c.in-Some.pair.table ≤ length (slice_index_or xs c.in-Some.pair.stage no_tables).tables) (sym c.in_ok-next.ensures.same) found.least.holds.fits.table.next

pub returns-clause-stages : goal.returns-clause-stages
returns-clause-stages c = c.in_ok-stages-2.ensures ∙ c.loop-at.invariant.stages_are
