use Rattle.std.proofs.Common.{◌∙◌, ◌<◌, ◌+◌, sym, ap, subst, rules, length, slice_set}
use Rattle.std.proofs.lemmas.List.{get_or_default}
use Rattle.lucid_pass_rewrites.specs.Writers.{with_writer, nobody}
use Rattle.lucid_pass_rewrites.proofs.WritersLemmas.{Counted, turn_stays, turn_writes, below_writers}
use Rattle.lucid_pass_rewrites.proofs.writers.writers_of.Goals as goal
use Rattle.lucid_pass_rewrites.proofs.writers.writers_of.Goals.{in-Some, in_default}

pub loop-at-preserved : goal.loop-at-preserved
loop-at-preserved c = elim c.match-written.branch [
  | in-Some w ↦
      let below : w.in-Some.k < length c.loop-at.writers.items = subst (λ n. w.in-Some.k < n) (sym c.loop-at.invariant.long) (below_writers c.args.fields c.args.ops.now c.loop-at.at c.index-ops-at.result w.in-Some.k c.requires c.loop-at-test.true c.index-ops-at.is (search rules)) in
      let row = w.index_mut-found.ensures.value ∙ get_or_default c.loop-at.writers.items w.in-Some.k _ nobody below in
      let made = w.with_writer.ensures ∙ ap (λ r. with_writer r c.loop-at.at) row in
      subst (Counted c.args.fields c.args.ops.now (c.loop-at.at + 1))
      (sym (ap (λ v. v.items) w.writers-is ∙ ap (λ r. slice_set c.loop-at.writers.items w.in-Some.k r) made))
      (turn_writes c.args.fields c.args.ops.now c.loop-at.at c.loop-at.writers.items c.index-ops-at.result c.loop-at-test.true c.index-ops-at.is c.loop-at.invariant w.in-Some.k (search rules) below)
  | in_default w ↦
      subst (Counted c.args.fields c.args.ops.now (c.loop-at.at + 1)) (sym (ap (λ v. v.items) w.writers-is))
      (turn_stays c.args.fields c.args.ops.now c.loop-at.at c.loop-at.writers.items c.index-ops-at.result c.loop-at-test.true c.index-ops-at.is c.loop-at.invariant (search rules))
]
