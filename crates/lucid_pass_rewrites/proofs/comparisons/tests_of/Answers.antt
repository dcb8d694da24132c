use Rattle.std.proofs.Common.{rules, ◌≡◌, ◌∙◌, ◌+◌, sym, ap, subst, false, slice_index_or}
use Rattle.std.proofs.lemmas.List.{get_or_default}
use Rattle.lucid_pass_rewrites.specs.Comparisons.{test_at}
use Rattle.lucid_pass_rewrites.proofs.ComparisonsLemmas.{Tested, tested_more, tested_all, test_is}
use Rattle.lucid_pass_rewrites.proofs.comparisons.tests_of.Goals as goal

pub loop-c-preserved : goal.loop-c-preserved
loop-c-preserved c =
    let mark : c.is_set-other.result ≡ slice_index_or c.in_ok-uncovered.uncovered.items c.loop-c.c false = c.is_set-other.ensures ∙ ap (λ l. slice_index_or l c.loop-c.c false) c.as_slice.ensures.value in
    subst (λ l. Tested c.args.widths.now c.args.ops.now c.args.writers.now l (c.loop-c.c + 1)) (sym c.in_ok-push.ensures.items)
    (tested_more c.args.widths.now c.args.ops.now c.args.writers.now c.loop-c.table.items c.loop-c.c c.test_of-test.result
    (c.test_of-test.ensures ∙ ap (test_at c.args.widths.now c.args.ops.now _) mark
    ∙ test_is c.args.widths.now c.args.ops.now c.args.writers.now c.in_ok-uncovered.uncovered.items c.loop-c.c _ c.loop-c-test.true c.requires c.in_ok-uncovered.ensures (get_or_default _ _ _ _ c.loop-c-test.true)) c.loop-c.invariant)

pub returns : goal.returns
returns c = tested_all c.args.widths.now c.args.ops.now c.args.writers.now c.loop-c.table.items c.loop-c.c c.requires (search rules) c.loop-c.invariant
