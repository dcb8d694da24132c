use Rattle.std.proofs.Common.{◌<◌, Ok, IfSome, ap, is_some, subst, sym}
use Rattle.lucid_layout.specs.Find.{LeastTable}
use Rattle.lucid_layout.proofs.FindLemmas.{least_here, none_so_far, stage_at, stays}
use Rattle.lucid_layout.proofs.find.find.Goals as goal

pub loop-k-preserved : goal.loop-k-preserved
loop-k-preserved c =
    let there = subst (λ n. c.loop-k.k < n) (sym c.requires) c.loop-k-test.true in
    let here = stage_at c.loop-k.stages.items c.args.stages.now.items c.loop-k.k c.index_mut.result.now c.loop-k.invariant.0 there c.index_mut.ensures.value in (
      stays c.loop-k.stages.items c.args.stages.now.items c.loop-k.k c.index_mut.result.now c.find_in.new.stage c.loop-k.invariant.0 c.index_mut.ensures.value c.in_ok-table.ensures.same,
      none_so_far c.args.limits.now c.args.stages.now.items c.args.low c.loop-k.k c.args.array c.args.more.now.rows c.loop-k.invariant.1
          c.index_mut.result.now here (c.in_ok-table.ensures.none (ap Ok c.in-None.is)),
    )

pub returns-in-Some-clause-some : goal.returns-in-Some-clause-some
returns-in-Some-clause-some c =
    let there = subst (λ n. c.loop-k.k < n) (sym c.requires) c.loop-k-test.true in
    let here = stage_at c.loop-k.stages.items c.args.stages.now.items c.loop-k.k c.index_mut.result.now c.loop-k.invariant.0 there c.index_mut.ensures.value in
    least_here c.args.limits.now c.args.stages.now.items c.args.low c.loop-k.k c.args.array c.args.more.now.rows c.loop-k.invariant.1
    c.index_mut.result.now here c.in-Some.table c.in-Some.made c.loop-k.auto.k c.loop-k-test.true
    (c.in_ok-table.ensures.room (ap is_some c.in-Some.is))
    (subst (λ o. IfSome o (λ x. LeastTable c.args.limits.now c.index_mut.result.now c.args.more.now.rows x.0 x.1)) c.in-Some.is c.in_ok-table.ensures.some)

pub returns-in_err-table-clause-same : goal.returns-in_err-table-clause-same
returns-in_err-table-clause-same c =
    stays c.loop-k.stages.items c.args.stages.now.items c.loop-k.k c.index_mut.result.now c.find_in.new.stage c.loop-k.invariant.0 c.index_mut.ensures.value c.in_err-table.ensures.same

pub returns-in-Some-clause-same : goal.returns-in-Some-clause-same
returns-in-Some-clause-same c =
    stays c.loop-k.stages.items c.args.stages.now.items c.loop-k.k c.index_mut.result.now c.find_in.new.stage c.loop-k.invariant.0 c.index_mut.ensures.value c.in_ok-table.ensures.same
