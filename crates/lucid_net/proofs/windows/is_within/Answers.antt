use Rattle.std.proofs.Common.{arith, leb, rules}
use Rattle.std.proofs.lemmas.List.Sorted.{IsPartitionPoint-from_clause, IsPartitionedBy-leb}
use Rattle.lucid_net.proofs.WindowsLemmas.{begun, not_begun_yet}
use Rattle.lucid_net.proofs.windows.is_within.Goals as goal

pub returns-then-begun-gt0 : goal.returns-then-begun-gt0
returns-then-begun-gt0 c =
    let parted = IsPartitionedBy-leb (λ s. s.from) c.args.spans.now c.args.tick c.requires in
    let point = IsPartitionPoint-from_clause (λ s. leb s.from c.args.tick) _ _ c.partition_point-begun.ensures.partitioned parted (λ a r q k. search rules) in
    begun c.args.tick c.partition_point-begun.result c.args.spans.now _ c.if-begun-gt0.true c.partition_point-begun.ensures.bound point

pub returns-else-begun-gt0 : goal.returns-else-begun-gt0
returns-else-begun-gt0 c =
    let parted = IsPartitionedBy-leb (λ s. s.from) c.args.spans.now c.args.tick c.requires in
    let point = IsPartitionPoint-from_clause (λ s. leb s.from c.args.tick) _ _ c.partition_point-begun.ensures.partitioned parted (λ a r q k. search rules) in
    not_begun_yet c.args.tick c.partition_point-begun.result c.args.spans.now (omega (arith, c.if-begun-gt0.false)) point
