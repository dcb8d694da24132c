use Rattle.std.proofs.Common.{◌+◌, ◌/◌, length, arith}
use Rattle.std.proofs.lemmas.Grind.{elements}
use Rattle.lucid_merge.specs.Chunks.{between}
use Rattle.lucid_merge.specs.Signs.{covers}
use Rattle.lucid_merge.proofs.ChunksLemmas.{cut, covered_behind, covered_before}
use Rattle.lucid_merge.proofs.chunks.is_covered_by_any.Goals as goal

pub returns-then-is_covered_between-clause-value : goal.returns-then-is_covered_between-clause-value
returns-then-is_covered_between-clause-value g c =
    let rows = c.args.rows.now in
    let from = c.saturating_sub-from.result / 8 in
    covered_behind (covers c.args.p.now c.args.q.now) rows (between 0 from rows) (between from (length rows / 8 + 1) rows) (cut from rows)
    c.is_covered_between.result c.is_covered_between.ensures.value c.if-is_covered_between.true

pub returns-else-is_covered_between-clause-value : goal.returns-else-is_covered_between-clause-value
returns-else-is_covered_between-clause-value g c =
    let rows = c.args.rows.now in
    let from = c.saturating_sub-from.result / 8 in
    covered_before (covers c.args.p.now c.args.q.now) rows (between 0 from rows) (between from (length rows / 8 + 1) rows) (cut from rows)
    c.is_covered_between.result c.is_covered_between-else-is_covered_between.result
    c.is_covered_between.ensures.value c.if-is_covered_between.false c.is_covered_between-else-is_covered_between.ensures.value

pub returns-else-is_covered_between-clause-steps : goal.returns-else-is_covered_between-clause-steps
returns-else-is_covered_between-clause-steps g c = grind (arith, elements)

pub returns-then-is_covered_between-clause-steps : goal.returns-then-is_covered_between-clause-steps
returns-then-is_covered_between-clause-steps g c = grind (arith, elements)
