use Rattle.std.proofs.Common.{◌≡◌, ◌++◌, None, drop, map, slice_index_or}
use Rattle.lucid_normal_join.proofs.changes.at_first.Given as goal

-- the visited part and the rest make the whole
abbrev pub invariant-loop-i : goal.invariant-loop-i
invariant-loop-i l = l.firsts.items ++ map (λ i. (i, slice_index_or l.held i None)) (drop l.i-index l.locals) ≡ map (λ i. (i, slice_index_or l.held i None)) l.locals
