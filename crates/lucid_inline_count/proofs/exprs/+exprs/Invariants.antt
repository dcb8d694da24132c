use Rattle.std.proofs.Common.{◌≡◌, drop, fold, map}
use Rattle.lucid_inline_count.specs.Found.{expr_found, total}
use Rattle.lucid_inline_count.specs.Counts.{plus}
use Rattle.lucid_inline_count.proofs.exprs.+exprs.Given as goal

-- the rest makes the whole
abbrev pub invariant-total-loop-e : goal.invariant-total-loop-e
invariant-total-loop-e l = fold (λ so_far x. plus so_far (x.counts l.funs)) l.sum (map expr_found (drop l.e-index l.es)) ≡ total (map expr_found l.es) l.funs
