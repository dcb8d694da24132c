use Rattle.std.proofs.Common.{◌≡◌, drop, [], length}
use Rattle.serde_json.specs.View.{items_view}
use Rattle.lucid_audit.specs.PlanFile.{pairs_from}
use Rattle.lucid_audit.proofs.plan_file.each_pair.Given as goal

-- the rest gives, after the read pairs, the result of the whole
abbrev pub invariant-loop-value : goal.invariant-loop-value
invariant-loop-value l =
    (length l.pairs ≡ l.value-index)
    × (pairs_from l.pairs (items_view (drop l.value-index l.values)) ≡ pairs_from [] (items_view l.values))
