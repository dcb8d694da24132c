use Rattle.std.proofs.Common.{◌≡◌, ◌++◌, drop}
use Rattle.lucid_refusals.specs.Refusal.{kept_among}
use Rattle.lucid_refusals.proofs.implying.kept_among.Given as goal

abbrev pub invariant-loop-pattern : goal.invariant-loop-pattern
invariant-loop-pattern l = l.kept ++ kept_among l.literals l.more (drop l.pattern-index l.shape) ≡ kept_among l.literals l.more l.shape
