use Rattle.std.proofs.Common.{◌≡◌, ◌++◌, drop}
use Rattle.lucid_merge.specs.Contested.{contested}
use Rattle.lucid_merge.proofs.contested.contested.Given as goal

-- the literals so far, and the contested ones of the rest, are those of the whole
abbrev pub invariant-loop-literal : goal.invariant-loop-literal
invariant-loop-literal l = l.found ++ contested l.lone (drop l.literal-index l.pattern) ≡ contested l.lone l.pattern
