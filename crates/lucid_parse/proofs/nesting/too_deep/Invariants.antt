use Rattle.std.proofs.Common.{◌≡◌, ◌+◌, false, map, drop}
use Rattle.lucid_parse.specs.Nesting.{deep_from, too_deep, passes}
use Rattle.lucid_parse.proofs.nesting.too_deep.Given as goal

-- the rest decides, from the counts so far
abbrev pub invariant-loop-i : goal.invariant-loop-i
invariant-loop-i l = (deep_from (l.i + 1) l.counts (map (λ t. t.kind) (drop l.i l.tokens)) ≡ too_deep (map (λ t. t.kind) l.tokens)) × (passes l.counts ≡ false)
