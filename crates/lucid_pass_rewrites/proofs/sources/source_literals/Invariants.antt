use Rattle.std.proofs.Common.{◌≡◌, map, take}
use Rattle.lucid_pass_more_spec.specs.Sources.{source_literal, source_of}
use Rattle.lucid_pass_rewrites.proofs.sources.source_literals.Given as goal

abbrev pub invariant-loop-literal : goal.invariant-loop-literal
invariant-loop-literal l = l.literals.items ≡ map (source_literal (source_of l.seen.widths.now l.seen.ops.now)) (take l.literal-index l.guard)
