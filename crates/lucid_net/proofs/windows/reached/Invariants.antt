use Rattle.std.proofs.Common.{◌≡◌, ◌++◌, drop}
use Rattle.lucid_net.specs.Windows.{reaching}
use Rattle.lucid_net.proofs.windows.reached.Given as goal

-- those so far, before those of the rest
abbrev pub invariant-loop-span : goal.invariant-loop-span
invariant-loop-span l = l.found ++ reaching l.until (drop l.span-index l.spans) ≡ reaching 0 l.spans
