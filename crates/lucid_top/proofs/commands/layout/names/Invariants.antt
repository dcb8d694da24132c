use Rattle.std.proofs.Common.{◌≡◌, map, take}
use Rattle.lucid_top.proofs.commands.layout.names.Given as goal

-- the names of the passes before
abbrev pub invariant-loop-i : goal.invariant-loop-i
invariant-loop-i g l = l.names.items ≡ map (λ b. (goal.Pass-dyn g (b.vtable, b.value)).called b.value) (take l.i l.passes.items)
