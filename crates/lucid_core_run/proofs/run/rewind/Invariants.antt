use Rattle.std.proofs.Common.{◌≡◌, vec_len}
use Rattle.lucid_core_run.specs.Running.{rewound}
use Rattle.lucid_core_run.proofs.run.rewind.Given as goal

abbrev pub invariant-loop-write : goal.invariant-loop-write
invariant-loop-write l = rewound l.left.items l.cells ≡ rewound l.fn.writes.items l.fn.cells

abbrev pub decreases-loop-write : goal.decreases-loop-write
decreases-loop-write l = vec_len l.left
