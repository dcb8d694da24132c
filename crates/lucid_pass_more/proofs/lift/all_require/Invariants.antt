use Rattle.std.proofs.Common.{◌≡◌, drop}
use Rattle.lucid_pass_more_spec.specs.Lift.{requires_it}
use Rattle.lucid_pass_more.specs.Users.{all_at}
use Rattle.lucid_pass_more.proofs.lift.all_require.Given as goal

abbrev pub invariant-loop-place : goal.invariant-loop-place
invariant-loop-place l = all_at l.known.ops.now (requires_it l.literal) (drop l.place-index l.places) ≡ all_at l.known.ops.now (requires_it l.literal) l.places
