use Rattle.std.proofs.Common.{◌≡◌, [], replicate}
use Rattle.lucid_pass_more.proofs.users.no_users.Given as goal

abbrev pub invariant-loop-turn : goal.invariant-loop-turn
invariant-loop-turn l = l.users.items ≡ replicate l._turn []
