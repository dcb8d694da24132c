use Rattle.std.proofs.Common.{take}
use Rattle.lucid_pass_more.specs.Users.{Names}
use Rattle.lucid_pass_more.proofs.users.users_of.Given as goal

abbrev pub invariant-loop-at : goal.invariant-loop-at
invariant-loop-at l = Names l.ops (take l.at l.ops) l.fields l.users.items
