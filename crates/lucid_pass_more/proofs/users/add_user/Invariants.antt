use Rattle.std.proofs.Common.{◌≡◌, drop}
use Rattle.lucid_pass_more.specs.Users.{with_user}
use Rattle.lucid_pass_more.proofs.users.add_user.Given as goal

-- the fields that are left give the result of all
abbrev pub invariant-loop-k : goal.invariant-loop-k
invariant-loop-k l = with_user l.users.items (drop l.k-index l.fields) l.at ≡ with_user l.initial.users.items l.initial.fields l.at
