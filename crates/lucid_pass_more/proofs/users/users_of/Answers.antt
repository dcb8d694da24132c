use Rattle.std.proofs.Common.{rules, ◌∙◌, subst}
use Rattle.lucid_pass_more.specs.Users.{Names}
use Rattle.lucid_pass_more.proofs.UsersLemmas.{names_more, names_none, taken_all}
use Rattle.lucid_pass_more.proofs.users.users_of.Goals as goal

pub loop-at-init : goal.loop-at-init
loop-at-init c = names_none c.args.ops.now c.args.fields c.in_ok-users.users.items c.in_ok-users.ensures

pub loop-at-preserved : goal.loop-at-preserved
loop-at-preserved c =
    names_more c.args.ops.now c.args.fields c.loop-at.at c.index-ops-at.result c.loop-at.users.items c.add_user.new.users.items c.as_slice.result.now c.loop-at-test.true c.index-ops-at.is
    (c.as_slice.ensures.value ∙ c.in_ok-put_uses.ensures) c.in_ok-add_user.ensures c.loop-at.invariant

pub returns : goal.returns
returns c = subst (λ l. Names c.args.ops.now l c.args.fields c.loop-at.users.items) (taken_all c.args.ops.now c.loop-at.at (search rules)) c.loop-at.invariant
