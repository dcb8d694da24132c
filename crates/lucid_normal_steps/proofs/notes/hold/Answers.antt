use Rattle.lucid_normal_steps.proofs.Noted.{before_held}
use Rattle.lucid_normal_steps.proofs.notes.hold.Goals as goal

pub returns-in_ok-push-clause-back : goal.returns-in_ok-push-clause-back
returns-in_ok-push-clause-back c =
    rw (c.set.ensures, c.in_ok-push.ensures.items, c.held_at-was.ensures, c.as_slice.ensures) (before_held c.args.notes.now.items c.args.held.now c.args.i c.args.t)
