use Rattle.lucid_inline_count.proofs.Flags.{put_back-noted}
use Rattle.lucid_inline_count.proofs.held.set.Goals as goal

pub returns-in_ok-push-clause-back : goal.returns-in_ok-push-clause-back
returns-in_ok-push-clause-back c =
    rw (c.in_ok-push.ensures.items, c.is_held-was.ensures, c.as_slice.ensures.value) (put_back-noted c.args.notes.now.items c.args.held.now.items c.args.i c.args.flag)
