use Rattle.std.proofs.Common.{◌≡◌, suc, length, sym, ◌∙◌, ap, rules}
use Rattle.lucid_queue.specs.Order.{is_before}
use Rattle.lucid_queue.proofs.Lists.{one_more}
use Rattle.lucid_queue.proofs.queue.Queue.keep.Goals as goal

pub invariant_of-self-2 : goal.invariant_of-self-2
invariant_of-self-2 c =
    let counted : c.in_ok-count.count ≡ suc c.self.inside.count = search rules in
    (counted ∙ ap suc c.self.invariant.0 ∙ sym (ap length c.in_ok-push.ensures.waits ∙ one_more is_before c.args.p.now c.self.inside.switches), c.push.ensures.in_order)
