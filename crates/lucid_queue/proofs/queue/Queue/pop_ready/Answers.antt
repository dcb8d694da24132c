use Rattle.std.proofs.Common.{◌≡◌, length, Some, sym, ◌∙◌, ap, subst, arith}
use Rattle.std.specs.List.{find}
use Rattle.std.specs.List.Sorted.{IsStrictlySortedBy}
use Rattle.lucid_queue.specs.Order.{pending_cmp}
use Rattle.lucid_queue.specs.Waiting.{is_ready, without_first}
use Rattle.lucid_queue.proofs.InOrder.{least}
use Rattle.lucid_queue.proofs.Lists.{one_less, unfound}
use Rattle.lucid_queue.proofs.queue.Queue.pop_ready.Goals as goal

pub invariant_of-self : goal.invariant_of-self
invariant_of-self c =
    let kept = c.pop_ready.ensures.others ∙ unfound (is_ready c.args.switch c.args.tick) c.self.inside.switches (sym c.in_err-pending.ensures.first) in
    (c.self.invariant.0 ∙ ap length (sym kept), c.pop_ready.ensures.in_order)

pub invariant_of-self-2 : goal.invariant_of-self-2
invariant_of-self-2 c =
    let test = is_ready c.args.switch c.args.tick in
    let others : length c.pop_ready.new.self ≡ length (without_first test c.self.inside.switches) = ap length c.pop_ready.ensures.others in
    (omega (arith, c.self.invariant.0, others, one_less test c.self.inside.switches c.in_ok-pending.pending c.in_ok-pending.ensures.first), c.pop_ready.ensures.in_order)

pub returns-clause-least : goal.returns-clause-least
returns-clause-least c =
    least c.args.switch c.args.tick c.args.self.now (Some c.in_ok-pending.pending) (subst (IsStrictlySortedBy pending_cmp) c.self.view_is c.self.invariant.1)
    (c.in_ok-pending.ensures.first ∙ ap (find (is_ready c.args.switch c.args.tick)) c.self.view_is)
