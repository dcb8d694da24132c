use Rattle.std.proofs.Common.{[], length, sym, ap, subst}
use Rattle.std.specs.List.Sorted.{IsStrictlySortedBy}
use Rattle.lucid_queue.specs.Order.{pending_cmp}
use Rattle.lucid_queue.proofs.InOrder.{in_order}
use Rattle.lucid_queue.proofs.queue.Queue.new.Goals as goal

pub invariant_of-result : goal.invariant_of-result
invariant_of-result c = (ap length (sym c.new.ensures), subst (IsStrictlySortedBy pending_cmp) (sym c.new.ensures) (in_order 0 [] tt))
