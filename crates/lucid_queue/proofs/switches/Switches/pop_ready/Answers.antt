use Rattle.std.proofs.Common.{sym, ◌∙◌, ap, arith, slice_set}
use Rattle.std.specs.List.{find}
use Rattle.lucid_queue.specs.Kept.{Entries, all_from}
use Rattle.lucid_queue.specs.Waiting.{is_ready, without_first}
use Rattle.lucid_queue.proofs.ByKey.{by_key_popped}
use Rattle.lucid_queue.proofs.InOrder.{in_order}
use Rattle.lucid_queue.proofs.Lists.{unfound}
use Rattle.lucid_queue.proofs.Seeking.{found, left, none_at}
use Rattle.lucid_queue.proofs.switches.Switches.pop_ready.Goals as goal

pub returns-in_err-get_mut-clause-first : goal.returns-in_err-get_mut-clause-first
returns-in_err-get_mut-clause-first c =
    let switch = c.args.switch in
    c.from_residual.ensures
    ∙ sym (none_at switch c.args.tick 0 switch c.self.inside.turns.items (omega arith) c.in_err-get_mut.ensures.item.3)
    ∙ ap (find (is_ready switch c.args.tick)) c.self.view_is

pub returns-in_err-get_mut-clause-others : goal.returns-in_err-get_mut-clause-others
returns-in_err-get_mut-clause-others c =
    c.self.view_is ∙ sym (unfound (is_ready c.args.switch c.args.tick) c.args.self.now (sym (returns-in_err-get_mut-clause-first c) ∙ c.from_residual.ensures))

pub returns-in_err-get_mut-clause-in_order : goal.returns-in_err-get_mut-clause-in_order
returns-in_err-get_mut-clause-in_order c = in_order 0 c.self.inside.turns.items c.self.invariant

pub invariant_of-self-2 : goal.invariant_of-self-2
invariant_of-self-2 c =
    let lent = c.in_ok-get_mut in
    let all = c.self.inside.turns.items in
    by_key_popped c.args.tick all c.args.switch lent.field-0.now c.pop_ready.new.self lent.ensures.item.3.0 lent.ensures.value c.pop_ready.ensures.others c.self.invariant

pub returns-clause-first : goal.returns-clause-first
returns-clause-first c =
    let lent = c.in_ok-get_mut in
    let switch = c.args.switch in
    c.pop_ready.ensures.first
    ∙ sym (found switch c.args.tick 0 switch c.self.inside.turns.items lent.field-0.now (omega arith) lent.ensures.item.3.0 lent.ensures.value c.self.invariant)
    ∙ ap (find (is_ready switch c.args.tick)) c.self.view_is

pub returns-clause-others : goal.returns-clause-others
returns-clause-others c =
    let lent = c.in_ok-get_mut in
    let switch = c.args.switch in
    let all = c.self.inside.turns.items in
    ap (λ (es : Entries). all_from 0 (slice_set all switch es)) c.pop_ready.ensures.others
    ∙ sym (left switch c.args.tick 0 switch all lent.field-0.now (omega arith) lent.ensures.item.3.0 lent.ensures.value c.self.invariant)
    ∙ ap (without_first (is_ready switch c.args.tick)) c.self.view_is

pub returns-clause-in_order : goal.returns-clause-in_order
returns-clause-in_order c = in_order 0 (slice_set c.self.inside.turns.items c.args.switch c.pop_ready.new.self) (invariant_of-self-2 c)
