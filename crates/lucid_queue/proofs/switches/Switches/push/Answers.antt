use Rattle.std.proofs.Common.{sym, ◌∙◌, ap, arith, slice_set}
use Rattle.std.specs.List.{list_any}
use Rattle.std.proofs.lemmas.Result.{on_ok_weaker}
use Rattle.lucid_queue.specs.Kept.{Entries, all_from}
use Rattle.lucid_queue.specs.Order.{has_place, is_before}
use Rattle.lucid_queue.specs.Waiting.{put_in}
use Rattle.lucid_queue.proofs.ByKey.{by_key_at, by_key_with}
use Rattle.lucid_queue.proofs.InOrder.{in_order}
use Rattle.lucid_queue.proofs.Putting.{has_at, put_at}
use Rattle.lucid_queue.proofs.switches.Switches.push.Goals as goal

pub returns-in_err-reach-clause-in_order : goal.returns-in_err-reach-clause-in_order
returns-in_err-reach-clause-in_order c = in_order 0 c.reach.new.turns.items (c.reach.ensures.by_key c.self.invariant)

pub push-requires : goal.push-requires
push-requires c =
    let p = c.args.p.now in
    sym (has_at p 0 p.switch c.reach.new.turns.items c.index_mut.result.now (omega arith) c.in_ok-reach.ensures.reached c.index_mut.ensures.value)
    ∙ ap (list_any (has_place p)) (c.reach.ensures.unchanged ∙ c.self.view_is)
    ∙ c.requires

pub returns-clause-waits : goal.returns-clause-waits
returns-clause-waits c =
    let p = c.args.p.now in
    let all = c.reach.new.turns.items in
    let within = c.in_ok-reach.ensures.reached in
    let stands = c.index_mut.ensures.value in
    let seen = c.reach.ensures.unchanged ∙ c.self.view_is in
    let absent = sym (has_at p 0 p.switch all c.index_mut.result.now (omega arith) within stands) ∙ ap (list_any (has_place p)) seen ∙ c.requires in
    on_ok_weaker c.push.result
    (λ placed. ap (λ (l : Entries). all_from 0 (slice_set all p.switch l)) placed
    ∙ sym (put_at p 0 p.switch all c.index_mut.result.now (omega arith) within stands absent)
    ∙ ap (put_in is_before p) seen)
    c.push.ensures.waits

pub returns-clause-in_order : goal.returns-clause-in_order
returns-clause-in_order c =
    let all = c.reach.new.turns.items in
    let sorted = c.reach.ensures.by_key c.self.invariant in
    let here = by_key_at all c.args.p.now.switch c.index_mut.result.now c.in_ok-reach.ensures.reached c.index_mut.ensures.value sorted in
    in_order 0 (slice_set all c.args.p.now.switch c.push.new.self) (by_key_with all c.args.p.now.switch c.push.new.self (c.push.ensures.by_key here) sorted)
