use Rattle.std.proofs.Common.{List, sym, ◌∙◌, ap, arith}
use Rattle.std.specs.List.{list_any}
use Rattle.lucid_queue.specs.Kept.{Entries, all_from}
use Rattle.lucid_queue.specs.Order.{has_place}
use Rattle.lucid_queue.proofs.Putting.{has_at, none_at}
use Rattle.lucid_queue.proofs.switches.Switches.has.Goals as goal

pub returns-in-Some : goal.returns-in-Some
returns-in-Some c =
    let p = c.args.p.now in
    c.has.ensures
    ∙ sym (has_at p 0 p.switch c.deref.result.now c.in-Some.turns.now (omega arith) c.in-Some.ensures.lookup.3.0 c.in-Some.ensures.lookup.1)
    ∙ ap (λ (all : List Entries). list_any (has_place p) (all_from 0 all)) c.deref.ensures.value
    ∙ ap (list_any (has_place p)) c.self.view_is

pub returns-in-None : goal.returns-in-None
returns-in-None c =
    let p = c.args.p.now in
    sym (none_at p 0 p.switch c.deref.result.now (omega arith) c.in-None.ensures.lookup.3)
    ∙ ap (λ (all : List Entries). list_any (has_place p) (all_from 0 all)) c.deref.ensures.value
    ∙ ap (list_any (has_place p)) c.self.view_is
