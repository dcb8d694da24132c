use Rattle.std.proofs.Common.{rules, ◌≡◌, ◌∙◌, ap, map, take, Some, refl}
use Rattle.std.proofs.lemmas.Result.{on_ok_weaker}
use Rattle.std.specs.Prelude.{slice_get}
use Rattle.lucid_base.specs.declared.bits.Bits.{Bits}
use Rattle.lucid_core.specs.Computations.{array_of}
use Rattle.lucid_core_run.specs.Interpret.{with_value}
use Rattle.lucid_core_run.specs.declared.task.Purpose.TheVariants.{Call, Gen, Hash, Multi, Say}
use Rattle.lucid_core_run.proofs.ListLemmas.{called_none, called_some, sent_delay_first, sent_target_first, sent_to_all}
use Rattle.lucid_core_run.proofs.recurse.+recurse.Goals as goal

pub call-returns-in-None-clause-value : goal.call-returns-in-None-clause-value
call-returns-in-None-clause-value t c =
    let m = c.args.machine.now in
    let arrays = map (array_of m.arrays) c.args.names.now in
    ap (λ (v : Bits). with_value m v) c.nothing-machine.ensures ∙ called_none m c.args.k arrays c.args.args c.in-None.ensures.fun

pub call-returns-in_ok-block-in-Some-clause-value : goal.call-returns-in_ok-block-in-Some-clause-value
call-returns-in_ok-block-in-Some-clause-value t c =
    let is : Some c.in-Some.f.now ≡ slice_get c.args.machine.now.funs.now c.args.k = search rules in
    let at : c.in-Some.before.now ≡ take c.args.k c.args.machine.now.funs.now = search rules in
    let m = c.args.machine.now in
    let arrays = map (array_of m.arrays) c.args.names.now in
    rw (← called_some m c.in-Some.before c.args.k arrays c.args.args c.in_ok-locals-in-Some.locals c.as_slice-in-Some.result.now c.as_slice-in-Some-2.result.now c.in-Some.f.now is at c.as_slice-in-Some.ensures c.as_slice-in-Some-2.ensures c.in_ok-locals-in-Some.ensures) (search rules)

pub hash-returns-clause-value : goal.hash-returns-clause-value
hash-returns-clause-value t c =
    ap (λ (v : Bits). with_value c.values.new.machine v) c.hashed-machine.ensures ∙ c.in_ok-values.ensures.given (Hash c.args.width)

pub begin_call-returns-clause-value : goal.begin_call-returns-clause-value
begin_call-returns-clause-value t c = rw (c.in_ok-values.ensures.given (Call c.args.k c.args.names)) at c.call.ensures.value

pub say-returns-clause-state : goal.say-returns-clause-state
say-returns-clause-state t c =
    rw (c.in_ok-args.ensures.given (Say c.args.form)) at c.send.ensures.sent

pub generate-returns-in_ok-target-clause-state : goal.generate-returns-in_ok-target-clause-state
generate-returns-in_ok-target-clause-state t c =
    let a = c.args in
    let ends = sent_delay_first c.values.new.machine c.ticks.new.machine c.target.new.machine a.event c.in_ok-values.values a.delay.now a.to.now a.delay_first c.in_ok-ticks.ticks c.in_ok-target.target
    c.if-delay_first.true c.in_ok-ticks.ensures.gives c.in_ok-ticks.ensures.after c.in_ok-target.ensures.gives c.in_ok-target.ensures.after in
    on_ok_weaker c.send_event.result (λ sends. sends ∙ ends ∙ c.in_ok-values.ensures.given (Gen a.event a.delay a.to a.delay_first)) c.send_event.ensures.sent

pub generate-returns-in_ok-ticks-2-clause-state : goal.generate-returns-in_ok-ticks-2-clause-state
generate-returns-in_ok-ticks-2-clause-state t c =
    let a = c.args in
    let ends = sent_target_first c.values.new.machine c.target-else-delay_first.new.machine c.ticks-else-delay_first.new.machine a.event c.in_ok-values.values a.delay.now a.to.now a.delay_first c.in_ok-ticks-2.ticks c.in_ok-target-2.target
    c.if-delay_first.false c.in_ok-target-2.ensures.gives c.in_ok-target-2.ensures.after c.in_ok-ticks-2.ensures.gives c.in_ok-ticks-2.ensures.after in
    on_ok_weaker c.send_event-else-delay_first.result (λ sends. sends ∙ ends ∙ c.in_ok-values.ensures.given (Gen a.event a.delay a.to a.delay_first)) c.send_event-else-delay_first.ensures.sent

pub generate_for_all-returns-clause-state : goal.generate_for_all-returns-clause-state
generate_for_all-returns-clause-state t c =
    let a = c.args in
    let ends = sent_to_all c.values.new.machine c.ticks.new.machine a.event c.in_ok-values.values a.delay.now a.members.now c.in_ok-ticks.ticks c.in_ok-ticks.ensures.gives c.in_ok-ticks.ensures.after in
    on_ok_weaker c.send_to_each.result (λ sends. sends ∙ ends ∙ c.in_ok-values.ensures.given (Multi a.event a.delay a.members)) c.send_to_each.ensures.sent
