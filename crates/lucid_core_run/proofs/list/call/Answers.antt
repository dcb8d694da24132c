-- The call of an earlier function.
use Rattle.std.proofs.Common.{rules, ◌≡◌, ◌∙◌, ap, map, take, Some, refl}
use Rattle.std.specs.Prelude.{slice_get}
use Rattle.lucid_base.specs.declared.bits.Bits.{Bits}
use Rattle.lucid_core.specs.Computations.{array_of}
use Rattle.lucid_core_run.specs.Interpret.{after_all, with_value}
use Rattle.lucid_core_run.proofs.ListLemmas.{called_none, called_some}
use Rattle.lucid_core_run.proofs.list.call.Goals as goal

pub returns-in-None : goal.returns-in-None
returns-in-None c =
    let m = c.args.machine.now in
    let arrays = map (array_of m.arrays) c.args.names.now in
    (ap (λ (v : Bits). after_all c.args.tasks.now (with_value m v)) c.nothing-machine.ensures ∙ ap (after_all c.args.tasks.now) (called_none m c.args.k arrays c.args.args c.in-None.ensures.fun), refl)

pub returns-in_ok-push-in-Some-2 : goal.returns-in_ok-push-in-Some-2
returns-in_ok-push-in-Some-2 c =
    let is : Some c.in-Some.f.now ≡ slice_get c.args.machine.now.funs.now c.args.k = search rules in
    let at : c.in-Some.before.now ≡ take c.args.k c.args.machine.now.funs.now = search rules in
    let m = c.args.machine.now in
    let arrays = map (array_of m.arrays) c.args.names.now in
    rw (← called_some m c.in-Some.before c.args.k arrays c.args.args c.in_ok-locals-in-Some.locals c.as_slice-in-Some.result.now c.as_slice-in-Some-2.result.now c.in-Some.f.now is at c.as_slice-in-Some.ensures c.as_slice-in-Some-2.ensures c.in_ok-locals-in-Some.ensures) (search rules)
