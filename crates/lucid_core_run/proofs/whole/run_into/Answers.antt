use Rattle.std.proofs.Common.{◌≤◌, List, ℕ, All, IsTrue, length, sym, subst}
use Rattle.lucid_base.specs.declared.event.Out.{Out}
use Rattle.lucid_core.specs.Computations.{Ran}
use Rattle.lucid_core.specs.Fits.{carried, cells_fit, out_fits}
use Rattle.lucid_core.proofs.Handled.{handled_is}
use Rattle.lucid_core_run.proofs.whole.run_into.Goals as goal

pub handle-requires-clause-few : goal.handle-requires-clause-few
handle-requires-clause-few c =
    let is = handled_is c.args.core.now c.args.cells.now c.args.now c.args.me c.args.event.now c.in-Some.handler.now c.as_slice.result.now c.in-Some.ensures c.as_slice.ensures.value in
    subst (λ (r : Ran (Unit {0})). length r.after.outs ≤ 8) (sym is) (c.outs_fit.ensures.few c.args.cells.now c.args.now c.args.me c.args.event.now)

pub handle-requires-clause-small : goal.handle-requires-clause-small
handle-requires-clause-small c =
    let is = handled_is c.args.core.now c.args.cells.now c.args.now c.args.me c.args.event.now c.in-Some.handler.now c.as_slice.result.now c.in-Some.ensures c.as_slice.ensures.value in
    subst (λ (r : Ran (Unit {0})). All (λ (out : Out). length (carried out) ≤ 8) r.after.outs) (sym is) (c.outs_fit.ensures.small c.args.cells.now c.args.now c.args.me c.args.event.now)

pub returns-in_ok-handle-in-Some-clause-fits : goal.returns-in_ok-handle-in-Some-clause-fits
returns-in_ok-handle-in-Some-clause-fits c =
    let is = handled_is c.args.core.now c.args.cells.now c.args.now c.args.me c.args.event.now c.in-Some.handler.now c.as_slice.result.now c.in-Some.ensures c.as_slice.ensures.value in
    let fit = subst (λ (r : Ran (Unit {0})). All (λ (out : Out). IsTrue (out_fits c.args.core.now out)) r.after.outs) (sym is) (c.outs_fit.ensures.each c.args.cells.now c.args.now c.args.me c.args.event.now) in
    subst (λ (outs : List Out). All (λ (out : Out). IsTrue (out_fits c.args.core.now out)) outs) (sym c.in_ok-handle-in-Some.ensures.outs) fit

pub returns-in_ok-handle-in-Some-clause-fit : goal.returns-in_ok-handle-in-Some-clause-fit
returns-in_ok-handle-in-Some-clause-fit c before =
    let is = handled_is c.args.core.now c.args.cells.now c.args.now c.args.me c.args.event.now c.in-Some.handler.now c.as_slice.result.now c.in-Some.ensures c.as_slice.ensures.value in
    let fit = subst (λ (r : Ran (Unit {0})). IsTrue (cells_fit c.args.core.now r.after.cells)) (sym is) (c.cells_stay_fit.ensures.step c.args.cells.now c.args.now c.args.me c.args.event.now before) in
    subst (λ (cells : List (List ℕ)). IsTrue (cells_fit c.args.core.now cells)) (sym c.in_ok-handle-in-Some.ensures.cells) fit
