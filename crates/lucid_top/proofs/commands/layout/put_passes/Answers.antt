use Rattle.std.proofs.Common.{◌<◌, ◌≤◌, ◌⊎◌, inl, inr, arith, length, refl, rules}
use Rattle.std.proofs.lemmas.Bool.{cases_order}
use Rattle.lucid_io.proofs.Leaves.{Leaves-after, Leaves-nothing, PutsPart-at, on_err}
use Rattle.lucid_top.proofs.Names.{passes_text-drop, passes_text-end}
use Rattle.lucid_top.proofs.commands.layout.put_passes.Goals as goal

pub returns-in_err-put_pass-clause-part : goal.returns-in_err-put_pass-clause-part
returns-in_err-put_pass-clause-part g c =
    let one : c.loop-i.i < length c.args.names.now = search rules in
    let two : c.loop-i.i < length c.args.gone.now = search rules in
    on_err _ (PutsPart-at _ c.loop-i.invariant c.in_err-put_pass.ensures.part
    (passes_text-drop c.args.names.now c.args.gone.now c.loop-i.i c.index-names-i.result _ _ one two c.index-names-i.is refl))

pub loop-i-preserved : goal.loop-i-preserved
loop-i-preserved g c =
    let one : c.loop-i.i < length c.args.names.now = search rules in
    let two : c.loop-i.i < length c.args.gone.now = search rules in
    Leaves-after c.loop-i.invariant c.in_ok-put_pass.ensures.all
    (passes_text-drop c.args.names.now c.args.gone.now c.loop-i.i c.index-names-i.result _ _ one two c.index-names-i.is refl)

pub returns-clause-all : goal.returns-clause-all
returns-clause-all g c =
    let past : (length c.args.names.now ≤ c.loop-i.i) ⊎ (length c.args.gone.now ≤ c.loop-i.i) = elim (cases_order (length c.args.names.now) (length c.args.gone.now)) [
      | inl same ↦ inl (omega arith)
      | inr apart ↦ elim apart [ inl less ↦ inl (omega arith) | inr more ↦ inr (omega arith) ]
    ] in
    Leaves-nothing c.loop-i.invariant (passes_text-end c.args.names.now c.args.gone.now c.loop-i.i past)
